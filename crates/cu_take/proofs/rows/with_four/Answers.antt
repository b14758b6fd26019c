use Rattle.std.proofs.Common.{ℤ, [], ◌∷◌, ap, ◌∙◌, to_z, of_z}
use Rattle.std.specs.Int.{w128}
use Rattle.std.proofs.lemmas.Int.{to_z-of_z}
use Rattle.cu_num.specs.Wrap.{wrapped}
use Rattle.cu_reduce.specs.Kinds.{combined}
use Rattle.cu_reduce.specs.Running.{running}
use Rattle.cu_take.proofs.RowSteps.{sum_taken}
use Rattle.cu_take.proofs.rows.with_four.Goals as goal

pub returns-in-Sum : goal.returns-in-Sum
returns-in-Sum c =
    let kind = c.args.kind in
    let acc = c.args.acc in
    let passed : ℤ → ℤ = λ v. to_z w128 (of_z w128 v) in
    sum_taken kind c.args.from acc c.args.own (passed c.args.w) (passed c.args.x) (passed c.args.y)
    (passed c.args.z)
    (passed c.short_sum.result) (passed c.wrap.result) (passed c.joined.result) c.in-Sum.is
    c.requires.types c.requires.own
    (to_z-of_z w128 c.short_sum.result (record { sfits = c.short_sum.type_inv })
    ∙ c.short_sum.ensures)
    (to_z-of_z w128 c.wrap.result (record { sfits = c.wrap.type_inv }) ∙ c.wrap.ensures.value)
    (to_z-of_z w128 c.joined.result (record { sfits = c.joined.type_inv }) ∙ c.joined.ensures
    ∙ ap (λ v. wrapped acc (combined kind v (passed c.wrap.result)))
    (to_z-of_z w128 c.args.own c.ranges.own))
    ∙ (λ i. running kind acc c.args.own (to_z-of_z w128 c.args.w c.ranges.w i
    ∷ to_z-of_z w128 c.args.x c.ranges.x i ∷ to_z-of_z w128 c.args.y c.ranges.y i
    ∷ to_z-of_z w128 c.args.z c.ranges.z i ∷ []))

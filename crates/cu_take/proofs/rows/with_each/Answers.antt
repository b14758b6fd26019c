use Rattle.std.proofs.Common.{ℤ, [], ◌∷◌, ◌∙◌, to_z, of_z}
use Rattle.std.specs.Int.{w128}
use Rattle.std.proofs.lemmas.Int.{to_z-of_z}
use Rattle.cu_reduce.specs.Running.{running}
use Rattle.cu_take.proofs.RowSteps.{each_more}
use Rattle.cu_take.proofs.rows.with_each.Goals as goal

pub returns : goal.returns
returns c =
    let kind = c.args.kind in
    let acc = c.args.acc in
    let passed : ℤ → ℤ = λ v. to_z w128 (of_z w128 v) in
    each_more kind acc (passed c.args.own) (passed c.args.w) (passed c.args.x) (passed c.args.y)
    (passed c.args.z)
    (passed c.with_one-one.result) (passed c.with_one-two.result) (passed c.with_one-three.result)
    (passed c.with_one.result)
    (to_z-of_z w128 c.with_one-one.result (record { sfits = c.with_one-one.type_inv })
    ∙ c.with_one-one.ensures.value)
    (to_z-of_z w128 c.with_one-two.result (record { sfits = c.with_one-two.type_inv })
    ∙ c.with_one-two.ensures.value)
    (to_z-of_z w128 c.with_one-three.result (record { sfits = c.with_one-three.type_inv })
    ∙ c.with_one-three.ensures.value)
    (to_z-of_z w128 c.with_one.result (record { sfits = c.with_one.type_inv })
    ∙ c.with_one.ensures.value)
    ∙ (λ i. running kind acc (to_z-of_z w128 c.args.own c.ranges.own i)
    (to_z-of_z w128 c.args.w c.ranges.w i
    ∷ to_z-of_z w128 c.args.x c.ranges.x i ∷ to_z-of_z w128 c.args.y c.ranges.y i
    ∷ to_z-of_z w128 c.args.z c.ranges.z i ∷ []))

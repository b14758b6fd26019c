use Rattle.std.proofs.Common.{◌≡◌, sym, subst, ap, ◌∙◌, to_z, of_z}
use Rattle.std.specs.Int.{w128}
use Rattle.std.proofs.lemmas.Int.{to_z-of_z}
use Rattle.cu_num.specs.Dtype.{InRange}
use Rattle.cu_num.specs.Wrap.{wrapped}
use Rattle.cu_num.proofs.Wrapped.{InRange-wrapped}
use Rattle.cu_reduce.specs.Kinds.{combined}
use Rattle.cu_take.proofs.RowSteps.{one_more}
use Rattle.cu_take.proofs.rows.with_one.Goals as goal

pub returns-clause-value : goal.returns-clause-value
returns-clause-value c =
    let kind = c.args.kind in
    let acc = c.args.acc in
    let next = to_z w128 (of_z w128 c.wrap.result) in
    let total = to_z w128 (of_z w128 c.joined.result) in
    one_more kind c.args.from acc c.args.own c.args.x next total c.requires.types c.requires.own
    c.requires.number
    (to_z-of_z w128 c.wrap.result (record { sfits = c.wrap.type_inv }) ∙ c.wrap.ensures.value
    ∙ ap (wrapped acc) (to_z-of_z w128 c.args.x c.ranges.x))
    (to_z-of_z w128 c.joined.result (record { sfits = c.joined.type_inv }) ∙ c.joined.ensures
    ∙ ap (λ v. wrapped acc (combined kind v next)) (to_z-of_z w128 c.args.own c.ranges.own))

pub returns-clause-range : goal.returns-clause-range
returns-clause-range c =
    let acc = c.args.acc in
    let total = to_z w128 (of_z w128 c.joined.result) in
    let value : total ≡ wrapped acc _ = to_z-of_z w128 c.joined.result
    (record { sfits = c.joined.type_inv }) ∙ c.joined.ensures in
    subst (InRange acc) (sym value) (InRange-wrapped acc _)

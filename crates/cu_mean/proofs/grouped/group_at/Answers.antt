use Rattle.std.proofs.Common.{ℕ, ℤ, List, [], ◌∷◌, sym, ap, ◌∙◌, subst, if◌then◌else◌}
use Rattle.std.specs.Int.{w128}
use Rattle.std.specs.List.{range_with_len}
use Rattle.std.proofs.lemmas.Int.{to_z-of_z}
use Rattle.cu_num.specs.Wrap.{wrapped}
use Rattle.cu_semantics.specs.Along.{along}
use Rattle.cu_reduce.specs.Labels.{grouped_at}
use Rattle.cu_mean.specs.Grouped.{HasKept}
use Rattle.cu_mean.specs.Reading.{named_element}
use Rattle.cu_mean.proofs.LabelledPlaces.{members_from, members_front, members_whole}
use Rattle.cu_mean.proofs.grouped.group_at.Goals as goal

pub loop-place-preserved : goal.loop-place-preserved
loop-place-preserved c =
    let label : ℕ → ℤ = λ p. named_element c.args.arrays.now 1 (p ∷ []) in
    let element = along (named_element c.args.arrays.now 0) c.args.axis c.args.idx.now in
    let q = c.at-group.result in
    let p = c.loop-place.place in
    let n = c.args.count in
    let b = c.is_member.result in
    let rest = members_from label element q p n in
    let step = c.with_place-members.ensures rest c.loop-place.invariant in
    let x = to_z-of_z w128 c.element_on-x.result (record { sfits = c.element_on-x.type_inv }) ∙ c.element_on-x.ensures in
    let front = members_front label element q p n b c.loop-place-test.true c.loop-place.auto.place c.is_member.ensures in
    subst (λ (xs : List ℤ). HasKept c.args.kind c.args.t xs c.with_place-members.result)
    ((λ i. if b then x i ∷ rest else rest) ∙ sym front) step

pub returns : goal.returns
returns c =
    let label : ℕ → ℤ = λ p. named_element c.args.arrays.now 1 (p ∷ []) in
    let element = along (named_element c.args.arrays.now 0) c.args.axis c.args.idx.now in
    let q = c.at-group.result in
    let p = c.loop-place.place in
    let n = c.args.count in
    to_z-of_z w128 c.made_of.result (record { sfits = c.made_of.type_inv })
    ∙ c.made_of.ensures (members_from label element q p n) c.loop-place.invariant
    ∙ ap (wrapped c.args.t) (members_whole c.args.kind c.args.t label element q p n c.loop-place-test.false)
    ∙ ap (λ g. wrapped c.args.t (grouped_at c.args.kind c.args.t label element g (range_with_len 0 n))) c.at-group.ensures

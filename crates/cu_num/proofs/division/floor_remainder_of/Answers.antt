use Rattle.std.proofs.Common.{◌≡◌, ◌∙◌, sym, arith, pos, neg_ℤ, ◌<ℤ◌}
use Rattle.std.proofs.lemmas.Int.{ints}
use Rattle.std.specs.Int.{w128, int_rem_euclid}
use Rattle.std.specs.Prelude.{FitsSigned}
use Rattle.cu_num.proofs.Divided.{floor_remainder-below}
use Rattle.cu_num.proofs.Masked.{negated, fits_neg}
use Rattle.cu_num.proofs.division.floor_remainder_of.Goals as goal

pub returns-else-y-gt0 : goal.returns-else-y-gt0
returns-else-y-gt0 c =
    let x = c.args.x in
    let y = c.args.y in
    let r = c.rem_euclid-else-y-gt0.result in
    let below : y <ℤ pos 0 = omega (arith, ints) in
    let fits : FitsSigned w128 r = record { sfits = c.rem_euclid-else-y-gt0.type_inv } in
    let other : FitsSigned w128 (neg_ℤ r) = fits_neg r fits c.rem_euclid-else-y-gt0.ensures.lower_bound in
    let is : r ≡ int_rem_euclid (neg_ℤ x) (neg_ℤ y) =
    c.rem_euclid-else-y-gt0.ensures.value ∙ (λ i. int_rem_euclid (negated x c.ranges.x c.requires.first i) (negated y c.ranges.y c.requires.second i)) in
    negated r fits other ∙ sym (floor_remainder-below x y r below is)

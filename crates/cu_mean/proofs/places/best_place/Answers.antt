use Rattle.std.proofs.Common.{◌≡◌, ◌+◌, ◌-◌, ◌∷◌, ℕ, ℤ, ap, sym, subst, ◌∙◌, arith}
use Rattle.std.specs.Int.{w128}
use Rattle.std.proofs.lemmas.Int.{to_z-of_z}
use Rattle.cu_mean.specs.Places.{IsBestFrom}
use Rattle.cu_mean.specs.Reading.{named_element}
use Rattle.cu_mean.proofs.Along.{along_from, along_front, none_along}
use Rattle.cu_mean.proofs.places.best_place.Goals as goal

pub loop-place-preserved : goal.loop-place-preserved
loop-place-preserved c =
    let element = named_element c.args.arrays.now 0 in
    let start = c.args.start.now in
    let sizes = c.args.sizes.now in
    let p = c.loop-place.place in
    let n = c.unwrap-count.result in
    let rest = along_from element start sizes p n in
    let back : p ≡ p - 1 + 1 = omega arith in
    let before = subst (λ (k : ℕ). IsBestFrom c.args.least k rest c.loop-place.best) back c.loop-place.invariant in
    let step = c.best_with-best.ensures rest before (none_along element start sizes p n c.loop-place-test.true c.loop-place.auto.place) in
    let x = to_z-of_z w128 c.element_along-x.result (record { sfits = c.element_along-x.type_inv }) ∙ c.element_along-x.ensures in
    let front = ap (λ (e : ℤ). e ∷ rest) x ∙ sym (along_front element start sizes p n c.loop-place-test.true c.loop-place.auto.place) in
    subst (λ xs. IsBestFrom c.args.least (p - 1) xs c.best_with-best.result) front step

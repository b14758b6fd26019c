use Rattle.std.proofs.Common.{◌≡◌, ap, ◌∙◌, sym, subst, arith, ℤ, pos, ◌*ℤ◌, ◌<◌, unsigned_abs, ◌^◌}
use Rattle.std.proofs.lemmas.Int.{ints, to_z-of_z}
use Rattle.std.specs.Int.{w128, cast_signed, cast_unsigned}
use Rattle.std.specs.Prelude.{FitsSigned}
use Rattle.cu_num.proofs.Shifted.{shifted_left-below, shifted_left-above, shifted_left-inside, shifted_fits}
use Rattle.cu_num.proofs.shifts.shift_left.Goals as goal

pub overflow_mul-result : goal.overflow_mul-result
overflow_mul-result c =
    let fits : FitsSigned w128 c.power.result = record { sfits = c.power.type_inv } in
    let is : cast_signed w128 (cast_unsigned w128 c.args.x) *ℤ cast_signed w128 (cast_unsigned w128 c.power.result) ≡ c.args.x *ℤ c.power.result = λ i. to_z-of_z w128 c.args.x c.ranges.x i *ℤ to_z-of_z w128 c.power.result fits i in
    let small : unsigned_abs (cast_signed w128 (cast_unsigned w128 c.args.y)) < 64 = omega (arith, ints) in
    let P : ℤ → Type 0 = FitsSigned w128 in
    subst P (sym is) (shifted_fits c.args.x c.power.result _ c.requires.number c.power.ensures.value small)

pub returns-then-y-lt0 : goal.returns-then-y-lt0
returns-then-y-lt0 c = sym (shifted_left-below c.args.width c.args.x c.args.y (omega (arith, ints)))

pub returns-then-y-bits : goal.returns-then-y-bits
returns-then-y-bits c = sym (shifted_left-above c.args.width c.args.x c.args.y (omega (arith, ints)))

pub returns-else-y-bits : goal.returns-else-y-bits
returns-else-y-bits c =
    let fits : FitsSigned w128 c.power.result = record { sfits = c.power.type_inv } in
    let small : unsigned_abs (cast_signed w128 (cast_unsigned w128 c.args.y)) < 64 = omega (arith, ints) in
    let power : c.power.result ≡ pos (2 ^ unsigned_abs c.args.y) = c.power.ensures.value ∙ ap (λ y. pos (2 ^ unsigned_abs y)) (to_z-of_z w128 c.args.y c.ranges.y) in
    (λ i. cast_signed w128 (cast_unsigned w128 (to_z-of_z w128 c.args.x c.ranges.x i *ℤ to_z-of_z w128 c.power.result fits i)))
    ∙ to_z-of_z w128 (c.args.x *ℤ c.power.result) (shifted_fits c.args.x c.power.result _ c.requires.number c.power.ensures.value small)
    ∙ sym (shifted_left-inside c.args.width c.args.x c.args.y c.power.result (omega (arith, ints)) (omega (arith, ints)) power)

use Rattle.std.proofs.Common.{ap, ◌∙◌, sym, arith, unsigned_abs, ◌^◌}
use Rattle.std.proofs.lemmas.Int.{ints, to_z-of_z}
use Rattle.std.specs.Int.{w128, cast_signed, cast_unsigned}
use lib.Signed.{shr_z, mag_shr}
use Rattle.cu_num.specs.Scalar.{sign_fill}
use Rattle.cu_num.proofs.Masked.{passed}
use Rattle.cu_num.proofs.Shifted.{shifted_right-below, shifted_right-above, shifted_right-inside}
use Rattle.cu_num.proofs.shifts.shift_right.Goals as goal

pub returns-then-y-lt0 : goal.returns-then-y-lt0
returns-then-y-lt0 c =
    passed c.sign_alone.result _ (record { sfits = c.sign_alone.type_inv }) (c.sign_alone.ensures ∙ ap sign_fill (to_z-of_z w128 c.args.x c.ranges.x))
    ∙ sym (shifted_right-below c.args.width c.args.x c.args.y (omega (arith, ints)))

pub returns-then-bits-y : goal.returns-then-bits-y
returns-then-bits-y c =
    passed c.sign_alone-then-bits-y.result _ (record { sfits = c.sign_alone-then-bits-y.type_inv }) (c.sign_alone-then-bits-y.ensures ∙ ap sign_fill (to_z-of_z w128 c.args.x c.ranges.x))
    ∙ sym (shifted_right-above c.args.width c.args.x c.args.y (omega (arith, ints)))

pub returns-else-bits-y : goal.returns-else-bits-y
returns-else-bits-y c =
    let fits = c.ranges.x.sfits in
    (λ i. cast_signed w128 (cast_unsigned w128 (shr_z (to_z-of_z w128 c.args.x c.ranges.x i) (2 ^ unsigned_abs (to_z-of_z w128 c.args.y c.ranges.y i)))))
    ∙ to_z-of_z w128 (shr_z c.args.x (2 ^ unsigned_abs c.args.y)) (record { sfits = omega (arith, mag_shr c.args.x (2 ^ unsigned_abs c.args.y)) })
    ∙ sym (shifted_right-inside c.args.width c.args.x c.args.y (omega (arith, ints)) (omega (arith, ints)))

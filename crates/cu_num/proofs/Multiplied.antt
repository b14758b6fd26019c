-- A product that is wrapped to 128 bits on the way.
use Rattle.std.proofs.Common.{◌≡◌, ℕ, suc, ◌+◌, ◌-◌, ◌^◌, ◌<◌, sym, ap, ◌∙◌, subst, arith, ℤ, pos, negsuc, ◌*ℤ◌, ⊎_elim}
use Rattle.std.proofs.lemmas.Int.{ints, wrapping_mul_is, int_wrap_fits, fits_signed_mul}
use Rattle.std.proofs.lemmas.Bool.{cases_lt}
use mir.ValLaws.{to_z_pos, to_z-neg}
use Rattle.std.specs.Int.{w128, int_wrap, int_wrapping_mul, cast_signed}
use Rattle.std.specs.Prelude.{FitsSigned}
use Rattle.cu_num.specs.Dtype.{bit_width, InRange, IsInteger}
use Rattle.cu_num.specs.Wrap.{residue, wrapped}
use Rattle.cu_num.proofs.Residue.{Same, same_trans, same-residue, same_narrower, residue-lt, is_euclid}
use Rattle.cu_num.proofs.Wrapped.{wrapped_same, bool_or_integer, width_of-le}
use Rattle.cu_num.specs.declared.types.Dtype.{Dtype}
use Rattle.cu_num.specs.declared.types.Dtype.TheVariants.{Bool}

-- the signed reading of a number of 128 bits
same-cast_signed : (n : ℕ) → n < 2 ^ 128 → Same 128 (cast_signed w128 n) (pos n)
same-cast_signed n h = ⊎_elim
    (λ small. let is = to_z_pos w128 n small in record { j = 0; k = 0; sum = omega (arith, ints) })
    (λ large.
    let k = 2 ^ 128 - suc n in
    let same : n ≡ 2 ^ 128 - suc k = omega arith in
    let is : cast_signed w128 n ≡ negsuc k = ap (cast_signed w128) same ∙ to_z-neg w128 k (omega arith) in
    record { j = 1; k = 0; sum = omega (arith, ints) })
    (cases_lt n (2 ^ 127))

same-int_wrap : (z : ℤ) → Same 128 (int_wrap w128 z) z
unfolding int_wrap
same-int_wrap z =
    let n = residue 128 z in
    let is : int_wrap w128 z ≡ cast_signed w128 n = ap (cast_signed w128) (sym (is_euclid 128 z)) in
    let P : ℤ → Type 0 = λ a. Same 128 a z in
    subst P (sym is) (same_trans 128 (cast_signed w128 n) (pos n) z (same-cast_signed n (residue-lt 128 z)) (same-residue 128 z))

integer_multiplied : (t : Dtype) → IsInteger t → (z : ℤ) → wrapped t (int_wrap w128 z) ≡ wrapped t z
integer_multiplied t h z =
    let sum : 128 ≡ bit_width t + (128 - bit_width t) = omega (arith, width_of-le t) in
    let P : ℕ → Type 0 = λ w. Same w (int_wrap w128 z) z in
    wrapped_same t h (int_wrap w128 z) z (same_narrower (bit_width t) (128 - bit_width t) (int_wrap w128 z) z (subst P sum (same-int_wrap z)))

bool_multiplied : (x y : ℤ) → InRange Bool x → InRange Bool y → int_wrap w128 (x *ℤ y) ≡ x *ℤ y
bool_multiplied x y (low, high) (least, most) = int_wrap_fits w128 (x *ℤ y) (fits_signed_mul w128 x y 1 1 (omega (arith, ints)) (omega (arith, ints)) (omega arith))

-- the product of two numbers of the type, wrapped to 128 bits first, is the product wrapped
pub multiplied : (t : Dtype) (x y : ℤ) → FitsSigned w128 x → FitsSigned w128 y → InRange t x → InRange t y → wrapped t (int_wrapping_mul w128 x y) ≡ wrapped t (x *ℤ y)
multiplied t x y f g p q =
    ap (wrapped t) (wrapping_mul_is w128 x y f g)
    ∙ ⊎_elim
    (λ is. let P : Dtype → Type 0 = λ t. InRange t x in let Q : Dtype → Type 0 = λ t. InRange t y in ap (wrapped t) (bool_multiplied x y (subst P is p) (subst Q is q)))
    (λ h. integer_multiplied t h (x *ℤ y))
    (bool_or_integer t)

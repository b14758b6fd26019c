-- Words and the numbers that they are.
use Rattle.std.proofs.Common.{◌≡◌, ℕ, zero, suc, ◌+◌, ◌-◌, ◌%◌, ◌^◌, ◌<◌, refl, ap, ◌∙◌, arith, ℤ, pos, negsuc, neg_ℤ, ◌≤ℤ◌, subst}
use Rattle.std.proofs.lemmas.Int.{ints, to_z_pos, to_z-of_z}
use Rattle.std.proofs.Math.Nat.{mod-eq_of_lt}
use Rattle.std.specs.Int.{w128, cast_signed, cast_unsigned}
use Rattle.std.specs.Prelude.{unsigned_abs, FitsSigned}
use Rattle.cu_num.specs.Dtype.{bit_width, InRange, IsInteger}
use Rattle.cu_num.specs.Wrap.{residue, wrapped, truth_of}
use Rattle.cu_num.specs.Word.{word_of, number_of, IsWord}
use Rattle.cu_num.proofs.Residue.{same_narrower, same-residue, Same, residue-lt}
use Rattle.cu_num.proofs.Wrapped.{by_class, wrapped_same, wrapped_in_range, width_of-le}
use Rattle.cu_num.specs.declared.types.Dtype.{Dtype}
use Rattle.cu_num.specs.declared.types.Dtype.TheVariants.{Bool, Int8, Int16, Int32, Int64, Uint8, Uint16, Uint32, Uint64}

integer_wrapped : (t : Dtype) → IsInteger t → (x : ℤ) → wrapped t (pos (residue 64 x)) ≡ wrapped t x
integer_wrapped t h x =
    let sum : 64 ≡ bit_width t + (64 - bit_width t) = omega (arith, width_of-le t) in
    let P : ℕ → Type 0 = λ w. Same w (pos (residue 64 x)) x in
    wrapped_same t h (pos (residue 64 x)) x (same_narrower (bit_width t) (64 - bit_width t) (pos (residue 64 x)) x (subst P sum (same-residue 64 x)))

-- every type lies between the least signed and the greatest unsigned number of 64 bits
within_64 : (d : Dtype) (x : ℤ) → InRange d x → (neg_ℤ (pos (2 ^ 63)) ≤ℤ x) × (x ≤ℤ pos (2 ^ 64 - 1))
within_64 Bool x (low, high) = (omega (arith, ints), omega (arith, ints))
within_64 Int8 x (low, high) = (omega (arith, ints), omega (arith, ints))
within_64 Int16 x (low, high) = (omega (arith, ints), omega (arith, ints))
within_64 Int32 x (low, high) = (omega (arith, ints), omega (arith, ints))
within_64 Int64 x (low, high) = (omega (arith, ints), omega (arith, ints))
within_64 Uint8 x (low, high) = (omega (arith, ints), omega (arith, ints))
within_64 Uint16 x (low, high) = (omega (arith, ints), omega (arith, ints))
within_64 Uint32 x (low, high) = (omega (arith, ints), omega (arith, ints))
within_64 Uint64 x (low, high) = (omega (arith, ints), omega (arith, ints))

positive : (n : ℕ) → 0 < n → truth_of (pos n) ≡ pos 1
positive zero h = absurd (omega arith)
positive (suc n) h = refl

truth_wrapped : (x : ℤ) → neg_ℤ (pos (2 ^ 63)) ≤ℤ x → x ≤ℤ pos (2 ^ 64 - 1) → truth_of (pos (residue 64 x)) ≡ truth_of x
truth_wrapped (pos n) low high = ap (λ m. truth_of (pos m)) (mod-eq_of_lt (omega (arith, ints)))
truth_wrapped (negsuc n) low high = let small : n % 2 ^ 64 ≡ n = mod-eq_of_lt (omega (arith, ints)) in positive (2 ^ 64 - 1 - n % 2 ^ 64) (omega (arith, ints))

-- the word of a number of any type wraps to what the number wraps to
pub number_of-word_of : (t d : Dtype) (x : ℤ) → InRange d x → number_of t (word_of x) ≡ wrapped t x
unfolding number_of word_of wrapped
number_of-word_of t d x h =
    let (low, high) = within_64 d x h in
    by_class (λ t. wrapped t (pos (residue 64 x)) ≡ wrapped t x) (truth_wrapped x low high) (λ t i. integer_wrapped t i x) t

pub number_of-IsWord : (t : Dtype) (w : ℕ) (x : ℤ) → IsWord t w x → number_of t w ≡ x
unfolding IsWord
number_of-IsWord t w x (is, range) = ap (number_of t) is ∙ number_of-word_of t t x range ∙ wrapped_in_range t x range

pub IsWord-word_of : (t : Dtype) (x : ℤ) → InRange t x → IsWord t (word_of x) x
unfolding IsWord
IsWord-word_of t x h = (refl, h)

-- what a call that masks gives
pub masked_word : (x r : ℤ) → FitsSigned w128 x → r ≡ pos (residue 64 (cast_signed w128 (cast_unsigned w128 x))) → unsigned_abs (cast_signed w128 (cast_unsigned w128 r)) ≡ word_of x
unfolding word_of
masked_word x r f e =
    ap (λ z. unsigned_abs (cast_signed w128 (cast_unsigned w128 z))) e
    ∙ ap unsigned_abs (to_z_pos w128 (residue 64 (cast_signed w128 (cast_unsigned w128 x))) (omega (arith, residue-lt 64 (cast_signed w128 (cast_unsigned w128 x)))))
    ∙ ap (residue 64) (to_z-of_z w128 x f)

pub word_of-lt : (x : ℤ) → word_of x < 2 ^ 64
unfolding word_of
word_of-lt x = residue-lt 64 x

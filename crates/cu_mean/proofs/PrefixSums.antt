-- Sums from the first place of a line on.
use Rattle.std.proofs.Common.{◌≡◌, ◌+◌, ◌+ℤ◌, ℕ, ℤ, pos, suc, ap, ◌∙◌, sym, arith}
use Rattle.std.proofs.lemmas.Int.{ints}
use Rattle.cu_num.specs.Wrap.{wrapped}
use Rattle.cu_num.specs.declared.types.Dtype.{Dtype}
use Rattle.cu_num.proofs.Wrapped.{wrapped_in_range}
use Rattle.cu_reduce.specs.Prefix.{sum_below}
use Rattle.cu_reduce.proofs.Folding.{zero_in_range}

pub sum_of_none : (t : Dtype) (f : ℕ → ℤ) → pos 0 ≡ wrapped t (sum_below f 0)
sum_of_none t f = sym (wrapped_in_range t (pos 0) (zero_in_range t))

turned : (x s : ℤ) → x +ℤ s ≡ s +ℤ x
turned x s = omega (arith, ints)

pub sum_last : (f : ℕ → ℤ) (n : ℕ) → f n +ℤ sum_below f n ≡ sum_below f (suc n)
sum_last f n = turned (f n) (sum_below f n)

pub sum_more : (f : ℕ → ℤ) (n : ℕ) → f n +ℤ sum_below f n ≡ sum_below f (n + 1)
sum_more f n = sum_last f n ∙ ap (sum_below f) (let e : suc n ≡ n + 1 = omega arith in e)

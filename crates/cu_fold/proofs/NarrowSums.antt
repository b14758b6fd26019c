-- Sums of narrow elements, taken as one number.
use Rattle.std.proofs.Common.{◌≡◌, ℤ, pos, neg_ℤ, ◌+ℤ◌, ◌≤ℤ◌, ◌≤◌, List, [], ◌∷◌, ◌++◌, ◌∙◌, arith}
use Rattle.std.proofs.lemmas.Int.{ints}
use Rattle.cu_num.specs.Dtype.{size_of, InRange}
use Rattle.cu_num.specs.declared.types.Dtype.{Dtype}
use Rattle.cu_num.specs.declared.types.Dtype.TheVariants.{Bool, Int8, Int16, Int32, Int64, Uint8, Uint16, Uint32, Uint64}
use Rattle.cu_num.specs.declared.folds.FoldKind.TheVariants.{Sum}
use Rattle.cu_reduce.specs.Folds.{exact_sum}
use Rattle.cu_reduce.proofs.Folding.{fold_append}

pub narrow_number : (t : Dtype) (x : ℤ) → size_of t ≤ 2 → InRange t x → (neg_ℤ (pos 65536) ≤ℤ x) × (x ≤ℤ pos 65536)
narrow_number Bool x s h = (omega (arith, ints, h.0, h.1), omega (arith, ints, h.0, h.1))
narrow_number Int8 x s h = (omega (arith, ints, h.0, h.1), omega (arith, ints, h.0, h.1))
narrow_number Int16 x s h = (omega (arith, ints, h.0, h.1), omega (arith, ints, h.0, h.1))
narrow_number Uint8 x s h = (omega (arith, ints, h.0, h.1), omega (arith, ints, h.0, h.1))
narrow_number Uint16 x s h = (omega (arith, ints, h.0, h.1), omega (arith, ints, h.0, h.1))
narrow_number Int32 x s h = absurd (omega arith)
narrow_number Int64 x s h = absurd (omega arith)
narrow_number Uint32 x s h = absurd (omega arith)
narrow_number Uint64 x s h = absurd (omega arith)

last_added : (x y : ℤ) → x +ℤ (y +ℤ pos 0) ≡ x +ℤ y
last_added x y = omega (arith, ints)

pub sum_more : (xs : List ℤ) (y : ℤ) → exact_sum (xs ++ y ∷ []) ≡ exact_sum xs +ℤ y
sum_more xs y = fold_append Sum xs (y ∷ []) tt tt ∙ last_added (exact_sum xs) y

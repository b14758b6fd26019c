-- The products over the inner axis, from a place on.
use Rattle.std.proofs.Common.{◌≡◌, ◌-◌, ◌<◌, ◌≤◌, suc, ℕ, ℤ, List, [], ◌∷◌, length, length-drop, drop, map, refl, sym, ap, ◌∙◌, arith}
use Rattle.std.specs.Prelude.{◌*ℤ◌, pos, slice_index}
use Rattle.std.proofs.lemmas.List.{length-take-le}
use Rattle.cu_num.specs.Wrap.{wrapped}
use Rattle.cu_num.specs.declared.types.Dtype.{Dtype}
use Rattle.cu_num.proofs.Wrapped.{wrapped_in_range}
use Rattle.cu_shape.specs.Index.{back_along, back}
use Rattle.std.specs.List.{range_with_len}
use Rattle.cu_semantics.specs.Matmul.{matmul_at}
use Rattle.cu_reduce.specs.Products.{batch_of, left_index, right_index}
use Rattle.cu_reduce.specs.Folds.{exact_sum}
use Rattle.cu_reduce.proofs.Folding.{zero_in_range}
use Rattle.cu_mean.proofs.Steps.{range_front}

abbrev pub product_on : (List ℕ → ℤ) → List ℕ → (List ℕ → ℤ) → List ℕ → List ℕ → ℕ → ℤ
product_on left a right b idx k = left (left_index a b idx k) *ℤ right (right_index a b idx k)

-- the products from place p on, of n
abbrev pub products_from : (List ℕ → ℤ) → List ℕ → (List ℕ → ℤ) → List ℕ → List ℕ → ℕ → ℕ → List ℤ
products_from left a right b idx p n = map (product_on left a right b idx) (range_with_len p (n - p))

pub products_front : (left : List ℕ → ℤ) (a : List ℕ) (right : List ℕ → ℤ) (b idx : List ℕ) (p n : ℕ) → 0 < p → p ≤ n
    → products_from left a right b idx (p - 1) n ≡ product_on left a right b idx (p - 1) ∷ products_from left a right b idx p n
products_front left a right b idx p n h g = ap (map (product_on left a right b idx)) (range_front p n h g)

pub products_whole : (left : List ℕ → ℤ) (a : List ℕ) (right : List ℕ → ℤ) (b idx : List ℕ) (p n : ℕ) → p ≤ 0 → n ≡ slice_index a (length a - 1)
    → exact_sum (products_from left a right b idx p n) ≡ matmul_at left a right b idx
products_whole left a right b idx p n h e =
    let x : p ≡ 0 = omega arith in
    let y : n - p ≡ slice_index a (length a - 1) = omega arith in
    (λ i. exact_sum (map (product_on left a right b idx) (range_with_len (x i) (y i))))

pub products_none : (left : List ℕ → ℤ) (a : List ℕ) (right : List ℕ → ℤ) (b idx : List ℕ) (t : Dtype) (n : ℕ) → pos 0 ≡ wrapped t (exact_sum (products_from left a right b idx n n))
products_none left a right b idx t n =
    let e : n - n ≡ 0 = omega arith in
    sym (ap (λ (m : ℕ). wrapped t (exact_sum (map (product_on left a right b idx) (range_with_len n m)))) e ∙ wrapped_in_range t (pos 0) (zero_in_range t))

-- ---- ranks

length-back_along : (shape idx : List ℕ) → length shape ≤ length idx → length (back_along shape idx) ≡ length shape
length-back_along [] idx h = refl
length-back_along (n ∷ ns) [] h = absurd (omega arith)
length-back_along (n ∷ ns) (i ∷ is) h = ap suc (length-back_along ns is (omega arith))

pub length-back : (shape idx : List ℕ) → length shape ≤ length idx → length (back shape idx) ≡ length shape
length-back shape idx h = length-back_along shape (drop (length idx - length shape) idx) (let e = length-drop (length idx - length shape) idx in omega arith)

pub length-batch : (shape : List ℕ) → length (batch_of shape) ≡ length shape - 2
length-batch shape = length-take-le (length shape - 2) shape (omega arith)

-- Sums that are wrapped on the way.
use Rattle.std.proofs.Common.{◌≡◌, ℕ, zero, suc, ◌<◌, refl, ◌+◌, ◌*◌, List, [], ◌∷◌, ◌++◌, map, ap, sym, ◌∙◌, arith, ℤ, ◌+ℤ◌, ◌*ℤ◌}
use Rattle.std.proofs.Math.IntN.{+ℤ_assoc, +ℤ_idl, +ℤ_idr}
use Rattle.std.proofs.lemmas.List.FromFn.{map-range_with_len_more}
use Rattle.std.specs.List.{range_with_len}
use Rattle.cu_num.specs.Dtype.{IsInteger, size_of}
use Rattle.cu_num.specs.Element.{element_bytes, element_at, low_bytes}
use Rattle.cu_num.specs.Wrap.{wrapped, residue}
use Rattle.cu_num.specs.declared.types.Dtype.{Dtype}
use Rattle.cu_num.specs.declared.layout.Endian.TheVariants.{Little}
use Rattle.cu_num.proofs.ElementBytes.{element_at_own, element_at-element_bytes}
use Rattle.cu_num.proofs.Wrapped.{wrapped-wrapped, wrapped-add, wrapped-mul}
use Rattle.cu_reduce.specs.Folds.{exact_sum}
use Rattle.cu_reduce.specs.Numbers.{HasNumber}
use Rattle.cu_product.specs.Block.{inner_product}

-- numbers that wrap to the same have the same bytes
pub same_bytes : (t : Dtype) (x y : ℤ) → wrapped t x ≡ wrapped t y → element_bytes Little t x ≡ element_bytes Little t y
unfolding element_bytes
same_bytes t x y e = ap (λ w. low_bytes (size_of t) (residue (8 * size_of t) w)) e

pub wrapped_bytes : (t : Dtype) (x : ℤ) → element_bytes Little t (wrapped t x) ≡ element_bytes Little t x
wrapped_bytes t x = same_bytes t (wrapped t x) x (wrapped-wrapped t x)

pub read_number : (t : Dtype) (bytes : List ℕ) (at : ℕ) (x : ℤ) → HasNumber t bytes at x → element_at Little t bytes at ≡ wrapped t x
read_number t bytes at x h = element_at_own Little t bytes at ∙ ap (λ own. element_at Little t own 0) h ∙ element_at-element_bytes Little t x

-- a factor may be wrapped before it is multiplied
pub wrapped_right : (t : Dtype) (x y : ℤ) → wrapped t (x *ℤ wrapped t y) ≡ wrapped t (x *ℤ y)
wrapped_right t x y = wrapped-mul t x (wrapped t y) ∙ ap (λ z. wrapped t (wrapped t x *ℤ z)) (wrapped-wrapped t y) ∙ sym (wrapped-mul t x y)

pub wrapped_left : (t : Dtype) (x y : ℤ) → wrapped t (wrapped t x *ℤ y) ≡ wrapped t (x *ℤ y)
wrapped_left t x y = wrapped-mul t (wrapped t x) y ∙ ap (λ z. wrapped t (z *ℤ wrapped t y)) (wrapped-wrapped t x) ∙ sym (wrapped-mul t x y)

-- a product is added to a sum
pub added : (t : Dtype) → IsInteger t → (s x y : ℤ) → wrapped t (wrapped t s +ℤ wrapped t (x *ℤ wrapped t y)) ≡ wrapped t (s +ℤ x *ℤ y)
added t h s x y = ap (λ z. wrapped t (wrapped t s +ℤ z)) (wrapped_right t x y) ∙ sym (wrapped-add t s (x *ℤ y) h)

pub added_left : (t : Dtype) → IsInteger t → (s x y : ℤ) → wrapped t (s +ℤ wrapped t x *ℤ y) ≡ wrapped t (s +ℤ x *ℤ y)
added_left t h s x y = wrapped-add t s (wrapped t x *ℤ y) h ∙ ap (λ z. wrapped t (wrapped t s +ℤ z)) (wrapped_left t x y) ∙ sym (wrapped-add t s (x *ℤ y) h)

-- one inner place more
exact_sum-push : (xs : List ℤ) (x : ℤ) → exact_sum (xs ++ x ∷ []) ≡ exact_sum xs +ℤ x
exact_sum-push [] x = +ℤ_idr x ∙ sym (+ℤ_idl x)
exact_sum-push (y ∷ xs) x = ap (λ z. y +ℤ z) (exact_sum-push xs x) ∙ sym (+ℤ_assoc y (exact_sum xs) x)

pub inner_product-more : (left right : ℕ → ℤ) (inner : ℕ) → inner_product left right (inner + 1) ≡ inner_product left right inner +ℤ left inner *ℤ right inner
inner_product-more left right inner =
    ap exact_sum (map-range_with_len_more (λ q. left q *ℤ right q) 0 inner inner (omega arith)) ∙ exact_sum-push (map (λ q. left q *ℤ right q) (range_with_len 0 inner)) (left inner *ℤ right inner)

-- the same numbers at the inner places have the same sum
pub inner_product_same : (left right x y : ℕ → ℤ) (inner : ℕ) → ((q : ℕ) → q < inner → (left q ≡ x q) × (right q ≡ y q)) → inner_product left right inner ≡ inner_product x y inner
inner_product_same left right x y zero h = refl
inner_product_same left right x y (suc n) h =
    let last : suc n ≡ n + 1 = omega arith in
    let one = h n (omega arith) in
    ap (inner_product left right) last
    ∙ inner_product-more left right n
    ∙ (λ i. inner_product_same left right x y n (λ q b. h q (omega arith)) i +ℤ one.0 i *ℤ one.1 i)
    ∙ sym (inner_product-more x y n)
    ∙ ap (inner_product x y) (sym last)

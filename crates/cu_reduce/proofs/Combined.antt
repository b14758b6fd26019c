-- The combination of each kind: associative, commutative, with a unit, and wrapped on the way or not.
use Rattle.std.proofs.Common.{◌≡◌, ℤ, pos, negsuc, suc, zero, ◌+ℤ◌, ◌*ℤ◌, ◌≤ℤ◌, ◌&&◌, ◌||◌, not, true, false, ◌*◌, refl, sym, ap, ◌∙◌, arith}
use Rattle.std.specs.Prelude.{Bool as Test}
use Rattle.std.specs.Int.{int_min, int_max}
use Rattle.std.proofs.lemmas.Int.{ints, int_min_is, int_max_is}
use Rattle.std.proofs.Math.IntN.{+ℤ_assoc, *ℤ_comm}
use Rattle.std.proofs.Math.Bool.{or_assoc, and_assoc, or_comm, and_comm}
use borrow.Author.Differences.{up, down, product_is}
use Rattle.std.specs.Ordering.{int_eq}
use Rattle.std.proofs.lemmas.Bool.Decides.{Decides-int_eq}
use Rattle.cu_num.specs.Dtype.{InRange}
use Rattle.cu_num.specs.Scalar.{truth_number, is_nonzero}
use Rattle.cu_num.specs.Wrap.{wrapped}
use Rattle.cu_num.proofs.Wrapped.{wrapped-add, wrapped-mul, wrapped_in_range}
use Rattle.cu_num.specs.declared.types.Dtype.{Dtype}
use Rattle.cu_num.specs.declared.types.Dtype.TheVariants.{Bool}
use Rattle.cu_num.specs.declared.folds.FoldKind.{FoldKind}
use Rattle.cu_num.specs.declared.folds.FoldKind.TheVariants.{Sum, Prod, Min, Max, Any, All}
use Rattle.cu_reduce.specs.Kinds.{unit_of, combined, Accumulates, IsTaken}

pub least_assoc : (x y z : ℤ) → int_min (int_min x y) z ≡ int_min x (int_min y z)
least_assoc x y z = omega (arith, ints, int_min_is x y, int_min_is y z, int_min_is (int_min x y) z, int_min_is x (int_min y z))

pub greatest_assoc : (x y z : ℤ) → int_max (int_max x y) z ≡ int_max x (int_max y z)
greatest_assoc x y z = omega (arith, ints, int_max_is x y, int_max_is y z, int_max_is (int_max x y) z, int_max_is x (int_max y z))

least_comm : (x y : ℤ) → int_min x y ≡ int_min y x
least_comm x y = omega (arith, ints, int_min_is x y, int_min_is y x)

greatest_comm : (x y : ℤ) → int_max x y ≡ int_max y x
greatest_comm x y = omega (arith, ints, int_max_is x y, int_max_is y x)

sum_comm : (x y : ℤ) → x +ℤ y ≡ y +ℤ x
sum_comm x y = omega (arith, ints)

pub test_of : (p : Test) → is_nonzero (truth_number p) ≡ p
test_of true = refl
test_of false = refl

refused : (b : Test) → (b ≡ true → ⊥) → b ≡ false
refused true h = absurd (h refl)
refused false h = refl

nonzero : (x : ℤ) → (x ≡ pos 0 → ⊥) → is_nonzero x ≡ true
nonzero x h = ap not (refused (int_eq x (pos 0)) (λ e. h ((Decides-int_eq x (pos 0)).0 e)))

-- products, as differences of naturals
pub product_assoc : (x y z : ℤ) → (x *ℤ y) *ℤ z ≡ x *ℤ (y *ℤ z)
product_assoc x y z =
    let p = product_is x y in
    let q = product_is y z in
    let a = ap (λ m. m * up z) p.0 in
    let b = ap (λ m. m * down z) p.0 in
    let c = ap (λ m. m * up z) p.1 in
    let d = ap (λ m. m * down z) p.1 in
    let e = ap (λ m. up x * m) q.0 in
    let f = ap (λ m. down x * m) q.0 in
    let g = ap (λ m. up x * m) q.1 in
    let h = ap (λ m. down x * m) q.1 in
    omega (arith, ints, a, b, c, d, e, f, g, h, product_is (x *ℤ y) z, product_is x (y *ℤ z))

pub product_unit : (x : ℤ) → pos 1 *ℤ x ≡ x
product_unit x = omega (arith, ints, product_is (pos 1) x)

pub combined_assoc : (kind : FoldKind) (x y z : ℤ) → combined kind (combined kind x y) z ≡ combined kind x (combined kind y z)
combined_assoc Sum x y z = +ℤ_assoc x y z
combined_assoc Prod x y z = product_assoc x y z
combined_assoc Min x y z = least_assoc x y z
combined_assoc Max x y z = greatest_assoc x y z
combined_assoc Any x y z = ap truth_number (ap (λ p. p || is_nonzero z) (test_of (is_nonzero x || is_nonzero y)) ∙ or_assoc (is_nonzero x) (is_nonzero y) (is_nonzero z)
    ∙ ap (λ p. is_nonzero x || p) (sym (test_of (is_nonzero y || is_nonzero z))))
combined_assoc All x y z = ap truth_number (ap (λ p. p && is_nonzero z) (test_of (is_nonzero x && is_nonzero y)) ∙ and_assoc (is_nonzero x) (is_nonzero y) (is_nonzero z)
    ∙ ap (λ p. is_nonzero x && p) (sym (test_of (is_nonzero y && is_nonzero z))))

pub combined_comm : (kind : FoldKind) (x y : ℤ) → combined kind x y ≡ combined kind y x
combined_comm Sum x y = sum_comm x y
combined_comm Prod x y = *ℤ_comm x y
combined_comm Min x y = least_comm x y
combined_comm Max x y = greatest_comm x y
combined_comm Any x y = ap truth_number (or_comm (is_nonzero x) (is_nonzero y))
combined_comm All x y = ap truth_number (and_comm (is_nonzero x) (is_nonzero y))

-- ---- the range of least and greatest numbers

least_in_range : (acc : Dtype) (x y : ℤ) → InRange acc x → InRange acc y → InRange acc (int_min x y)
least_in_range acc x y h g = (omega (arith, ints, int_min_is x y, h.0, h.1, g.0, g.1), omega (arith, ints, int_min_is x y, h.0, h.1, g.0, g.1))

greatest_in_range : (acc : Dtype) (x y : ℤ) → InRange acc x → InRange acc y → InRange acc (int_max x y)
greatest_in_range acc x y h g = (omega (arith, ints, int_max_is x y, h.0, h.1, g.0, g.1), omega (arith, ints, int_max_is x y, h.0, h.1, g.0, g.1))

pub taken_combined : (kind : FoldKind) (acc : Dtype) (x y : ℤ) → IsTaken kind acc x → IsTaken kind acc y → IsTaken kind acc (combined kind x y)
taken_combined Min acc x y h g = least_in_range acc x y h g
taken_combined Max acc x y h g = greatest_in_range acc x y h g
taken_combined kind acc x y h g = tt

pub taken_in_range : (kind : FoldKind) (acc : Dtype) (x : ℤ) → InRange acc x → IsTaken kind acc x
taken_in_range Min acc x h = h
taken_in_range Max acc x h = h
taken_in_range kind acc x h = tt

-- ---- wrapped on the way

test-wrapped : (x : ℤ) → is_nonzero (wrapped Bool x) ≡ is_nonzero x
unfolding wrapped
test-wrapped (pos zero) = refl
test-wrapped (pos (suc n)) = sym (nonzero (pos (suc n)) (λ e. omega (arith, ints)))
test-wrapped (negsuc n) = sym (nonzero (negsuc n) (λ e. omega (arith, ints)))

or_wrapped : (acc : Dtype) (x y : ℤ) → acc ≡ Bool → combined Any (wrapped acc x) (wrapped acc y) ≡ combined Any x y
or_wrapped acc x y e = ap (λ t. combined Any (wrapped t x) (wrapped t y)) e ∙ ap truth_number (λ i. test-wrapped x i || test-wrapped y i)

and_wrapped : (acc : Dtype) (x y : ℤ) → acc ≡ Bool → combined All (wrapped acc x) (wrapped acc y) ≡ combined All x y
and_wrapped acc x y e = ap (λ t. combined All (wrapped t x) (wrapped t y)) e ∙ ap truth_number (λ i. test-wrapped x i && test-wrapped y i)

pub combined_wrapped : (kind : FoldKind) (t acc : Dtype) (x y : ℤ) → Accumulates kind t acc → IsTaken kind acc x → IsTaken kind acc y
    → wrapped acc (combined kind (wrapped acc x) (wrapped acc y)) ≡ wrapped acc (combined kind x y)
combined_wrapped Sum t acc x y a h g = sym (wrapped-add acc x y a)
combined_wrapped Prod t acc x y a h g = sym (wrapped-mul acc x y)
combined_wrapped Min t acc x y a h g = ap (wrapped acc) (λ i. int_min (wrapped_in_range acc x h i) (wrapped_in_range acc y g i))
combined_wrapped Max t acc x y a h g = ap (wrapped acc) (λ i. int_max (wrapped_in_range acc x h i) (wrapped_in_range acc y g i))
combined_wrapped Any t acc x y a h g = ap (wrapped acc) (or_wrapped acc x y a)
combined_wrapped All t acc x y a h g = ap (wrapped acc) (and_wrapped acc x y a)

pub truth_again : (x : ℤ) → wrapped Bool (truth_number (is_nonzero x)) ≡ wrapped Bool x
unfolding wrapped
truth_again (pos zero) = refl
truth_again (pos (suc n)) = ap (λ p. wrapped Bool (truth_number p)) (nonzero (pos (suc n)) (λ e. omega (arith, ints)))
truth_again (negsuc n) = ap (λ p. wrapped Bool (truth_number p)) (nonzero (negsuc n) (λ e. omega (arith, ints)))

least_unit : (acc : Dtype) (x m : ℤ) → x ≤ℤ m → int_min m x ≡ x
least_unit acc x m h = omega (arith, ints, int_min_is m x, h)

greatest_unit : (acc : Dtype) (x m : ℤ) → m ≤ℤ x → int_max m x ≡ x
greatest_unit acc x m h = omega (arith, ints, int_max_is m x, h)

pub combined_unit : (kind : FoldKind) (t acc : Dtype) (x : ℤ) → Accumulates kind t acc → IsTaken kind acc x → wrapped acc (combined kind (unit_of kind acc) x) ≡ wrapped acc x
combined_unit Sum t acc x a h = ap (wrapped acc) (let e : pos 0 +ℤ x ≡ x = omega (arith, ints) in e)
combined_unit Prod t acc x a h = ap (wrapped acc) (product_unit x)
combined_unit Min t acc x a h = ap (wrapped acc) (least_unit acc x _ h.1)
combined_unit Max t acc x a h = ap (wrapped acc) (greatest_unit acc x _ h.0)
combined_unit Any t acc x a h = ap (λ d. wrapped d (truth_number (is_nonzero x))) a ∙ truth_again x ∙ ap (λ d. wrapped d x) (sym a)
combined_unit All t acc x a h = ap (λ d. wrapped d (truth_number (is_nonzero x))) a ∙ truth_again x ∙ ap (λ d. wrapped d x) (sym a)

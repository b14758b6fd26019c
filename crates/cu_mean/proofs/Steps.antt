-- Steps of the loops.
use Rattle.std.proofs.Common.{◌≡◌, ◌+◌, ◌-◌, ◌<◌, ◌≤◌, zero, suc, ℕ, ℤ, List, [], ◌∷◌, ◌++◌, Bool, true, false, length, length-append, map, get_or, Option, refl, sym, ap, ◌∙◌, arith}
use Rattle.std.specs.Prelude.{not, ◌+ℤ◌, ◌*ℤ◌, if◌then◌else◌}
use Rattle.std.specs.List.{range_with_len, sum_by, count_by}
use mathlib.Core.Bool.{cond}
use Rattle.std.proofs.lemmas.List.FromFn.{map-range_with_len_more}
use Rattle.std.proofs.lemmas.List.Sums.{sum_by-append}
use Rattle.cu_num.specs.Dtype.{IsInteger}
use Rattle.cu_num.specs.Wrap.{wrapped}
use Rattle.cu_num.specs.declared.types.Dtype.{Dtype}
use Rattle.cu_num.specs.declared.folds.FoldKind.{FoldKind}
use Rattle.cu_num.specs.declared.folds.FoldKind.TheVariants as fold
use Rattle.cu_num.proofs.Wrapped.{wrapped-wrapped, wrapped-add, wrapped-mul}
use Rattle.cu_shape.specs.Index.{IsInside}
use Rattle.cu_semantics.specs.Index.{is_named}
use Rattle.cu_semantics.specs.Reduction.{kept_before}
use Rattle.cu_reduce.specs.Folds.{fold_of}
use Rattle.cu_mean.specs.Reductions.{kept_of}

pub range_more : (a n j : ℕ) → a + n ≡ j → range_with_len a (n + 1) ≡ range_with_len a n ++ j ∷ []
range_more a zero j h = let e : a ≡ j = omega arith in rw e refl
range_more a (suc n) j h =
    let e : suc n + 1 ≡ suc (n + 1) = omega arith in
    rw e (ap (λ xs. a ∷ xs) (range_more (a + 1) n j (omega arith)))

one_or_none : (b : Bool) → 0 + cond b 1 0 ≡ (if b then 1 else 0)
one_or_none true = refl
one_or_none false = refl

count_more : (p : ℕ → Bool) (d : ℕ) → count_by p (range_with_len 0 (d + 1)) ≡ count_by p (range_with_len 0 d) + (if p d then 1 else 0)
count_more p d =
    let w : ℕ → ℕ = λ k. cond (p k) 1 0 in
    let e : sum_by w (range_with_len 0 (d + 1)) ≡ sum_by w (range_with_len 0 d ++ d ∷ []) = ap (sum_by w) (range_more 0 d d (omega arith)) in
    let f : sum_by w (range_with_len 0 d ++ d ∷ []) ≡ sum_by w (range_with_len 0 d) + sum_by w (d ∷ []) = sum_by-append w (range_with_len 0 d) (d ∷ []) in
    e ∙ (f ∙ ap (λ (n : ℕ). sum_by w (range_with_len 0 d) + n) (one_or_none (p d)))

-- a list that is filled by the axes' numbers, with one more
pub pushed : (f : ℕ → ℕ) (xs ys : List ℕ) (d x : ℕ) → length xs ≡ d → xs ≡ map f (range_with_len 0 d) → x ≡ f d → ys ≡ xs ++ x ∷ [] → (length ys ≡ d + 1) × (ys ≡ map f (range_with_len 0 (d + 1)))
pushed f xs ys d x count e v push = (
  ap length push ∙ length-append xs (x ∷ []) ∙ ap (λ n. n + 1) count,
  push ∙ ap (λ zs. zs ++ x ∷ []) e ∙ ap (λ (k : ℕ). map f (range_with_len 0 d) ++ k ∷ []) v ∙ sym (map-range_with_len_more f 0 d d (omega arith)),
)

pub kept_more : (rank : ℕ) (axes : Option (List ℤ)) (d : ℕ) → kept_before rank axes (d + 1) ≡ kept_before rank axes d + (if not (is_named rank axes d) then 1 else 0)
kept_more rank axes d = count_more (λ k. not (is_named rank axes k)) d

-- the numbers from the one before p on
pub range_front : (p n : ℕ) → 0 < p → p ≤ n → range_with_len (p - 1) (n - (p - 1)) ≡ (p - 1) ∷ range_with_len p (n - p)
range_front zero n h g = absurd (omega arith)
range_front (suc p) zero h g = absurd (omega arith)
range_front (suc p) (suc n) h g =
    let a : suc p - 1 ≡ p = omega arith in
    let b : suc n - p ≡ suc (n - p) = omega arith in
    let c : suc n - suc p ≡ n - p = omega arith in
    let d : p + 1 ≡ suc p = omega arith in
    rw (a, b, c, d) refl

-- ---- wrapping on the way

pub sum_step : (t : Dtype) (x y k s : ℤ) → IsInteger t → k ≡ wrapped t s → wrapped t (wrapped t x +ℤ wrapped t k) ≡ wrapped t (x +ℤ s)
sum_step t x y k s i e =
    ap (λ (r : ℤ). wrapped t (wrapped t x +ℤ wrapped t r)) e ∙ ap (λ (r : ℤ). wrapped t (wrapped t x +ℤ r)) (wrapped-wrapped t s) ∙ sym (wrapped-add t x s i)

pub product_step : (t : Dtype) (x y k s : ℤ) → k ≡ wrapped t s → wrapped t (wrapped t x *ℤ wrapped t k) ≡ wrapped t (x *ℤ s)
product_step t x y k s e =
    ap (λ (r : ℤ). wrapped t (wrapped t x *ℤ wrapped t r)) e ∙ ap (λ (r : ℤ). wrapped t (wrapped t x *ℤ r)) (wrapped-wrapped t s) ∙ sym (wrapped-mul t x s)

-- a number that is wrapped already
pub sum_of_wrapped : (t : Dtype) (x s : ℤ) → IsInteger t → wrapped t (wrapped t x +ℤ s) ≡ wrapped t (x +ℤ s)
sum_of_wrapped t x s i =
    wrapped-add t (wrapped t x) s i ∙ ap (λ (r : ℤ). wrapped t (r +ℤ wrapped t s)) (wrapped-wrapped t x) ∙ sym (wrapped-add t x s i)

pub wrapped_kept : (kind : FoldKind) (t : Dtype) (xs : List ℤ) → wrapped t (kept_of kind t xs) ≡ wrapped t (fold_of kind xs)
wrapped_kept fold.Sum t xs = wrapped-wrapped t _
wrapped_kept fold.Prod t xs = wrapped-wrapped t _
wrapped_kept kind t xs = refl

-- ---- indices inside

pub inside_at : (ds is : List ℕ) (k : ℕ) → IsInside ds is → k < length ds → get_or is k 0 < get_or ds k 0
inside_at [] is k i h = absurd (omega arith)
inside_at (d ∷ ds) [] k i h = absurd i
inside_at (d ∷ ds) (x ∷ is) zero i h = i.0
inside_at (d ∷ ds) (x ∷ is) (suc k) i h = inside_at ds is k i.1 (omega arith)

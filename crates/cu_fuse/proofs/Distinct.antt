-- The numbers of a list, each at its first place.
use Rattle.std.proofs.Common.{◌≡◌, ◌≢◌, inl, inr, ℕ, zero, suc, ◌+◌, ◌<◌, ◌≤◌, ◌==◌, ◌||◌, not, Bool, true, false, List, [], ◌∷◌, ◌++◌, All, Contains, length, map, take, Some, get_or, append-nil, refl, ap, sym, ◌∙◌, arith}
use Rattle.std.specs.List.{filter, slice_get, sum_by}
use Rattle.std.proofs.lemmas.Bool.{cases_Bool}
use Rattle.std.proofs.lemmas.Bool.Decides.{eqb_tells}
use Rattle.std.proofs.lemmas.List.{take_more}
use Rattle.std.proofs.lemmas.List.Elements.{All-cons, All-contains_itself, All-filter, All-head, All-tail, All-weaker, filter-append}
use Rattle.std.proofs.lemmas.List.Sums.{count_by-le-length, length-filter, sum_by-cons}
use Rattle.cu_shape.specs.Counts.{largest}
use Rattle.cu_op.specs.Numbers.{number_in, stands_in}
use Rattle.cu_fuse.specs.Once.{distinct}

-- ---- a number in a list

pub at_place : (xs : List ℕ) (a : ℕ) → stands_in xs a ≡ true
    → slice_get xs (number_in xs a) ≡ Some a
at_place [] a h = cc
at_place (x ∷ xs) a h = elim (eqb_tells x a) [
  | inl p ↦ rw p.0 (ap Some p.1)
  | inr p ↦ rw p.0 (at_place xs a (rw p.0 at h))
]

pub stands : (xs : List ℕ) (a k : ℕ) → slice_get xs k ≡ Some a → stands_in xs a ≡ true
stands [] a zero e = cc
stands [] a (suc k) e = cc
stands (x ∷ xs) a zero e =
    elim (eqb_tells x a) [ inl p ↦ rw p.0 refl | inr p ↦ absurd (p.1 (same_some x a e)) ]
  where
    same_some : (x y : ℕ) → Some x ≡ Some y → x ≡ y
    same_some x y e = cc
stands (x ∷ xs) a (suc k) e =
    let rest = stands xs a k e in elim (eqb_tells x a) [ inl p ↦ rw p.0 refl | inr p ↦ rw p.0 rest ]

-- ---- the same numbers

-- whether a number isn't this one
abbrev differs : ℕ → ℕ → Bool
differs x y = not (y == x)

others_stay : (x a : ℕ) (ys : List ℕ) → x ≢ a → stands_in (filter (differs x) ys) a ≡ stands_in ys a
others_stay x a [] other = refl
others_stay x a (y ∷ ys) other =
    let rest = others_stay x a ys other in
    elim (eqb_tells y x) [
      | inl p ↦ elim (eqb_tells y a) [
        | inl q ↦ absurd (other (sym p.1 ∙ q.1))
        | inr q ↦ rw (p.0, q.0) rest
      ]
      | inr p ↦ rw p.0 (ap (λ (b : Bool). (y == a) || b) rest)
    ]

pub distinct_stands : (xs : List ℕ) (a : ℕ) → stands_in (distinct xs) a ≡ stands_in xs a
distinct_stands [] a = refl
distinct_stands (x ∷ xs) a =
    let rest = distinct_stands xs a in
    elim (eqb_tells x a) [
      | inl p ↦ rw p.0 refl
      | inr p ↦ rw p.0 (others_stay x a (distinct xs) p.1 ∙ rest)
    ]

pub all_distinct : (P : ℕ → Type 0) (xs : List ℕ) → All P xs → All P (distinct xs)
all_distinct P [] all = all
all_distinct P (x ∷ xs) all =
    All-cons P x (filter (differs x) (distinct xs)) (All-head P x xs all)
    (All-filter (differs x) P (distinct xs) (all_distinct P xs (All-tail P x xs all)))

pub distinct_within : (xs : List ℕ) → All (Contains xs) (distinct xs)
distinct_within xs = all_distinct (Contains xs) xs (All-contains_itself xs)

-- ---- one more

-- a number that stands nowhere before comes last
pub distinct_new : (xs : List ℕ) (y : ℕ) → stands_in xs y ≡ false
    → distinct (xs ++ y ∷ []) ≡ distinct xs ++ y ∷ []
distinct_new [] y h = refl
distinct_new (x ∷ xs) y h = elim (eqb_tells x y) [
  | inl p ↦ let t : true ≡ false = rw p.0 at h in cc
  | inr p ↦
      let new : stands_in xs y ≡ false = rw p.0 at h in
      ap (λ (l : List ℕ). x ∷ filter (differs x) l) (distinct_new xs y new)
      ∙ ap (λ (l : List ℕ). x ∷ l) (filter-append (differs x) (distinct xs) (y ∷ []))
      ∙ ap (λ (l : List ℕ). x ∷ (filter (differs x) (distinct xs) ++ l)) (stays p.1)
]
  where
    stays : x ≢ y → filter (differs x) (y ∷ []) ≡ y ∷ []
    stays other = elim (eqb_tells y x) [ inl q ↦ absurd (other (sym q.1)) | inr q ↦ rw q.0 refl ]

-- one that does stand before doesn't come again
pub distinct_again : (xs : List ℕ) (y : ℕ) → stands_in xs y ≡ true
    → distinct (xs ++ y ∷ []) ≡ distinct xs
distinct_again [] y h = cc
distinct_again (x ∷ xs) y h = elim (cases_Bool (stands_in xs y)) [
  | inl there ↦ ap (λ (l : List ℕ). x ∷ filter (differs x) l) (distinct_again xs y there)
  | inr new ↦ elim (eqb_tells x y) [
    | inl p ↦
        ap (λ (l : List ℕ). x ∷ filter (differs x) l) (distinct_new xs y new)
        ∙ ap (λ (l : List ℕ). x ∷ l) (filter-append (differs x) (distinct xs) (y ∷ []))
        ∙ ap (λ (l : List ℕ). x ∷ (filter (differs x) (distinct xs) ++ l)) (goes p.1)
        ∙ ap (λ (l : List ℕ). x ∷ l) (append-nil (filter (differs x) (distinct xs)))
    | inr p ↦ let there : stands_in xs y ≡ true = rw p.0 at h in let f = sym there ∙ new in cc
  ]
]
  where
    goes : x ≡ y → filter (differs x) (y ∷ []) ≡ []
    goes same = elim (eqb_tells y x) [ inl q ↦ rw q.0 refl | inr q ↦ absurd (q.1 (sym same)) ]

pub distinct_more_new : (xs : List ℕ) (n : ℕ) (items : List ℕ) → n < length xs
    → items ≡ distinct (take n xs) → stands_in items (get_or xs n 0) ≡ false
    → items ++ get_or xs n 0 ∷ [] ≡ distinct (take (n + 1) xs)
distinct_more_new xs n items below is new =
    let x = get_or xs n 0 in
    let absent : stands_in (take n xs) x ≡ false =
    sym (distinct_stands (take n xs) x) ∙ ap (λ (l : List ℕ). stands_in l x) (sym is) ∙ new in
    ap (λ (l : List ℕ). l ++ x ∷ []) is ∙ sym (distinct_new (take n xs) x absent)
    ∙ ap distinct (sym (take_more xs n 0 below))

pub distinct_more_again : (xs : List ℕ) (n : ℕ) (items : List ℕ) → n < length xs
    → items ≡ distinct (take n xs) → stands_in items (get_or xs n 0) ≡ true
    → items ≡ distinct (take (n + 1) xs)
distinct_more_again xs n items below is there =
    let x = get_or xs n 0 in
    let present : stands_in (take n xs) x ≡ true =
    sym (distinct_stands (take n xs) x) ∙ ap (λ (l : List ℕ). stands_in l x) (sym is) ∙ there in
    is ∙ sym (distinct_again (take n xs) x present) ∙ ap distinct (sym (take_more xs n 0 below))

-- ---- no more

fewer_filtered : (f : ℕ → ℕ) (p : ℕ → Bool) (xs : List ℕ) → sum_by f (filter p xs) ≤ sum_by f xs
fewer_filtered f p [] = omega arith
fewer_filtered f p (x ∷ xs) =
    let rest = fewer_filtered f p xs in
    let all = sum_by-cons f x xs in
    elim (cases_Bool (p x)) [
      | inl t ↦ rw t (let kept = sum_by-cons f x (filter p xs) in omega (arith, rest, all, kept))
      | inr t ↦ rw t (omega (arith, rest, all))
    ]

pub sum_distinct : (f : ℕ → ℕ) (xs : List ℕ) → sum_by f (distinct xs) ≤ sum_by f xs
sum_distinct f [] = omega arith
sum_distinct f (x ∷ xs) =
    let rest = sum_distinct f xs in
    let fewer = fewer_filtered f (differs x) (distinct xs) in
    let all = sum_by-cons f x xs in
    let kept = sum_by-cons f x (filter (differs x) (distinct xs)) in
    omega (arith, rest, fewer, all, kept)

pub length-distinct : (xs : List ℕ) → length (distinct xs) ≤ length xs
length-distinct [] = omega arith
length-distinct (x ∷ xs) =
    let rest = length-distinct xs in
    let long = length-filter (differs x) (distinct xs) in
    let fewer = count_by-le-length (differs x) (distinct xs) in
    omega (arith, rest, long, fewer)

-- the greatest over numbers that stand in a list
pub largest_within : (f : ℕ → ℕ) (m : ℕ) (xs : List ℕ) → All (λ x. f x ≤ m) xs
    → largest (map f xs) ≤ m
largest_within f m [] all = omega arith
largest_within f m (x ∷ xs) all =
    let here = All-head (λ (n : ℕ). f n ≤ m) x xs all in
    let rest = largest_within f m xs (All-tail (λ (n : ℕ). f n ≤ m) x xs all) in
    omega (arith, here, rest)

pub within_largest : (f : ℕ → ℕ) (xs : List ℕ) → All (λ x. f x ≤ largest (map f xs)) xs
within_largest f [] = λ k d b. absurd (omega arith)
within_largest f (x ∷ xs) =
    All-cons (λ (n : ℕ). f n ≤ largest (map f (x ∷ xs))) x xs (omega arith)
    (All-weaker (λ (n : ℕ). f n ≤ largest (map f xs)) (λ (n : ℕ). f n ≤ largest (map f (x ∷ xs)))
    (λ n l. let less : largest (map f xs) ≤ largest (map f (x ∷ xs)) = omega arith in
    omega (arith, l, less))
    xs (within_largest f xs))

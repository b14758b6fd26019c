-- An element that isn't in a group counts as the unit.
use Rattle.std.proofs.Common.{◌≡◌, ℕ, suc, ℤ, true, false, List, [], ◌∷◌, length, map, All, Option, None, Some, refl, sym, ap, ◌∙◌, if◌then◌else◌}
use Rattle.std.specs.Prelude.{Bool as Test, option_map}
use Rattle.std.proofs.lemmas.List.{length-map}
use Rattle.std.proofs.lemmas.List.Elements.{All-nil, All-cons, All-head, All-tail}
use Rattle.cu_num.specs.Dtype.{InRange}
use Rattle.cu_num.specs.Wrap.{wrapped}
use Rattle.cu_num.proofs.Wrapped.{wrapped_in_range, InRange-wrapped}
use Rattle.cu_num.specs.declared.types.Dtype.{Dtype}
use Rattle.cu_num.specs.declared.folds.FoldKind.{FoldKind}
use Rattle.cu_reduce.specs.Folds.{fold_of, all_some, reduced_to}
use Rattle.cu_reduce.specs.Kinds.{unit_of, combined, Accumulates, IsTaken}
use Rattle.cu_reduce.specs.Running.{running, IsEnough}
use Rattle.cu_reduce.proofs.Combined.{taken_in_range}
use Rattle.cu_reduce.proofs.Folding.{unit_in_range, taken_unit, enough_more, running_unit, combined_unit_last}
use Rattle.cu_reduce.specs.Labels.{is_label, group_fold, Labelled, picked, grouped_to}

-- what an element counts as in a group
abbrev pub counted : FoldKind → Dtype → ℕ → Labelled → ℤ
counted kind acc q x = if is_label q x.label then x.element else unit_of kind acc

-- ---- a loop over a group

pub group_running : (kind : FoldKind) (t acc : Dtype) (xs : List ℤ) → Accumulates kind t acc
    → All (IsTaken kind acc) xs
    → running kind acc (unit_of kind acc) xs ≡ wrapped acc (group_fold kind acc xs)
group_running kind t acc [] a h = sym (wrapped_in_range acc (unit_of kind acc)
    (unit_in_range kind acc))
group_running kind t acc (x ∷ xs) a h = running_unit kind t acc (x ∷ xs) a (enough_more kind
    (length xs)) h

-- a unit that is taken changes nothing
unit_step : (kind : FoldKind) (t acc : Dtype) (first : ℤ) → Accumulates kind t acc
    → InRange acc first → wrapped acc (combined kind first (unit_of kind acc)) ≡ first
unit_step kind t acc first a h = combined_unit_last kind t acc first a
    (taken_in_range kind acc first h) ∙ wrapped_in_range acc first h

-- a loop over what all elements count as
counted_more : (kind : FoldKind) (t acc : Dtype) (q : ℕ) (first : ℤ) (x : Labelled)
    (xs : List Labelled) (b : Test) → is_label q x.label ≡ b → Accumulates kind t acc
    → InRange acc first
    → ((next : ℤ) → InRange acc next
    → running kind acc next (map (counted kind acc q) xs) ≡ running kind acc next (picked q xs))
    → running kind acc first (map (counted kind acc q) (x ∷ xs))
    ≡ running kind acc first (picked q (x ∷ xs))
counted_more kind t acc q first x xs true e a h rest =
    rw e (rest (wrapped acc (combined kind first x.element)) (InRange-wrapped acc
    (combined kind first x.element)))
counted_more kind t acc q first x xs false e a h rest =
    rw e (ap (λ z. running kind acc z (map (counted kind acc q) xs))
    (unit_step kind t acc first a h) ∙ rest first h)

pub running_counted : (kind : FoldKind) (t acc : Dtype) (q : ℕ) (first : ℤ) (xs : List Labelled)
    → Accumulates kind t acc → InRange acc first
    → running kind acc first (map (counted kind acc q) xs) ≡ running kind acc first (picked q xs)
running_counted kind t acc q first [] a h = refl
running_counted kind t acc q first (x ∷ xs) a h = counted_more kind t acc q first x xs
    (is_label q x.label) refl a h (λ next g. running_counted kind t acc q next xs a g)

-- ---- numbers that the kind takes

taken_if : (kind : FoldKind) (acc : Dtype) (x : ℤ) (b : Test) → IsTaken kind acc x
    → IsTaken kind acc (if b then x else unit_of kind acc)
taken_if kind acc x true h = h
taken_if kind acc x false h = taken_unit kind acc

pub taken_counted : (kind : FoldKind) (acc : Dtype) (q : ℕ) (x : Labelled)
    → IsTaken kind acc x.element → IsTaken kind acc (counted kind acc q x)
taken_counted kind acc q x h = taken_if kind acc x.element (is_label q x.label) h

all_counted : (kind : FoldKind) (acc : Dtype) (q : ℕ) (xs : List Labelled)
    → All (λ x. IsTaken kind acc x.element) xs
    → All (IsTaken kind acc) (map (counted kind acc q) xs)
all_counted kind acc q [] h = All-nil (IsTaken kind acc)
all_counted kind acc q (x ∷ xs) h =
    All-cons (IsTaken kind acc) (counted kind acc q x) (map (counted kind acc q) xs)
    (taken_counted kind acc q x (All-head (λ y. IsTaken kind acc y.element) x xs h))
    (all_counted kind acc q xs (All-tail (λ y. IsTaken kind acc y.element) x xs h))

picked_more : (kind : FoldKind) (acc : Dtype) (q : ℕ) (x : Labelled) (xs : List Labelled)
    (b : Test) → is_label q x.label ≡ b → IsTaken kind acc x.element
    → All (IsTaken kind acc) (picked q xs) → All (IsTaken kind acc) (picked q (x ∷ xs))
picked_more kind acc q x xs true e h rest = rw e (All-cons (IsTaken kind acc) x.element
    (picked q xs) h rest)
picked_more kind acc q x xs false e h rest = rw e rest

all_picked : (kind : FoldKind) (acc : Dtype) (q : ℕ) (xs : List Labelled)
    → All (λ x. IsTaken kind acc x.element) xs → All (IsTaken kind acc) (picked q xs)
all_picked kind acc q [] h = All-nil (IsTaken kind acc)
all_picked kind acc q (x ∷ xs) h =
    picked_more kind acc q x xs (is_label q x.label) refl (All-head
    (λ y. IsTaken kind acc y.element) x xs h) (all_picked kind acc q xs (All-tail
    (λ y. IsTaken kind acc y.element) x xs h))

-- ---- a group as a reduction of all that is there

pub group_reduced : (kind : FoldKind) (t acc : Dtype) (q : ℕ) (xs : List Labelled)
    → Accumulates kind t acc → IsEnough kind (length xs) → All (λ x. IsTaken kind acc x.element) xs
    → wrapped acc (group_fold kind acc (picked q xs))
    ≡ wrapped acc (fold_of kind (map (counted kind acc q) xs))
group_reduced kind t acc q xs a e h =
    let many : IsEnough kind (length (map (counted kind acc q) xs)) = rw (length-map xs
    (counted kind acc q)) e in
    sym (group_running kind t acc (picked q xs) a (all_picked kind acc q xs h))
    ∙ sym (running_counted kind t acc q (unit_of kind acc) xs a (unit_in_range kind acc))
    ∙ running_unit kind t acc (map (counted kind acc q) xs) a many (all_counted kind acc q xs h)

-- ---- where some may be missing

module _ {A B : Type 0} where
  all_mapped : (f : A → B) (x : A) (r : Option (List A))
      → option_map (λ ys. f x ∷ ys) (option_map (map f) r)
      ≡ option_map (map f) (option_map (λ ys. x ∷ ys) r)
  all_mapped f x None = refl
  all_mapped f x (Some ys) = refl

  pub all_some_map : (f : A → B) (xs : List (Option A))
      → all_some (map (option_map f) xs) ≡ option_map (map f) (all_some xs)
  all_some_map f [] = refl
  all_some_map f (None ∷ xs) = refl
  all_some_map f (Some x ∷ xs) = ap (option_map (λ ys. f x ∷ ys)) (all_some_map f xs)
      ∙ all_mapped f x (all_some xs)

  where_there : (f g : List A → B) (r : Option (List A)) → ((ys : List A) → r ≡ Some ys
      → f ys ≡ g ys) → option_map f r ≡ option_map g r
  where_there f g None h = refl
  where_there f g (Some ys) h = ap (λ y. Some y) (h ys refl)

module _ {A : Type 0} (P : A → Type 0) where
  -- a fact of a number where it is there
  abbrev pub IfThere : Option A → Type 0
  IfThere o = (x : A) → o ≡ Some x → P x

  there_more : (x : A) (r : Option (List A)) (n : ℕ) → P x → ((ys : List A) → r ≡ Some ys
      → (length ys ≡ n) × All P ys)
      → (ys : List A) → option_map (λ zs. x ∷ zs) r ≡ Some ys → (length ys ≡ suc n) × All P ys
  there_more x None n p h ys e = cc
  there_more x (Some zs) n p h [] e = cc
  there_more x (Some zs) n p h (y ∷ ys) e =
      let first : x ≡ y = cc in
      let rest : Some zs ≡ Some ys = cc in
      let r = h ys rest in
      (ap suc r.0, All-cons P y ys (rw (sym first) p) r.1)

  pub all_there : (xs : List (Option A)) → All IfThere xs → (ys : List A)
      → all_some xs ≡ Some ys → (length ys ≡ length xs) × All P ys
  all_there [] h [] e = (refl, All-nil P)
  all_there [] h (y ∷ ys) e = cc
  all_there (None ∷ xs) h ys e = cc
  all_there (Some x ∷ xs) h ys e =
      there_more x (all_some xs) (length xs) (All-head IfThere (Some x) xs h x refl)
      (λ zs f. all_there xs (All-tail IfThere (Some x) xs h) zs f) ys e

module _ {A B C : Type 0} where
  map_after : (f : B → C) (g : A → B) (r : Option A)
      → option_map f (option_map g r) ≡ option_map (λ x. f (g x)) r
  map_after f g None = refl
  map_after f g (Some x) = refl

-- the element may not be there, or is a number that the kind takes
abbrev pub TakesElement : FoldKind → Dtype → Option Labelled → Type 0
TakesElement kind acc o = IfThere (λ x. IsTaken kind acc x.element) o

pub grouped_reduced : (kind : FoldKind) (t acc : Dtype) (q : ℕ) (xs : List (Option Labelled))
    → Accumulates kind t acc → IsEnough kind (length xs) → All (TakesElement kind acc) xs
    → grouped_to kind acc q xs ≡ reduced_to kind acc (map (option_map (counted kind acc q)) xs)
grouped_reduced kind t acc q xs a e h =
    where_there (λ ys. wrapped acc (group_fold kind acc (picked q ys))) (λ ys. wrapped acc
    (fold_of kind (map (counted kind acc q) ys))) (all_some xs)
    (λ ys s. let there = all_there (λ x. IsTaken kind acc x.element) xs h ys s in
    group_reduced kind t acc q ys a (rw there.0 e) there.1)
    ∙ sym (map_after (λ ys. wrapped acc (fold_of kind ys)) (map (counted kind acc q)) (all_some xs))
    ∙ ap (option_map (λ ys. wrapped acc (fold_of kind ys))) (sym (all_some_map
    (counted kind acc q) xs))

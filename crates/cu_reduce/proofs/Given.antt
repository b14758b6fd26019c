-- Where no element is missing: prefix sums and groups as numbers.
use Rattle.std.proofs.Common.{◌≡◌, ℕ, zero, suc, ◌+◌, ℤ, pos, ◌+ℤ◌, true, false, List, [], ◌∷◌, map, Some, refl, ap, ◌∙◌, arith}
use Rattle.std.specs.Prelude.{Bool as Test, option_map, option_and_then}
use Rattle.std.specs.List.{range_with_len}
use Rattle.std.proofs.lemmas.Int.{ints}
use Rattle.cu_num.specs.Wrap.{wrapped}
use Rattle.cu_num.specs.declared.types.Dtype.{Dtype}
use Rattle.cu_num.specs.declared.folds.FoldKind.{FoldKind}
use Rattle.cu_num.specs.declared.folds.FoldKind.TheVariants.{Sum}
use Rattle.cu_reduce.specs.Folds.{exact_sum, all_some, reduced_to}
use Rattle.cu_reduce.specs.Labels.{is_label, members, group_fold, grouped_at, Labelled, picked, grouped_to, marked}
use Rattle.cu_reduce.specs.Prefix.{running_sum, cumulative, sum_below}

given_all : {I A : Type 0} (h : I → A) (xs : List I) → all_some (map (λ x. Some (h x)) xs) ≡ Some (map h xs)
given_all h [] = refl
given_all h (x ∷ xs) = ap (option_map (λ ys. h x ∷ ys)) (given_all h xs)

-- ---- prefix sums

pub none_before : (x : ℤ) → x ≡ pos 0 +ℤ x
none_before x = omega (arith, ints)

pub running_given : (g : ℕ → ℤ) (j : ℕ) → running_sum (λ k. Some (g k)) j ≡ Some (sum_below g (suc j))
running_given g zero = ap (λ x. Some x) (none_before (g 0))
running_given g (suc j) =
    ap (option_and_then (λ x. option_map (λ y. x +ℤ y) (Some (g (suc j))))) (running_given g j)

pub cumulative_given : (acc : Dtype) (g : ℕ → ℤ) (j : ℕ)
    → cumulative acc (λ k. Some (g k)) j ≡ Some (wrapped acc (sum_below g (suc j)))
cumulative_given acc g j = ap (option_map (wrapped acc)) (running_given g j)

moved : (x y z : ℤ) → x +ℤ (y +ℤ z) ≡ x +ℤ y +ℤ z
moved x y z = omega (arith, ints)

sum_front : (g : ℕ → ℤ) (n : ℕ) → g 0 +ℤ sum_below (λ k. g (suc k)) n ≡ sum_below g (suc n)
sum_front g zero = omega (arith, ints)
sum_front g (suc n) =
    moved (g 0) (sum_below (λ k. g (suc k)) n) (g (suc n)) ∙ ap (λ x. x +ℤ g (suc n)) (sum_front g n)

sum_same : (f g : ℕ → ℤ) (n : ℕ) → ((k : ℕ) → f k ≡ g k) → sum_below f n ≡ sum_below g n
sum_same f g zero h = refl
sum_same f g (suc n) h = λ i. sum_same f g n h i +ℤ h n i

pub span_given : (g : ℕ → ℤ) (lo n : ℕ)
    → exact_sum (map g (range_with_len lo n)) ≡ sum_below (λ k. g (lo + k)) n
span_given g lo zero = refl
span_given g lo (suc n) =
    let here : lo ≡ lo + 0 = omega arith in
    let next : (k : ℕ) → lo + 1 + k ≡ lo + suc k = λ k. omega arith in
    (λ i. g (here i) +ℤ span_given g (lo + 1) n i)
    ∙ ap (λ x. g (lo + 0) +ℤ x) (sum_same (λ k. g (lo + 1 + k)) (λ k. g (lo + suc k)) n (λ k. ap g (next k)))
    ∙ sum_front (λ k. g (lo + k)) n

-- the sum of a number that is carried in and of the elements of a span
pub carried_given : (acc : Dtype) (c : ℤ) (g : ℕ → ℤ) (lo n : ℕ)
    → reduced_to Sum acc (Some c ∷ map (λ k. Some (g k)) (range_with_len lo n))
    ≡ Some (wrapped acc (c +ℤ sum_below (λ k. g (lo + k)) n))
carried_given acc c g lo n =
    ap (λ o. option_map (λ ys. wrapped acc (exact_sum ys)) (option_map (λ ys. c ∷ ys) o)) (given_all g (range_with_len lo n))
    ∙ ap (λ s. Some (wrapped acc (c +ℤ s))) (span_given g lo n)

pub alone_given : (acc : Dtype) (g : ℕ → ℤ) (lo n : ℕ)
    → reduced_to Sum acc (map (λ k. Some (g k)) (range_with_len lo n))
    ≡ Some (wrapped acc (sum_below (λ k. g (lo + k)) n))
alone_given acc g lo n =
    ap (option_map (λ ys. wrapped acc (exact_sum ys))) (given_all g (range_with_len lo n))
    ∙ ap (λ s. Some (wrapped acc s)) (span_given g lo n)

-- ---- groups

abbrev pub labelled_by : (ℕ → ℤ) → (ℕ → ℤ) → ℕ → Labelled
labelled_by label element p = record { label = label p; element = element p }

picked_more : (label element : ℕ → ℤ) (q p : ℕ) (ps : List ℕ) (b : Test) → is_label q (label p) ≡ b
    → picked q (map (labelled_by label element) ps) ≡ map element (members label q ps)
    → picked q (map (labelled_by label element) (p ∷ ps)) ≡ map element (members label q (p ∷ ps))
picked_more label element q p ps true e h = rw e (ap (λ xs. element p ∷ xs) h)
picked_more label element q p ps false e h = rw e h

pub picked_given : (label element : ℕ → ℤ) (q : ℕ) (ps : List ℕ)
    → picked q (map (labelled_by label element) ps) ≡ map element (members label q ps)
picked_given label element q [] = refl
picked_given label element q (p ∷ ps) =
    picked_more label element q p ps (is_label q (label p)) refl (picked_given label element q ps)

-- what is made of a group where no label and no element is missing
pub grouped_given : (kind : FoldKind) (acc : Dtype) (q : ℕ) (label element : ℕ → ℤ) (ps : List ℕ)
    → grouped_to kind acc q (marked (λ p. Some (label p)) (λ p. Some (element p)) ps)
    ≡ Some (wrapped acc (grouped_at kind acc label element q ps))
grouped_given kind acc q label element ps =
    ap (option_map (λ ys. wrapped acc (group_fold kind acc (picked q ys)))) (given_all (labelled_by label element) ps)
    ∙ ap (λ xs. Some (wrapped acc (group_fold kind acc xs))) (picked_given label element q ps)

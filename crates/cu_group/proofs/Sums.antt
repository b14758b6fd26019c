-- The sums of all groups together are the sum over the axis.
use Rattle.std.proofs.Common.{◌≡◌, ℕ, zero, suc, ◌+◌, ◌*◌, ◌^◌, ◌<◌, ◌≤◌, ℤ, pos, ◌+ℤ◌, ◌*ℤ◌, true, false, List, [], ◌∷◌, map, All, refl, ap, ◌∙◌, subst, arith, rules, cond, if◌then◌else◌, ⊎_elim}
use Rattle.std.specs.Prelude.{Bool as Test}
use Rattle.std.specs.List.{range_with_len}
use Rattle.std.proofs.lemmas.Bool.{cases_lt}
use Rattle.std.proofs.lemmas.Bool.Decides.{Decides-int_eq}
use borrow.Author.Differences.{up, down, product_is}
use Rattle.std.proofs.lemmas.Int.{ints}
use Rattle.std.proofs.lemmas.List.Elements.{All-head, All-tail}
use Rattle.cu_num.specs.Dtype.{bit_width, is_signed, IsInteger}
use Rattle.cu_num.specs.Fold.{fold_type}
use Rattle.cu_num.specs.Wrap.{wrapped, DifferByMultiple, IsWrapOf}
use Rattle.cu_num.proofs.Wrapped.{wrapped_is_wrap}
use Rattle.cu_num.specs.declared.types.Dtype.{Dtype}
use Rattle.cu_num.specs.declared.types.Dtype.TheVariants.{Bool, Int8, Int16, Int32, Int64, Uint8, Uint16, Uint32, Uint64}
use Rattle.cu_num.specs.declared.folds.FoldKind.TheVariants.{Sum}
use Rattle.cu_reduce.specs.Folds.{exact_sum}
use Rattle.cu_reduce.specs.Labels.{is_label, members, group_fold, grouped_at, IsGroup}

-- a group's sum, also of no element
group_sum : (acc : Dtype) (xs : List ℤ) → group_fold Sum acc xs ≡ exact_sum xs
group_sum acc [] = refl
group_sum acc (x ∷ xs) = refl

-- ---- sums over the groups

added : (f g : ℕ → ℤ) (qs : List ℕ)
    → exact_sum (map (λ q. f q +ℤ g q) qs) ≡ exact_sum (map f qs) +ℤ exact_sum (map g qs)
added f g [] = omega (arith, ints)
added f g (q ∷ qs) = omega (arith, ints, added f g qs)

zeros : (qs : List ℕ) → exact_sum (map (λ q. pos 0) qs) ≡ pos 0
zeros [] = refl
zeros (q ∷ qs) = omega (arith, ints, zeros qs)

own_label : (q : ℕ) → is_label q (pos q) ≡ true
own_label q = search (rules, Decides-int_eq)

other_label : (q p : ℕ) → (p ≡ q → ⊥) → is_label q (pos p) ≡ false
other_label q p h = search (rules, Decides-int_eq)

abbrev share : ℤ → ℤ → ℕ → ℤ
share label x q = if is_label q label then x else pos 0

-- an element's share in groups none of which is its own
no_share : (l : ℕ) (x : ℤ) (a n : ℕ) → l < a
    → exact_sum (map (share (pos l) x) (range_with_len a n)) ≡ pos 0
no_share l x a zero h = refl
no_share l x a (suc n) h =
    let rest = no_share l x (a + 1) n (omega arith) in
    let first : share (pos l) x a ≡ pos 0 = ap (λ b. if b then x else pos 0) (other_label a l
    (λ e. omega arith)) in
    omega (arith, ints, first, rest)

-- in all groups
whole_share : (l : ℕ) (x : ℤ) (a n : ℕ) → a ≤ l → l < a + n
    → exact_sum (map (share (pos l) x) (range_with_len a n)) ≡ x
whole_share l x a zero h g = absurd (omega arith)
whole_share l x a (suc n) h g =
    ⊎_elim
    (λ less.
    let first : share (pos l) x a ≡ pos 0 = ap (λ b. if b then x else pos 0) (other_label a l
    (λ e. omega arith)) in
    omega (arith, ints, first, whole_share l x (a + 1) n (omega arith) (omega arith)))
    (λ past.
    let same : l ≡ a = omega arith in
    let first : share (pos l) x a ≡ x = ap (λ b. if b then x else pos 0) (ap (λ k. is_label a
    (pos k)) same ∙ own_label a) in
    omega (arith, ints, first, no_share l x (a + 1) n (omega arith)))
    (cases_lt a l)

-- ---- one place more

more_if : (b : Test) (x : ℤ) (p : ℕ) (element : ℕ → ℤ) (ps : List ℕ) → element p ≡ x
    → exact_sum (map element (cond b (p ∷ ps) ps))
    ≡ (if b then x else pos 0) +ℤ exact_sum (map element ps)
more_if true x p element ps e = ap (λ y. y +ℤ exact_sum (map element ps)) e
more_if false x p element ps e = omega (arith, ints)

members_more : (label element : ℕ → ℤ) (q p : ℕ) (ps : List ℕ)
    → exact_sum (map element (members label q (p ∷ ps)))
    ≡ share (label p) (element p) q +ℤ exact_sum (map element (members label q ps))
members_more label element q p ps = more_if (is_label q (label p)) (element p) p element
    (members label q ps) refl

pub sums_together : (label element : ℕ → ℤ) (groups : ℕ) (ps : List ℕ)
    → All (λ p. IsGroup groups (label p)) ps
    → exact_sum (map (λ q. exact_sum (map element (members label q ps)))
    (range_with_len 0 groups)) ≡ exact_sum (map element ps)
sums_together label element groups [] h = zeros (range_with_len 0 groups)
sums_together label element groups (p ∷ ps) h =
    let own = All-head (λ k. IsGroup groups (label k)) p ps h in
    let share_is : exact_sum (map (share (label p) (element p)) (range_with_len 0 groups))
    ≡ element p =
    ap (λ l. exact_sum (map (share l (element p)) (range_with_len 0 groups))) own.2
    ∙ whole_share own.0 (element p) 0 groups (omega arith) (let b = own.1 in omega arith) in
    (λ j. exact_sum (map (λ q. members_more label element q p ps j) (range_with_len 0 groups)))
    ∙ added (share (label p) (element p)) (λ q. exact_sum (map element (members label q ps)))
    (range_with_len 0 groups)
    ∙ (λ j. share_is j +ℤ sums_together label element groups ps (All-tail (λ k. IsGroup groups
    (label k)) p ps h) j)

-- ---- wrapped sums

wrap_differs : (acc : Dtype) (x : ℤ) → IsInteger acc
    → DifferByMultiple (2 ^ bit_width acc) x (wrapped acc x)
wrap_differs acc x a = of_integer acc x (wrapped acc x) a (wrapped_is_wrap acc x)
  where
    of_integer : (acc : Dtype) (x r : ℤ) → IsInteger acc → IsWrapOf acc x r
        → DifferByMultiple (2 ^ bit_width acc) x r
    of_integer Bool x r a h = absurd a
    of_integer Int8 x r a h = h.1
    of_integer Int16 x r a h = h.1
    of_integer Int32 x r a h = h.1
    of_integer Int64 x r a h = h.1
    of_integer Uint8 x r a h = h.1
    of_integer Uint16 x r a h = h.1
    of_integer Uint32 x r a h = h.1
    of_integer Uint64 x r a h = h.1

spread : (a b c : ℤ) → (a +ℤ b) *ℤ c ≡ a *ℤ c +ℤ b *ℤ c
spread a b c =
    let s : up (a +ℤ b) + (down a + down b) ≡ up a + up b + down (a +ℤ b) = omega (arith, ints) in
    let e = ap (λ m. m * up c) s in
    let f = ap (λ m. m * down c) s in
    omega (arith, ints, e, f, product_is (a +ℤ b) c, product_is a c, product_is b c)

both_differ : (m : ℕ) (a b c d : ℤ) → DifferByMultiple m a b → DifferByMultiple m c d
    → DifferByMultiple m (a +ℤ c) (b +ℤ d)
both_differ m a b c d h g = (h.0 +ℤ g.0, sum_of m a b c d h.0 g.0 h.1 g.1)
  where
    sum_of : (m : ℕ) (a b c d k j : ℤ) → a ≡ b +ℤ k *ℤ pos m → c ≡ d +ℤ j *ℤ pos m
        → a +ℤ c ≡ b +ℤ d +ℤ (k +ℤ j) *ℤ pos m
    sum_of m a b c d k j e f = let split : (k +ℤ j) *ℤ pos m
        ≡ k *ℤ pos m +ℤ j *ℤ pos m = spread k j (pos m) in omega (arith, ints, e, f, split)

all_differ : (acc : Dtype) (f : ℕ → ℤ) (qs : List ℕ) → IsInteger acc
    → DifferByMultiple (2 ^ bit_width acc) (exact_sum (map f qs)) (exact_sum (map
    (λ q. wrapped acc (f q)) qs))
all_differ acc f [] a = (pos 0, none_of (pos (2 ^ bit_width acc)))
  where
    none_of : (m : ℤ) → pos 0 ≡ pos 0 +ℤ pos 0 *ℤ m
    none_of m = omega (arith, ints)
all_differ acc f (q ∷ qs) a =
    both_differ (2 ^ bit_width acc) (f q) (wrapped acc (f q)) (exact_sum (map f qs)) (exact_sum
    (map (λ p. wrapped acc (f p)) qs)) (wrap_differs acc (f q) a) (all_differ acc f qs a)

pub groups_congruent : (acc : Dtype) (label element : ℕ → ℤ) (groups : ℕ) (ps : List ℕ)
    → IsInteger acc → All (λ p. IsGroup groups (label p)) ps
    → DifferByMultiple (2 ^ bit_width acc) (exact_sum (map element ps)) (exact_sum (map
    (λ q. wrapped acc (grouped_at Sum acc label element q ps)) (range_with_len 0 groups)))
groups_congruent acc label element groups ps a h =
    subst (λ s. DifferByMultiple (2 ^ bit_width acc) s (exact_sum (map (λ q. wrapped acc
    (grouped_at Sum acc label element q ps)) (range_with_len 0 groups))))
    ((λ j. exact_sum (map (λ q. group_sum acc (map element (members label q ps)) j)
    (range_with_len 0 groups))) ∙ sums_together label element groups ps h)
    (all_differ acc (λ q. grouped_at Sum acc label element q ps) (range_with_len 0 groups) a)

-- by the type of the sum
sum_type : (t : Dtype) → IsInteger (fold_type Sum t) × (bit_width (fold_type Sum t) ≡ 64)
sum_type t = by_sign (is_signed t)
  where
    by_sign : (b : Test) → IsInteger (if b then Int64 else Uint64)
        × (bit_width (if b then Int64 else Uint64) ≡ 64)
    by_sign true = (tt, refl)
    by_sign false = (tt, refl)

pub groups_together : (t : Dtype) (label element : ℕ → ℤ) (groups n : ℕ)
    → All (λ p. IsGroup groups (label p)) (range_with_len 0 n)
    → DifferByMultiple (2 ^ 64) (exact_sum (map element (range_with_len 0 n)))
    (exact_sum (map (λ q. wrapped (fold_type Sum t) (grouped_at Sum
    (fold_type Sum t) label element q (range_with_len 0 n))) (range_with_len 0 groups)))
groups_together t label element groups n h =
    let acc = fold_type Sum t in
    let own = sum_type t in
    subst (λ w. DifferByMultiple (2 ^ w) (exact_sum (map element (range_with_len 0 n)))
    (exact_sum (map (λ q. wrapped acc (grouped_at Sum acc label element q
    (range_with_len 0 n))) (range_with_len 0 groups))))
    own.1 (groups_congruent acc label element groups (range_with_len 0 n) own.0 h)

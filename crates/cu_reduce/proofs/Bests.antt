-- The better of two numbers with their places, and the best of a list.
use Rattle.std.proofs.Common.{◌≡◌, ℕ, ◌+◌, ◌<◌, ◌≤◌, suc, ℤ, pos, ◌≤ℤ◌, true, false, List, [], ◌∷◌, ◌++◌, length, get_or, Option, None, Some, refl, sym, ap, ◌∙◌, subst, arith, rules, ⊎_elim, if◌then◌else◌}
use Rattle.std.specs.Prelude.{Bool as Test, ◌↔◌, Contains, int_lt, not, ◌&&◌, ◌||◌}
use Rattle.std.specs.Int.{int_max}
use Rattle.std.specs.List.{position_or_len}
use Rattle.std.specs.Ordering.{int_eq}
use Rattle.std.proofs.lemmas.Int.{ints}
use Rattle.std.proofs.lemmas.Bool.Decides.{Decides-int_eq}
use Rattle.std.proofs.lemmas.List.Elements.{Contains-append_right, Contains-append_cases}
use Rattle.cu_reduce.specs.Folds.{least_of, greatest_of}
use Rattle.cu_reduce.specs.Places.{Found, is_beyond, is_better, better_of, better_of_some, best_of, IsBest, best_place, numbered}

-- ---- the order

before : ℤ → ℤ → ℤ → ℤ → Test
before v w p q = int_lt v w || (not (int_lt w v) && int_lt p q)

before_trans : (v w u : ℤ) (p q r : ℤ) → before v w p q ≡ true → before w u q r ≡ true → before v u p r ≡ true
unfolding before
before_trans v w u p q r h g = grind (arith, ints)

-- the same where the numbers go the other way
against_trans : (v w u : ℤ) (p q r : ℤ) → before w v p q ≡ true → before u w q r ≡ true → before u v p r ≡ true
unfolding before
against_trans v w u p q r h g = grind (arith, ints)

not_before_trans : (v w u : ℤ) (p q r : ℤ) → before v w p q ≡ false → before w u q r ≡ false → before v u p r ≡ false
unfolding before
not_before_trans v w u p q r h g = grind (arith, ints)

not_against_trans : (v w u : ℤ) (p q r : ℤ) → before w v p q ≡ false → before u w q r ≡ false → before u v p r ≡ false
unfolding before
not_against_trans v w u p q r h g = grind (arith, ints)

not_after : (v w : ℤ) (p q : ℤ) → before v w p q ≡ true → before w v q p ≡ false
unfolding before
not_after v w p q h = grind (arith, ints)

not_before_own : (v : ℤ) (p : ℤ) → before v v p p ≡ false
unfolding before
not_before_own v p = grind (arith, ints)

as_good : (v w : ℤ) (p q : ℤ) → before v w p q ≡ false → (int_lt v w ≡ false) × (v ≡ w → q ≤ℤ p)
unfolding before
as_good v w p q h = (grind (arith, ints), λ e. grind (arith, ints))

same_both : (v w : ℤ) → int_lt v w ≡ false → int_lt w v ≡ false → v ≡ w
same_both v w h g = grind (arith, ints)

same_places : (p q : ℤ) → p ≤ℤ q → q ≤ℤ p → p ≡ q
same_places p q h g = omega (arith, ints)

better_trans : (least : Test) (x y z : Found) → is_better least y x ≡ true → is_better least z y ≡ true → is_better least z x ≡ true
unfolding before
better_trans true x y z h g = before_trans z.value y.value x.value z.place y.place x.place g h
better_trans false x y z h g = against_trans z.value y.value x.value z.place y.place x.place g h

worse_trans : (least : Test) (x y z : Found) → is_better least y x ≡ false → is_better least z y ≡ false → is_better least z x ≡ false
unfolding before
worse_trans true x y z h g = not_before_trans z.value y.value x.value z.place y.place x.place g h
worse_trans false x y z h g = not_against_trans z.value y.value x.value z.place y.place x.place g h

not_own : (least : Test) (x : Found) → is_better least x x ≡ false
unfolding before
not_own true x = not_before_own x.value x.place
not_own false x = not_before_own x.value x.place

not_both : (least : Test) (x y : Found) → is_better least y x ≡ true → is_better least x y ≡ false
unfolding before
not_both true x y h = not_after y.value x.value y.place x.place h
not_both false x y h = not_after x.value y.value y.place x.place h

in_words : (least : Test) (x y : Found) → is_better least y x ≡ false → (is_beyond least y.value x.value ≡ false) × (y.value ≡ x.value → x.place ≤ℤ y.place)
unfolding before
in_words true x y h = as_good y.value x.value y.place x.place h
in_words false x y h = let good = as_good x.value y.value y.place x.place h in (good.0, λ e. good.1 (sym e))

same_values : (least : Test) (v w : ℤ) → is_beyond least v w ≡ false → is_beyond least w v ≡ false → v ≡ w
same_values true v w h g = same_both v w h g
same_values false v w h g = same_both v w g h

same_found : (x y : Found) → x.value ≡ y.value → x.place ≡ y.place → x ≡ y
same_found x y e f = λ i. record { value = e i; place = f i }

-- two of which neither is better are the same
neither : (least : Test) (x y : Found) → is_better least x y ≡ false → is_better least y x ≡ false → x ≡ y
neither least x y h g =
    let a = in_words least y x h in
    let b = in_words least x y g in
    let e : x.value ≡ y.value = same_values least x.value y.value a.0 b.0 in
    same_found x y e (same_places x.place y.place (b.1 (sym e)) (a.1 e))

-- ---- the better of two

chosen : (p : Test) (a b : Found) → p ≡ true → (if p then b else a) ≡ b
chosen p a b e = ap (λ t. if t then b else a) e

left : (p : Test) (a b : Found) → p ≡ false → (if p then b else a) ≡ a
left p a b e = ap (λ t. if t then b else a) e

by_tests : (least : Test) (a b c : Found) (p q : Test) → is_better least b a ≡ p → is_better least c b ≡ q
    → better_of least (if p then b else a) c ≡ better_of least a (if q then c else b)
by_tests least a b c true true e f =
    chosen (is_better least c b) b c f ∙ sym (chosen (is_better least c a) a c (better_trans least a b c e f))
by_tests least a b c true false e f = left (is_better least c b) b c f ∙ sym (chosen (is_better least b a) a b e)
by_tests least a b c false true e f = refl
by_tests least a b c false false e f =
    left (is_better least c a) a c (worse_trans least a b c e f) ∙ sym (left (is_better least b a) a b e)

pub better_assoc : (least : Test) (a b c : Found) → better_of least (better_of least a b) c ≡ better_of least a (better_of least b c)
better_assoc least a b c = by_tests least a b c (is_better least b a) (is_better least c b) refl refl

by_both : (least : Test) (a b : Found) (p q : Test) → is_better least b a ≡ p → is_better least a b ≡ q → (if p then b else a) ≡ (if q then a else b)
by_both least a b true true e f = let g : true ≡ false = sym f ∙ not_both least a b e in cc
by_both least a b true false e f = refl
by_both least a b false true e f = refl
by_both least a b false false e f = neither least a b f e

pub better_comm : (least : Test) (a b : Found) → better_of least a b ≡ better_of least b a
better_comm least a b = by_both least a b (is_better least b a) (is_better least a b) refl refl

pub best_assoc : (least : Test) (a b c : Option Found) → better_of_some least (better_of_some least a b) c ≡ better_of_some least a (better_of_some least b c)
best_assoc least None b c = refl
best_assoc least (Some a) None c = refl
best_assoc least (Some a) (Some b) None = refl
best_assoc least (Some a) (Some b) (Some c) = ap (λ x. Some x) (better_assoc least a b c)

pub best_comm : (least : Test) (a b : Option Found) → better_of_some least a b ≡ better_of_some least b a
best_comm least None None = refl
best_comm least None (Some b) = refl
best_comm least (Some a) None = refl
best_comm least (Some a) (Some b) = ap (λ x. Some x) (better_comm least a b)

pub best_append : (least : Test) (xs ys : List Found) → best_of least (xs ++ ys) ≡ better_of_some least (best_of least xs) (best_of least ys)
best_append least [] ys = refl
best_append least (x ∷ xs) ys = ap (better_of_some least (Some x)) (best_append least xs ys) ∙ sym (best_assoc least (Some x) (best_of least xs) (best_of least ys))

-- ---- the best of a list, in words

abbrev IsFound : Test → List Found → Found → Type 0
IsFound least xs b = Contains xs b × ((y : Found) → Contains xs y → is_better least y b ≡ false)

in_one : (x y : Found) → Contains (x ∷ []) y → x ≡ y
in_one x y c = let h = c.1 in let e : c.0 ≡ 0 = omega arith in subst (λ k. get_or (x ∷ []) k y ≡ y) e c.2

first_in : (x : Found) (xs : List Found) → Contains (x ∷ xs) x
first_in x xs = (0, omega arith, refl)

of_both : (least : Test) (x b : Found) (xs : List Found) → is_better least x b ≡ false → ((y : Found) → Contains xs y → is_better least y b ≡ false)
    → (y : Found) → Contains (x ∷ xs) y → is_better least y b ≡ false
of_both least x b xs here there y c =
    ⊎_elim (λ one. subst (λ z. is_better least z b ≡ false) (in_one x y one) here) (λ more. there y more) (Contains-append_cases (x ∷ []) xs y c)

one_more : (least : Test) (x b : Found) (xs : List Found) → IsFound least xs b → (p : Test) → is_better least b x ≡ p → IsFound least (x ∷ xs) (if p then b else x)
one_more least x b xs h true e = (Contains-append_right (x ∷ []) xs b h.0, of_both least x b xs (not_both least x b e) h.1)
one_more least x b xs h false e =
    (first_in x xs, of_both least x x xs (not_own least x) (λ y c. worse_trans least x b y e (h.1 y c)))

found_of : (least : Test) (x : Found) (xs : List Found) → (b : Found) × (best_of least (x ∷ xs) ≡ Some b) × IsFound least (x ∷ xs) b
found_of least x [] = (x, refl, (first_in x [], of_both least x x [] (not_own least x) (λ y c. let h = c.1 in absurd (omega arith))))
found_of least x (y ∷ ys) =
    let rest = found_of least y ys in
    let b = rest.0 in
    (better_of least x b, ap (better_of_some least (Some x)) rest.1, one_more least x b (y ∷ ys) rest.2 (is_better least b x) refl)

told : (least : Test) (xs : List Found) (b : Found) → IsFound least xs b → IsBest least xs b
told least xs b h = record {
  one = h.0;
  value = λ y c. (in_words least b y (h.1 y c)).0;
  first = λ y c e. (in_words least b y (h.1 y c)).1 e;
}

-- the best is the only one
only : (least : Test) (xs : List Found) (a b : Found) → IsBest least xs a → IsBest least xs b → a ≡ b
only least xs a b h g =
    let e : a.value ≡ b.value = same_values least a.value b.value (g.value a h.one) (h.value b g.one) in
    same_found a b e (same_places a.place b.place (h.first b g.one (sym e)) (g.first a h.one e))

some_same : (a b : Found) → Some a ≡ Some b → a ≡ b
some_same a b e = cc

pub best_is : (least : Test) (xs : List Found) (best : Found) → best_of least xs ≡ Some best → IsBest least xs best
best_is least [] best e = cc
best_is least (x ∷ xs) best e =
    let f = found_of least x xs in
    subst (IsBest least (x ∷ xs)) (some_same f.0 best (sym f.1 ∙ e)) (told least (x ∷ xs) f.0 f.2)

pub is_best : (least : Test) (xs : List Found) (best : Found) → IsBest least xs best → best_of least xs ≡ Some best
is_best least [] best h = let c = h.one in let b = c.1 in absurd (omega arith)
is_best least (x ∷ xs) best h =
    let f = found_of least x xs in
    f.1 ∙ ap (λ b. Some b) (only least (x ∷ xs) f.0 best (told least (x ∷ xs) f.0 f.2) h)

pub best_both : (least : Test) (xs : List Found) (best : Found) → (best_of least xs ≡ Some best) ↔ IsBest least xs best
best_both least xs best = (best_is least xs best, is_best least xs best)

none_empty : (least : Test) (xs : List Found) → best_of least xs ≡ None → xs ≡ []
none_empty least [] e = refl
none_empty least (x ∷ xs) e = let f = found_of least x xs in let g : Some f.0 ≡ None = sym f.1 ∙ e in cc

pub best_none : (least : Test) (xs : List Found) → (best_of least xs ≡ None) ↔ (xs ≡ [])
best_none least xs = (none_empty least xs, λ e. ap (best_of least) e)

-- ---- of numbers in order

equal : (x : ℤ) → int_eq x x ≡ true
equal x = search (rules, Decides-int_eq)

differ : (x y : ℤ) → (x ≡ y → ⊥) → int_eq x y ≡ false
differ x y h = search (rules, Decides-int_eq)

pub here : (v x : ℤ) (xs : List ℤ) → v ≡ x → position_or_len (int_eq v) (x ∷ xs) ≡ 0
here v x xs e = rw (e, equal x) refl

pub later : (v x : ℤ) (xs : List ℤ) → (v ≡ x → ⊥) → position_or_len (int_eq v) (x ∷ xs) ≡ suc (position_or_len (int_eq v) xs)
later v x xs h = rw (differ v x h) (omega arith)

lt_not : (x y : ℤ) → int_lt x y ≡ true → int_lt y x ≡ false
lt_not x y h = grind (arith, ints)

lt_apart : (x y : ℤ) → int_lt x y ≡ true → x ≡ y → ⊥
lt_apart x y h e = grind (arith, ints)

max_kept : (x m : ℤ) (b : Test) → int_lt m x ≡ b → int_lt x m ≡ false → int_max x m ≡ x
max_kept x m true e h = rw e refl
max_kept x m false e h = rw e (same_both m x e h)

abbrev pub extreme_of : Test → List ℤ → ℤ
extreme_of least xs = if least then least_of xs else greatest_of xs

taken : (least : Test) (x y : ℤ) (ys : List ℤ) → is_beyond least (extreme_of least (y ∷ ys)) x ≡ true → extreme_of least (x ∷ y ∷ ys) ≡ extreme_of least (y ∷ ys)
taken true x y ys e = rw e refl
taken false x y ys e = rw (lt_not x (greatest_of (y ∷ ys)) e) refl

kept : (least : Test) (x y : ℤ) (ys : List ℤ) → is_beyond least (extreme_of least (y ∷ ys)) x ≡ false → extreme_of least (x ∷ y ∷ ys) ≡ x
kept true x y ys e = rw e refl
kept false x y ys e = max_kept x (greatest_of (y ∷ ys)) (int_lt (greatest_of (y ∷ ys)) x) refl e

beyond_apart : (least : Test) (m x : ℤ) → is_beyond least m x ≡ true → m ≡ x → ⊥
beyond_apart true m x h e = lt_apart m x h e
beyond_apart false m x h e = lt_apart x m h (sym e)

or_right : (b c : Test) → c ≡ false → (b || c) ≡ b
or_right true c e = refl
or_right false c e = e

and_right : (b c : Test) → c ≡ false → (b && c) ≡ false
and_right true c e = e
and_right false c e = refl

not_earlier : (p q : ℕ) → q ≤ p → int_lt (pos p) (pos q) ≡ false
not_earlier p q h = grind (arith, ints)

-- one that stands later is better exactly where its number is beyond
later_better : (least : Test) (m x : ℤ) (p q : ℕ) → q ≤ p → is_better least (record { value = m; place = pos p }) (record { value = x; place = pos q }) ≡ is_beyond least m x
later_better least m x p q h =
    or_right (is_beyond least m x) (not (is_beyond least x m) && int_lt (pos p) (pos q)) (and_right (not (is_beyond least x m)) (int_lt (pos p) (pos q)) (not_earlier p q h))

place_of_extreme : (least : Test) (xs : List ℤ) → best_place least xs ≡ position_or_len (int_eq (extreme_of least xs)) xs
place_of_extreme least xs = refl

of_one : (least : Test) (x : ℤ) → extreme_of least (x ∷ []) ≡ x
of_one true x = refl
of_one false x = refl

abbrev stands : Test → ℕ → List ℤ → Found
stands least first xs = record { value = extreme_of least xs; place = pos (first + best_place least xs) }

front : (least : Test) (first : ℕ) (x y : ℤ) (ys : List ℤ) (b : Test) → is_beyond least (extreme_of least (y ∷ ys)) x ≡ b
    → (if b then stands least (first + 1) (y ∷ ys) else record { value = x; place = pos first }) ≡ stands least first (x ∷ y ∷ ys)
front least first x y ys true e =
    let v : extreme_of least (x ∷ y ∷ ys) ≡ extreme_of least (y ∷ ys) = taken least x y ys e in
    let p : best_place least (x ∷ y ∷ ys) ≡ suc (best_place least (y ∷ ys)) =
    later (extreme_of least (x ∷ y ∷ ys)) x (y ∷ ys) (λ s. beyond_apart least (extreme_of least (y ∷ ys)) x e (sym v ∙ s))
    ∙ ap (λ m. suc (position_or_len (int_eq m) (y ∷ ys))) v in
    let q : first + 1 + best_place least (y ∷ ys) ≡ first + best_place least (x ∷ y ∷ ys) = omega (arith, p) in
    same_found (stands least (first + 1) (y ∷ ys)) (stands least first (x ∷ y ∷ ys)) (sym v) (ap (λ k. pos k) q)
front least first x y ys false e =
    let v : extreme_of least (x ∷ y ∷ ys) ≡ x = kept least x y ys e in
    let p : best_place least (x ∷ y ∷ ys) ≡ 0 = here (extreme_of least (x ∷ y ∷ ys)) x (y ∷ ys) v in
    let q : first ≡ first + best_place least (x ∷ y ∷ ys) = omega (arith, p) in
    same_found (record { value = x; place = pos first }) (stands least first (x ∷ y ∷ ys)) (sym v) (ap (λ k. pos k) q)

pub best_from : (least : Test) (first : ℕ) (x : ℤ) (xs : List ℤ) → best_of least (numbered first (x ∷ xs)) ≡ Some (stands least first (x ∷ xs))
best_from least first x [] =
    let p : best_place least (x ∷ []) ≡ 0 = here (extreme_of least (x ∷ [])) x [] (of_one least x) in
    let q : first ≡ first + best_place least (x ∷ []) = omega (arith, p) in
    ap (λ b. Some b) (same_found (record { value = x; place = pos first }) (stands least first (x ∷ [])) (sym (of_one least x)) (ap (λ k. pos k) q))
best_from least first x (y ∷ ys) =
    let own : Found = record { value = x; place = pos first } in
    let rest = stands least (first + 1) (y ∷ ys) in
    ap (better_of_some least (Some own)) (best_from least (first + 1) y ys)
    ∙ ap (λ b. Some (if b then rest else own)) (later_better least (extreme_of least (y ∷ ys)) x (first + 1 + best_place least (y ∷ ys)) first (omega arith))
    ∙ ap (λ b. Some b) (front least first x y ys (is_beyond least (extreme_of least (y ∷ ys)) x) refl)

pub best_numbered : (least : Test) (xs : List ℤ) → 0 < length xs
    → best_of least (numbered 0 xs) ≡ Some (record { value = if least then least_of xs else greatest_of xs; place = pos (best_place least xs) })
best_numbered least [] h = absurd (omega arith)
best_numbered least (x ∷ xs) h =
    let e : 0 + best_place least (x ∷ xs) ≡ best_place least (x ∷ xs) = omega arith in
    best_from least 0 x xs ∙ ap (λ k. Some (record { value = extreme_of least (x ∷ xs); place = pos k })) e

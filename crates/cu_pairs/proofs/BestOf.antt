-- The order of numbers with their places, and the best of several.
use Rattle.std.proofs.Common.{◌≡◌, ℤ, true, false, sym, arith}
use Rattle.std.specs.Prelude.{Bool as Test, ◌≤ℤ◌, int_lt, not, ◌&&◌, ◌||◌}
use Rattle.std.proofs.lemmas.Int.{ints}
use Rattle.cu_reduce.specs.Places.{Found, is_beyond, is_better}
use Rattle.cu_pairs.specs.Elements.{found}

-- ---- the order

before : ℤ → ℤ → ℤ → ℤ → Test
before v w p q = int_lt v w || (not (int_lt w v) && int_lt p q)

before_past : (v b x p q r : ℤ) → before v b p q ≡ false → before x b r q ≡ true → before v x p r ≡ false
unfolding before
before_past v b x p q r h g = grind (arith, ints)

against_past : (v b x p q r : ℤ) → before b v p q ≡ false → before b x r q ≡ true → before x v p r ≡ false
unfolding before
against_past v b x p q r h g = grind (arith, ints)

not_before_own : (v p : ℤ) → before v v p p ≡ false
unfolding before
not_before_own v p = grind (arith, ints)

same_value : (v w p q : ℤ) → before v w p q ≡ false → before w v q p ≡ false → v ≡ w
unfolding before
same_value v w p q h g = grind (arith, ints)

same_place : (v w p q : ℤ) → before v w p q ≡ false → before w v q p ≡ false → p ≡ q
unfolding before
same_place v w p q h g = grind (arith, ints)

before_value : (v w p q : ℤ) → int_lt v w ≡ true → before v w p q ≡ true
unfolding before
before_value v w p q h = grind (arith, ints)

not_before_later : (v w p q : ℤ) → int_lt v w ≡ false → int_lt p q ≡ false → before v w p q ≡ false
unfolding before
not_before_later v w p q h g = grind (arith, ints)

-- what isn't better than b isn't better than an x that is
pub not_better_more : (least : Test) (v b x : Found) → is_better least v b ≡ false → is_better least x b ≡ true → is_better least v x ≡ false
unfolding before
not_better_more true v b x h g = before_past v.value b.value x.value v.place b.place x.place h g
not_better_more false v b x h g = against_past v.value b.value x.value v.place b.place x.place h g

pub not_better_own : (least : Test) (x : Found) → is_better least x x ≡ false
unfolding before
not_better_own true x = not_before_own x.value x.place
not_better_own false x = not_before_own x.value x.place

pub same_found : (least : Test) (x y : Found) → is_better least x y ≡ false → is_better least y x ≡ false → x ≡ y
unfolding before
same_found true x y h g =
    let value = same_value x.value y.value x.place y.place h g in
    let place = same_place x.value y.value x.place y.place h g in
    λ i. found (value i) (place i)
same_found false x y h g =
    let value = sym (same_value y.value x.value x.place y.place h g) in
    let place = same_place y.value x.value x.place y.place h g in
    λ i. found (value i) (place i)

-- a number that is beyond is better, and one that isn't and stands later isn't
pub better_value : (least : Test) (y x : Found) → is_beyond least y.value x.value ≡ true → is_better least y x ≡ true
unfolding before
better_value true y x h = before_value y.value x.value y.place x.place h
better_value false y x h = before_value x.value y.value y.place x.place h

pub not_better_later : (least : Test) (y x : Found) → is_beyond least y.value x.value ≡ false → int_lt y.place x.place ≡ false → is_better least y x ≡ false
unfolding before
not_better_later true y x h g = not_before_later y.value x.value y.place x.place h g
not_better_later false y x h g = not_before_later x.value y.value y.place x.place h g

not_before_beaten : (v w p q : ℤ) → int_lt v w ≡ false → int_lt w v ≡ true → before v w p q ≡ false
unfolding before
not_before_beaten v w p q h g = grind (arith, ints)

pub not_better_beaten : (least : Test) (y x : Found) → is_beyond least y.value x.value ≡ false → is_beyond least x.value y.value ≡ true → is_better least y x ≡ false
unfolding before
not_better_beaten true y x h g = not_before_beaten y.value x.value y.place x.place h g
not_better_beaten false y x h g = not_before_beaten x.value y.value y.place x.place h g

not_before_first : (v w p q : ℤ) → int_lt v w ≡ false → (v ≡ w → q ≤ℤ p) → before v w p q ≡ false
unfolding before
not_before_first v w p q h g = grind (arith, ints)

pub not_better_best : (least : Test) (y x : Found) → is_beyond least y.value x.value ≡ false → (y.value ≡ x.value → x.place ≤ℤ y.place) → is_better least y x ≡ false
unfolding before
not_better_best true y x h g = not_before_first y.value x.value y.place x.place h g
not_better_best false y x h g = not_before_first x.value y.value y.place x.place h (λ e. g (sym e))

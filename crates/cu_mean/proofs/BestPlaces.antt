-- The first place of the least and of the greatest element, from the last element on.
use Rattle.std.proofs.Common.{◌≡◌, ◌+◌, ◌≤ℤ◌, ◌<ℤ◌, suc, ℕ, ℤ, List, [], ◌∷◌, Bool, true, false, refl, sym, ap, ◌∙◌, arith, rules}
use Rattle.std.specs.Prelude.{int_le, int_lt}
use Rattle.std.specs.Int.{int_min, int_max}
use Rattle.std.specs.List.{position_or_len}
use Rattle.std.specs.Ordering.{int_eq}
use Rattle.std.proofs.lemmas.Int.{ints}
use Rattle.cu_reduce.specs.Folds.{least_of, greatest_of}
use Rattle.cu_reduce.specs.Places.{best_place}
use Rattle.cu_reduce.proofs.Bests.{here, later}
use Rattle.cu_mean.specs.Places.{best_number, takes_place, IsBestFrom}
use Rattle.cu_mean.specs.declared.places.Best.{Best}
use Rattle.cu_mean.specs.Reductions.{IsNone}

le_true : (x y : ℤ) → int_le x y ≡ true → x ≤ℤ y
le_true x y h = search rules

le_false : (x y : ℤ) → int_le x y ≡ false → y <ℤ x
le_false x y h = search rules

lt_false : (x y : ℤ) → y ≤ℤ x → int_lt x y ≡ false
lt_false x y h = search rules

lt_true : (x y : ℤ) → x <ℤ y → int_lt x y ≡ true
lt_true x y h = search rules

min_first : (x m : ℤ) → int_le x m ≡ true → int_min x m ≡ x
min_first x m h = rw (lt_false m x (le_true x m h)) refl

min_second : (x m : ℤ) → int_le x m ≡ false → int_min x m ≡ m
min_second x m h = rw (lt_true m x (le_false x m h)) refl

same_ends : (x m : ℤ) → m ≤ℤ x → int_lt m x ≡ false → m ≡ x
same_ends x m h g = let l : x ≤ℤ m = search rules in omega (arith, ints)

max_by : (x m : ℤ) (b : Bool) → int_lt m x ≡ b → m ≤ℤ x → int_max x m ≡ x
max_by x m true e h = rw e refl
max_by x m false e h = rw e (same_ends x m h e)

max_first : (x m : ℤ) → int_le m x ≡ true → int_max x m ≡ x
max_first x m h = max_by x m (int_lt m x) refl (le_true m x h)

max_second : (x m : ℤ) → int_le m x ≡ false → int_max x m ≡ m
max_second x m h = let l : x ≤ℤ m = let w : x <ℤ m = le_false m x h in omega (arith, ints) in rw (lt_false m x l) refl

-- ---- one element more in front

front_taken : (least : Bool) (x : ℤ) (xs : List ℤ) (last : Bool) → IsNone xs last → takes_place least x (best_number least xs) last ≡ true → x ≡ best_number least (x ∷ xs)
front_taken true x [] last n h = refl
front_taken false x [] last n h = refl
front_taken true x (y ∷ ys) last n h = let g = rw n at h in sym (min_first x (least_of (y ∷ ys)) g)
front_taken false x (y ∷ ys) last n h = let g = rw n at h in sym (max_first x (greatest_of (y ∷ ys)) g)

front_left : (least : Bool) (x : ℤ) (xs : List ℤ) (last : Bool) → IsNone xs last → takes_place least x (best_number least xs) last ≡ false
    → (best_number least (x ∷ xs) ≡ best_number least xs) × (best_number least (x ∷ xs) ≡ x → ⊥)
front_left true x [] last n h = let g = rw n at h in cc
front_left false x [] last n h = let g = rw n at h in cc
front_left true x (y ∷ ys) last n h =
    let g = rw n at h in
    let e = min_second x (least_of (y ∷ ys)) g in
    (e, λ s. let l : least_of (y ∷ ys) <ℤ x = le_false x (least_of (y ∷ ys)) g in let t : least_of (y ∷ ys) ≡ x = sym e ∙ s in omega (arith, ints))
front_left false x (y ∷ ys) last n h =
    let g = rw n at h in
    let e = max_second x (greatest_of (y ∷ ys)) g in
    (e, λ s. let l : x <ℤ greatest_of (y ∷ ys) = le_false (greatest_of (y ∷ ys)) x g in let t : greatest_of (y ∷ ys) ≡ x = sym e ∙ s in omega (arith, ints))

place_of_best : (least : Bool) (xs : List ℤ) → best_place least xs ≡ position_or_len (int_eq (best_number least xs)) xs
place_of_best least xs = refl

pub taken : (least : Bool) (x : ℤ) (xs : List ℤ) (from : ℕ) (best : Best) (last : Bool) → IsBestFrom least (from + 1) xs best → IsNone xs last → takes_place least x best.number last ≡ true
    → (x ≡ best_number least (x ∷ xs)) × (from ≡ from + best_place least (x ∷ xs))
taken least x xs from best last is none h =
    let e = front_taken least x xs last none (ap (λ (m : ℤ). takes_place least x m last) (sym is.number) ∙ h) in
    let p : best_place least (x ∷ xs) ≡ 0 = here (best_number least (x ∷ xs)) x xs (sym e) in
    (e, omega (arith, p))

pub left : (least : Bool) (x : ℤ) (xs : List ℤ) (from : ℕ) (best : Best) (last : Bool) → IsBestFrom least (from + 1) xs best → IsNone xs last → takes_place least x best.number last ≡ false
    → IsBestFrom least from (x ∷ xs) best
left least x xs from best last is none h =
    let w = front_left least x xs last none (ap (λ (m : ℤ). takes_place least x m last) (sym is.number) ∙ h) in
    let p : best_place least (x ∷ xs) ≡ suc (best_place least xs) = later (best_number least (x ∷ xs)) x xs w.1 ∙ ap (λ (v : ℤ). suc (position_or_len (int_eq v) xs)) w.0 in
    record { number = is.number ∙ sym w.0; place = omega (arith, p, is.place) }

-- The ranges in which a roll parts an array.
use Rattle.std.proofs.Common.{◌≡◌, ◌↔◌, ℕ, zero, suc, ◌-◌, ◌%◌, ◌*◌, ◌^◌, ◌<◌, ◌≤◌, ◌==◌, nat_lt, ℤ, pos, negsuc, List, [], ◌∷◌, length, get_or, ap, ◌∙◌, sym, subst, arith, inl, inr, if◌then◌else◌}
use Rattle.std.proofs.lemmas.Bool.Decides.{eqb_tells, nat_tests}
use Rattle.std.proofs.lemmas.List.{ext_get_or}
use Rattle.std.proofs.lemmas.List.FromFn.{length-map-range_with_len, get_or-map-range_with_len}
use Rattle.std.proofs.Math.Nat.{pow-suc}
use Rattle.std.proofs.lemmas.Nat.{mod_below}
use Rattle.cu_shape.specs.Index.{product, place_of, index_at, IsInside}
use Rattle.cu_shape.proofs.Places.{inside-length, index-inside, place-index, index-place}
use Rattle.cu_grid.specs.Counts.{IsRegion, IsWithin}
use Rattle.cu_grid.proofs.Meeting.{within_from, within_of}
use Rattle.cu_origin.proofs.AxesInside.{inside_at, inside_for_each}
use Rattle.cu_view.specs.Pieces.{turn_of, turn_on, ranges_on, ranges_of, range_on, range_at}
use Rattle.cu_view.proofs.Ranges.{region_from}

less_than : (n m : ℕ) → n - 1 - m ≤ n
less_than n m = omega arith

turn_below : (z : ℤ) (n : ℕ) → 0 < n → turn_of z n ≤ n
turn_below (pos a) n h = let b = mod_below a n h in elim (eqb_tells n 0) [
  | inl p ↦ absurd (let e = p.1 in omega arith)
  | inr p ↦ rw p.0 (omega arith)
]
turn_below (negsuc a) n h = elim (eqb_tells n 0) [
  | inl p ↦ absurd (let e = p.1 in omega arith)
  | inr p ↦ rw p.0 (less_than n (a % n))
]

pub turn_within : (z : ℤ) (n : ℕ) → turn_of z n ≤ n
turn_within z zero = omega arith
turn_within z (suc n) = turn_below z (suc n) (omega arith)

pub get_or-ranges : (shifts : List ℤ) (shape : List ℕ) (d : ℕ) → d < length shape → get_or (ranges_of shifts shape) d 0 ≡ ranges_on shifts shape d
get_or-ranges shifts shape d l = get_or-map-range_with_len (ranges_on shifts shape) 0 (length shape) d d 0 l (omega arith)

pub length-ranges : (shifts : List ℤ) (shape : List ℕ) → length (ranges_of shifts shape) ≡ length shape
length-ranges shifts shape = length-map-range_with_len (ranges_on shifts shape) 0 (length shape)

pub get_or-range_at : (shifts : List ℤ) (shape idx : List ℕ) (d : ℕ) → d < length shape → get_or (range_at shifts shape idx) d 0 ≡ range_on shifts shape idx d
get_or-range_at shifts shape idx d l = get_or-map-range_with_len (range_on shifts shape idx) 0 (length shape) d d 0 l (omega arith)

is_range : (i turn : ℕ) → (if nat_lt i turn then 1 else 0) < (if turn == 0 then 1 else 2)
is_range i turn = grind (arith, nat_tests)

pub ranges_inside : (shifts : List ℤ) (shape idx : List ℕ) → IsInside (ranges_of shifts shape) (range_at shifts shape idx)
ranges_inside shifts shape idx =
    let n = length-ranges shifts shape in
    inside_for_each (ranges_of shifts shape) (length shape) (range_on shifts shape idx) (sym n)
    (λ k l.
    let e = get_or-ranges shifts shape k (omega arith) in
    let r = is_range (get_or idx k 0) (turn_on shifts shape k) in
    omega arith)

-- on one axis, the range that was chosen holds what has it
in_range : (turn size range i lo hi : ℕ) → range < (if turn == 0 then 1 else 2) → turn ≤ size → i < size → lo ≡ (if range == 0 then turn else 0) → hi ≡ (if range == 0 then size else turn)
    → ((lo ≤ i) × (i < hi)) ↔ ((if nat_lt i turn then 1 else 0) ≡ range)
in_range turn size range i lo hi c t b el eh = (λ w. let x = w.0 in let y = w.1 in grind (arith, nat_tests), λ e. (grind (arith, nat_tests), grind (arith, nat_tests)))

in_order : (turn size range lo hi : ℕ) → turn ≤ size → lo ≡ (if range == 0 then turn else 0) → hi ≡ (if range == 0 then size else turn) → (lo ≤ hi) × (hi ≤ size)
in_order turn size range lo hi t el eh = (grind (arith, nat_tests), grind (arith, nat_tests))

-- a box that has on each axis the range with the chosen number
pub record IsRolled (shifts : List ℤ) (shape chosen lo hi : List ℕ) : Type 0 where
  pub lo_rank : length lo ≡ length shape
  pub hi_rank : length hi ≡ length shape
  pub begins : (d : ℕ) → d < length shape → get_or lo d 0 ≡ (if get_or chosen d 0 == 0 then turn_on shifts shape d else 0)
  pub ends : (d : ℕ) → d < length shape → get_or hi d 0 ≡ (if get_or chosen d 0 == 0 then get_or shape d 0 else turn_on shifts shape d)

pub rolled_region : (shifts : List ℤ) (shape chosen lo hi : List ℕ) → IsRolled shifts shape chosen lo hi → IsRegion shape lo hi
rolled_region shifts shape chosen lo hi r =
    region_from shape lo hi r.lo_rank r.hi_rank
    (λ k b. in_order (turn_on shifts shape k) (get_or shape k 0) (get_or chosen k 0) (get_or lo k 0) (get_or hi k 0) (turn_within _ (get_or shape k 0)) (r.begins k b) (r.ends k b))

on_axis : (shifts : List ℤ) (shape chosen lo hi idx : List ℕ) (k : ℕ) → IsRolled shifts shape chosen lo hi → IsInside (ranges_of shifts shape) chosen → IsInside shape idx → k < length shape
    → ((get_or lo k 0 ≤ get_or idx k 0) × (get_or idx k 0 < get_or hi k 0)) ↔ (range_on shifts shape idx k ≡ get_or chosen k 0)
on_axis shifts shape chosen lo hi idx k r c h l =
    let n = length-ranges shifts shape in
    let e = get_or-ranges shifts shape k l in
    let b : get_or chosen k 0 < get_or (ranges_of shifts shape) k 0 = inside_at (ranges_of shifts shape) chosen k c (omega arith) in
    in_range (turn_on shifts shape k) (get_or shape k 0) (get_or chosen k 0) (get_or idx k 0) (get_or lo k 0) (get_or hi k 0)
    (omega arith) (turn_within _ (get_or shape k 0)) (inside_at shape idx k h l) (r.begins k l) (r.ends k l)

pub rolled_exactly : (shifts : List ℤ) (shape chosen lo hi : List ℕ) (number : ℕ) → IsRolled shifts shape chosen lo hi → number < product (ranges_of shifts shape) → chosen ≡ index_at (ranges_of shifts shape) number
    → (idx : List ℕ) → IsInside shape idx → IsWithin lo hi idx ↔ (place_of (ranges_of shifts shape) (range_at shifts shape idx) ≡ number)
rolled_exactly shifts shape chosen lo hi number r b e idx h = (forth, back)
  where
    c : IsInside (ranges_of shifts shape) chosen
    c = subst (λ (x : List ℕ). IsInside (ranges_of shifts shape) x) (sym e) (index-inside (ranges_of shifts shape) number b)

    forth : IsWithin lo hi idx → place_of (ranges_of shifts shape) (range_at shifts shape idx) ≡ number
    forth w =
        let v = within_of lo hi idx w in
        let n = length-map-range_with_len (range_on shifts shape idx) 0 (length shape) in
        let m = inside-length (ranges_of shifts shape) chosen c in
        let q = length-ranges shifts shape in
        let p = v.lo_rank in
        let o = r.lo_rank in
        let s : range_at shifts shape idx ≡ chosen = ext_get_or 0 (range_at shifts shape idx) chosen (omega arith)
        (λ k l. get_or-range_at shifts shape idx k (omega arith) ∙ (on_axis shifts shape chosen lo hi idx k r c h (omega arith)).0 (v.at k (omega arith))) in
        ap (λ (x : List ℕ). place_of (ranges_of shifts shape) x) (s ∙ e) ∙ place-index (ranges_of shifts shape) number b

    back : place_of (ranges_of shifts shape) (range_at shifts shape idx) ≡ number → IsWithin lo hi idx
    back p =
        let s : chosen ≡ range_at shifts shape idx = e ∙ ap (λ (x : ℕ). index_at (ranges_of shifts shape) x) (sym p) ∙ index-place (ranges_of shifts shape) (range_at shifts shape idx) (ranges_inside shifts shape idx) in
        let n = inside-length shape idx h in
        let a = r.lo_rank in
        let d = r.hi_rank in
        within_from lo hi idx (omega arith) (omega arith)
        (λ k l. (on_axis shifts shape chosen lo hi idx k r c h (omega arith)).1 (sym (get_or-range_at shifts shape idx k (omega arith)) ∙ ap (λ (x : List ℕ). get_or x k 0) (sym s)))

-- ---- how many boxes

two_times : (d p q : ℕ) → d ≤ 2 → p ≤ q → d * p ≤ 2 * q
two_times d p q a b = grind arith

at_most_two : (ds : List ℕ) → ((k : ℕ) → k < length ds → get_or ds k 0 ≤ 2) → product ds ≤ 2 ^ length ds
at_most_two [] h = omega arith
at_most_two (d ∷ ds) h =
    let a = h 0 (omega arith) in
    let b = at_most_two ds (λ k l. h (suc k) (omega arith)) in
    let t = two_times d (product ds) (2 ^ length ds) a b in
    let e : 2 ^ suc (length ds) ≡ 2 ^ length ds * 2 = pow-suc 2 (length ds) in
    omega arith

power_small : (n : ℕ) → n ≤ 6 → 2 ^ n ≤ 64
power_small zero h = omega arith
power_small (suc zero) h = omega arith
power_small (suc (suc zero)) h = omega arith
power_small (suc (suc (suc zero))) h = omega arith
power_small (suc (suc (suc (suc zero)))) h = omega arith
power_small (suc (suc (suc (suc (suc zero))))) h = omega arith
power_small (suc (suc (suc (suc (suc (suc zero)))))) h = omega arith
power_small (suc (suc (suc (suc (suc (suc (suc n))))))) h = absurd (omega arith)

is_small : (t : ℕ) → (if t == 0 then 1 else 2) ≤ 2
is_small t = grind (arith, nat_tests)

pub few_ranges : (shifts : List ℤ) (shape : List ℕ) → length shape ≤ 6 → product (ranges_of shifts shape) ≤ 64
few_ranges shifts shape h =
    let n = length-ranges shifts shape in
    let p = at_most_two (ranges_of shifts shape) (λ k l. let e = get_or-ranges shifts shape k (omega arith) in let s = is_small (turn_on shifts shape k) in omega arith) in
    let q = power_small (length (ranges_of shifts shape)) (omega arith) in
    omega arith

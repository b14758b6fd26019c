-- Indices that lie inside, told by their axes.
use Rattle.std.proofs.Common.{◌≡◌, ℕ, zero, suc, ◌-◌, ◌%◌, ◌<◌, ◌==◌, ◌⊎◌, nat_lt, eqb, Bool, true, false, ℤ, pos, negsuc, List, [], ◌∷◌, Contains, length, map, get_or, refl, ap, ◌∙◌, sym, arith, inl, inr, if◌then◌else◌}
use Rattle.std.specs.Int.{int_rem_euclid}
use Rattle.std.specs.List.{position_or_len}
use Rattle.std.proofs.lemmas.Bool.{ltb-true, ltb-false, eqb-true, eq-eqb}
use Rattle.std.proofs.lemmas.Grind.{get_or_default_zero}
use Rattle.std.proofs.lemmas.Int.{ints}
use Rattle.std.proofs.lemmas.List.{length-map, get_or-map}
use Rattle.std.proofs.lemmas.List.FromFn.{length-map-range_with_len, get_or-map-range_with_len}
use Rattle.std.proofs.lemmas.List.Sums.{fails_before_first, passes_at_first}
use Rattle.std.proofs.lemmas.Nat.{mod_below}
use Rattle.cu_shape.specs.Index.{IsInside}
use Rattle.cu_shape.specs.Slice.{at_least_zero, index_taken, IsIndex}
use Rattle.cu_shape.specs.declared.slice.Run.{Run}
use Rattle.cu_origin.specs.Fits.{AreRuns}
use Rattle.cu_origin.specs.Pull.{for_each_axis, has_axis, permuted_on, flipped_on, flipped, rolled_on, rolled, taken_by, counts_of_runs}
use Rattle.cu_origin.specs.declared.axes.Axes.{Axes}

pub by_test : (t : Bool) → (t ≡ true) ⊎ (t ≡ false)
by_test true = inl refl
by_test false = inr refl

-- an index inside, read at an axis
pub inside_at : (ds is : List ℕ) (k : ℕ) → IsInside ds is → k < length ds → get_or is k 0 < get_or ds k 0
inside_at [] is k h l = absurd (omega arith)
inside_at (d ∷ ds) [] k h l = absurd h
inside_at (d ∷ ds) (i ∷ is) zero h l = h.0
inside_at (d ∷ ds) (i ∷ is) (suc k) h l = inside_at ds is k h.1 (omega arith)

-- and back
pub inside_from : (ds is : List ℕ) → length is ≡ length ds → ((k : ℕ) → k < length ds → get_or is k 0 < get_or ds k 0) → IsInside ds is
inside_from [] [] e h = tt
inside_from [] (i ∷ is) e h = absurd (omega arith)
inside_from (d ∷ ds) [] e h = absurd (omega arith)
inside_from (d ∷ ds) (i ∷ is) e h = (h 0 (omega arith), inside_from ds is (omega arith) (λ k l. h (suc k) (omega arith)))

pub inside_for_each : (ds : List ℕ) (n : ℕ) (f : ℕ → ℕ) → n ≡ length ds → ((k : ℕ) → k < length ds → f k < get_or ds k 0) → IsInside ds (for_each_axis n f)
inside_for_each ds n f e h =
    inside_from ds (for_each_axis n f) (length-map-range_with_len f 0 n ∙ e)
    (λ k l.
    let v : get_or (for_each_axis n f) k 0 ≡ f k = get_or-map-range_with_len f 0 n k k 0 (omega arith) (omega arith) in
    let b : f k < get_or ds k 0 = h k l in
    omega arith)

-- ---- the runs of a slice

natural_inside : (z : ℤ) (n : ℕ) → IsIndex z n → at_least_zero z < n
natural_inside (pos x) n h = let b = h.1 in omega (arith, ints)
natural_inside (negsuc x) n h = absurd (let b = h.0 in omega (arith, ints))

pub runs_inside : (runs : List Run) (ns is : List ℕ) → AreRuns runs ns → IsInside (counts_of_runs runs) is → IsInside ns (taken_by runs is)
runs_inside [] [] is r h = tt
runs_inside [] (n ∷ ns) is r h = absurd r
runs_inside (run ∷ runs) [] is r h = absurd r
runs_inside (run ∷ runs) (n ∷ ns) [] r h = absurd h
runs_inside (run ∷ runs) (n ∷ ns) (i ∷ is) r h = (natural_inside (index_taken run i) n (r.0 i h.0), runs_inside runs ns is r.1 h.1)

-- ---- an axis that is turned round or along

turned : (b : Bool) (n i : ℕ) → i < n → (if b then n - 1 - i else i) < n
turned true n i h = omega arith
turned false n i h = h

pub flipped_inside : (axes : Axes) (ds is : List ℕ) → IsInside ds is → IsInside ds (flipped axes ds is)
flipped_inside axes ds is h =
    inside_for_each ds (length ds) (flipped_on axes ds is) refl (λ k l. turned (has_axis axes k) (get_or ds k 0) (get_or is k 0) (inside_at ds is k h l))

less_than : (n m : ℕ) → 0 < n → n - 1 - m < n
less_than n m h = omega arith

turned_along : (z : ℤ) (n : ℕ) → 0 < n → at_least_zero (int_rem_euclid z (pos n)) < n
turned_along (pos a) n h = mod_below a n h
turned_along (negsuc a) n h = less_than n (a % n) h

pub rolled_inside : (shifts : List ℤ) (ds is : List ℕ) → IsInside ds is → IsInside ds (rolled shifts ds is)
rolled_inside shifts ds is h =
    inside_for_each ds (length ds) (rolled_on shifts ds is) refl (λ k l. turned_along _ (get_or ds k 0) (let b = inside_at ds is k h l in omega arith))

-- ---- axes in another order

true_false : (b : Bool) → b ≡ true → b ≡ false → ⊥
true_false true h g = cc
true_false false h g = cc

-- a number of the list stands at the first place that has it
first_place : (axes : List ℕ) (d : ℕ) → Contains axes d → (position_or_len (λ (axis : ℕ). axis == d) axes < length axes) × (get_or axes (position_or_len (λ (axis : ℕ). axis == d) axes) 0 ≡ d)
first_place axes d c =
    let b : position_or_len (λ (axis : ℕ). axis == d) axes < length axes = within in
    (b, sym (get_or_default_zero axes _ d b) ∙ eqb-true _ d (passes_at_first (λ (axis : ℕ). axis == d) axes d b))
  where
    within : position_or_len (λ (axis : ℕ). axis == d) axes < length axes
    within = elim (by_test (nat_lt c.0 (position_or_len (λ (axis : ℕ). axis == d) axes))) [
      | inl p ↦ absurd (true_false (eqb (get_or axes c.0 d) d) (eq-eqb _ d c.2) (fails_before_first (λ (axis : ℕ). axis == d) axes c.0 d (ltb-true _ _ p)))
      | inr p ↦ let e = ltb-false c.0 (position_or_len (λ (axis : ℕ). axis == d) axes) p in let l = c.1 in omega arith
    ]

below_at : (f : ℕ → ℕ) (axes idx : List ℕ) (j d : ℕ) → IsInside (map f axes) idx → j < length axes → get_or axes j 0 ≡ d → get_or idx j 0 < f d
below_at f axes idx j d h l e =
    let n : length (map f axes) ≡ length axes = length-map axes f in
    let i : get_or idx j 0 < get_or (map f axes) j 0 = inside_at (map f axes) idx j h (omega arith) in
    let m : get_or (map f axes) j 0 ≡ f d = get_or-map f axes j 0 0 l ∙ ap f e in
    omega arith

pub permuted_inside : (axes ds is : List ℕ) → length axes ≡ length ds → ((d : ℕ) → d < length ds → Contains axes d) → IsInside (map (λ axis. get_or ds axis 0) axes) is → IsInside ds (for_each_axis (length axes) (permuted_on axes is))
permuted_inside axes ds is e all h =
    inside_for_each ds (length axes) (permuted_on axes is) e
    (λ k l. let q = first_place axes k (all k l) in below_at (λ axis. get_or ds axis 0) axes is _ k h q.0 q.1)

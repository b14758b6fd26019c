-- Indices in another shape, by their places.
use Rattle.std.proofs.Common.{◌≡◌, ℕ, zero, suc, ◌+◌, ◌-◌, ◌*◌, ◌/◌, ◌%◌, ◌<◌, ◌≤◌, List, [], ◌∷◌, length, get_or, refl, sym, ap, ◌∙◌, subst, arith, inl, inr, ◌≢◌, set, below_more}
use Rattle.std.proofs.lemmas.Bool.{cases_lt}
use Rattle.std.proofs.lemmas.Nat.{mul-le, div-add-mod', mod_below, div_below}
use Rattle.std.proofs.lemmas.List.{get_or-set_same, get_or-set_other, length-set}
use Rattle.std.proofs.Math.Nat.{lt-div-mul-add}
use Rattle.cu_shape.specs.Index.{product, place_of, index_at, IsInside}
use Rattle.cu_shape.proofs.Places.{index-inside, inside-length}
use Rattle.cu_grid.specs.Counts.{IsWithin, IsRegion}
use Rattle.cu_grid.proofs.Meeting.{within_of, within_from, inside_from}
use Rattle.cu_grid.proofs.Covers.{bounds_of}
use Rattle.cu_grid.proofs.Regions.{inside-at}
use Rattle.cu_view_box.proofs.Boxes.{region_from}

-- an index that is at most another on each axis stands at no later place
pub place_most : (ds is js : List ℕ) → length is ≡ length js → ((k : ℕ) → k < length is → get_or is k 0 ≤ get_or js k 0) → place_of ds is ≤ place_of ds js
place_most [] is js e h = omega arith
place_most (d ∷ ds) [] [] e h = omega arith
place_most (d ∷ ds) [] (j ∷ js) e h = absurd (omega arith)
place_most (d ∷ ds) (i ∷ is) [] e h = absurd (omega arith)
place_most (d ∷ ds) (i ∷ is) (j ∷ js) e h =
    let p : i * product ds ≤ j * product ds = mul-le i (product ds) j (product ds) (h 0 (omega arith)) (omega arith) in
    let q = place_most ds is js (omega arith) (λ k b. h (suc k) (omega arith)) in
    omega arith

div_most : (p q m : ℕ) → 0 < m → p ≤ q → p / m ≤ q / m
div_most p q m some h =
    let b : q < q / m * m + m = lt-div-mul-add {a = q} {b = m} some in
    let c : p / m < q / m + 1 = div_below p m (q / m + 1) some (omega arith) in
    omega arith

rest_positive : (d m p : ℕ) → p < d * m → 0 < m
rest_positive d zero p h = absurd (omega arith)
rest_positive d (suc m) p h = omega arith

-- up to the first axis on which the indices of two places differ, the index of a place between them lies between them
pub index_between : (ds : List ℕ) (p q r s : ℕ) → p ≤ q → q ≤ r → r < product ds
    → ((k : ℕ) → k < s → get_or (index_at ds p) k 0 ≡ get_or (index_at ds r) k 0) → (k : ℕ) → k ≤ s
    → (get_or (index_at ds p) k 0 ≤ get_or (index_at ds q) k 0) × (get_or (index_at ds q) k 0 ≤ get_or (index_at ds r) k 0)
index_between [] p q r s a b below same k c = (omega arith, omega arith)
index_between (d ∷ ds) p q r s a b below same zero c = let some = rest_positive d (product ds) r below in (div_most p q (product ds) some a, div_most q r (product ds) some b)
index_between (d ∷ ds) p q r s a b below same (suc k) c =
    let heads : p / product ds ≡ r / product ds = same 0 (omega arith) in
    let some : 0 < product ds = rest_positive d (product ds) r below in
    let x : p / product ds ≤ q / product ds = div_most p q (product ds) some a in
    let y : q / product ds ≤ r / product ds = div_most q r (product ds) some b in
    let e : p / product ds * product ds + p % product ds ≡ p = div-add-mod' p (product ds) in
    let f : q / product ds * product ds + q % product ds ≡ q = div-add-mod' q (product ds) in
    let g : r / product ds * product ds + r % product ds ≡ r = div-add-mod' r (product ds) in
    let hp : p / product ds ≡ q / product ds = omega arith in
    let hr : r / product ds ≡ q / product ds = omega arith in
    let e' : q / product ds * product ds + p % product ds ≡ p = rw hp at e in
    let g' : q / product ds * product ds + r % product ds ≡ r = rw hr at g in
    index_between ds (p % product ds) (q % product ds) (r % product ds) (s - 1) (omega arith) (omega arith) (mod_below r (product ds) some)
    (λ j l. same (suc j) (omega arith)) k (omega arith)

-- the places of a region lie between those of its two ends, below the number of elements
pub places_between : (shape lo hi last idx : List ℕ) → IsWithin lo hi lo → IsWithin lo hi last
    → ((k : ℕ) → k < length lo → get_or last k 0 ≡ get_or hi k 0 - 1) → IsWithin lo hi idx
    → (place_of shape lo ≤ place_of shape idx) × (place_of shape idx ≤ place_of shape last)
places_between shape lo hi last idx some end ends w =
    let a = within_of lo hi lo some in
    let i = within_of lo hi idx w in
    let z = within_of lo hi last end in
    let ra = a.lo_rank in
    let ri = i.lo_rank in
    let rz = z.lo_rank in (
      place_most shape lo idx (omega arith) (λ k b. (i.at k (omega arith)).0),
      place_most shape idx last (omega arith) (λ k b. (let p = (i.at k b).1 in let q = ends k (omega arith) in omega arith)),
    )

-- an index of a region lies inside the array
pub region_inside_shape : (shape lo hi idx : List ℕ) → IsRegion shape lo hi → IsWithin lo hi idx → IsInside shape idx
region_inside_shape shape lo hi idx region w =
    let b = bounds_of shape lo hi region in
    let i = within_of lo hi idx w in
    let b0 = b.lo_rank in
    let i0 = i.lo_rank in
    inside_from shape idx (sym i.lo_rank ∙ b.lo_rank) (λ k c. (let p = (i.at k (omega arith)).1 in let q = (b.at k c).1 in omega arith))

-- the hull of places: as the ends tell up to the first axis on which they differ, and whole behind it
pub record IsHull (source first last lo hi : List ℕ) (apart end : ℕ) : Type 0 where
  pub lo_rank : length lo ≡ length source
  pub hi_rank : length hi ≡ length source
  pub low : (k : ℕ) → k < end → k ≤ apart → get_or lo k 0 ≡ get_or first k 0
  pub low_behind : (k : ℕ) → k < end → apart < k → get_or lo k 0 ≡ 0
  pub high : (k : ℕ) → k < end → k ≤ apart → get_or hi k 0 ≡ get_or last k 0 + 1
  pub high_behind : (k : ℕ) → k < end → apart < k → get_or hi k 0 ≡ get_or source k 0

pub hull_within : (source : List ℕ) (p q r : ℕ) (lo hi : List ℕ) (apart end : ℕ) → p ≤ q → q ≤ r → r < product source → end ≡ length source
    → ((k : ℕ) → k < apart → get_or (index_at source p) k 0 ≡ get_or (index_at source r) k 0)
    → IsHull source (index_at source p) (index_at source r) lo hi apart end → IsWithin lo hi (index_at source q)
hull_within source p q r lo hi apart end a b below ee same hull =
    let inside = index-inside source q (omega arith) in
    let n = inside-length source (index_at source q) inside in
    within_from lo hi (index_at source q) (hull.lo_rank ∙ sym n) (hull.hi_rank ∙ sym n)
    (λ k c. elim (cases_lt apart k) [
      | inl behind ↦
          let l = hull.low_behind k (omega arith) behind in
          let h = hull.high_behind k (omega arith) behind in
          let i = inside-at source (index_at source q) k inside (omega arith) in
          (omega arith, omega arith)
      | inr before ↦
          let l = hull.low k (omega arith) before in
          let h = hull.high k (omega arith) before in
          let m = index_between source p q r apart a b below same k before in
          let m0 = m.0 in
          let m1 = m.1 in
          (omega arith, omega arith)
    ])

pub hull_region_of : (source : List ℕ) (p r : ℕ) (lo hi : List ℕ) (apart end : ℕ) → p ≤ r → r < product source → end ≡ length source
    → ((k : ℕ) → k < apart → get_or (index_at source p) k 0 ≡ get_or (index_at source r) k 0)
    → IsHull source (index_at source p) (index_at source r) lo hi apart end → IsRegion source lo hi
hull_region_of source p r lo hi apart end a below ee same hull =
    let inside = index-inside source r below in
    region_from source lo hi hull.lo_rank hull.hi_rank
    (λ k c. elim (cases_lt apart k) [
      | inl behind ↦
          let l = hull.low_behind k (omega arith) behind in
          let h = hull.high_behind k (omega arith) behind in
          (omega arith, omega arith)
      | inr before ↦
          let l = hull.low k (omega arith) before in
          let h = hull.high k (omega arith) before in
          let m = (index_between source p r r apart a (omega arith) below same k before).0 in
          let i = inside-at source (index_at source r) k inside c in
          (omega arith, omega arith)
    ])

-- one axis more
pub hull_more : (source first last lo hi new_lo new_hi : List ℕ) (apart axis from to i j n : ℕ) → axis < length source
    → new_lo ≡ set lo axis from → new_hi ≡ set hi axis to → i ≡ get_or first axis 0 → j ≡ get_or last axis 0 → n ≡ get_or source axis 0
    → (axis ≤ apart → (from ≡ i) × (to ≡ j + 1)) → (apart < axis → (from ≡ 0) × (to ≡ n))
    → IsHull source first last lo hi apart axis → IsHull source first last new_lo new_hi apart (axis + 1)
hull_more source first last lo hi new_lo new_hi apart axis from to i j n b el eh ei ej en before behind was =
    let r0 = was.lo_rank in
    let r1 = was.hi_rank in
    record {
      lo_rank = ap length el ∙ length-set lo axis from ∙ was.lo_rank;
      hi_rank = ap length eh ∙ length-set hi axis to ∙ was.hi_rank;
      low = below_more (λ k. k ≤ apart → get_or new_lo k 0 ≡ get_or first k 0) axis (λ k c d. other lo new_lo from k el c ∙ was.low k c d)
          (λ d. own lo new_lo from (omega arith) el ∙ (before d).0 ∙ ei);
      low_behind = below_more (λ k. apart < k → get_or new_lo k 0 ≡ 0) axis (λ k c d. other lo new_lo from k el c ∙ was.low_behind k c d)
          (λ d. own lo new_lo from (omega arith) el ∙ (behind d).0);
      high = below_more (λ k. k ≤ apart → get_or new_hi k 0 ≡ get_or last k 0 + 1) axis (λ k c d. other hi new_hi to k eh c ∙ was.high k c d)
          (λ d. own hi new_hi to (omega arith) eh ∙ (before d).1 ∙ ap (λ m. m + 1) ej);
      high_behind = below_more (λ k. apart < k → get_or new_hi k 0 ≡ get_or source k 0) axis (λ k c d. other hi new_hi to k eh c ∙ was.high_behind k c d)
          (λ d. own hi new_hi to (omega arith) eh ∙ (behind d).1 ∙ en);
    }
  where
    other : (xs ys : List ℕ) (v k : ℕ) → ys ≡ set xs axis v → k < axis → get_or ys k 0 ≡ get_or xs k 0
    other xs ys v k e c = let apart_k : k ≢ axis = omega arith in rw e (get_or-set_other xs axis k v 0 apart_k)

    own : (xs ys : List ℕ) (v : ℕ) → axis < length xs → ys ≡ set xs axis v → get_or ys axis 0 ≡ v
    own xs ys v c e = rw e (get_or-set_same xs axis v 0 c)

pub hull_none : (source first last : List ℕ) (apart : ℕ) → IsHull source first last source source apart 0
hull_none source first last apart = record {
  lo_rank = refl;
  hi_rank = refl;
  low = λ k c. absurd (omega arith);
  low_behind = λ k c. absurd (omega arith);
  high = λ k c. absurd (omega arith);
  high_behind = λ k c. absurd (omega arith);
}

-- ---- the hull between the two ends of a region
module _ (source shape lo hi last : List ℕ) (p r : ℕ) (first_read last_read hull_lo hull_hi : List ℕ) (apart end : ℕ)
    (some : IsWithin lo hi lo) (within : IsWithin lo hi last) (ends : (k : ℕ) → k < length lo → get_or last k 0 ≡ get_or hi k 0 - 1)
    (ep : p ≡ place_of shape lo) (er : r ≡ place_of shape last) (below : r < product shape) (same : product source ≡ product shape)
    (ef : first_read ≡ index_at source p) (el : last_read ≡ index_at source r) (ee : end ≡ length source)
    (agree : (k : ℕ) → k < apart → get_or first_read k 0 ≡ get_or last_read k 0) (hull : IsHull source first_read last_read hull_lo hull_hi apart end) where
  whole : IsHull source (index_at source p) (index_at source r) hull_lo hull_hi apart end
  whole = subst (λ (is : List ℕ). IsHull source is (index_at source r) hull_lo hull_hi apart end) ef (subst (λ (is : List ℕ). IsHull source first_read is hull_lo hull_hi apart end) el hull)

  agreed : (k : ℕ) → k < apart → get_or (index_at source p) k 0 ≡ get_or (index_at source r) k 0
  agreed k b = ap (λ is. get_or is k 0) (sym ef) ∙ agree k b ∙ ap (λ is. get_or is k 0) el

  pub hull_of_ends : (idx : List ℕ) → IsWithin lo hi idx → IsWithin hull_lo hull_hi (index_at source (place_of shape idx))
  hull_of_ends idx w =
      let b = places_between shape lo hi last idx some within ends w in
      hull_within source p (place_of shape idx) r hull_lo hull_hi apart end (rw ep b.0) (rw er b.1) (omega arith) ee agreed whole

  pub hull_region_of_ends : IsRegion source hull_lo hull_hi
  hull_region_of_ends =
      let b = places_between shape lo hi last lo some within ends some in
      hull_region_of source p r hull_lo hull_hi apart end (rw (ep, er) b.1) (omega arith) ee agreed whole

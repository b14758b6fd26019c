-- Boxes that are cut on an axis.
use Rattle.std.proofs.Common.{◌≡◌, ◌↔◌, ℕ, zero, suc, ◌+◌, ◌-◌, ◌<◌, ◌≤◌, List, [], ◌∷◌, length, get_or, set, min, max, arith, below_more}
use Rattle.cu_grid.specs.Counts.{IsWithin, IsRegion}
use Rattle.cu_view_box.specs.Way.{read_by}
use Rattle.cu_view_box.specs.declared.way.Way.{Way}
use Rattle.cu_grid.proofs.Meeting.{within_of, within_from}

-- an index of a region, read at an axis
pub at_axis : (lo hi idx : List ℕ) (k : ℕ) → IsWithin lo hi idx → k < length lo → (get_or lo k 0 ≤ get_or idx k 0) × (get_or idx k 0 < get_or hi k 0)
at_axis lo hi idx k w b = let v = within_of lo hi idx w in let r = v.lo_rank in v.at k (omega arith)

cut_in : (lo hi idx : List ℕ) (k l h : ℕ) → length hi ≡ length lo → k < length lo → IsWithin lo hi idx → l ≤ get_or idx k 0 → get_or idx k 0 < h → IsWithin (set lo k l) (set hi k h) idx
cut_in (x ∷ lo) (y ∷ hi) (i ∷ idx) zero l h e b w p q = (p, q, w.2)
cut_in (x ∷ lo) (y ∷ hi) (i ∷ idx) (suc k) l h e b w p q = (w.0, w.1, cut_in lo hi idx k l h (omega arith) (omega arith) w.2 p q)
cut_in lo hi idx k l h e b w p q = absurd (first_of (assumption, omega arith))

cut_out : (lo hi idx : List ℕ) (k l h : ℕ) → length hi ≡ length lo → k < length lo → get_or lo k 0 ≤ l → h ≤ get_or hi k 0 → IsWithin (set lo k l) (set hi k h) idx
    → IsWithin lo hi idx × (l ≤ get_or idx k 0) × (get_or idx k 0 < h)
cut_out (x ∷ lo) (y ∷ hi) (i ∷ idx) zero l h e b p q w = let a = w.0 in let z = w.1 in ((omega arith, omega arith, w.2), a, z)
cut_out (x ∷ lo) (y ∷ hi) (i ∷ idx) (suc k) l h e b p q w = let r = cut_out lo hi idx k l h (omega arith) (omega arith) p q w.2 in ((w.0, w.1, r.0), r.1, r.2)
cut_out (x ∷ lo) (y ∷ hi) [] zero l h e b p q w = absurd w
cut_out lo hi idx k l h e b p q w = absurd (first_of (assumption, omega arith))

-- a region whose ends on an axis are moved in
pub within_set : (lo hi idx : List ℕ) (k l h : ℕ) → length hi ≡ length lo → k < length lo → get_or lo k 0 ≤ l → h ≤ get_or hi k 0
    → IsWithin (set lo k l) (set hi k h) idx ↔ (IsWithin lo hi idx × (l ≤ get_or idx k 0) × (get_or idx k 0 < h))
within_set lo hi idx k l h e b p q = (cut_out lo hi idx k l h e b p q, λ r. cut_in lo hi idx k l h e b r.0 r.1 r.2)

pub within_cut : (lo hi idx : List ℕ) (k l h : ℕ) → length hi ≡ length lo → k < length lo
    → IsWithin (set lo k (max (get_or lo k 0) l)) (set hi k (min (get_or hi k 0) h)) idx ↔ (IsWithin lo hi idx × (l ≤ get_or idx k 0) × (get_or idx k 0 < h))
within_cut lo hi idx k l h e b = (forth, back)
  where
    forth : IsWithin (set lo k (max (get_or lo k 0) l)) (set hi k (min (get_or hi k 0) h)) idx → IsWithin lo hi idx × (l ≤ get_or idx k 0) × (get_or idx k 0 < h)
    forth w =
        let r = cut_out lo hi idx k (max (get_or lo k 0) l) (min (get_or hi k 0) h) e b (omega arith) (omega arith) w in
        let p = r.1 in
        let q = r.2 in
        (r.0, omega arith, omega arith)

    back : IsWithin lo hi idx × (l ≤ get_or idx k 0) × (get_or idx k 0 < h) → IsWithin (set lo k (max (get_or lo k 0) l)) (set hi k (min (get_or hi k 0) h)) idx
    back r =
        let a = at_axis lo hi idx k r.0 b in
        let a0 = a.0 in
        let a1 = a.1 in
        let p = r.1 in
        let q = r.2 in
        cut_in lo hi idx k (max (get_or lo k 0) l) (min (get_or hi k 0) h) e b r.0 (omega arith) (omega arith)

-- one test more of an index
pub tests_more : {A B P : Type 0} (F : ℕ → Type 0) (n : ℕ) → (A ↔ (P × ((k : ℕ) → k < n → F k))) → (B ↔ (A × F n)) → B ↔ (P × ((k : ℕ) → k < n + 1 → F k))
tests_more F n a b = (λ y. (let q = b.0 y in let r = a.0 q.0 in (r.0, below_more F n r.1 q.1)), λ p. b.1 (a.1 (p.0, λ k l. p.1 k (omega arith)), p.1 n (omega arith)))

-- the indices at which a way along an axis reads in a range
pub narrowed_exactly : (way : Way) (lo hi base_lo base_hi idx new_lo new_hi : List ℕ) (axis low high from to extent first : ℕ)
    → axis < length base_lo → first ≡ get_or base_lo axis 0 → extent ≡ get_or base_hi axis 0 - first
    → (IsWithin lo hi idx → IsWithin base_lo base_hi idx)
    → (IsWithin new_lo new_hi idx ↔ (IsWithin lo hi idx × (first + from ≤ get_or idx axis 0) × (get_or idx axis 0 < first + to)))
    → ((t : ℕ) → ((from ≤ t) × (t < to)) ↔ ((t < extent) × (low ≤ read_by way t) × (read_by way t < high)))
    → IsWithin new_lo new_hi idx ↔ (IsWithin lo hi idx × (low ≤ read_by way (get_or idx axis 0 - get_or base_lo axis 0)) × (read_by way (get_or idx axis 0 - get_or base_lo axis 0) < high))
narrowed_exactly way lo hi base_lo base_hi idx new_lo new_hi axis low high from to extent first b ef ee inside cut reads = (forth, back)
  where
    forth : IsWithin new_lo new_hi idx → IsWithin lo hi idx × (low ≤ read_by way (get_or idx axis 0 - get_or base_lo axis 0)) × (read_by way (get_or idx axis 0 - get_or base_lo axis 0) < high)
    forth w =
        let p = cut.0 w in
        let p1 = p.1 in
        let p2 = p.2 in
        let r = (reads (get_or idx axis 0 - get_or base_lo axis 0)).0 (omega arith, omega arith) in
        (p.0, r.1, r.2)

    back : IsWithin lo hi idx × (low ≤ read_by way (get_or idx axis 0 - get_or base_lo axis 0)) × (read_by way (get_or idx axis 0 - get_or base_lo axis 0) < high) → IsWithin new_lo new_hi idx
    back p =
        let a = at_axis base_lo base_hi idx axis (inside p.0) b in
        let a0 = a.0 in
        let a1 = a.1 in
        let r = (reads (get_or idx axis 0 - get_or base_lo axis 0)).1 (omega arith, p.1, p.2) in
        let r0 = r.0 in
        let r1 = r.1 in
        cut.1 (p.0, omega arith, omega arith)

-- an index of both regions
pub in_both : (a_lo a_hi lo hi idx : List ℕ) (rank : ℕ) → rank ≡ length a_lo → length lo ≡ length a_lo → length hi ≡ length a_lo → IsWithin a_lo a_hi idx
    → ((k : ℕ) → k < rank → (get_or lo k 0 ≤ get_or idx k 0) × (get_or idx k 0 < get_or hi k 0)) → IsWithin lo hi idx
in_both a_lo a_hi lo hi idx rank er el eh w h =
    let v = within_of a_lo a_hi idx w in
    let r = v.lo_rank in
    within_from lo hi idx (omega arith) (omega arith) (λ k b. h k (omega arith))

pub each_axis : (lo hi idx : List ℕ) (rank : ℕ) → rank ≡ length lo → IsWithin lo hi idx → (k : ℕ) → k < rank → (get_or lo k 0 ≤ get_or idx k 0) × (get_or idx k 0 < get_or hi k 0)
each_axis lo hi idx rank e w k b = at_axis lo hi idx k w (omega arith)

pub no_index : (lo hi : List ℕ) (k : ℕ) → k < length lo → get_or hi k 0 ≤ get_or lo k 0 → (idx : List ℕ) → ¬ IsWithin lo hi idx
no_index lo hi k b e idx w = let a = at_axis lo hi idx k w b in let a0 = a.0 in let a1 = a.1 in omega arith

pub first_index : (lo hi : List ℕ) (rank : ℕ) → rank ≡ length lo → length hi ≡ length lo → ((k : ℕ) → k < rank → get_or lo k 0 < get_or hi k 0) → IsWithin lo hi lo
first_index lo hi rank er e h = within_from lo hi lo (omega arith) e (λ k b. let p = h k (omega arith) in (omega arith, p))

-- ---- the last index of a region
pub last_within : (lo hi last : List ℕ) → IsWithin lo hi lo → length last ≡ length hi → ((k : ℕ) → k < length hi → get_or last k 0 ≡ get_or hi k 0 - 1) → IsWithin lo hi last
last_within lo hi last w e h =
    let v = within_of lo hi lo w in
    let r = v.hi_rank in
    within_from lo hi last (omega arith) (omega arith) (λ k b. let p = v.at k (omega arith) in let p1 = p.1 in let q = h k (omega arith) in (omega arith, omega arith))

-- a region by its axes
pub region_from : (shape lo hi : List ℕ) → length lo ≡ length shape → length hi ≡ length shape → ((k : ℕ) → k < length shape → (get_or lo k 0 ≤ get_or hi k 0) × (get_or hi k 0 ≤ get_or shape k 0)) → IsRegion shape lo hi
region_from [] [] [] el eh h = tt
region_from (n ∷ ns) (x ∷ lo) (y ∷ hi) el eh h =
    let p = h 0 (omega arith) in
    (p.0, p.1, region_from ns lo hi (omega arith) (omega arith) (λ k b. h (suc k) (omega arith)))
region_from shape lo hi el eh h = absurd (omega arith)

-- an index of a region, moved on an axis
pub moved_within : (lo hi idx : List ℕ) (k v : ℕ) → IsWithin lo hi idx → k < length lo → get_or lo k 0 ≤ v → v < get_or hi k 0 → IsWithin lo hi (set idx k v)
moved_within (x ∷ lo) (y ∷ hi) (i ∷ idx) zero v w b p q = (p, q, w.2)
moved_within (x ∷ lo) (y ∷ hi) (i ∷ idx) (suc k) v w b p q = (w.0, w.1, moved_within lo hi idx k v w.2 (omega arith) p q)
moved_within lo hi idx k v w b p q = absurd (first_of (assumption, omega arith))

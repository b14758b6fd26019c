-- Boxes of an array, axis by axis.
use Rattle.std.proofs.Common.{◌≡◌, ◌↔◌, ℕ, zero, suc, ◌<◌, ◌≤◌, ◌==◌, List, [], ◌∷◌, length, get_or, set, refl, ap, ◌∙◌, arith, inl, inr, if◌then◌else◌}
use Rattle.std.proofs.lemmas.Bool.Decides.{eqb_tells}
use Rattle.std.proofs.lemmas.List.{length-set, get_or-set_same, get_or-set_other}
use Rattle.cu_shape.specs.Index.{IsInside}
use Rattle.cu_shape.proofs.Places.{inside-length}
use Rattle.cu_grid.specs.Counts.{IsRegion, IsWithin}
use Rattle.cu_grid.proofs.Meeting.{within_from, within_of}
use Rattle.cu_origin.proofs.AxesInside.{inside_at, inside_from}

pub region_from : (ns lo hi : List ℕ) → length lo ≡ length ns → length hi ≡ length ns → ((k : ℕ) → k < length ns → (get_or lo k 0 ≤ get_or hi k 0) × (get_or hi k 0 ≤ get_or ns k 0)) → IsRegion ns lo hi
region_from [] [] [] p q h = tt
region_from (n ∷ ns) (l ∷ ls) (h ∷ hs) p q f =
    let a = f 0 (omega arith) in
    (a.0, a.1, region_from ns ls hs (omega arith) (omega arith) (λ k b. f (suc k) (omega arith)))
region_from ns lo hi p q f = absurd (omega arith)

-- a region's ends, read at an axis
pub record Ends (ns lo hi : List ℕ) : Type 0 where
  pub lo_rank : length lo ≡ length ns
  pub hi_rank : length hi ≡ length ns
  pub at : (k : ℕ) → k < length ns → (get_or lo k 0 ≤ get_or hi k 0) × (get_or hi k 0 ≤ get_or ns k 0)

ends_more : (ns ls hs : List ℕ) (n l h : ℕ) → l ≤ h → h ≤ n → Ends ns ls hs → Ends (n ∷ ns) (l ∷ ls) (h ∷ hs)
ends_more ns ls hs n l h p q e = record { lo_rank = ap suc e.lo_rank; hi_rank = ap suc e.hi_rank; at = at }
  where
    at : (k : ℕ) → k < length (n ∷ ns) → (get_or (l ∷ ls) k 0 ≤ get_or (h ∷ hs) k 0) × (get_or (h ∷ hs) k 0 ≤ get_or (n ∷ ns) k 0)
    at zero b = (p, q)
    at (suc k) b = e.at k (omega arith)

pub ends_of : (ns lo hi : List ℕ) → IsRegion ns lo hi → Ends ns lo hi
ends_of [] [] [] r = record { lo_rank = refl; hi_rank = refl; at = λ k b. absurd (omega arith) }
ends_of (n ∷ ns) (l ∷ ls) (h ∷ hs) r = ends_more ns ls hs n l h r.0 r.1 (ends_of ns ls hs r.2)
ends_of ns lo hi r = absurd r

-- what lies in a region lies in the array
pub inside_of : (ns lo hi idx : List ℕ) → IsRegion ns lo hi → IsWithin lo hi idx → IsInside ns idx
inside_of ns lo hi idx r w =
    let e = ends_of ns lo hi r in
    let v = within_of lo hi idx w in
    let p = e.lo_rank in
    let q = v.lo_rank in
    inside_from ns idx (omega arith) (λ k b. let a = e.at k b in let d = v.at k (omega arith) in let x = a.1 in let y = d.1 in omega arith)

pub whole_exactly : (lo shape : List ℕ) → length lo ≡ length shape → ((d : ℕ) → d < length shape → get_or lo d 0 ≡ 0) → (idx : List ℕ) → IsWithin lo shape idx ↔ IsInside shape idx
whole_exactly lo shape p z idx = (forth, back)
  where
    forth : IsWithin lo shape idx → IsInside shape idx
    forth w =
        let v = within_of lo shape idx w in
        let q = v.hi_rank in
        inside_from shape idx (omega arith) (λ k b. let d = v.at k (omega arith) in d.1)

    back : IsInside shape idx → IsWithin lo shape idx
    back h =
        let q = inside-length shape idx h in
        within_from lo shape idx (omega arith) (omega arith) (λ k b. let e = z k (omega arith) in (omega arith, inside_at shape idx k h (omega arith)))

-- a number of a list that was put on an axis
pub set_at : (xs : List ℕ) (axis v k : ℕ) → axis < length xs → get_or (set xs axis v) k 0 ≡ (if k == axis then v else get_or xs k 0)
set_at xs axis v k l =
    elim (eqb_tells k axis) [
      | inl p ↦ rw p.0 (rw p.1 (get_or-set_same xs axis v 0 l))
      | inr p ↦ rw p.0 (get_or-set_other xs axis k v 0 p.1)
    ]

pub range_exactly : (lo shape : List ℕ) (axis from to : ℕ) → length lo ≡ length shape → ((d : ℕ) → get_or lo d 0 ≡ 0) → axis < length shape → to ≤ get_or shape axis 0
    → (idx : List ℕ) → IsInside shape idx → IsWithin (set lo axis from) (set shape axis to) idx ↔ ((from ≤ get_or idx axis 0) × (get_or idx axis 0 < to))
range_exactly lo shape axis from to p z l m idx h = (forth, back)
  where
    forth : IsWithin (set lo axis from) (set shape axis to) idx → (from ≤ get_or idx axis 0) × (get_or idx axis 0 < to)
    forth w =
        let n = inside-length shape idx h in
        let d = (within_of (set lo axis from) (set shape axis to) idx w).at axis (omega arith) in
        let x = d.0 in
        let y = d.1 in
        let a : get_or (set lo axis from) axis 0 ≡ from = get_or-set_same lo axis from 0 (omega arith) in
        let b : get_or (set shape axis to) axis 0 ≡ to = get_or-set_same shape axis to 0 l in
        (omega arith, omega arith)

    at : (from ≤ get_or idx axis 0) × (get_or idx axis 0 < to) → (k : ℕ) → k < length shape → (get_or (set lo axis from) k 0 ≤ get_or idx k 0) × (get_or idx k 0 < get_or (set shape axis to) k 0)
    at w k b =
        let e = z k in
        let i = inside_at shape idx k h b in
        elim (eqb_tells k axis) [
          | inl q ↦
              let x = w.0 in
              let y = w.1 in
              let a : get_or (set lo axis from) k 0 ≡ from = rw q.1 (get_or-set_same lo axis from 0 (omega arith)) in
              let c : get_or (set shape axis to) k 0 ≡ to = rw q.1 (get_or-set_same shape axis to 0 l) in
              let t : get_or idx k 0 ≡ get_or idx axis 0 = ap (λ (j : ℕ). get_or idx j 0) q.1 in
              (omega arith, omega arith)
          | inr q ↦
              let a : get_or (set lo axis from) k 0 ≡ get_or lo k 0 = get_or-set_other lo axis k from 0 q.1 in
              let c : get_or (set shape axis to) k 0 ≡ get_or shape k 0 = get_or-set_other shape axis k to 0 q.1 in
              (omega arith, omega arith)
        ]

    back : (from ≤ get_or idx axis 0) × (get_or idx axis 0 < to) → IsWithin (set lo axis from) (set shape axis to) idx
    back w =
        let n = inside-length shape idx h in
        let a : length (set lo axis from) ≡ length lo = length-set lo axis from in
        let b : length (set shape axis to) ≡ length shape = length-set shape axis to in
        within_from (set lo axis from) (set shape axis to) idx (omega arith) (omega arith) (λ k c. at w k (omega arith))

pub range_region : (lo shape : List ℕ) (axis from to : ℕ) → length lo ≡ length shape → ((d : ℕ) → get_or lo d 0 ≡ 0) → axis < length shape → from ≤ to → to ≤ get_or shape axis 0 → IsRegion shape (set lo axis from) (set shape axis to)
range_region lo shape axis from to p z l o m =
    region_from shape (set lo axis from) (set shape axis to) (length-set lo axis from ∙ p) (length-set shape axis to)
    (λ k b.
    let e = z k in
    elim (eqb_tells k axis) [
      | inl q ↦
          let a : get_or (set lo axis from) k 0 ≡ from = rw q.1 (get_or-set_same lo axis from 0 (omega arith)) in
          let c : get_or (set shape axis to) k 0 ≡ to = rw q.1 (get_or-set_same shape axis to 0 l) in
          let t : get_or shape k 0 ≡ get_or shape axis 0 = ap (λ (j : ℕ). get_or shape j 0) q.1 in
          (omega arith, omega arith)
      | inr q ↦
          let a : get_or (set lo axis from) k 0 ≡ get_or lo k 0 = get_or-set_other lo axis k from 0 q.1 in
          let c : get_or (set shape axis to) k 0 ≡ get_or shape k 0 = get_or-set_other shape axis k to 0 q.1 in
          (omega arith, omega arith)
    ])

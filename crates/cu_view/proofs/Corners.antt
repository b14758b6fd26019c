-- The corner of a box that lies furthest to a triangle's side.
use Rattle.std.proofs.Common.{◌≡◌, ℕ, ◌-◌, ◌<◌, ◌≤◌, Bool, true, false, ℤ, pos, ◌-ℤ◌, int_le, List, length, get_or, set, ap, arith, inl, inr, if◌then◌else◌}
use Rattle.std.proofs.lemmas.Bool.Decides.{eqb_tells}
use Rattle.std.proofs.lemmas.Int.{ints}
use Rattle.std.proofs.lemmas.List.{length-set, get_or-set_same, get_or-set_other}
use Rattle.cu_grid.specs.Counts.{IsWithin}
use Rattle.cu_grid.proofs.Meeting.{within_from, within_of}
use Rattle.cu_origin.specs.Pull.{is_in_triangle}

pub corner_within : (lo hi : List ℕ) (axis : ℕ) → IsWithin lo hi lo → axis < length lo → IsWithin lo hi (set lo axis (get_or hi axis 0 - 1))
corner_within lo hi axis w l =
    let v = within_of lo hi lo w in
    let n : length (set lo axis (get_or hi axis 0 - 1)) ≡ length lo = length-set lo axis (get_or hi axis 0 - 1) in
    let m = v.hi_rank in
    within_from lo hi (set lo axis (get_or hi axis 0 - 1)) (omega arith) (omega arith)
    (λ k b.
    let d = v.at k (omega arith) in
    let y = d.1 in
    elim (eqb_tells k axis) [
      | inl p ↦
          let e : get_or (set lo axis (get_or hi axis 0 - 1)) k 0 ≡ get_or hi axis 0 - 1 = rw p.1 (get_or-set_same lo axis (get_or hi axis 0 - 1) 0 l) in
          let f : get_or hi k 0 ≡ get_or hi axis 0 = ap (λ (j : ℕ). get_or hi j 0) p.1 in
          (omega arith, omega arith)
      | inr p ↦
          let e : get_or (set lo axis (get_or hi axis 0 - 1)) k 0 ≡ get_or lo k 0 = get_or-set_other lo axis k (get_or hi axis 0 - 1) 0 p.1 in
          (omega arith, omega arith)
    ])

le_less : (a b c d : ℕ) (k : ℤ) → a ≤ c → d ≤ b → int_le (pos c -ℤ pos d) k ≡ true → int_le (pos a -ℤ pos b) k ≡ true
le_less a b c d k p q h = grind (arith, ints)

le_more : (a b c d : ℕ) (k : ℤ) → c ≤ a → b ≤ d → int_le k (pos c -ℤ pos d) ≡ true → int_le k (pos a -ℤ pos b) ≡ true
le_more a b c d k p q h = grind (arith, ints)

pub read_same : (xs : List ℕ) (i j : ℕ) → i ≡ j → get_or xs i 0 ≡ get_or xs j 0
read_same xs i j e = ap (λ (k : ℕ). get_or xs k 0) e

-- where an index of the box lies in the triangle, this corner does
pub corner_shown : (lower : Bool) (k : ℤ) (lo hi idx : List ℕ) (axis : ℕ) → axis ≡ (if lower then length lo - 2 else length lo - 1) → IsWithin lo hi lo → IsWithin lo hi idx → 2 ≤ length lo → is_in_triangle lower k idx ≡ true
    → is_in_triangle lower k (set lo axis (get_or hi axis 0 - 1)) ≡ true
corner_shown true k lo hi idx axis e w v l t =
    let a = within_of lo hi idx v in
    let n = a.lo_rank in
    let m : length (set lo axis (get_or hi axis 0 - 1)) ≡ length lo = length-set lo axis (get_or hi axis 0 - 1) in
    let x = (a.at (length lo - 1) (omega arith)).0 in
    let y = (a.at axis (omega arith)).1 in
    let p : get_or (set lo axis (get_or hi axis 0 - 1)) (length lo - 1) 0 ≡ get_or lo (length lo - 1) 0 = get_or-set_other lo axis (length lo - 1) (get_or hi axis 0 - 1) 0 (omega arith) in
    let q : get_or (set lo axis (get_or hi axis 0 - 1)) axis 0 ≡ get_or hi axis 0 - 1 = get_or-set_same lo axis (get_or hi axis 0 - 1) 0 (omega arith) in
    let p1 : get_or (set lo axis (get_or hi axis 0 - 1)) (length (set lo axis (get_or hi axis 0 - 1)) - 1) 0 ≡ get_or (set lo axis (get_or hi axis 0 - 1)) (length lo - 1) 0 = read_same (set lo axis (get_or hi axis 0 - 1)) (length (set lo axis (get_or hi axis 0 - 1)) - 1) (length lo - 1) (omega arith) in
    let q1 : get_or (set lo axis (get_or hi axis 0 - 1)) (length (set lo axis (get_or hi axis 0 - 1)) - 2) 0 ≡ get_or (set lo axis (get_or hi axis 0 - 1)) axis 0 = read_same (set lo axis (get_or hi axis 0 - 1)) (length (set lo axis (get_or hi axis 0 - 1)) - 2) axis (omega arith) in
    let i1 : get_or idx (length idx - 1) 0 ≡ get_or idx (length lo - 1) 0 = read_same idx (length idx - 1) (length lo - 1) (omega arith) in
    let i2 : get_or idx (length idx - 2) 0 ≡ get_or idx axis 0 = read_same idx (length idx - 2) axis (omega arith) in
    le_less (get_or (set lo axis (get_or hi axis 0 - 1)) (length (set lo axis (get_or hi axis 0 - 1)) - 1) 0) (get_or (set lo axis (get_or hi axis 0 - 1)) (length (set lo axis (get_or hi axis 0 - 1)) - 2) 0) (get_or idx (length idx - 1) 0) (get_or idx (length idx - 2) 0) k (omega arith) (omega arith) t
corner_shown false k lo hi idx axis e w v l t =
    let a = within_of lo hi idx v in
    let n = a.lo_rank in
    let m : length (set lo axis (get_or hi axis 0 - 1)) ≡ length lo = length-set lo axis (get_or hi axis 0 - 1) in
    let x = (a.at (length lo - 2) (omega arith)).0 in
    let y = (a.at axis (omega arith)).1 in
    let p : get_or (set lo axis (get_or hi axis 0 - 1)) (length lo - 2) 0 ≡ get_or lo (length lo - 2) 0 = get_or-set_other lo axis (length lo - 2) (get_or hi axis 0 - 1) 0 (omega arith) in
    let q : get_or (set lo axis (get_or hi axis 0 - 1)) axis 0 ≡ get_or hi axis 0 - 1 = get_or-set_same lo axis (get_or hi axis 0 - 1) 0 (omega arith) in
    let p1 : get_or (set lo axis (get_or hi axis 0 - 1)) (length (set lo axis (get_or hi axis 0 - 1)) - 1) 0 ≡ get_or (set lo axis (get_or hi axis 0 - 1)) axis 0 = read_same (set lo axis (get_or hi axis 0 - 1)) (length (set lo axis (get_or hi axis 0 - 1)) - 1) axis (omega arith) in
    let q1 : get_or (set lo axis (get_or hi axis 0 - 1)) (length (set lo axis (get_or hi axis 0 - 1)) - 2) 0 ≡ get_or (set lo axis (get_or hi axis 0 - 1)) (length lo - 2) 0 = read_same (set lo axis (get_or hi axis 0 - 1)) (length (set lo axis (get_or hi axis 0 - 1)) - 2) (length lo - 2) (omega arith) in
    let i1 : get_or idx (length idx - 1) 0 ≡ get_or idx axis 0 = read_same idx (length idx - 1) axis (omega arith) in
    let i2 : get_or idx (length idx - 2) 0 ≡ get_or idx (length lo - 2) 0 = read_same idx (length idx - 2) (length lo - 2) (omega arith) in
    le_more (get_or (set lo axis (get_or hi axis 0 - 1)) (length (set lo axis (get_or hi axis 0 - 1)) - 1) 0) (get_or (set lo axis (get_or hi axis 0 - 1)) (length (set lo axis (get_or hi axis 0 - 1)) - 2) 0) (get_or idx (length idx - 1) 0) (get_or idx (length idx - 2) 0) k (omega arith) (omega arith) t

-- The rows of a triangle.
use Rattle.std.proofs.Common.{inl, inr, ◌≡◌, ◌↔◌, ℕ, ◌-◌, ◌<◌, ◌≤◌, Bool, true, false, IsTrue, ℤ, pos, ◌+ℤ◌, ◌-ℤ◌, ◌<ℤ◌, int_le, List, length, get_or, set, ap, sym, ◌∙◌, subst, arith}
use Rattle.std.proofs.lemmas.Bool.{cases_lt}
use Rattle.std.proofs.lemmas.Int.{ints}
use Rattle.std.proofs.lemmas.List.{get_or-set_same}
use Rattle.cu_grid.specs.Counts.{IsWithin}
use Rattle.cu_grid.proofs.Meeting.{within_of}
use Rattle.cu_view_box.proofs.Boxes.{within_set, moved_within}
use Rattle.cu_origin.specs.Pull.{is_in_triangle}
use Rattle.cu_view.proofs.Corners.{read_same}
use Rattle.cu_view.specs.Gathered.{is_cell}

pub lower_columns : (lower : Bool) (k x : ℤ) (row column first end hi : ℕ) → lower ≡ true → x ≡ (pos row +ℤ k) +ℤ pos 1 → first ≤ column → (column < hi) ↔ (pos column <ℤ x)
    → ((first ≤ column) × (column < hi)) ↔ IsTrue (is_cell lower k row column)
lower_columns true k x row column first end hi l e p h = (λ w. let b = h.0 w.1 in below b, λ t. (p, h.1 (back t)))
  where
    below : pos column <ℤ x → int_le (pos column -ℤ pos row) k ≡ true
    below b = grind (arith, ints)

    back : int_le (pos column -ℤ pos row) k ≡ true → pos column <ℤ x
    back t = grind (arith, ints)
lower_columns false k x row column first end hi l e p h = absurd cc

pub upper_columns : (lower : Bool) (k x : ℤ) (row column end lo : ℕ) → lower ≡ false → x ≡ (pos row +ℤ k) +ℤ pos 0 → column < end → (column < lo) ↔ (pos column <ℤ x)
    → ((lo ≤ column) × (column < end)) ↔ IsTrue (is_cell lower k row column)
upper_columns false k x row column end lo l e p h = (λ w. let b = w.0 in above (λ t. let c = h.1 t in omega arith), λ t. (back t, p))
  where
    above : (pos column <ℤ x → ⊥) → int_le k (pos column -ℤ pos row) ≡ true
    above b = grind (arith, ints)

    none : int_le k (pos column -ℤ pos row) ≡ true → pos column <ℤ x → ⊥
    none t b = grind (arith, ints)

    back : int_le k (pos column -ℤ pos row) ≡ true → lo ≤ column
    back t = elim (cases_lt column lo) [ inl less ↦ absurd (none t (h.0 less)) | inr more ↦ omega arith ]
upper_columns true k x row column end lo l e p h = absurd cc

-- a region that is cut on an axis has the first index that is left
pub first_of_cut : (lo hi : List ℕ) (axis l h : ℕ) → IsWithin lo hi lo → axis < length lo → get_or lo axis 0 ≤ l → h ≤ get_or hi axis 0 → l < h → IsWithin (set lo axis l) (set hi axis h) (set lo axis l)
first_of_cut lo hi axis l h some below low high range =
    let v = within_of lo hi lo some in
    let e : get_or (set lo axis l) axis 0 ≡ l = get_or-set_same lo axis l 0 below in
    (within_set lo hi (set lo axis l) axis l h v.hi_rank below low high).1 (moved_within lo hi lo axis l some below low (omega arith), omega arith, omega arith)

-- the indices of one row that lie in a triangle, by its columns
pub row_columns : (lower : Bool) (k x : ℤ) (lo hi idx : List ℕ) (rank row first end from to : ℕ) → x ≡ k → rank ≡ length lo → 2 ≤ length lo → first ≡ get_or lo (rank - 1) 0 → end ≡ get_or hi (rank - 1) 0
    → ((column : ℕ) → first ≤ column → column < end → ((from ≤ column) × (column < to)) ↔ IsTrue (is_cell lower x row column))
    → IsWithin lo hi idx → get_or idx (length lo - 2) 0 ≡ row → ((from ≤ get_or idx (rank - 1) 0) × (get_or idx (rank - 1) 0 < to)) ↔ IsTrue (is_in_triangle lower k idx)
row_columns lower k x lo hi idx rank row first end from to e r a f g exactly w i =
    let v = within_of lo hi idx w in
    let n = v.lo_rank in
    let d = v.at (rank - 1) (omega arith) in
    let d0 = d.0 in
    let d1 = d.1 in
    let last = read_same idx (length idx - 1) (rank - 1) (omega arith) in
    let second : get_or idx (length idx - 2) 0 ≡ row = read_same idx (length idx - 2) (length lo - 2) (omega arith) ∙ i in
    let same : is_in_triangle lower k idx ≡ is_cell lower x row (get_or idx (rank - 1) 0) =
    ap (λ (m : ℕ). is_cell lower k (get_or idx (length idx - 2) 0) m) last
    ∙ ap (λ (m : ℕ). is_cell lower k m (get_or idx (rank - 1) 0)) second
    ∙ ap (λ (z : ℤ). is_cell lower z row (get_or idx (rank - 1) 0)) (sym e) in
    let b = exactly (get_or idx (rank - 1) 0) (omega arith) (omega arith) in
    (λ p. subst IsTrue (sym same) (b.0 p), λ t. b.1 (subst IsTrue same t))

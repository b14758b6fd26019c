-- A part of a box that is copied slice by slice along an axis.
use Rattle.std.proofs.Common.{◌≡◌, ◌≢◌, ℕ, ◌+◌, ◌<◌, ◌≤◌, ◌⊎◌, List, length, get_or, set, refl, ◌∙◌, arith, inl, inr}
use Rattle.std.proofs.lemmas.Bool.{cases_lt}
use Rattle.std.proofs.lemmas.List.{set-get_or, get_or-set_same, get_or-set_other}
use Rattle.cu_grid.specs.Counts.{IsWithin}
use Rattle.cu_grid.specs.declared.region.Region.{Region}
use Rattle.cu_view_box.specs.Block.{IsMove, IsMoved, IsKept}
use Rattle.cu_view_box.specs.Row.{IsSingle}
use Rattle.cu_view_box.specs.declared.block.Block.{Block}
use Rattle.cu_view_box.specs.declared.piece.Piece.{Piece}
use Rattle.cu_view_box.proofs.Boxes.{within_set, at_axis, moved_within}
use Rattle.cu_grid.proofs.Meeting.{within_of}

-- the indices of a part up to a number on an axis, and those with this number
abbrev pub up_to : Region → ℕ → ℕ → Region
up_to part axis end = record { lo = part.lo; hi = set part.hi axis end }

abbrev pub slice_of_part : Region → ℕ → ℕ → Region
slice_of_part part axis index = record { lo = set part.lo axis index; hi = set part.hi axis (index + 1) }

abbrev region_of : List ℕ → List ℕ → Region
region_of lo hi = record { lo = lo; hi = hi }

abbrev pub Holds : Region → List ℕ → Type 0
Holds part idx = IsWithin part.lo part.hi idx

module _ (part : Region) (axis index : ℕ) (some : Holds part part.lo) (below : axis < length part.lo)
    (low : get_or part.lo axis 0 ≤ index) (high : index < get_or part.hi axis 0) where
  same_rank : length part.hi ≡ length part.lo
  same_rank = (within_of part.lo part.hi part.lo some).hi_rank

  pub slice_in : (idx : List ℕ) → Holds (slice_of_part part axis index) idx → Holds part idx × (get_or idx axis 0 ≡ index)
  slice_in idx w =
      let p = (within_set part.lo part.hi idx axis index (index + 1) same_rank below low (omega arith)).0 w in
      let p1 = p.1 in
      let p2 = p.2 in
      (p.0, omega arith)

  pub slice_of_index : (idx : List ℕ) → Holds part idx → get_or idx axis 0 ≡ index → Holds (slice_of_part part axis index) idx
  slice_of_index idx w e = (within_set part.lo part.hi idx axis index (index + 1) same_rank below low (omega arith)).1 (w, omega arith, omega arith)

  up_in : (end : ℕ) → end ≤ get_or part.hi axis 0 → (idx : List ℕ) → Holds (up_to part axis end) idx → Holds part idx × (get_or idx axis 0 < end)
  up_in end e idx w =
      let v : IsWithin (set part.lo axis (get_or part.lo axis 0)) (set part.hi axis end) idx = rw set-get_or w in
      let p = (within_set part.lo part.hi idx axis (get_or part.lo axis 0) end same_rank below (omega arith) e).0 v in
      (p.0, p.2)

  up_from : (end : ℕ) → end ≤ get_or part.hi axis 0 → (idx : List ℕ) → Holds part idx → get_or idx axis 0 < end → Holds (up_to part axis end) idx
  up_from end e idx w b =
      let a = at_axis part.lo part.hi idx axis w below in
      let v : IsWithin (set part.lo axis (get_or part.lo axis 0)) (set part.hi axis end) idx =
      (within_set part.lo part.hi idx axis (get_or part.lo axis 0) end same_rank below (omega arith) e).1 (w, a.0, b) in
      rw set-get_or at v

  pub up_to_more : (idx : List ℕ) → Holds (up_to part axis (index + 1)) idx → Holds (up_to part axis index) idx ⊎ Holds (slice_of_part part axis index) idx
  up_to_more idx w =
      let p = up_in (index + 1) (omega arith) idx w in
      let p1 = p.1 in
      elim (cases_lt (get_or idx axis 0) index) [
        | inl less ↦ inl (up_from index (omega arith) idx p.0 less)
        | inr more ↦ inr (slice_of_index idx p.0 (omega arith))
      ]

  -- a slice has an index
  pub slice_some : Holds (slice_of_part part axis index) (set part.lo axis index)
  slice_some =
      (within_set part.lo part.hi (set part.lo axis index) axis index (index + 1) same_rank below low (omega arith)).1
      (lifted, rw (get_or-set_same part.lo axis index 0 below) (omega arith), rw (get_or-set_same part.lo axis index 0 below) (omega arith))
    where
      lifted : Holds part (set part.lo axis index)
      lifted = moved_within part.lo part.hi part.lo axis index some below low high

  pub slice_move : (piece : Piece) (from to : Block) → IsMove piece part from to → IsMove piece (slice_of_part part axis index) from to
  slice_move piece from to m = record {
    some = slice_some;
    ways = m.ways;
    of_piece = λ idx w. m.of_piece idx (slice_in idx w).0;
    of_source = λ idx w. m.of_source idx (slice_in idx w).0;
    of_result = λ idx w. m.of_result idx (slice_in idx w).0;
  }

  pub slice_single : (row level : ℕ) → level ≡ axis → IsSingle part row level → IsSingle (slice_of_part part axis index) row (level + 1)
  slice_single row level e single k b off =
      elim (cases_lt k axis) [
        | inl less ↦
            let apart : k ≢ axis = omega arith in
            rw (get_or-set_other part.hi axis k (index + 1) 0 apart, get_or-set_other part.lo axis k index 0 apart) (single k (omega arith) off)
        | inr more ↦
            let same : k ≡ axis = omega arith in
            let r = same_rank in
            rw same (rw (get_or-set_same part.hi axis (index + 1) 0 (omega arith), get_or-set_same part.lo axis index 0 below) refl)
      ]

  pub moved_more : (piece : Piece) (from to : Block) (bytes now new : List ℕ) → IsMove piece part from to
      → IsMoved piece (up_to part axis index) from bytes to now → IsMoved piece (slice_of_part part axis index) from bytes to new → IsKept (slice_of_part part axis index) to now new
      → IsMoved piece (up_to part axis (index + 1)) from bytes to new
  moved_more piece from to bytes now new m was slice kept idx w =
      let p = up_in (index + 1) (omega arith) idx w in
      let p1 = p.1 in
      elim (cases_lt (get_or idx axis 0) index) [
        | inl less ↦ kept idx (m.of_result idx p.0) (λ s. (let q = (slice_in idx s).1 in omega arith)) ∙ was idx (up_from index (omega arith) idx p.0 less)
        | inr more ↦ slice idx (slice_of_index idx p.0 (omega arith))
      ]

  pub kept_more : (to : Block) (old now new : List ℕ) → IsKept (up_to part axis index) to old now → IsKept (slice_of_part part axis index) to now new
      → IsKept (up_to part axis (index + 1)) to old new
  kept_more to old now new was kept idx w off =
      kept idx w (λ s. (let p = slice_in idx s in let p1 = p.1 in off (up_from (index + 1) (omega arith) idx p.0 (omega arith))))
      ∙ was idx w (λ u. (let p = up_in index (omega arith) idx u in let p1 = p.1 in off (up_from (index + 1) (omega arith) idx p.0 (omega arith))))

fields_same : (lo lo' hi hi' : List ℕ) → lo ≡ lo' → hi ≡ hi' → region_of lo hi ≡ region_of lo' hi'
fields_same lo lo' hi hi' p q = cc

pub slice_is : (part made : Region) (axis index : ℕ) → made.lo ≡ set part.lo axis index → made.hi ≡ set part.hi axis (index + 1) → made ≡ slice_of_part part axis index
slice_is part made axis index p q = fields_same made.lo (set part.lo axis index) made.hi (set part.hi axis (index + 1)) p q

-- none of the part, and the whole of it
pub up_to_none : (part : Region) (axis end : ℕ) → Holds part part.lo → axis < length part.lo → end ≡ get_or part.lo axis 0 → (idx : List ℕ) → ¬ Holds (up_to part axis end) idx
up_to_none part axis end some below e idx w =
    let a = at_axis part.lo part.hi part.lo axis some below in
    let a1 = a.1 in
    let v : IsWithin (set part.lo axis (get_or part.lo axis 0)) (set part.hi axis end) idx = rw set-get_or w in
    let p = (within_set part.lo part.hi idx axis (get_or part.lo axis 0) end (within_of part.lo part.hi part.lo some).hi_rank below (omega arith) (omega arith)).0 v in
    let p1 = p.1 in
    let p2 = p.2 in
    omega arith

pub up_to_all : (part : Region) (axis end : ℕ) → end ≡ get_or part.hi axis 0 → up_to part axis end ≡ part
up_to_all part axis end e = fields_same part.lo part.lo (set part.hi axis end) part.hi refl (rw e (set-get_or part.hi axis 0))

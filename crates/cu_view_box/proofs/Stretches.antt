-- A part of a reshape's result that is drawn stretch by stretch along an axis.
use Rattle.std.proofs.Common.{◌≡◌, ℕ, ◌<◌, ◌≤◌, List, length, get_or, set, ◌∙◌, arith, inl, inr}
use Rattle.std.proofs.lemmas.Bool.{cases_lt}
use Rattle.std.proofs.lemmas.List.{set-get_or, get_or-set_same}
use Rattle.cu_grid.specs.Counts.{IsWithin}
use Rattle.cu_grid.specs.declared.region.Region.{Region}
use Rattle.cu_grid.proofs.Meeting.{within_of}
use Rattle.cu_view_box.specs.Reshape.{IsDrawn, AreOthersLeft, IsPart}
use Rattle.cu_view_box.specs.declared.block.Block.{Block}
use Rattle.cu_view_box.proofs.Boxes.{within_set, at_axis, moved_within}
use Rattle.cu_view_box.proofs.Slices.{Holds, up_to}

abbrev region_of : List ℕ → List ℕ → Region
region_of lo hi = record { lo = lo; hi = hi }

-- the indices of a part from one number to below another on an axis
abbrev pub stretch : Region → ℕ → ℕ → ℕ → Region
stretch part axis start stop = record { lo = set part.lo axis start; hi = set part.hi axis stop }

module _ (part : Region) (axis start stop : ℕ) (some : Holds part part.lo) (below : axis < length part.lo)
    (low : get_or part.lo axis 0 ≤ start) (order : start < stop) (high : stop ≤ get_or part.hi axis 0) where
  rank : length part.hi ≡ length part.lo
  rank = (within_of part.lo part.hi part.lo some).hi_rank

  in_stretch : (idx : List ℕ) → Holds (stretch part axis start stop) idx → Holds part idx × (start ≤ get_or idx axis 0) × (get_or idx axis 0 < stop)
  in_stretch idx w = (within_set part.lo part.hi idx axis start stop rank below low high).0 w

  to_stretch : (idx : List ℕ) → Holds part idx → start ≤ get_or idx axis 0 → get_or idx axis 0 < stop → Holds (stretch part axis start stop) idx
  to_stretch idx w a b = (within_set part.lo part.hi idx axis start stop rank below low high).1 (w, a, b)

  in_front : (end : ℕ) → end ≤ get_or part.hi axis 0 → (idx : List ℕ) → Holds (up_to part axis end) idx → Holds part idx × (get_or idx axis 0 < end)
  in_front end e idx w =
      let v : IsWithin (set part.lo axis (get_or part.lo axis 0)) (set part.hi axis end) idx = rw set-get_or w in
      let p = (within_set part.lo part.hi idx axis (get_or part.lo axis 0) end rank below (omega arith) e).0 v in
      (p.0, p.2)

  to_front : (end : ℕ) → end ≤ get_or part.hi axis 0 → (idx : List ℕ) → Holds part idx → get_or idx axis 0 < end → Holds (up_to part axis end) idx
  to_front end e idx w b =
      let a = at_axis part.lo part.hi idx axis w below in
      let v : IsWithin (set part.lo axis (get_or part.lo axis 0)) (set part.hi axis end) idx =
      (within_set part.lo part.hi idx axis (get_or part.lo axis 0) end rank below (omega arith) e).1 (w, a.0, b) in
      rw set-get_or at v

  pub stretch_part : (shape : List ℕ) (to : Block) → IsPart shape part to → IsPart shape (stretch part axis start stop) to
  stretch_part shape to p = record {
    some = to_stretch (set part.lo axis start) (moved_within part.lo part.hi part.lo axis start some below low (omega arith))
        (rw (get_or-set_same part.lo axis start 0 below) (omega arith)) (rw (get_or-set_same part.lo axis start 0 below) order);
    inside = λ idx w. p.inside idx (in_stretch idx w).0;
    of_result = λ idx w. p.of_result idx (in_stretch idx w).0;
  }

  pub drawn_more : (origin : List ℕ → List ℕ) (from to : Block) (bytes now new : List ℕ) → ((idx : List ℕ) → Holds part idx → IsWithin to.region.lo to.region.hi idx)
      → IsDrawn origin (up_to part axis start) from bytes to now → IsDrawn origin (stretch part axis start stop) from bytes to new
      → AreOthersLeft origin (stretch part axis start stop) from to now new → IsDrawn origin (up_to part axis stop) from bytes to new
  drawn_more origin from to bytes now new of_result was drawn left idx w read =
      let p = in_front stop high idx w in
      let p1 = p.1 in
      elim (cases_lt (get_or idx axis 0) start) [
        | inl less ↦ left idx (of_result idx p.0) (λ s. (let q = (in_stretch idx s.0).1 in omega arith)) ∙ was idx (to_front start (omega arith) idx p.0 less) read
        | inr more ↦ drawn idx (to_stretch idx p.0 more p.1) read
      ]

  pub left_more : (origin : List ℕ → List ℕ) (from to : Block) (old now new : List ℕ) → AreOthersLeft origin (up_to part axis start) from to old now
      → AreOthersLeft origin (stretch part axis start stop) from to now new → AreOthersLeft origin (up_to part axis stop) from to old new
  left_more origin from to old now new was left idx w off =
      left idx w (λ s. (let p = in_stretch idx s.0 in let p2 = p.2 in off (to_front stop high idx p.0 (omega arith), s.1)))
      ∙ was idx w (λ s. (let p = in_front start (omega arith) idx s.0 in let p1 = p.1 in off (to_front stop high idx p.0 (omega arith), s.1)))

fields_same : (lo lo' hi hi' : List ℕ) → lo ≡ lo' → hi ≡ hi' → region_of lo hi ≡ region_of lo' hi'
fields_same lo lo' hi hi' p q = cc

pub stretch_is : (part made : Region) (axis start stop : ℕ) → made.lo ≡ set part.lo axis start → made.hi ≡ set part.hi axis stop → made ≡ stretch part axis start stop
stretch_is part made axis start stop p q = fields_same made.lo (set part.lo axis start) made.hi (set part.hi axis stop) p q

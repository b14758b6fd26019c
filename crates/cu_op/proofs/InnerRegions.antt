-- The region of an array that is made where it is read is one of the regions of its maker.
use Rattle.std.specs.Prelude.{IfSome, MatchOption}
use Rattle.cu_grid.proofs.Parting.{has_coordinate}
use Rattle.cu_grid.specs.Counts.{chunk_lo, chunk_hi, IsRegion, IsWithin}
use Rattle.cu_grid.specs.Grid.{RegularGrid, IsCoordinate, IsGrid}
use Rattle.cu_op.proofs.Filled.{IsFilled, filled_first}
use Rattle.cu_op.proofs.InputBoxes.{number_of, own_chunk}
use Rattle.cu_op.proofs.KindLaws.{laws_of}
use Rattle.cu_op.proofs.Members.{only_member}
use Rattle.cu_op.proofs.Plans.{grid_ok, inner_kind}
use Rattle.cu_op.proofs.TaskCells.{made_cell, region_number}
use Rattle.cu_op.proofs.WalkCells.{walk_meets, walk_once}
use Rattle.cu_op.specs.Arrays.{grid_at, grid_counts, is_inlined, maker_at}
use Rattle.cu_op.specs.Cells.{task_coord, task_grid, IsChunk}
use Rattle.cu_op.specs.Chunks.{cell, chunk_where, IsOneChunk}
use Rattle.cu_op.specs.Operation.{target_of}
use Rattle.cu_op.specs.PlanView.{PlanView, op_of}
use Rattle.cu_op.specs.Schedule.{MakesChunk}
use Rattle.cu_op.specs.Sound.{Sound}
use Rattle.cu_op.specs.TaskView.{IsInnerRegion}
use Rattle.cu_op.specs.Walks.{walk_cells, EachOnce, IsWalkOver}
use Rattle.cu_op.specs.declared.cells.Cell.{Cell}
use Rattle.cu_op.specs.declared.walks.Walk.{Walk}
use Rattle.cu_shape.proofs.Places.{index-place, test_from_inside}
use Rattle.cu_shape.specs.Index.{differences, index_at, place_of, quotients}
use Rattle.std.proofs.Common.{◌≡◌, inl, inr, ℕ, ◌<◌, ◌-◌, ◌==◌, true, false, List, [], ◌∷◌, length, All, Contains, Some, refl, ap, sym, ◌∙◌, subst, arith, Option, None, ◌↔◌}
use Rattle.std.proofs.lemmas.Bool.Decides.{eqb_tells}
use Rattle.std.proofs.lemmas.List.Elements.{All-head, All-tail}
use Rattle.std.specs.List.{list_any}

-- ---- regions that have an index on each axis, and those that don't

filled_from : (ns ls hs : List ℕ) → IsRegion ns ls hs → All (λ n. 0 < n) (differences hs ls)
    → IsFilled ns ls hs
filled_from [] [] [] r h = tt
filled_from (n ∷ ns) (l ∷ ls) (h ∷ hs) r all =
    ((let a = All-head (λ n. 0 < n) (h - l) (differences hs ls) all in omega (arith, a)), r.1, filled_from ns ls hs r.2 (All-tail (λ n. 0 < n) (h - l) (differences hs ls) all))
filled_from ns ls hs r all = absurd r

begins_inside : (ns ls hs : List ℕ) → IsFilled ns ls hs → IsWithin ls hs ls
begins_inside [] [] [] f = tt
begins_inside (n ∷ ns) (l ∷ ls) (h ∷ hs) f = (omega arith, f.0, begins_inside ns ls hs f.2)
begins_inside ns ls hs f = absurd f

none_within : (ls hs is : List ℕ) → IsWithin ls hs is
    → list_any (λ n. n == 0) (differences hs ls) ≡ false
none_within [] [] [] w = refl
none_within (l ∷ ls) (h ∷ hs) (i ∷ is) w =
    let rest = none_within ls hs is w.2 in
    elim (eqb_tells (h - l) 0) [
      | inl e ↦ let z : h - l ≡ 0 = e.1 in let a = w.0 in let b = w.1 in absurd (omega (arith, z, a, b))
      | inr e ↦ rw (e.0, rest) refl
    ]
none_within ls hs is w = absurd w

-- ---- lists of at most one member

no_members : (xs : List Cell) → ((c : Cell) → Contains xs c → ⊥) → xs ≡ []
no_members [] never = refl
no_members (x ∷ xs) never = absurd (never x (0, omega arith, refl))

one_member : (xs : List Cell) (c : Cell) → EachOnce xs → Contains xs c
    → ((d : Cell) → Contains xs d → d ≡ c) → xs ≡ c ∷ []
one_member [] c once there only = absurd (let l = there.1 in omega (arith, l))
one_member (x ∷ []) c once there only = ap (λ (d : Cell). d ∷ []) (only x (0, omega arith, refl))
one_member (x ∷ y ∷ xs) c once there only =
    let a = only x (0, omega arith, refl) in
    let b = only y (1, omega arith, refl) in
    let same : 0 ≡ 1 = once 0 1 c (omega arith) (omega arith) (a ∙ sym b) in
    absurd (omega (arith, same))

module _ (p : PlanView) (s : Sound p) (w : Walk) (over : IsWalkOver p.arrays w) where
  abbrev g : RegularGrid
  g = grid_at p.arrays w.array

  ok : IsGrid g
  ok = grid_ok p w.array s over.0

  pub empty_walk : list_any (λ n. n == 0) (differences w.region.hi w.region.lo) ≡ true
      → walk_cells p.arrays w ≡ []
  empty_walk some = no_members (walk_cells p.arrays w) (λ c there.
      let m = walk_meets p.arrays w c ok over there in
      let none = none_within w.region.lo w.region.hi m.1.1.0 m.1.1.1 in cc)

  module _ (one : IsOneChunk (grid_at p.arrays w.array) w.region) (positive : All (λ n. 0 < n) (differences w.region.hi w.region.lo)) where
    filled : IsFilled g.shape w.region.lo w.region.hi
    filled = filled_from g.shape w.region.lo w.region.hi over.1 positive

    -- the coordinate of the chunk in which it begins
    abbrev first : List ℕ
    first = quotients w.region.lo (grid_at p.arrays w.array).chunk

    first_is : one.coord ≡ first
    first_is =
        number_of g.shape g.chunk one.coord w.region.lo ok.positive ok.ranks one.long
        (subst (λ (ls : List ℕ). IsWithin ls (chunk_hi g.shape g.chunk one.coord) w.region.lo) one.begins
        (subst (λ (hs : List ℕ). IsWithin w.region.lo hs w.region.lo) one.ends (begins_inside g.shape w.region.lo w.region.hi filled)))

    begins : w.region.lo ≡ chunk_lo g.chunk first
    begins = one.begins ∙ ap (chunk_lo g.chunk) first_is

    ends : w.region.hi ≡ chunk_hi g.shape g.chunk first
    ends = one.ends ∙ ap (chunk_hi g.shape g.chunk) first_is

    here : IsCoordinate g first
    here = has_coordinate g w.region.lo ok (filled_first g.shape w.region.lo w.region.hi filled)

    pub walk_first : IsChunk p.arrays (cell w.array (quotients w.region.lo (grid_at p.arrays w.array).chunk))
    walk_first = (over.0, here)

    own : walk_cells p.arrays w ≡ cell w.array first ∷ []
    own =
        let listed : chunk_where p.arrays w.array first ≡ cell w.array first ∷ [] = (let t = test_from_inside (grid_counts g) first here in rw t refl) in
        let same = λ (c : Cell). own_chunk p.arrays w.array w.region.lo w.region.hi first c ok over (ap length (sym first_is) ∙ one.long) begins ends in
        one_member (walk_cells p.arrays w) (cell w.array first) (walk_once p.arrays w ok over)
        ((same (cell w.array first)).1 (subst (λ (cells : List Cell). Contains cells (cell w.array first)) (sym listed) (0, omega arith, refl)))
        (λ d there. sym (only_member (cell w.array first) d (subst (λ (cells : List Cell). Contains cells d) listed ((same d).0 there))))

    module _ (inner : is_inlined p.arrays w.array ≡ true) (k region : ℕ) (m : MakesChunk p k region w.array (quotients w.region.lo (grid_at p.arrays w.array).chunk)) where
      made : maker_at p.arrays w.array ≡ Some k
      made = (made_cell p s k region w.array first m).0

      target : target_of (op_of p k) ≡ w.array
      target =
          let one = (laws_of (op_of p k)).one_written (inner_kind p k w.array s over.0 inner made) in
          only_member (target_of (op_of p k)) w.array (subst (λ (ws : List ℕ). Contains ws w.array) one (made_cell p s k region w.array first m).1)

      grid : task_grid p.arrays (op_of p k) ≡ g
      grid = (laws_of (op_of p k)).one_grid p.arrays (inner_kind p k w.array s over.0 inner made) ∙ ap (grid_at p.arrays) target

      -- the region's coordinate is the chunk's
      coord : task_coord p.arrays (op_of p k) region ≡ first
      coord =
          let place = region_number p s k region w.array first m in
          let F : RegularGrid → Type 0 = λ r. index_at (grid_counts r) (place_of (grid_counts r) (quotients (chunk_lo (grid_at p.arrays w.array).chunk (quotients w.region.lo (grid_at p.arrays w.array).chunk)) r.chunk)) ≡ quotients w.region.lo (grid_at p.arrays w.array).chunk in
          let again : quotients (chunk_lo g.chunk first) g.chunk ≡ first = ap (λ (ls : List ℕ). quotients ls g.chunk) (sym begins) in
          let at : F g = ap (λ (is : List ℕ). index_at (grid_counts g) (place_of (grid_counts g) is)) again ∙ index-place (grid_counts g) first here in
          ap (index_at (grid_counts (task_grid p.arrays (op_of p k)))) place ∙ subst F (sym grid) at

      pub inner_region : IsInnerRegion p w k region
      inner_region = record {
        makes = subst (λ (is : List ℕ). MakesChunk p k region w.array is) (sym coord) m;
        maker = made;
        target = target;
        lo = ap (λ (r : RegularGrid). chunk_lo r.chunk (task_coord p.arrays (op_of p k) region)) grid ∙ ap (chunk_lo g.chunk) coord ∙ sym begins;
        hi = ap (λ (r : RegularGrid). chunk_hi r.shape r.chunk (task_coord p.arrays (op_of p k) region)) grid ∙ ap (chunk_hi g.shape g.chunk) coord ∙ sym ends;
        cells = own ∙ ap (λ (is : List ℕ). cell w.array is ∷ []) (sym coord);
      }

-- what is found for a walk: its maker makes the chunk in which it begins
pub found_region : (p : PlanView) (s : Sound p) (w : Walk) (over : IsWalkOver p.arrays w)
    → IsOneChunk (grid_at p.arrays w.array) w.region
    → All (λ n. 0 < n) (differences w.region.hi w.region.lo)
    → is_inlined p.arrays w.array ≡ true → (found : Option (ℕ × ℕ))
    → IfSome found (λ by. MakesChunk p by.0 by.1 w.array (quotients w.region.lo (grid_at p.arrays w.array).chunk))
    → (found ≡ None) ↔ (maker_at p.arrays w.array ≡ None)
    → MatchOption found (walk_cells p.arrays w ≡ []) (λ by. IsInnerRegion p w by.0 by.1)
found_region p s w over one positive inner None makes none =
    let made = (s.inlined w.array over.0 inner).maker.1 in
    let given : maker_at p.arrays w.array ≡ None = none.0 refl in cc
found_region p s w over one positive inner (Some by) makes none = inner_region p s w over one positive inner by.0 by.1 makes

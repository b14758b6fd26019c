-- The stored elements of a chunk that is held are its array's values.
use Rattle.std.proofs.Common.{◌≡◌, ℕ, ◌<◌, ℤ, List, length, Option, Some, ap, sym, ◌∙◌, subst}
use Rattle.cu_num.specs.Dtype.{InRange}
use Rattle.cu_shape.specs.Index.{IsInside, quotients}
use Rattle.cu_shape.proofs.Places.{inside-length}
use Rattle.cu_grid.proofs.Parting.{has_coordinate, lies_within, inner_inside}
use Rattle.cu_store.specs.Held.{Contents, Holds}
use Rattle.cu_store.specs.Steps.{Shown}
use Rattle.cu_zarr.specs.Stored.{element_in}
use Rattle.cu_zarr.proofs.Spelled.{spelled_element}
use Rattle.cu_op.specs.Arrays.{layout_at, grid_at, type_at}
use Rattle.cu_op.specs.Chunks.{cell}
use Rattle.cu_op.specs.PlanView.{PlanView}
use Rattle.cu_op.specs.Sound.{Sound}
use Rattle.cu_op.specs.Elements.{Elements}
use Rattle.cu_op.specs.Value.{plan_value, stored_inputs, HasTypes}
use Rattle.cu_op.proofs.Plans.{grid_ok}
use Rattle.cu_op.proofs.Spellings.{defined_at}
use Rattle.cu_run_law.specs.Left.{IsLeft}
use Rattle.cu_run_law.specs.Pieces.{PlanRun, Chunk, HoldsPiece, piece_key}

-- the values of a plan are numbers of their arrays' types (the law of ranges)
abbrev pub HaveRanges : Type 0
HaveRanges = (p : PlanView) (env : Elements) (a : ℕ) (idx : List ℕ) (x : ℤ) → Sound p → HasTypes p.arrays env → a < length p.arrays → IsInside (grid_at p.arrays a).shape idx
    → plan_value p env a idx ≡ Some x → InRange (type_at p.arrays a) x

pub element_held : HaveRanges → (r : PlanRun) (env : Elements) (shown : Shown) (left : IsLeft r env shown) (a : ℕ) (idx : List ℕ) → a < length r.plan.arrays
    → IsInside (grid_at r.plan.arrays a).shape idx → HoldsPiece r env (Chunk (cell a (quotients idx (grid_at r.plan.arrays a).chunk))) shown
    → stored_inputs r.plan.arrays left.held a idx ≡ plan_value r.plan env a idx
element_held ranges r env shown left a idx within inside (bytes, value, holds) =
    let g = grid_at r.plan.arrays a in
    let l = layout_at r.plan.arrays a in
    let ok = grid_ok r.plan a left.sound within in
    let here = has_coordinate g idx ok inside in
    let (x, is) = defined_at l (plan_value r.plan env a) (quotients idx g.chunk) idx bytes ok here value (lies_within g idx ok inside) in
    let fits = ranges r.plan env a idx x left.sound left.typed within inside is in
    let was : left.held (piece_key r (Chunk (cell a (quotients idx g.chunk)))) ≡ Some bytes =
    subst (λ (h : Option Contents). Holds h (piece_key r (Chunk (cell a (quotients idx g.chunk)))) bytes) left.told holds in
    ap (λ (b : Option (List ℕ)). element_in l b idx) was
    ∙ spelled_element l (plan_value r.plan env a) idx bytes x value (inside-length g.shape idx inside ∙ sym ok.ranks) (inner_inside g idx ok inside) inside is fits
    ∙ sym is

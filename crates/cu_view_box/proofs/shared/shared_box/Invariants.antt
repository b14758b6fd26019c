use Rattle.std.proofs.Common.{◌≡◌, ◌<◌, ◌≤◌, ◌↔◌, ℕ, List, length, get_or}
use Rattle.cu_grid.specs.Counts.{IsWithin}
use Rattle.cu_view_box.specs.Piece.{read_at}
use Rattle.cu_view_box.proofs.shared.shared_box.Given as goal

abbrev pub invariant-loop-axis : goal.invariant-loop-axis
invariant-loop-axis l = record {
  lo_rank : length l.shared.lo ≡ length l.piece.region.lo;
  hi_rank : length l.shared.hi ≡ length l.piece.region.lo;
  exact : (idx : List ℕ) → IsWithin l.shared.lo l.shared.hi idx
      ↔ ((IsWithin l.piece.region.lo l.piece.region.hi idx × IsWithin l.out.lo l.out.hi idx)
      × ((k : ℕ) → k < l.axis → (get_or l.part.lo k 0 ≤ get_or (read_at l.piece idx) k 0) × (get_or (read_at l.piece idx) k 0 < get_or l.part.hi k 0)));
}

use Rattle.std.proofs.Common.{◌≡◌, ◌<◌, ◌+◌, ℕ, length, get_or, min, max}
use Rattle.cu_view_box.specs.Piece.{read_at}
use Rattle.cu_view_box.proofs.reads.read_hull.Given as goal

abbrev pub invariant-loop-axis : goal.invariant-loop-axis
invariant-loop-axis l = record {
  lo_rank : length l.hull.lo ≡ length l.source;
  hi_rank : length l.hull.hi ≡ length l.source;
  lo : (k : ℕ) → k < l.axis → get_or l.hull.lo k 0 ≡ min (get_or (read_at l.piece l.part.lo) k 0) (get_or (read_at l.piece l.last) k 0);
  hi : (k : ℕ) → k < l.axis → get_or l.hull.hi k 0 ≡ max (get_or (read_at l.piece l.part.lo) k 0) (get_or (read_at l.piece l.last) k 0) + 1;
}

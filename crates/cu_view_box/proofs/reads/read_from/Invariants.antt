use Rattle.std.proofs.Common.{◌≡◌, ◌<◌, ◌-◌, ℕ, length, get_or}
use Rattle.cu_view_box.specs.Piece.{read_at}
use Rattle.cu_view_box.proofs.reads.read_from.Given as goal

abbrev pub invariant-loop-axis : goal.invariant-loop-axis
invariant-loop-axis l = record {
  rank : length l.read ≡ length l.region.lo;
  done : (k : ℕ) → k < l.axis → get_or l.read k 0 ≡ get_or (read_at l.piece l.idx) k 0 - get_or l.region.lo k 0;
}

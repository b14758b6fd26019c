use Rattle.std.proofs.Common.{◌≡◌, ℕ, ◌<◌, length, get_or}
use Rattle.arrayvec.specs.ArrayVec.{array_vec_len}
use Rattle.cu_view_box.specs.Piece.{IsWayOver}
use Rattle.cu_view_box.specs.declared.way.Way.TheVariants.{Fixed}
use Rattle.cu_view.proofs.Asked.{ReadsAxis}
use Rattle.cu_view.proofs.pieces.ways_of.Given as goal

abbrev pub invariant-loop-axis : goal.invariant-loop-axis
invariant-loop-axis l = record {
  len : array_vec_len l.ways ≡ l.axis;
  count : length l.ways.items ≡ l.axis;
  over : (k : ℕ) → k < l.axis → IsWayOver l.region.lo l.region.hi (get_or l.ways.items k (Fixed 0));
  reads : (k : ℕ) → k < l.axis → ReadsAxis l.pull l.sources l.shape l.number l.region.lo k (get_or l.ways.items k (Fixed 0));
}

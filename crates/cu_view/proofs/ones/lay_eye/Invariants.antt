use Rattle.std.proofs.Common.{◌≡◌, ◌<◌, ◌≤◌, ℕ, pos, List, length, get_or, if◌then◌else◌}
use Rattle.std.specs.Ordering.{int_eq}
use Rattle.cu_num.specs.Element.{bytes_at, element_bytes}
use Rattle.cu_num.specs.declared.layout.Endian.TheVariants.{Little}
use Rattle.cu_grid.specs.Counts.{IsWithin}
use Rattle.cu_origin.specs.Pull.{diagonal_of}
use Rattle.cu_view_box.specs.Block.{buffer_place}
use Rattle.cu_view.proofs.ones.lay_eye.Given as goal

abbrev pub invariant-loop-row : goal.invariant-loop-row
invariant-loop-row l = record {
  long : length l.output ≡ length l.fn.output;
  done : (idx : List ℕ) → IsWithin l.to.region.lo l.to.region.hi idx → get_or idx 0 0 < l.row
      → bytes_at l.to.dtype l.output (buffer_place l.to idx) ≡ element_bytes Little l.to.dtype (if int_eq (diagonal_of idx) l.k then pos 1 else pos 0);
  left : (idx : List ℕ) → IsWithin l.to.region.lo l.to.region.hi idx → l.row ≤ get_or idx 0 0
      → bytes_at l.to.dtype l.output (buffer_place l.to idx) ≡ element_bytes Little l.to.dtype (pos 0);
}

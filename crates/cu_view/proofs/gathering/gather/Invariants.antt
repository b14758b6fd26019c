use Rattle.std.proofs.Common.{◌≡◌, ℕ, ◌<◌, List}
use Rattle.cu_num.specs.Element.{bytes_at, element_at, element_bytes}
use Rattle.cu_num.specs.declared.layout.Endian.TheVariants.{Little}
use Rattle.cu_grid.specs.Counts.{IsWithin}
use Rattle.cu_origin.specs.Pull.{origin_of}
use Rattle.cu_origin.specs.declared.provenance.Provenance.TheVariants.{From}
use Rattle.cu_view_box.specs.Block.{buffer_place}
use Rattle.cu_view.specs.Gathered.{IsElementKept}
use Rattle.cu_view.specs.Pieces.{number_at}
use Rattle.cu_view.proofs.gathering.gather.Given as goal

abbrev pub invariant-loop-number : goal.invariant-loop-number
invariant-loop-number l = record {
  moved : (idx i : List ℕ) → IsWithin l.to.region.lo l.to.region.hi idx → number_at l.pull l.sources l.shape idx < l.number → origin_of l.pull l.sources l.shape idx ≡ From l.source i → IsWithin l.from.region.lo l.from.region.hi i
      → bytes_at l.to.dtype l.output (buffer_place l.to idx) ≡ element_bytes Little l.to.dtype (element_at Little l.from.dtype l.bytes (buffer_place l.from i));
  others : (idx : List ℕ) → IsWithin l.to.region.lo l.to.region.hi idx
      → (number_at l.pull l.sources l.shape idx < l.number → (i : List ℕ) → origin_of l.pull l.sources l.shape idx ≡ From l.source i → ¬ IsWithin l.from.region.lo l.from.region.hi i)
      → IsElementKept l.to l.initial.output l.output idx;
}

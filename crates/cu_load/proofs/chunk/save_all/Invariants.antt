use Rattle.std.proofs.Common.{◌≡◌, ◌<◌, ◌*◌, ℕ, ℤ, length, Some}
use Rattle.std.specs.Prelude.{slice_get}
use Rattle.cu_num.specs.Dtype.{size_of}
use Rattle.cu_num.specs.Element.{element_bytes}
use Rattle.cu_num.specs.declared.layout.Endian.TheVariants.{Little}
use Rattle.cu_codec.specs.Parts.{part_at}
use Rattle.cu_load.proofs.chunk.save_all.Given as goal

abbrev pub invariant-loop-at : goal.invariant-loop-at
invariant-loop-at l = record {
  same_length : length l.bytes ≡ length l.elements * size_of l.dtype;
  done : (p : ℕ) (x : ℤ) → p < l.at → slice_get l.elements p ≡ Some x → part_at (size_of l.dtype) l.bytes p ≡ element_bytes Little l.dtype x;
}

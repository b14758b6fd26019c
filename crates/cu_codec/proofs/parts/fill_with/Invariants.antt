use Rattle.std.proofs.Common.{◌≡◌, ◌<◌, ℕ, length}
use Rattle.cu_num.specs.Dtype.{size_of}
use Rattle.cu_num.specs.Element.{element_bytes}
use Rattle.cu_num.specs.declared.layout.Endian.TheVariants.{Little}
use Rattle.cu_codec.specs.Parts.{part_at}
use Rattle.cu_codec.proofs.parts.fill_with.Given as goal

abbrev pub invariant-loop-at : goal.invariant-loop-at
invariant-loop-at l = record {
  same_length : length l.bytes ≡ length l.fn.bytes;
  done : (p : ℕ) → p < l.at → part_at (size_of l.t) l.bytes p ≡ element_bytes Little l.t l.fill;
}

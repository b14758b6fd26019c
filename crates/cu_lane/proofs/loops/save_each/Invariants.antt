use Rattle.std.proofs.Common.{◌≡◌, ℕ, ℤ, ◌<◌, get_or, length}
use Rattle.cu_num.specs.Element.{element_bytes, bytes_at}
use Rattle.cu_num.specs.Word.{IsWord}
use Rattle.cu_num.specs.declared.layout.Endian.TheVariants.{Little}
use Rattle.cu_lane.proofs.loops.save_each.Given as goal

abbrev pub invariant-loop-at : goal.invariant-loop-at
invariant-loop-at l = record {
  same_length : length l.out ≡ length l.fn.out;
  done : (k : ℕ) → k < l.at → (x : ℤ) → IsWord l.t (get_or l.x k 0) x → bytes_at l.t l.out k ≡ element_bytes Little l.t x;
}

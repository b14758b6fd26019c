use Rattle.std.proofs.Common.{◌≡◌, ◌<◌, ◌+◌, ℕ, length}
use Rattle.cu_num.specs.Element.{element_bytes, bytes_at}
use Rattle.cu_num.specs.declared.layout.Endian.TheVariants.{Little}
use Rattle.cu_kern.specs.Strips.{strip, call_type, value_along}
use Rattle.cu_kern.specs.declared.calls.Call.TheVariants.{Two}
use Rattle.cu_kern.proofs.strips.gather.Given as goal

abbrev pub invariant-loop-k : goal.invariant-loop-k
invariant-loop-k l = record {
  len : length l.part ≡ 16;
  done : (j : ℕ) → j < l.k → bytes_at (call_type (Two l.f l.t)) l.part j
      ≡ element_bytes Little (call_type (Two l.f l.t)) (value_along (Two l.f l.t) (strip l.x 1) (strip l.y l.y_step) (strip l.y l.y_step) (l.from + j));
}

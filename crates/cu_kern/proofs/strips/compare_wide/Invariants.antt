use Rattle.std.proofs.Common.{◌≡◌, ◌*◌, min, length}
use Rattle.cu_kern.specs.Strips.{strip, ResultsBelow}
use Rattle.cu_kern.specs.declared.calls.Call.TheVariants.{Two}
use Rattle.cu_kern.proofs.strips.compare_wide.Given as goal

abbrev pub invariant-loop-block : goal.invariant-loop-block
invariant-loop-block l = record {
  same_length : length l.out ≡ length l.fn.out;
  done : ResultsBelow (Two l.f l.t) (strip l.x 1) (strip l.y l.y_step) (strip l.y l.y_step) (min (l.block * 64) l.count) l.out;
}

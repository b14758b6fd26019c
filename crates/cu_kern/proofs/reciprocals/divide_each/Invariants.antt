use Rattle.std.proofs.Common.{◌≡◌, length}
use Rattle.cu_kern.specs.Strips.{strip, ResultsBelow}
use Rattle.cu_kern.specs.declared.calls.Call.TheVariants.{Two}
use Rattle.cu_kern.proofs.reciprocals.divide_each.Given as goal

abbrev pub invariant-loop-at : goal.invariant-loop-at
invariant-loop-at l = record {
  same_length : length l.out ≡ length l.fn.out;
  done : ResultsBelow (Two l.f l.t) (strip l.x 1) (strip l.y 0) (strip l.y 0) l.at l.out;
}

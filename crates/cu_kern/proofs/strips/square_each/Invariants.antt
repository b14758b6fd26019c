use Rattle.std.proofs.Common.{◌≡◌, length}
use Rattle.cu_kern.specs.Strips.{strip, ResultsBelow}
use Rattle.cu_kern.specs.declared.calls.Call.TheVariants.{Square}
use Rattle.cu_kern.proofs.strips.square_each.Given as goal

abbrev pub invariant-loop-at : goal.invariant-loop-at
invariant-loop-at l = record {
  same_length : length l.out ≡ length l.fn.out;
  done : ResultsBelow (Square l.from l.t) (strip l.x.bytes.now l.x.step) (strip l.x.bytes.now l.x.step) (strip l.x.bytes.now l.x.step) l.at l.out;
}

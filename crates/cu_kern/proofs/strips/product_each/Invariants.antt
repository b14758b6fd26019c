use Rattle.std.proofs.Common.{◌≡◌, length}
use Rattle.cu_kern.specs.Strips.{strip, ResultsBelow}
use Rattle.cu_kern.specs.declared.calls.Call.TheVariants.{Product}
use Rattle.cu_kern.proofs.strips.product_each.Given as goal

abbrev pub invariant-loop-at : goal.invariant-loop-at
invariant-loop-at l = record {
  same_length : length l.out ≡ length l.fn.out;
  done : ResultsBelow (Product l.from l.t) (strip l.x.bytes.now l.x.step) (strip l.y.bytes.now l.y.step) (strip l.y.bytes.now l.y.step) l.at l.out;
}

use Rattle.std.proofs.Common.{◌≡◌, length, drop}
use Rattle.cu_origin.specs.Pull.{concat_from}
use Rattle.cu_view.proofs.origins.concat_origin.Given as goal

abbrev pub invariant-loop-number : goal.invariant-loop-number
invariant-loop-number l = record {
  rank : length l.rest ≡ length l.idx;
  same : concat_from l.axis l.number (drop l.number l.sources) l.rest ≡ concat_from l.axis 0 l.sources l.idx;
}

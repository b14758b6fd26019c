use Rattle.std.proofs.Common.{◌≡◌, length, drop}
use Rattle.cu_semantics.specs.View.{concat_at}
use Rattle.cu_mean.specs.Reading.{elements_in}
use Rattle.cu_mean.proofs.pieces.concat_at.Given as goal

abbrev pub invariant-loop-number : goal.invariant-loop-number
invariant-loop-number l = record {
  rank : length l.read ≡ length l.idx;
  rest : concat_at l.infos (elements_in l.plains) l.axis (drop l.number l.args) l.read ≡ concat_at l.infos (elements_in l.plains) l.axis l.args l.idx;
}

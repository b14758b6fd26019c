use Rattle.std.proofs.Common.{◌≡◌, ◌≤◌, max, drop}
use Rattle.cu_typing.specs.Joined.{arrays_of, joined_rank}
use Rattle.cu_typing.proofs.joining.widest.Given as goal

abbrev pub invariant-loop-arg : goal.invariant-loop-arg
invariant-loop-arg l = record {
  short : l.rank ≤ 6;
  rest : max l.rank (joined_rank (arrays_of (drop l.arg-index l.args))) ≡ joined_rank (arrays_of l.args);
}

use Rattle.std.proofs.Common.{◌≤◌, vec_len}
use Rattle.cu_command.specs.Streams.{Took}
use Rattle.cu_command.proofs.streams.read_all.Given as goal

abbrev pub invariant-loop : goal.invariant-loop
invariant-loop g l = record {
  took : Took (g.R.Source.left l.initial.src) (g.R.Source.left l.src) l.text.items;
  turns : l.counter ≤ vec_len l.text;
  bound : vec_len l.text ≤ 1048577;
  faults : g.R.Source.faults l.initial.src ≤ g.R.Source.faults l.src;
}

use Rattle.std.proofs.Common.{◌≤◌, length}
use Rattle.cu_command.specs.Streams.{WroteFront}
use Rattle.cu_command.proofs.streams.write_all.Given as goal

abbrev pub invariant-loop : goal.invariant-loop
invariant-loop g l = record {
  wrote : WroteFront (g.W.Sink.written l.initial.out) (g.W.Sink.written l.out) l.bytes l.done;
  turns : l.counter ≤ l.done;
  bound : l.done ≤ length l.bytes;
  faults : g.W.Sink.faults l.initial.out ≤ g.W.Sink.faults l.out;
}

-- Each read so far failed, and landed late puts alone.
use Rattle.cu_store.specs.Faults.{Rose}
use Rattle.cu_store.specs.Steps.{NoChange}
use Rattle.cu_command.specs.Seen.{Stepped, WithinCalls}
use Rattle.cu_command.proofs.chunks.read_stored_chunk.Given as goal

abbrev pub invariant-loop : goal.invariant-loop
invariant-loop g l = record {
  step : Stepped NoChange (g.D.PutStore.shown l.initial.depot) (g.D.PutStore.shown l.depot);
  rose : Rose l.counter (g.D.PutStore.shown l.initial.depot).faults (g.D.PutStore.shown l.depot).faults;
  calls : WithinCalls l.counter (g.D.PutStore.shown l.initial.depot) (g.D.PutStore.shown l.depot);
}

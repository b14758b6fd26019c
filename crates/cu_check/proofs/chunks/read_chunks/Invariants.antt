-- The chunks below the number were read, and landed late puts alone.
use Rattle.std.proofs.Common.{◌+◌, ◌*◌}
use Rattle.cu_store.specs.Steps.{Shown, NoChange, OnceEach}
use Rattle.cu_command.specs.Seen.{Stepped, WithinCalls}
use Rattle.cu_check.specs.Chunks.{input_of, HasChunksBelow}
use Rattle.cu_check.proofs.chunks.read_chunks.Given as goal

abbrev pub invariant-loop-number : goal.invariant-loop-number
invariant-loop-number g l = record {
  step : Stepped NoChange (g.D.PutStore.shown l.initial.depot) (g.D.PutStore.shown l.depot);
  read : (entry : Shown) → Stepped NoChange entry (g.D.PutStore.shown l.initial.depot) → HasChunksBelow (input_of l.info) l.all l.number entry;
  calls : WithinCalls (l.number * (l.retries + 1)) (g.D.PutStore.shown l.initial.depot) (g.D.PutStore.shown l.depot);
  once : OnceEach l.number (g.D.PutStore.shown l.initial.depot) (g.D.PutStore.shown l.depot);
}

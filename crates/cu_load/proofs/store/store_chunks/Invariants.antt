use Rattle.std.proofs.Common.{◌+◌, ◌*◌}
use Rattle.cu_store.specs.Steps.{OnceEach}
use Rattle.cu_command.specs.Seen.{Stepped, WithinCalls}
use Rattle.cu_load.specs.Load.{ChunksPut, IsArrayCalm, HoldsChunks}
use Rattle.cu_load.specs.LoadForm.{given_by}
use Rattle.cu_load.proofs.store.store_chunks.Given as goal

abbrev pub invariant-loop-number : goal.invariant-loop-number
invariant-loop-number g l = record {
  step : Stepped (ChunksPut (given_by l.form) l.number) (g.D.PutStore.shown l.fn.depot) (g.D.PutStore.shown l.depot);
  stored : IsArrayCalm (given_by l.form) (g.D.PutStore.shown l.fn.depot).late → HoldsChunks (given_by l.form) (g.D.PutStore.shown l.depot).held l.number;
  calls : WithinCalls (l.number * (l.retries + 1)) (g.D.PutStore.shown l.fn.depot) (g.D.PutStore.shown l.depot);
  once : OnceEach l.number (g.D.PutStore.shown l.fn.depot) (g.D.PutStore.shown l.depot);
}

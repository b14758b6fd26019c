-- The arrays of the nodes so far were read, and landed late puts alone.
use Rattle.std.proofs.Common.{◌+◌, ◌*◌, take}
use Rattle.cu_store.specs.Steps.{Shown, NoChange, OnceEach}
use Rattle.cu_command.specs.Seen.{Stepped, WithinCalls}
use Rattle.cu_check.specs.Arrays.{arrays_of_nodes, chunks_of_all}
use Rattle.cu_check.specs.Plains.{AreReadArrays}
use Rattle.cu_check.proofs.inputs.read_nodes.Given as goal

abbrev pub invariant-loop-node : goal.invariant-loop-node
invariant-loop-node g l = record {
  step : Stepped NoChange (g.D.PutStore.shown l.initial.depot) (g.D.PutStore.shown l.depot);
  read : (entry : Shown) → Stepped NoChange entry (g.D.PutStore.shown l.initial.depot) → AreReadArrays entry (arrays_of_nodes l.inputs (take l.node-index l.expr.nodes)) l.arrays.items;
  calls : WithinCalls (chunks_of_all (arrays_of_nodes l.inputs (take l.node-index l.expr.nodes)) * (l.retries + 1)) (g.D.PutStore.shown l.initial.depot) (g.D.PutStore.shown l.depot);
  once : OnceEach (chunks_of_all (arrays_of_nodes l.inputs (take l.node-index l.expr.nodes))) (g.D.PutStore.shown l.initial.depot) (g.D.PutStore.shown l.depot);
}

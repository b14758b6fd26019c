use Rattle.std.proofs.Common.{◌≡◌, ◌+◌, ◌*◌, List, length, take, Some, refl, sym, ap, subst, arith}
use Rattle.std.specs.Prelude.{slice_get}
use Rattle.std.proofs.lemmas.List.{take_all}
use Rattle.std.proofs.lemmas.Option.{slice_get_read}
use Rattle.cu_expr.specs.declared.inputs.InputInfo.{InputInfo}
use Rattle.cu_store.specs.Steps.{OnceEach}
use Rattle.cu_command.proofs.SeenLemmas.{stepped_then}
use Rattle.cu_command.specs.Seen.{WithinCalls}
use Rattle.cu_check.specs.Arrays.{arrays_of_nodes, form_arrays, chunks_of_all}
use Rattle.cu_check.specs.Plains.{AreReadArrays}
use Rattle.cu_check.proofs.InputNodes.{arrays_more, node_fault}
use Rattle.cu_check.proofs.ArrayCalls.{calls_of_more, node_calls, once_of_more, node_once}
use Rattle.cu_check.proofs.inputs.read_nodes.Goals as goal

pub read_node-requires-clause-ranges : goal.read_node-requires-clause-ranges
read_node-requires-clause-ranges g c =
    let at : slice_get c.args.expr.now.nodes c.loop-node.node-index ≡ Some c.node-item.result =
    rw (← c.nodes-node-items.ensures.nodes) (slice_get_read c.nodes-node-items.result.now _ c.loop-node.node-index c.node-item.result refl c.loop-node-test.true c.node-item.is) in
    let own = c.nodes-node-items.ensures.form.nodes c.loop-node.node-index c.node-item.result at in
    own.form.ranges

pub loop-node-preserved : goal.loop-node-preserved
loop-node-preserved g c =
    let nodes = c.nodes-node-items.result.now in
    let same = c.nodes-node-items.ensures.nodes in
    let more = rw same at (arrays_more c.args.inputs.now c.nodes-node-items.result.now c.loop-node.node-index c.node-item.result c.loop-node-test.true c.node-item.is) in
    record {
      step = stepped_then c.loop-node.invariant.step c.read_node.ensures.step;
      read = λ entry before.
          subst (λ (xs : List InputInfo). AreReadArrays entry xs c.read_node.new.arrays.items) (sym more)
          (c.in-Ok.ensures.read entry (arrays_of_nodes c.args.inputs.now (take c.loop-node.node-index c.args.expr.now.nodes)) (stepped_then before c.loop-node.invariant.step) (c.loop-node.invariant.read entry before));
      calls = subst (λ (xs : List InputInfo). WithinCalls (chunks_of_all xs * (c.args.retries + 1)) (g.D.PutStore.shown c.args.depot.now) (g.D.PutStore.shown c.read_node.new.depot)) (sym more)
          (calls_of_more (c.args.retries + 1) (arrays_of_nodes c.args.inputs.now (take c.loop-node.node-index c.args.expr.now.nodes)) (form_arrays c.args.inputs.now c.node-item.result.form)
          (g.D.PutStore.shown c.args.depot.now) (g.D.PutStore.shown c.loop-node.depot) (g.D.PutStore.shown c.read_node.new.depot) c.loop-node.invariant.calls c.read_node.ensures.calls);
      once = subst (λ (xs : List InputInfo). OnceEach (chunks_of_all xs) (g.D.PutStore.shown c.args.depot.now) (g.D.PutStore.shown c.read_node.new.depot)) (sym more)
          (once_of_more (arrays_of_nodes c.args.inputs.now (take c.loop-node.node-index c.args.expr.now.nodes)) (form_arrays c.args.inputs.now c.node-item.result.form)
          (g.D.PutStore.shown c.args.depot.now) (g.D.PutStore.shown c.loop-node.depot) (g.D.PutStore.shown c.read_node.new.depot) c.loop-node.invariant.once c.read_node.ensures.once);
    }

pub returns-in-Err-clause-step : goal.returns-in-Err-clause-step
returns-in-Err-clause-step g c = stepped_then c.loop-node.invariant.step c.read_node.ensures.step

pub returns-in-Err-clause-cause : goal.returns-in-Err-clause-cause
returns-in-Err-clause-cause g c entry before =
    let (a, own, fault) = c.in-Err.ensures.cause in
    let same = c.nodes-node-items.ensures.nodes in
    rw (← same) (node_fault (c.args.retries + 1) c.args.inputs.now c.nodes-node-items.result.now c.loop-node.node-index c.node-item.result a c.loop-node.arrays.items
    (g.D.PutStore.shown c.args.depot.now) (g.D.PutStore.shown c.loop-node.depot) (g.D.PutStore.shown c.read_node.new.depot) entry c.in-Err.status c.loop-node-test.true c.node-item.is own
    c.loop-node.invariant.step.step.count (rw same (c.loop-node.invariant.read entry before)) (fault entry (stepped_then before c.loop-node.invariant.step)))

pub returns-clause-read : goal.returns-clause-read
returns-clause-read g c entry before =
    let same = ap length c.nodes-node-items.ensures.nodes in
    let all = take_all c.loop-node.node-index c.args.expr.now.nodes (omega arith) in
    rw all at (c.loop-node.invariant.read entry before)

pub returns-in-Err-clause-calls : goal.returns-in-Err-clause-calls
returns-in-Err-clause-calls g c =
    let same = c.nodes-node-items.ensures.nodes in
    rw (← same) (node_calls (c.args.retries + 1) c.args.inputs.now c.nodes-node-items.result.now c.loop-node.node-index c.node-item.result (g.D.PutStore.shown c.args.depot.now) (g.D.PutStore.shown c.loop-node.depot)
    (g.D.PutStore.shown c.read_node.new.depot) c.loop-node-test.true c.node-item.is (rw same c.loop-node.invariant.calls) c.read_node.ensures.calls)

pub returns-clause-calls : goal.returns-clause-calls
returns-clause-calls g c =
    let same = ap length c.nodes-node-items.ensures.nodes in
    let all = take_all c.loop-node.node-index c.args.expr.now.nodes (omega arith) in
    rw all at c.loop-node.invariant.calls

pub returns-in-Err-clause-once : goal.returns-in-Err-clause-once
returns-in-Err-clause-once g c =
    let same = c.nodes-node-items.ensures.nodes in
    rw (← same) (node_once c.args.inputs.now c.nodes-node-items.result.now c.loop-node.node-index c.node-item.result (g.D.PutStore.shown c.args.depot.now) (g.D.PutStore.shown c.loop-node.depot)
    (g.D.PutStore.shown c.read_node.new.depot) c.loop-node-test.true c.node-item.is (rw same c.loop-node.invariant.once) c.read_node.ensures.once)

pub returns-clause-once : goal.returns-clause-once
returns-clause-once g c =
    let same = ap length c.nodes-node-items.ensures.nodes in
    let all = take_all c.loop-node.node-index c.args.expr.now.nodes (omega arith) in
    rw all at c.loop-node.invariant.once

use Rattle.std.proofs.Common.{◌≡◌, ℕ, ◌+◌, ◌*◌, List, [], drop, length, Some, refl, sym, ap, ◌∙◌, subst, arith}
use Rattle.std.specs.Prelude.{slice_get}
use Rattle.std.proofs.lemmas.List.{length-map}
use Rattle.std.proofs.lemmas.Option.{slice_get_read}
use Rattle.cu_expr.specs.declared.inputs.InputInfo.{InputInfo}
use Rattle.cu_form.specs.declared.expr.Node.{Node}
use Rattle.cu_store.specs.Steps.{NoChange, Steps, OnceEach}
use Rattle.cu_command.specs.Inputs.{name_before, used_names, names_from, names_of, names_in, IsInputFault, HasRead}
use Rattle.cu_command.proofs.InputLemmas.{next_names, end_names, read_none, written_back}
use Rattle.cu_command.proofs.inputs.read_inputs.Goals as goal

pub read_next-requires-clause-ranges : goal.read_next-requires-clause-ranges
read_next-requires-clause-ranges g c =
    let at : slice_get c.args.expr.now.nodes c.loop-node.node-index ≡ Some c.node-item.result =
    rw (← c.nodes-node-items.ensures.nodes) (slice_get_read c.nodes-node-items.result.now _ c.loop-node.node-index c.node-item.result refl c.loop-node-test.true c.node-item.is) in
    let own = c.nodes-node-items.ensures.form.nodes c.loop-node.node-index c.node-item.result at in
    own.form.ranges

pub returns-in-Err-clause-step : goal.returns-in-Err-clause-step
returns-in-Err-clause-step g c =
    let nodes = c.nodes-node-items.result.now in
    let rest = used_names (drop (c.loop-node.node-index + 1) nodes) in
    let all : names_in c.args.expr.now ≡ names_from (names_of c.loop-node.inputs.items) (name_before c.node-item.result.form rest) =
    ap (λ (ns : List Node). names_from [] (used_names ns)) (sym c.nodes-node-items.ensures.nodes)
    ∙ next_names (names_from [] (used_names nodes)) nodes c.loop-node.node-index c.node-item.result c.loop-node.inputs.items c.loop-node-test.true c.node-item.is c.loop-node.invariant.whole in
    subst (λ (names : List (List ℕ)). Steps NoChange 0 (2 * (c.args.retries + 1) * length names) (g.D.PutStore.shown c.args.depot.now) (g.D.PutStore.shown c.read_next.new.depot)) (sym all)
    (c.in-Err.ensures.step (g.D.PutStore.shown c.args.depot.now) rest c.loop-node.invariant.read)

pub returns-in-Err-clause-once : goal.returns-in-Err-clause-once
returns-in-Err-clause-once g c =
    let nodes = c.nodes-node-items.result.now in
    let rest = used_names (drop (c.loop-node.node-index + 1) nodes) in
    let all : names_in c.args.expr.now ≡ names_from (names_of c.loop-node.inputs.items) (name_before c.node-item.result.form rest) =
    ap (λ (ns : List Node). names_from [] (used_names ns)) (sym c.nodes-node-items.ensures.nodes)
    ∙ next_names (names_from [] (used_names nodes)) nodes c.loop-node.node-index c.node-item.result c.loop-node.inputs.items c.loop-node-test.true c.node-item.is c.loop-node.invariant.whole in
    subst (λ (names : List (List ℕ)). OnceEach (2 * length names) (g.D.PutStore.shown c.args.depot.now) (g.D.PutStore.shown c.read_next.new.depot)) (sym all)
    (c.in-Err.ensures.once (g.D.PutStore.shown c.args.depot.now) rest c.loop-node.invariant.read)

pub returns-in-Err-clause-cause : goal.returns-in-Err-clause-cause
returns-in-Err-clause-cause g c =
    let nodes = c.nodes-node-items.result.now in
    let rest = used_names (drop (c.loop-node.node-index + 1) nodes) in
    let all : names_in c.args.expr.now ≡ names_from (names_of c.loop-node.inputs.items) (name_before c.node-item.result.form rest) =
    ap (λ (ns : List Node). names_from [] (used_names ns)) (sym c.nodes-node-items.ensures.nodes)
    ∙ next_names (names_from [] (used_names nodes)) nodes c.loop-node.node-index c.node-item.result c.loop-node.inputs.items c.loop-node-test.true c.node-item.is c.loop-node.invariant.whole in
    subst (λ (names : List (List ℕ)). IsInputFault (c.args.retries + 1) names (g.D.PutStore.shown c.args.depot.now) (g.D.PutStore.shown c.read_next.new.depot) c.in-Err.fault) (sym all)
    (c.in-Err.ensures.cause (g.D.PutStore.shown c.args.depot.now) rest c.loop-node.invariant.read)

pub loop-node-preserved : goal.loop-node-preserved
loop-node-preserved g c =
    let nodes = c.nodes-node-items.result.now in
    record {
      whole = next_names (names_from [] (used_names nodes)) nodes c.loop-node.node-index c.node-item.result c.loop-node.inputs.items c.loop-node-test.true c.node-item.is c.loop-node.invariant.whole
          ∙ sym (c.in-Ok-read_next.ensures.names (used_names (drop (c.loop-node.node-index + 1) nodes)));
      read = c.in-Ok-read_next.ensures.read (g.D.PutStore.shown c.args.depot.now) c.loop-node.invariant.read;
      room = written_back 1048577 c.loop-node.room.len c.read_next.new.room c.loop-node.room.items c.in-Ok-read_next.ensures.room c.loop-node.invariant.room (omega arith);
    }

pub loop-node-init : goal.loop-node-init
loop-node-init g c = record {
  whole = ap (λ (is : List InputInfo). names_from (names_of is) (used_names c.nodes-node-items.result.now)) (sym c.new-inputs.ensures.items);
  read = subst (λ (is : List InputInfo). HasRead (2 * (c.args.retries + 1)) (g.D.PutStore.shown c.args.depot.now) (g.D.PutStore.shown c.args.depot.now) is) (sym c.new-inputs.ensures.items) read_none;
  room = c.in-Ok.ensures;
}

pub returns : goal.returns
returns g c =
    let inputs = c.loop-node.inputs.items in
    let all : names_of inputs ≡ names_in c.args.expr.now =
    end_names (names_from [] (used_names c.nodes-node-items.result.now)) c.nodes-node-items.result.now c.loop-node.node-index inputs c.loop-node-test.false c.loop-node.invariant.whole
    ∙ ap (λ (ns : List Node). names_from [] (used_names ns)) c.nodes-node-items.ensures.nodes in
    record {
      names = all;
      read = c.loop-node.invariant.read.read;
      step = subst (λ (n : ℕ). Steps NoChange 0 (2 * (c.args.retries + 1) * n) (g.D.PutStore.shown c.args.depot.now) (g.D.PutStore.shown c.loop-node.depot))
          (sym (length-map inputs (λ (i : InputInfo). i.name)) ∙ ap length all) c.loop-node.invariant.read.step;
      once = subst (λ (n : ℕ). OnceEach (2 * n) (g.D.PutStore.shown c.args.depot.now) (g.D.PutStore.shown c.loop-node.depot))
          (sym (length-map inputs (λ (i : InputInfo). i.name)) ∙ ap length all) c.loop-node.invariant.read.once;
      cause = tt;
    }

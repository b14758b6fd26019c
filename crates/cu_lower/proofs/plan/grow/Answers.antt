use Rattle.std.proofs.Common.{◌≡◌, ◌+◌, List, ℕ, Some, All, [], length, map, drop, get_or, sym, ap, ◌∙◌, subst, true, false, arith}
use Rattle.std.specs.Prelude.{slice_get}
use Rattle.std.proofs.lemmas.List.{drop_more}
use Rattle.std.proofs.lemmas.Option.{slice_get-get_or}
use Rattle.cu_name.specs.Name.{is_name}
use Rattle.cu_op.specs.declared.layout.ArrayInfo.{ArrayInfo}
use Rattle.cu_form.specs.declared.expr.Node.{Node}
use Rattle.cu_lower.specs.Inputs.{input_array}
use Rattle.cu_lower.specs.Parts.{Grown, IsGrown, CanGrow, HasSteps, is_given}
use Rattle.cu_lower.specs.Plan.{grown_after, first_grown}
use Rattle.cu_lower.proofs.Growing as growing
use Rattle.cu_lower.proofs.Names.{inputs_few}
use Rattle.cu_lower.proofs.NodeSteps.{all_steps}
use Rattle.cu_lower.proofs.Ready.{node_ready, names_ready, are_options}
use Rattle.cu_lower.proofs.Standing as standing
use Rattle.cu_lower.proofs.plan.grow.Goals as goal

pub input_arrays-requires : goal.input_arrays-requires
input_arrays-requires c =
    subst (λ (names : List (List ℕ)). All (λ name. is_name name ≡ true) names) (sym (c.deref.ensures.value ∙ c.in_ok-names.ensures))
    (names_ready c.args.expr.now c.args.infos.now c.args.inputs.now c.args.options.now c.requires)

pub add_node-requires-clause-inputs : goal.add_node-requires-clause-inputs
add_node-requires-clause-inputs c =
    let few = inputs_few c.args.expr.now in
    let nodes = c.requires.form.few in
    let names = ap length (c.deref-in-loop-k.ensures.value ∙ c.in_ok-names.ensures) in
    omega (arith, few, nodes, names)

pub add_node-requires-clause-form : goal.add_node-requires-clause-form
add_node-requires-clause-form c = λ mark.
    let at = ap (λ nodes. slice_get nodes c.loop-k.k) (sym c.nodes-nodes.ensures.nodes) ∙ slice_get-get_or c.nodes-nodes.result.now c.loop-k.k c.index-nodes-k.result c.loop-k-test.true in
    let live = sym (c.live_marks-marks.ensures c.loop-k.k) ∙ mark in
    subst (λ (k : ℕ). is_given c.args.expr.now k (get_or c.nodes-nodes.result.now c.loop-k.k c.index-nodes-k.result).form ≡ false → CanGrow c.args.infos.now c.args.options.now k (get_or c.nodes-nodes.result.now c.loop-k.k c.index-nodes-k.result).form) (sym c.loop-k.invariant.number)
    (node_ready c.args.expr.now c.args.infos.now c.args.inputs.now c.args.options.now c.requires c.loop-k.k (get_or c.nodes-nodes.result.now c.loop-k.k c.index-nodes-k.result) at live)

pub add_node-requires-clause-steps : goal.add_node-requires-clause-steps
add_node-requires-clause-steps c = λ mark.
    let at = ap (λ nodes. slice_get nodes c.loop-k.k) (sym c.nodes-nodes.ensures.nodes) ∙ slice_get-get_or c.nodes-nodes.result.now c.loop-k.k c.index-nodes-k.result c.loop-k-test.true in
    let live = sym (c.live_marks-marks.ensures c.loop-k.k) ∙ mark in
    subst (λ (k : ℕ). HasSteps c.args.expr.now c.args.infos.now c.args.options.now k (get_or c.nodes-nodes.result.now c.loop-k.k c.index-nodes-k.result).form) (sym c.loop-k.invariant.number)
    ((all_steps c.args.expr.now c.args.infos.now c.args.inputs.now c.args.options.now c.requires (record { pulls = c.pull_law.ensures; reductions = record { steps = c.reduction_law.ensures.steps; sizes = c.reduction_law.ensures.sizes; value = c.reduction_law.ensures.value }; searches = record { steps = c.search_law.ensures.steps; sizes = c.search_law.ensures.sizes; value = c.search_law.ensures.value }; products = record { steps = c.product_law.ensures.steps; sizes = c.product_law.ensures.sizes; value = c.product_law.ensures.value }; sums = record { steps = c.cumulative_law.ensures.steps; sizes = c.cumulative_law.ensures.sizes; value = c.cumulative_law.ensures.value }; groups = record { steps = c.grouped_law.ensures.steps; sizes = c.grouped_law.ensures.sizes; value = c.grouped_law.ensures.value }; rechunks = record { steps = c.rechunk_law.ensures.steps; last = c.rechunk_law.ensures.last; ends = c.rechunk_law.ensures.ends; sizes = c.rechunk_law.ensures.sizes; value = c.rechunk_law.ensures.value }; operands = record { steps = c.operands_law.ensures.steps; places = c.operands_law.ensures.places; given = c.operands_law.ensures.given; sizes = c.operands_law.ensures.sizes; value = c.operands_law.ensures.value } })).steps c.loop-k.k (get_or c.nodes-nodes.result.now c.loop-k.k c.index-nodes-k.result) at live)

pub add_node-requires-clause-options : goal.add_node-requires-clause-options
add_node-requires-clause-options c =
    are_options c.args.expr.now c.args.infos.now c.args.inputs.now c.args.options.now c.requires (c.live_law.ensures.closed c.args.expr.now c.requires.form)

pub loop-k-init : goal.loop-k-init
loop-k-init c =
    let e = c.args.expr.now in
    let steps = all_steps c.args.expr.now c.args.infos.now c.args.inputs.now c.args.options.now c.requires (record { pulls = c.pull_law.ensures; reductions = record { steps = c.reduction_law.ensures.steps; sizes = c.reduction_law.ensures.sizes; value = c.reduction_law.ensures.value }; searches = record { steps = c.search_law.ensures.steps; sizes = c.search_law.ensures.sizes; value = c.search_law.ensures.value }; products = record { steps = c.product_law.ensures.steps; sizes = c.product_law.ensures.sizes; value = c.product_law.ensures.value }; sums = record { steps = c.cumulative_law.ensures.steps; sizes = c.cumulative_law.ensures.sizes; value = c.cumulative_law.ensures.value }; groups = record { steps = c.grouped_law.ensures.steps; sizes = c.grouped_law.ensures.sizes; value = c.grouped_law.ensures.value }; rechunks = record { steps = c.rechunk_law.ensures.steps; last = c.rechunk_law.ensures.last; ends = c.rechunk_law.ensures.ends; sizes = c.rechunk_law.ensures.sizes; value = c.rechunk_law.ensures.value }; operands = record { steps = c.operands_law.ensures.steps; places = c.operands_law.ensures.places; given = c.operands_law.ensures.given; sizes = c.operands_law.ensures.sizes; value = c.operands_law.ensures.value } }) in
    let arrays : c.in_ok-arrays.arrays.items ≡ map (input_array c.args.inputs.now) (c.deref.result.now) = c.in_ok-arrays.ensures in
    let first : c.first-grown.result ≡ first_grown c.args.expr.now c.args.inputs.now =
    c.first-grown.ensures ∙ ap (λ (xs : List ArrayInfo). record { arrays = xs; ops = []; places = [] }) (arrays ∙ ap (map (input_array c.args.inputs.now)) (c.deref.ensures.value ∙ c.in_ok-names.ensures)) in
    record {
      known = subst (IsGrown c.args.expr.now) (sym first) (standing.at_first c.args.expr.now c.args.infos.now c.args.inputs.now c.args.options.now c.requires.form steps);
      number = ap (λ (g : Grown). length g.places) first;
      rest = ap (λ (g : Grown). grown_after c.args.expr.now c.args.infos.now c.args.options.now g c.nodes-nodes.result.now) first
          ∙ ap (λ nodes. grown_after c.args.expr.now c.args.infos.now c.args.options.now (first_grown c.args.expr.now c.args.inputs.now) nodes) c.nodes-nodes.ensures.nodes;
    }

pub loop-k-preserved : goal.loop-k-preserved
loop-k-preserved c =
    let e = c.args.expr.now in
    let infos = c.args.infos.now in
    let options = c.args.options.now in
    let steps = all_steps c.args.expr.now c.args.infos.now c.args.inputs.now c.args.options.now c.requires (record { pulls = c.pull_law.ensures; reductions = record { steps = c.reduction_law.ensures.steps; sizes = c.reduction_law.ensures.sizes; value = c.reduction_law.ensures.value }; searches = record { steps = c.search_law.ensures.steps; sizes = c.search_law.ensures.sizes; value = c.search_law.ensures.value }; products = record { steps = c.product_law.ensures.steps; sizes = c.product_law.ensures.sizes; value = c.product_law.ensures.value }; sums = record { steps = c.cumulative_law.ensures.steps; sizes = c.cumulative_law.ensures.sizes; value = c.cumulative_law.ensures.value }; groups = record { steps = c.grouped_law.ensures.steps; sizes = c.grouped_law.ensures.sizes; value = c.grouped_law.ensures.value }; rechunks = record { steps = c.rechunk_law.ensures.steps; last = c.rechunk_law.ensures.last; ends = c.rechunk_law.ensures.ends; sizes = c.rechunk_law.ensures.sizes; value = c.rechunk_law.ensures.value }; operands = record { steps = c.operands_law.ensures.steps; places = c.operands_law.ensures.places; given = c.operands_law.ensures.given; sizes = c.operands_law.ensures.sizes; value = c.operands_law.ensures.value } }) in
    let nodes : List Node = c.nodes-nodes.result.now in
    let k = c.loop-k.k in
    let n : Node = get_or c.nodes-nodes.result.now c.loop-k.k c.index-nodes-k.result in
    let grown : Grown = c.loop-k.grown in
    let at : slice_get c.args.expr.now.nodes c.loop-k.k ≡ Some n =
    ap (λ nodes. slice_get nodes c.loop-k.k) (sym c.nodes-nodes.ensures.nodes) ∙ slice_get-get_or c.nodes-nodes.result.now c.loop-k.k c.index-nodes-k.result c.loop-k-test.true in
    let there : slice_get c.args.expr.now.nodes (length grown.places) ≡ Some n = ap (slice_get c.args.expr.now.nodes) c.loop-k.invariant.number ∙ at in
    let new : c.add_node.new.self ≡ growing.next c.args.expr.now c.args.infos.now c.args.options.now grown n.form = c.in_ok-add_node.ensures in
    let longer = growing.longer c.args.expr.now c.args.infos.now c.args.options.now grown n.form in
    let size = ap (λ (g : Grown). length g.places) new in
    let number = c.loop-k.invariant.number in
    record {
      known = subst (IsGrown c.args.expr.now) (sym new) (growing.next_grown e infos options steps grown n there c.loop-k.invariant.known);
      number = omega (arith, longer, size, number);
      rest = ap (λ (g : Grown). grown_after c.args.expr.now c.args.infos.now c.args.options.now g (drop (c.loop-k.k + 1) c.nodes-nodes.result.now)) new
          ∙ ap (λ ns. grown_after c.args.expr.now c.args.infos.now c.args.options.now grown ns) (sym (drop_more nodes k c.index-nodes-k.result c.loop-k-test.true))
          ∙ c.loop-k.invariant.rest;
    }

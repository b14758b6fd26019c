use Rattle.std.proofs.Common.{ℕ, sym, ap, get_or, ◌∙◌, arith}
use Rattle.cu_form.specs.declared.expr.Node.{Node}
use Rattle.cu_need.specs.Counts.{node_tasks, node_cells}
use Rattle.cu_need.proofs.LiveSteps.{summed_here, summed_past, node_takes, node_within}
use Rattle.cu_need.proofs.counts.plan_counts.Goals as goal
use Rattle.cu_need.proofs.counts.plan_counts.Goals.{then-marks-k, else-marks-k}

pub loop-k-preserved : goal.loop-k-preserved
loop-k-preserved c =
    let tasks = λ (numbered : ℕ × Node). node_tasks c.args.most c.args.split_every c.args.infos.now c.args.expr.now.out numbered.0 numbered.1.form in
    let cells = λ (numbered : ℕ × Node). node_cells c.args.most c.args.split_every c.args.infos.now c.args.expr.now.out numbered.0 numbered.1.form in
    let seen = sym (c.live_marks-marks.ensures c.loop-k.k) in
    elim c.if-marks-k.branch [
      | then-marks-k w ↦ record {
        few_tasks = omega (arith, w.tasks-is, w.counts_of_node-own.ensures.few_tasks, c.loop-k.invariant.few_tasks);
        few_cells = omega (arith, w.cells-is, w.counts_of_node-own.ensures.few_cells, c.loop-k.invariant.few_cells);
        tasks = summed_here c.args.expr.now c.nodes-nodes.result.now c.loop-k.k w.index-nodes-k.result tasks c.loop-k.tasks w.counts_of_node-own.result.tasks c.if-marks-k.tasks _ c.loop-k-test.true (seen ∙ w.if-marks-k.true) (w.counts_of_node-own.ensures.tasks ∙ ap (λ (out : ℕ). node_tasks c.args.most c.args.split_every c.args.infos.now out c.loop-k.k (get_or c.nodes-nodes.result.now c.loop-k.k w.index-nodes-k.result).form) c.out-out.ensures.out) w.tasks-is c.loop-k.invariant.tasks;
        cells = summed_here c.args.expr.now c.nodes-nodes.result.now c.loop-k.k w.index-nodes-k.result cells c.loop-k.cells w.counts_of_node-own.result.cells c.if-marks-k.cells _ c.loop-k-test.true (seen ∙ w.if-marks-k.true) (w.counts_of_node-own.ensures.cells ∙ ap (λ (out : ℕ). node_cells c.args.most c.args.split_every c.args.infos.now out c.loop-k.k (get_or c.nodes-nodes.result.now c.loop-k.k w.index-nodes-k.result).form) c.out-out.ensures.out) w.cells-is c.loop-k.invariant.cells;
      }
      | else-marks-k w ↦ record {
        few_tasks = omega (arith, w.tasks-is, c.loop-k.invariant.few_tasks);
        few_cells = omega (arith, w.cells-is, c.loop-k.invariant.few_cells);
        tasks = summed_past c.args.expr.now c.nodes-nodes.result.now c.loop-k.k tasks c.loop-k.tasks c.if-marks-k.tasks _ c.loop-k-test.true (seen ∙ w.if-marks-k.false) w.tasks-is c.loop-k.invariant.tasks;
        cells = summed_past c.args.expr.now c.nodes-nodes.result.now c.loop-k.k cells c.loop-k.cells c.if-marks-k.cells _ c.loop-k-test.true (seen ∙ w.if-marks-k.false) w.cells-is c.loop-k.invariant.cells;
      }
    ]

pub counts_of_node-own-requires-clause-args : goal.counts_of_node-own-requires-clause-args
counts_of_node-own-requires-clause-args c = node_takes c.args.expr.now c.nodes-nodes.result.now c.loop-k.k c.index-nodes-k.result c.nodes-nodes.ensures.form c.nodes-nodes.ensures.nodes c.loop-k-test.true

pub counts_of_node-own-requires-clause-within : goal.counts_of_node-own-requires-clause-within
counts_of_node-own-requires-clause-within c = node_within c.args.expr.now c.args.infos.now c.nodes-nodes.result.now c.out-out.result c.loop-k.k c.index-nodes-k.result c.requires.limits c.out-out.ensures.out c.nodes-nodes.ensures.nodes c.loop-k-test.true

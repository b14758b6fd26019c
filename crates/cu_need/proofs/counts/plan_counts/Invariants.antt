use Rattle.std.proofs.Common.{◌≡◌, ◌≤◌, ◌+◌, ◌*◌, ◌^◌, drop}
use Rattle.std.specs.Prelude.{sum_by}
use Rattle.cu_need.specs.Counts.{node_tasks, node_cells}
use Rattle.cu_need.specs.Live.{live_behind, live_nodes}
use Rattle.cu_need.proofs.counts.plan_counts.Given as goal

-- what is left adds its own
abbrev pub invariant-loop-k : goal.invariant-loop-k
invariant-loop-k l = record {
  few_tasks : l.tasks ≤ l.k * 2 ^ 44;
  few_cells : l.cells ≤ l.k * 2 ^ 44;
  tasks : l.tasks + sum_by (λ numbered. node_tasks l.most l.split_every l.infos l.expr.out numbered.0 numbered.1.form) (live_behind l.expr l.k (drop l.k l.nodes)) ≡ sum_by (λ numbered. node_tasks l.most l.split_every l.infos l.expr.out numbered.0 numbered.1.form) (live_nodes l.expr);
  cells : l.cells + sum_by (λ numbered. node_cells l.most l.split_every l.infos l.expr.out numbered.0 numbered.1.form) (live_behind l.expr l.k (drop l.k l.nodes)) ≡ sum_by (λ numbered. node_cells l.most l.split_every l.infos l.expr.out numbered.0 numbered.1.form) (live_nodes l.expr);
}

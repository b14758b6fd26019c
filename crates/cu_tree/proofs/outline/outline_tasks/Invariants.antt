use Rattle.std.proofs.Common.{◌≡◌, ◌+◌, ◌*◌, ◌≤◌, ◌^◌, drop}
use Rattle.cu_tree.specs.Outlines.{outline_tasks}
use Rattle.cu_tree.proofs.outline.outline_tasks.Given as goal

abbrev pub invariant-loop-one : goal.invariant-loop-one
invariant-loop-one l = record {
  rest : l.tasks + outline_tasks (drop l.one-index l.outline) ≡ outline_tasks l.outline;
  small : l.tasks ≤ l.one-index * 2 ^ 32;
}

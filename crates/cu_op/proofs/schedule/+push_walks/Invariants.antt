use Rattle.cu_op.proofs.schedule.+push_walks.Given as goal
use Rattle.cu_op.specs.TaskView.{walk_load, IsStoredWalk}
use Rattle.cu_op.specs.Walks.{cells_of_walks, read_chunks}
use Rattle.cu_op.specs.Within.{chunks_deep}
use Rattle.std.proofs.Common.{◌≡◌, ◌≤◌, ◌+◌, ◌*◌, ◌++◌, All, drop, length}
use Rattle.std.specs.List.{flat_map}
use Rattle.std.specs.Prelude.{sum_by}

abbrev pub decreases-push_walk : goal.decreases-push_walk
decreases-push_walk l = 2 * l.op

abbrev pub decreases-push_walks : goal.decreases-push_walks
decreases-push_walks l = 2 * l.op + 1

abbrev pub invariant-push_walks-loop-at : goal.invariant-push_walks-loop-at
invariant-push_walks-loop-at l = record {
  over : All (IsStoredWalk l.plan.arrays) l.walks.items;
  few : length l.walks.items + sum_by (walk_load l.plan l.op) (drop l.at l.read)
      ≤ length l.initial.walks.items + sum_by (walk_load l.plan l.op) l.read;
  cells : cells_of_walks l.plan.arrays l.walks.items ++ flat_map (chunks_deep read_chunks l.plan l.op) (cells_of_walks l.plan.arrays (drop l.at l.read))
      ≡ cells_of_walks l.plan.arrays l.initial.walks.items ++ flat_map (chunks_deep read_chunks l.plan l.op) (cells_of_walks l.plan.arrays l.read);
}

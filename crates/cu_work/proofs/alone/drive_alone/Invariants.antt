-- Tasks were run, each by steps of the table, and the entries that may still come grow fewer.
use Rattle.std.proofs.Common.{◌≡◌, length, ◌+◌, ◌-◌, ◌*◌}
use Rattle.cu_table.specs.Numbers.{task_count}
use Rattle.cu_work.specs.Alone.{HasRun}
use Rattle.cu_work.proofs.AloneTries.{HasTried}
use Rattle.cu_work.proofs.alone.drive_alone.Given as goal

abbrev pub invariant-loop-op : goal.invariant-loop-op
invariant-loop-op g l = record {
  own : g.Y.Yard.owns l.yard l.pass;
  rooms : l.rooms ≡ l.fn.rooms;
  ran : HasRun (g.Y.Yard.serves l.yard) l.fn.table l.table (g.Y.Yard.knows l.fn.pass) (g.Y.Yard.knows l.pass);
  tried : HasTried l.fn.table l.table (g.Y.Yard.knows l.fn.pass) (g.Y.Yard.knows l.pass);
}

abbrev pub decreases-loop-op : goal.decreases-loop-op
decreases-loop-op g l = 2 * (l.fn.table.settings.retries + 2) * task_count l.fn.table.settings.plan + 1 - length l.table.history

-- The route by which a task comes by the elements that it makes, as the code tells it. This project's own rules.
use Rattle.std.specs.Prelude.{◌≤◌, length}
use Rattle.cu_op.specs.declared.operation.Op.{Op}
use Rattle.cu_task.specs.Calls.{IsPullOf}
use Rattle.cu_task.specs.Task.{IsComputing, IsCopy}
use Rattle.cu_task.specs.declared.routes.Route.{Route}
use Rattle.cu_task.specs.declared.routes.Route.TheVariants.{View, Copying, Computing}

-- the operation's tasks go this route
abbrev pub IsRouteOf : Op → Route → Type 0
IsRouteOf op (View pull ins) = IsPullOf op pull.now ins.now × (length ins.now ≤ 8)
IsRouteOf op Copying = IsCopy op
IsRouteOf op Computing = IsComputing op

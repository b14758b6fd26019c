use Rattle.std.proofs.Common.{subst}
use Rattle.cu_task.specs.Routes.{IsRouteOf}
use Rattle.cu_task.proofs.slab_jobs.viewed_at.Goals as goal

pub returns-clause-view : goal.returns-clause-view
returns-clause-view c =
    let way = subst (IsRouteOf _) c.in-View.is c.route_of.ensures.route in
    record { sound = c.route_of.ensures.sound; view = way.0; few = way.1 }

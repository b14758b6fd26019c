use Rattle.std.proofs.Common.{◌≡◌}
use Rattle.cu_region.specs.Passes.{IsLaterIn}
use Rattle.cu_work.specs.Workers.{HasCounted, IsWorkerOf}
use Rattle.cu_work.proofs.turns.work_to_end.Given as goal

abbrev pub invariant-loop : goal.invariant-loop
invariant-loop g l =
    (goal.iterator-loop g).can_next l.iterator' × (goal.iterator-loop g).is_finite l.iterator'
    × IsWorkerOf g.Y.Yard.owns l.yard l.board.board l.initial.worker.number l.worker.seat l.worker.pass × (l.worker.number ≡ l.initial.worker.number)
    × (l.worker.rooms ≡ l.initial.worker.rooms)
    × IsLaterIn (g.Y.Yard.serves l.yard).specs (g.Y.Yard.knows l.initial.worker.pass) (g.Y.Yard.knows l.worker.pass)
    × HasCounted l.plan l.worker.seat.view (g.Y.Yard.knows l.worker.pass)

use Rattle.std.proofs.Common.{◌≡◌, ◌+◌, ◌≤◌, ◌<◌, ◌^◌, length, []}
use Rattle.std.specs.Prelude.{All, vec_len, vec_capacity}
use Rattle.cu_store.specs.Yard.{uncounted}
use Rattle.cu_op.specs.PlanView.{PlanView}
use Rattle.cu_work.specs.Rooms.{RoomSizes, rooms_of}
use Rattle.cu_work.specs.declared.worker.Worker.{Worker}
use Rattle.cu_work.specs.Workers.{AreWorkersOf, AreNumbered, HaveCounted, IsRootOf}
use Rattle.cu_work.proofs.crew.hire.Given as goal

abbrev pub invariant-loop-room : goal.invariant-loop-room
invariant-loop-room g l =
    (goal.iterator-loop-room g).can_next l.room-iterator × (goal.iterator-loop-room g).is_finite l.room-iterator
    × (l.number ≡ vec_len l.workers) × (l.number + length l.room-iterator.rest.items ≡ vec_len l.fn.rooms) × (vec_len l.fn.rooms < 2 ^ 32) × (vec_len l.fn.rooms ≤ vec_capacity l.workers)
    × IsRootOf l.board.board l.number l.root × (l.root.view.front ≡ []) × AreWorkersOf g.Y.Yard.owns l.yard l.board.board l.workers.items
    × AreNumbered l.workers.items
    × g.Y.Yard.owns l.yard l.pass × (g.Y.Yard.knows l.pass ≡ g.Y.Yard.knows l.fn.pass)
    × ((p : PlanView) → All (λ (r : RoomSizes). r ≡ rooms_of p) l.fn.rooms.items → All (λ (r : RoomSizes). r ≡ rooms_of p) l.room-iterator.rest.items
    × All (λ (w : Worker g.row.Y.Denot g.row.Y-Pass.Denot). w.rooms ≡ rooms_of p) l.workers.items)
    × All (λ (w : Worker g.row.Y.Denot g.row.Y-Pass.Denot). g.Y.Yard.knows w.pass ≡ uncounted (g.Y.Yard.knows l.fn.pass)) l.workers.items
    × ((p : PlanView) → HaveCounted g.Y.Yard.knows p l.workers.items)

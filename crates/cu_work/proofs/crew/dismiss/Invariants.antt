use Rattle.std.proofs.Common.{◌≡◌, ◌++◌, true, map, List}
use Rattle.std.specs.Prelude.{vec_len}
use Rattle.cu_work.specs.declared.worker.Worker.{Worker}
use Rattle.cu_work.specs.Workers.{TookIn, front_of}
use Rattle.cu_work.proofs.crew.dismiss.Given as goal

abbrev pub invariant-loop-worker : goal.invariant-loop-worker
invariant-loop-worker g l =
    ((rest : List (Worker g.row.Y.Denot g.row.Y-Pass.Denot)) × (l.initial.workers.items ≡ l.workers.items ++ rest)
    × (l.root.view.joined ≡ map (λ w. front_of w.seat) rest)
    × TookIn (map (λ w. g.Y.Yard.knows w.pass) rest) (g.Y.Yard.knows l.initial.pass) (g.Y.Yard.knows l.pass))
    × (l.root.board ≡ l.board.board) × (l.root.view.root ≡ true) × (l.root.view.number ≡ vec_len l.initial.workers)
    × g.Y.Yard.owns l.yard l.pass

abbrev pub decreases-loop-worker : goal.decreases-loop-worker
decreases-loop-worker g l = vec_len l.workers

-- Nothing has changed so far, and something lies at each name that was tried.
use Rattle.std.proofs.Common.{◌≡◌}
use Rattle.cu_dir.specs.Tree.{AreTaken, HasRisen}
use Rattle.cu_dir.proofs.values.write_beside.Given as goal

abbrev pub invariant-loop-tried : goal.invariant-loop-tried
invariant-loop-tried g l =
    (g.T.Tree.files l.tree ≡ g.T.Tree.files l.initial.tree)
    × (g.T.Tree.places l.tree ≡ g.T.Tree.places l.initial.tree)
    × (g.T.Tree.synced l.tree ≡ g.T.Tree.synced l.initial.tree)
    × HasRisen 0 (g.T.Tree.failures l.initial.tree) (g.T.Tree.failures l.tree)
    × AreTaken (g.T.Tree.places l.initial.tree) l.path l.number l.tried

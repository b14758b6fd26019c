-- The pass stays the yard's own.
use Rattle.test_depots.proofs.race.puts.Given as goal

abbrev pub invariant-loop-at : goal.invariant-loop-at
invariant-loop-at g l = g.Y.Yard.owns l.yard l.pass

-- The pass stays the yard's own, and knows what it knew.
use Rattle.cu_store.specs.Yard.{IsLater}
use Rattle.test_depots.proofs.race.gets.Given as goal

abbrev pub invariant-loop-at : goal.invariant-loop-at
invariant-loop-at g l = record {
  own : g.Y.Yard.owns l.yard l.pass;
  later : IsLater (g.Y.Yard.knows l.initial.pass) (g.Y.Yard.knows l.pass);
}

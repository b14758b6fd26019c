use Rattle.cu_reduce.proofs.Rounds.{rounds_of_kinds, rounds_of_places}
use Rattle.cu_reduce.proofs.laws.rounds_law.Goals as goal

pub returns-clause-kinds : goal.returns-clause-kinds
returns-clause-kinds c = rounds_of_kinds

pub returns-clause-places : goal.returns-clause-places
returns-clause-places c = rounds_of_places

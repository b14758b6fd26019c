-- The keys of the arrays so far.
use Rattle.std.proofs.Common.{◌≡◌, map}
use Rattle.cu_work.specs.Shared.{spec_of, chunks_of_first}
use Rattle.cu_work.proofs.memory.make_specs.Given as goal

abbrev pub invariant-loop-array : goal.invariant-loop-array
invariant-loop-array l = l.specs.items ≡ map (spec_of l.plan.arrays) (chunks_of_first l.plan.arrays l.array)

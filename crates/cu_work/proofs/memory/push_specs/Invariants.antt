-- The keys of the chunks so far.
use Rattle.std.proofs.Common.{◌≡◌, ◌++◌, map}
use Rattle.cu_work.specs.Shared.{spec_of, chunks_below}
use Rattle.cu_work.proofs.memory.push_specs.Given as goal

abbrev pub invariant-loop-number : goal.invariant-loop-number
invariant-loop-number l = l.specs.items ≡ l.fn.specs.items ++ map (spec_of l.plan.arrays) (chunks_below l.plan.arrays l.array l.number)

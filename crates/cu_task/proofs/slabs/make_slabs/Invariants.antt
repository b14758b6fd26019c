use Rattle.std.proofs.Common.{◌≡◌, ◌<◌, ◌≤◌, ◌*◌, ℕ}
use Rattle.cu_task.specs.Slabs.{input_bytes_at, HasSlabResults}
use Rattle.cu_task.proofs.slabs.make_slabs.Given as goal

-- the results behind are made, of what the other input's region had at first, and in front of them it still has that
abbrev pub invariant-loop-end : goal.invariant-loop-end
invariant-loop-end l = record {
  within : l.end ≤ l.job.sizes.rows;
  made : HasSlabResults l.task l.job l.front (l.end * l.job.sizes.row) (l.job.sizes.rows * l.job.sizes.row) l.initial.memory l.memory;
  before : (p : ℕ) → p < l.end * l.job.sizes.row → input_bytes_at l.task l.job.sizes l.memory p ≡ input_bytes_at l.task l.job.sizes l.initial.memory p;
}

abbrev pub decreases-loop-end : goal.decreases-loop-end
decreases-loop-end l = l.end

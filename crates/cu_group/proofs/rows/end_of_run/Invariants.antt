use Rattle.std.proofs.Common.{◌≡◌, ◌<◌, ◌≤◌, ℕ}
use Rattle.cu_group.specs.Regions.{label_in}
use Rattle.cu_group.proofs.rows.end_of_run.Given as goal

abbrev pub invariant-loop-next : goal.invariant-loop-next
invariant-loop-next l = (i : ℕ) → l.k ≤ i → i < l.next
    → label_in l.label_t l.labels i ≡ label_in l.label_t l.labels l.k

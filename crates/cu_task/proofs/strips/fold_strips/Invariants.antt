use Rattle.std.proofs.Common.{◌≡◌, ◌<◌, ◌≤◌, ◌-◌, ℕ, ℤ, Some}
use Rattle.cu_fold.specs.Strips.{HasFoldedTo}
use Rattle.cu_task.specs.Strips.{mapped_at, IsNumberOf}
use Rattle.cu_task.proofs.strips.fold_strips.Given as goal

abbrev pub invariant-loop-done : goal.invariant-loop-done
invariant-loop-done l = record {
  within : l.done ≤ l.all;
  values : (p : ℕ) → p < l.done → IsNumberOf l.fold.from (mapped_at l.map l.fold.dims p);
  folded : (at : ℕ → ℤ) → ((p : ℕ) → p < l.done → mapped_at l.map l.fold.dims p ≡ Some (at p)) → HasFoldedTo l.fold at l.done l.output;
}

abbrev pub decreases-loop-done : goal.decreases-loop-done
decreases-loop-done l = l.all - l.done

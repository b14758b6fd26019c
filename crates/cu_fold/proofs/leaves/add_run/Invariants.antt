use Rattle.std.proofs.Common.{◌≡◌, ◌*◌, ◌≤ℤ◌, pos, neg_ℤ}
use Rattle.std.specs.List.{range_with_len}
use Rattle.cu_reduce.specs.Folds.{exact_sum}
use Rattle.cu_take.specs.Taken.{elements_at_places}
use Rattle.cu_fold.proofs.leaves.add_run.Given as goal

abbrev pub invariant-loop-at : goal.invariant-loop-at
invariant-loop-at l = record {
  is : l.sum ≡ exact_sum (elements_at_places l.from l.input (range_with_len l.run.start l.at));
  low : neg_ℤ (pos (65536 * l.at)) ≤ℤ l.sum;
  high : l.sum ≤ℤ pos (65536 * l.at);
}

use Rattle.std.proofs.Common.{◌≡◌, ◌*◌, ◌≤ℤ◌, pos, neg_ℤ}
use Rattle.cu_reduce.specs.Folds.{exact_sum}
use Rattle.cu_take.specs.Taken.{elements_at_places, column_places}
use Rattle.cu_take.proofs.eights.add_column.Given as goal

abbrev pub invariant-loop-k : goal.invariant-loop-k
invariant-loop-k l = record {
  is : l.sum ≡ exact_sum (elements_at_places l.from l.input (column_places l.place l.step l.k l.j));
  low : neg_ℤ (pos (65536 * l.k)) ≤ℤ l.sum;
  high : l.sum ≤ℤ pos (65536 * l.k);
}

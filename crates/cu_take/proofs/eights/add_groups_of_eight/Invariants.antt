use Rattle.std.proofs.Common.{◌≡◌, ◌+◌, ◌-◌, ◌<◌, ◌≤◌, ℕ, length}
use Rattle.cu_num.specs.Element.{bytes_at}
use Rattle.cu_num.specs.declared.folds.FoldKind.TheVariants.{Sum}
use Rattle.cu_take.specs.Taken.{HasTaken, IsOutside, elements_at_places, column_places}
use Rattle.cu_take.proofs.eights.add_groups_of_eight.Given as goal

abbrev pub invariant-loop-k : goal.invariant-loop-k
invariant-loop-k l = record {
  same_length : length l.out ≡ length l.fn.out;
  within : l.k ≤ l.rows.count;
  done : (j : ℕ) → j < l.rows.width → HasTaken Sum l.acc l.fn.out l.out (l.q + j)
      (elements_at_places l.from l.input (column_places l.place l.rows.width l.k j));
  left : (p : ℕ) → IsOutside l.q (l.q + l.rows.width) p
      → bytes_at l.acc l.out p ≡ bytes_at l.acc l.fn.out p;
}

abbrev pub decreases-loop-k : goal.decreases-loop-k
decreases-loop-k l = l.rows.count - l.k

use Rattle.std.proofs.Common.{◌≡◌, ◌+◌, ◌-◌, ◌*◌, ◌<◌, ◌≤◌, ℕ, length}
use Rattle.cu_num.specs.Element.{bytes_at}
use Rattle.cu_take.specs.Taken.{HasTaken, IsOutside, elements_at_places}
use Rattle.cu_group.specs.Regions.{label_in, row_sources}
use Rattle.cu_group.proofs.rows.take_by_runs.Given as goal

abbrev pub invariant-loop-k : goal.invariant-loop-k
invariant-loop-k l = record {
  same_length : length l.out ≡ length l.fn.out;
  within : l.k ≤ l.sizes.count;
  done : (q j : ℕ) → q < l.sizes.groups → j < l.sizes.inner
      → HasTaken l.kind l.acc l.fn.out l.out ((l.base + q) * l.sizes.inner + j)
      (elements_at_places l.from l.input (row_sources
      (label_in l.label_t l.labels) l.sizes.inner l.first l.k q j));
  left : (p : ℕ) → IsOutside (l.base * l.sizes.inner)
      ((l.base + l.sizes.groups) * l.sizes.inner) p
      → bytes_at l.acc l.out p ≡ bytes_at l.acc l.fn.out p;
}

abbrev pub decreases-loop-k : goal.decreases-loop-k
decreases-loop-k l = l.sizes.count - l.k

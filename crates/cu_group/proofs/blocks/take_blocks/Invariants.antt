use Rattle.std.proofs.Common.{◌≡◌, ◌+◌, ◌*◌, ◌<◌, ◌≤◌, ℕ, length}
use Rattle.cu_num.specs.Element.{bytes_at}
use Rattle.cu_take.specs.Taken.{HasTaken, elements_at_places}
use Rattle.cu_group.specs.Regions.{label_in, row_sources}
use Rattle.cu_group.proofs.blocks.take_blocks.Given as goal

abbrev pub invariant-loop-o : goal.invariant-loop-o
invariant-loop-o l = record {
  same_length : length l.out ≡ length l.fn.out;
  done : (i q j : ℕ) → i < l.o → q < l.sizes.groups → j < l.sizes.inner
      → HasTaken l.kind l.acc l.fn.out l.out ((i * l.sizes.groups + q) * l.sizes.inner + j)
      (elements_at_places l.from l.input (row_sources
      (label_in l.label_t l.labels) l.sizes.inner (i * l.sizes.count) l.sizes.count q j));
  left : (p : ℕ) → l.o * l.sizes.groups * l.sizes.inner ≤ p
      → bytes_at l.acc l.out p ≡ bytes_at l.acc l.fn.out p;
}

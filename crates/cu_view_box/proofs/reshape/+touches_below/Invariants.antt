use Rattle.std.proofs.Common.{◌-◌, ℕ, List}
use Rattle.cu_grid.specs.Counts.{IsWithin}
use Rattle.cu_view_box.specs.Reshape.{reshaped}
use Rattle.cu_view_box.proofs.Slices.{up_to}
use Rattle.cu_view_box.proofs.reshape.+touches_below.Given as goal

abbrev pub decreases-touches_below : goal.decreases-touches_below
decreases-touches_below l = l.end - l.level

abbrev pub invariant-loop-index : goal.invariant-loop-index
invariant-loop-index l = (idx : List ℕ) → IsWithin (up_to l.out l.level l.index).lo (up_to l.out l.level l.index).hi idx → ¬ IsWithin l.part.lo l.part.hi (reshaped l.source l.shape idx)

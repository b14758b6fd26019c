use Rattle.std.proofs.Common.{◌≡◌, ℕ, ◌<◌, List}
use Rattle.cu_grid.specs.Counts.{IsWithin}
use Rattle.cu_origin.specs.Pull.{origin_of}
use Rattle.cu_origin.specs.declared.provenance.Provenance.TheVariants.{From}
use Rattle.cu_view.specs.Pieces.{number_at}
use Rattle.cu_view.proofs.touching.touches_of.Given as goal

abbrev pub invariant-loop-number : goal.invariant-loop-number
invariant-loop-number l = (idx i : List ℕ) → IsWithin l.out.lo l.out.hi idx → number_at l.pull l.sources l.shape idx < l.number → origin_of l.pull l.sources l.shape idx ≡ From l.source i → ¬ IsWithin l.part.lo l.part.hi i

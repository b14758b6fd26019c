use Rattle.std.proofs.Common.{◌≡◌, ℕ, ◌<◌, List, [], get_or}
use Rattle.std.specs.Prelude.{IfSome}
use Rattle.cu_grid.specs.Counts.{IsRegion, IsWithin}
use Rattle.cu_origin.specs.Pull.{origin_of}
use Rattle.cu_origin.specs.declared.provenance.Provenance.TheVariants.{From}
use Rattle.cu_view.specs.Hull.{HoldsIndex}
use Rattle.cu_view.specs.Pieces.{number_at}
use Rattle.cu_view.proofs.hull.hull_of.Given as goal

abbrev pub invariant-loop-number : goal.invariant-loop-number
invariant-loop-number l = record {
  region : IfSome l.hull (λ r. IsRegion (get_or l.sources l.source []) r.lo r.hi);
  covers : (idx i : List ℕ) → IsWithin l.out.lo l.out.hi idx → number_at l.pull l.sources l.shape idx < l.number → origin_of l.pull l.sources l.shape idx ≡ From l.source i → HoldsIndex l.hull i;
}

use Rattle.std.proofs.Common.{◌≡◌, ℕ, ◌<◌, length, get_or}
use Rattle.cu_fuse.specs.Least.{least_size}
use Rattle.cu_fuse.proofs.LeastSizes.{cut_size}
use Rattle.cu_fuse.proofs.least.least_region.Given as goal

abbrev pub invariant-loop-axis : goal.invariant-loop-axis
invariant-loop-axis l = record {
  ranks : length l.sizes ≡ length l.shape;
  done : (k : ℕ) → k < l.axis → get_or l.sizes k 0 ≡ least_size (get_or l.shape k 0) (cut_size (get_or l.shape k 0) (get_or l.source k 0)) (cut_size (get_or l.shape k 0) (get_or l.target k 0));
}

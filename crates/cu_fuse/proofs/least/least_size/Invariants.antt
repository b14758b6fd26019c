use Rattle.std.proofs.Common.{◌≡◌, ◌<◌, ℕ, false}
use Rattle.cu_fuse.proofs.LeastSizes.{is_common}
use Rattle.cu_fuse.proofs.least.least_size.Given as goal

abbrev pub invariant-loop-more : goal.invariant-loop-more
invariant-loop-more l = (k : ℕ) → k < l.more → is_common l.first l.second k ≡ false

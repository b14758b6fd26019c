use Rattle.std.proofs.Common.{◌≡◌, ◌++◌, drop}
use Rattle.cu_fuse.specs.Copies.{copy_sources}
use Rattle.cu_fuse.proofs.copies.copy_sources.Given as goal

abbrev pub invariant-loop-planned : goal.invariant-loop-planned
invariant-loop-planned l = l.sources.items ++ copy_sources (drop l.planned-index l.ops) ≡ copy_sources l.ops

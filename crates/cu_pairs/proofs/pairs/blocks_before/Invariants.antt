use Rattle.std.proofs.Common.{◌≡◌, take}
use Rattle.cu_shape.specs.Index.{product}
use Rattle.cu_pairs.proofs.pairs.blocks_before.Given as goal

abbrev pub invariant-loop-before : goal.invariant-loop-before
invariant-loop-before l = l.blocks ≡ product (take l.before l.dims)

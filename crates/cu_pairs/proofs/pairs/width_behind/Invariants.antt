use Rattle.std.proofs.Common.{◌≡◌, ◌*◌, suc, drop}
use Rattle.cu_shape.specs.Index.{product}
use Rattle.cu_pairs.proofs.pairs.width_behind.Given as goal

abbrev pub invariant-loop-behind : goal.invariant-loop-behind
invariant-loop-behind l = l.width * product (drop l.behind l.dims) ≡ product (drop (suc l.axis) l.dims)

use Rattle.std.proofs.Common.{◌≡◌, ◌==◌, drop}
use Rattle.cu_shape.specs.Index.{product}
use Rattle.cu_typing.specs.Reduction.{reduced_sizes}
use Rattle.cu_typing.proofs.reduction.is_empty_along.Given as goal

-- what is left decides
abbrev pub invariant-loop-axis : goal.invariant-loop-axis
invariant-loop-axis l = (product (reduced_sizes (drop l.axis l.dims) (drop l.axis l.marks)) == 0) ≡ (product (reduced_sizes l.dims l.marks) == 0)

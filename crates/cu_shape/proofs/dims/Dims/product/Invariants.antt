use Rattle.std.proofs.Common.{◌≡◌, ◌⊎◌, ◌*◌, drop}
use Rattle.cu_shape.specs.Index.{product}
use Rattle.cu_shape.proofs.dims.Dims.product.Given as goal

-- the product so far is exact, or a later size is 0
abbrev pub invariant-loop-axis : goal.invariant-loop-axis
invariant-loop-axis l = (l.count * product (drop l.axis l.self) ≡ product l.self) ⊎ ((product (drop l.axis l.self) ≡ 0) × (product l.self ≡ 0))

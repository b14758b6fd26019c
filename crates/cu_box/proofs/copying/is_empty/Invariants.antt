use Rattle.std.proofs.Common.{◌<◌, take}
use Rattle.cu_shape.specs.Index.{product}
use Rattle.cu_box.specs.Strided.{counts}
use Rattle.cu_box.proofs.copying.is_empty.Given as goal

abbrev pub invariant-loop-number : goal.invariant-loop-number
invariant-loop-number l = 0 < product (counts (take l.number l.axes))

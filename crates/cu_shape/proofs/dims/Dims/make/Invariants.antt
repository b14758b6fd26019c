use Rattle.std.proofs.Common.{◌≡◌, ◌-◌, length, take, drop, replicate}
use Rattle.cu_shape.proofs.dims.Dims.make.Given as goal

abbrev pub invariant-loop-axis : goal.invariant-loop-axis
invariant-loop-axis l = record {
  six : length l.sizes ≡ 6;
  copied : take l.axis l.sizes ≡ take l.axis l.list;
  zeros : drop l.axis l.sizes ≡ replicate (6 - l.axis) 0;
}

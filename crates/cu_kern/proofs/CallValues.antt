-- What a choice gives is a number of its result's type.
use Rattle.std.proofs.Common.{ℤ, true, false, pos, if◌then◌else◌}
use Rattle.std.specs.Prelude.{Bool as Test}
use Rattle.std.specs.Ordering.{int_eq}
use Rattle.cu_num.specs.Dtype.{InRange}
use Rattle.cu_num.specs.declared.types.Dtype.{Dtype}
use Rattle.cu_op.specs.Kernel.{selected}

either : (b : Test) (t : Dtype) (x y : ℤ) → InRange t x → InRange t y → InRange t (if b then x else y)
either true t x y g h = g
either false t x y g h = h

pub selected_in_range : (t : Dtype) (s x y : ℤ) → InRange t x → InRange t y → InRange t (selected s x y)
selected_in_range t s x y g h = either (int_eq s (pos 1)) t x y g h

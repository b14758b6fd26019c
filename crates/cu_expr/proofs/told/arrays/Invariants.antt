use Rattle.std.proofs.Common.{◌≡◌, ◌++◌, drop}
use Rattle.cu_typing.specs.Joined.{arrays_of}
use Rattle.cu_expr.proofs.told.arrays.Given as goal

abbrev pub invariant-loop-argument : goal.invariant-loop-argument
invariant-loop-argument l = l.arrays.items ++ arrays_of (drop l.argument-index l.told) ≡ arrays_of l.told

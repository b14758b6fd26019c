use Rattle.std.proofs.Common.{◌≡◌, drop}
use Rattle.cu_typing.specs.Joined.{arrays_of, joined_after, joined_shape}
use Rattle.cu_typing.proofs.joining.shape_joined.Given as goal

-- what is left decides
abbrev pub invariant-loop-arg : goal.invariant-loop-arg
invariant-loop-arg l = joined_after l.shape (arrays_of (drop l.arg-index l.args)) ≡ joined_shape (arrays_of l.args)

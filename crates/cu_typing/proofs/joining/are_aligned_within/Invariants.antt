use Rattle.std.proofs.Common.{◌≡◌, drop}
use Rattle.cu_typing.specs.Joined.{arrays_of, aligned_within}
use Rattle.cu_typing.proofs.joining.are_aligned_within.Given as goal

-- what is left decides
abbrev pub invariant-loop-arg : goal.invariant-loop-arg
invariant-loop-arg l = aligned_within l.shape l.chunk (arrays_of (drop l.arg-index l.args)) ≡ aligned_within l.shape l.chunk (arrays_of l.args)

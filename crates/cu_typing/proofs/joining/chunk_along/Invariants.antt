use Rattle.std.proofs.Common.{◌≡◌, drop}
use Rattle.cu_typing.specs.Joined.{arrays_of, joined_chunk_on}
use Rattle.cu_typing.proofs.joining.chunk_along.Given as goal

-- what is left decides
abbrev pub invariant-loop-arg : goal.invariant-loop-arg
invariant-loop-arg l = joined_chunk_on l.shape (arrays_of (drop l.arg-index l.args)) l.axis ≡ joined_chunk_on l.shape (arrays_of l.args) l.axis

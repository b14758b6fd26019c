use Rattle.std.proofs.Common.{◌≡◌, ◌+◌, drop}
use Rattle.std.specs.Prelude.{bytes_eq}
use Rattle.std.specs.List.{position_or_len}
use Rattle.cu_lower.proofs.inputs.place_of.Given as goal

abbrev pub invariant-loop-k : goal.invariant-loop-k
invariant-loop-k l = l.k + position_or_len (bytes_eq l.name) (drop l.k l.names) ≡ position_or_len (bytes_eq l.name) l.names

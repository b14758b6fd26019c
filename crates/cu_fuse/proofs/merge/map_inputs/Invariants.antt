use Rattle.std.proofs.Common.{◌≡◌, ◌++◌, drop}
use Rattle.cu_fuse.specs.Fused.{map_inputs}
use Rattle.cu_fuse.proofs.merge.map_inputs.Given as goal

abbrev pub invariant-loop-planned : goal.invariant-loop-planned
invariant-loop-planned l = l.inputs.items ++ map_inputs (drop l.planned-index l.ops) ≡ map_inputs l.ops

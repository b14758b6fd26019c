use Rattle.std.proofs.Common.{◌≡◌, map, take}
use Rattle.cu_lower.specs.Inputs.{input_array}
use Rattle.cu_lower.proofs.inputs.input_arrays.Given as goal

abbrev pub invariant-loop-name : goal.invariant-loop-name
invariant-loop-name l = l.arrays.items ≡ map (input_array l.inputs) (take l.name-index l.names)

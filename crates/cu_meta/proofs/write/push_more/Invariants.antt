use Rattle.std.proofs.Common.{◌≡◌, ◌++◌, drop, string_bytes}
use Rattle.cu_zarr.specs.Metadata.{more_numbers}
use Rattle.cu_meta.proofs.write.push_more.Given as goal

-- what is written, and then what is left, is the whole
abbrev pub invariant-loop-axis : goal.invariant-loop-axis
invariant-loop-axis l = string_bytes l.text ++ more_numbers (drop l.axis l.numbers) ≡ string_bytes l.initial.text ++ more_numbers (drop l.initial.axis l.numbers)

use Rattle.std.proofs.Common.{◌≡◌, ◌++◌, drop}
use Rattle.cu_fuse.specs.Close.{remaining_from, remaining_numbers}
use Rattle.cu_fuse.proofs.close.remaining_numbers.Given as goal

abbrev pub invariant-loop-a : goal.invariant-loop-a
invariant-loop-a l = l.numbers.items ++ remaining_from l.ops l.a (drop l.a l.setting.arrays) ≡ remaining_numbers l.setting.arrays l.ops

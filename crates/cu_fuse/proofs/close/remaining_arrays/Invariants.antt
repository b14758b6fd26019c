use Rattle.std.proofs.Common.{◌≡◌, ◌≤◌, ◌++◌, drop}
use Rattle.cu_fuse.specs.Close.{remaining_arrays}
use Rattle.cu_fuse.proofs.close.remaining_arrays.Given as goal

abbrev pub invariant-loop-a : goal.invariant-loop-a
invariant-loop-a l = record {
  so_far : l.arrays.items ++ remaining_arrays l.setting l.ops l.others (drop l.a-index l.numbers) ≡ remaining_arrays l.setting l.ops 0 l.numbers;
  few : l.others ≤ l.a-index;
}

use Rattle.std.proofs.Common.{◌≡◌, ◌≤◌, length, take}
use Rattle.cu_fuse.specs.Once.{distinct}
use Rattle.cu_fuse.proofs.inputs.distinct.Given as goal

abbrev pub invariant-loop-number : goal.invariant-loop-number
invariant-loop-number l = record {
  so_far : l.list.items ≡ distinct (take l.number-index l.numbers);
  few : length l.list.items ≤ l.number-index;
}

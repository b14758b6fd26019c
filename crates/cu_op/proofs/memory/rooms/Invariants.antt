use Rattle.std.proofs.Common.{◌≡◌, take, sum_by}
use Rattle.cu_op.specs.Arrays.{chunk_room}
use Rattle.cu_op.proofs.memory.rooms.Given as goal

abbrev pub invariant-loop-number : goal.invariant-loop-number
invariant-loop-number l = l.room ≡ sum_by (chunk_room l.arrays) (take l.number-index l.numbers)

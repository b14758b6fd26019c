use Rattle.std.proofs.Common.{arith}
use Rattle.std.proofs.lemmas.List.Sums.{sum_by_more_le}
use Rattle.cu_op.specs.Arrays.{chunk_room}
use Rattle.cu_op.proofs.memory.rooms.Goals as goal

pub overflow_add-room : goal.overflow_add-room
overflow_add-room c =
    let e = sum_by_more_le (chunk_room c.args.arrays.now) c.args.numbers.now c.loop-number.number-index 0 c.loop-number-test.true in
    let i = c.loop-number.invariant in
    let a = c.chunk_room-room.ensures.room in
    let s = c.requires.small in
    omega (arith, e, i, a, s)

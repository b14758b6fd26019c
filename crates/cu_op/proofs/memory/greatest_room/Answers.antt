use Rattle.std.proofs.Common.{sym}
use Rattle.cu_op.specs.Arrays.{chunk_room}
use Rattle.cu_op.proofs.Lists.{greatest_more}
use Rattle.cu_op.proofs.memory.greatest_room.Goals as goal

pub loop-number-preserved : goal.loop-number-preserved
loop-number-preserved c =
    rw (c.max-room.ensures, c.chunk_room.ensures.room, c.loop-number.invariant) (sym (greatest_more (chunk_room c.args.arrays.now) c.args.numbers.now c.loop-number.number-index c.loop-number-test.true))

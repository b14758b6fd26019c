use Rattle.cu_op.proofs.Plans.{scratch_parts}
use Rattle.cu_op.proofs.memory.scratch_room.Goals as goal
use Rattle.std.proofs.Common.{sym}

pub greatest_room-read-requires : goal.greatest_room-read-requires
greatest_room-read-requires c = rw (c.as_slice.ensures.value, c.reads.ensures) c.requires.reads

pub greatest_room-written-requires : goal.greatest_room-written-requires
greatest_room-written-requires c = rw (c.as_slice-2.ensures.value, c.writes.ensures) c.requires.writes

pub returns : goal.returns
returns c =
    rw (c.max.ensures, c.greatest_room-read.ensures, c.greatest_room-written.ensures, c.as_slice.ensures.value, c.as_slice-2.ensures.value, c.reads.ensures, c.writes.ensures)
    (sym (scratch_parts c.args.op.now c.args.arrays.now))

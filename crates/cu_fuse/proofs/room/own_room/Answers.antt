use Rattle.std.proofs.Common.{◌<◌, length}
use Rattle.cu_op.proofs.Operations.{target_among}
use Rattle.cu_fuse.proofs.room.own_room.Goals as goal

pub output_room-requires-clause-target : goal.output_room-requires-clause-target
output_room-requires-clause-target c =
    target_among (λ a. a < length c.args.arrays.now) c.args.op.now c.requires.writes

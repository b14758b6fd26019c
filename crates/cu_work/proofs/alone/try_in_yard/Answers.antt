use Rattle.std.proofs.Common.{vec_capacity, ap, ◌∙◌}
use Rattle.cu_work.specs.Rooms.{RoomSizes}
use Rattle.cu_work.proofs.Lent.{bytes_lent, words_lent}
use Rattle.cu_work.proofs.alone.try_in_yard.Goals as goal

pub write_zeros-requires : goal.write_zeros-requires
write_zeros-requires g c =
    bytes_lent c.args.plan.now c.args.op c.task_bytes-byte_count.result (vec_capacity c.rooms.inside.bytes) c.requires.operation c.task_bytes-byte_count.ensures
    (ap (λ (r : RoomSizes). r.bytes) (c.rooms.view_is ∙ c.requires.rooms))

pub write_zeros-requires-2 : goal.write_zeros-requires-2
write_zeros-requires-2 g c =
    words_lent c.args.plan.now c.args.op c.task_words-word_count.result (vec_capacity c.rooms.inside.words) c.requires.operation c.task_words-word_count.ensures
    (ap (λ (r : RoomSizes). r.words) (c.rooms.view_is ∙ c.requires.rooms))

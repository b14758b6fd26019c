use Rattle.std.proofs.Common.{◌≡◌, map}
use Rattle.std.specs.List.{range_with_len}
use Rattle.cu_work.specs.Rooms.{task_bytes, task_words}
use Rattle.cu_work.proofs.rooms.Rooms.make.Given as goal
use Rattle.cu_shape.specs.Counts.{largest}

abbrev pub invariant-loop-op : goal.invariant-loop-op
invariant-loop-op l = record {
  bytes : l.most_bytes ≡ largest (map (task_bytes l.plan) (range_with_len 0 l.op));
  words : l.most_words ≡ largest (map (task_words l.plan) (range_with_len 0 l.op));
}

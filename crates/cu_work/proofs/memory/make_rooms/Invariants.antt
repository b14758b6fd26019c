-- The rooms of the workers so far.
use Rattle.std.proofs.Common.{◌≡◌, replicate}
use Rattle.cu_work.specs.Rooms.{rooms_of}
use Rattle.cu_work.proofs.memory.make_rooms.Given as goal

abbrev pub invariant-loop : goal.invariant-loop
invariant-loop l = l.rooms.items ≡ replicate l.counter (rooms_of l.plan)

-- The keys so far have their rooms.
use Rattle.std.proofs.Common.{◌≡◌, length, map, take}
use Rattle.cu_cells.specs.Yard.{room_size}
use Rattle.cu_cells.proofs.make.rooms_of.Given as goal

abbrev pub invariant-loop-at : goal.invariant-loop-at
invariant-loop-at l = map (λ v. length v.items) l.rooms.items ≡ map room_size (take l.at l.specs)

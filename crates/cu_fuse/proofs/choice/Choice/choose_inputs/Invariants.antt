use Rattle.std.proofs.Common.{◌≡◌, map}
use Rattle.std.specs.List.{range_with_len}
use Rattle.cu_fuse.specs.Choosing.{all_stored, plan_view, IsChosenTo}
use Rattle.cu_fuse.specs.Rooms.{room_within, IsModest}
use Rattle.cu_fuse.proofs.choice.Choice.choose_inputs.Given as goal

abbrev pub invariant-loop-i : goal.invariant-loop-i
invariant-loop-i l = record {
  chosen : IsChosenTo (plan_view l.self) l.k l.i;
  plan : all_stored (plan_view l.self) ≡ all_stored (plan_view l.initial.self);
  room : l.room ≡ room_within (plan_view l.self) l.k;
  modest : IsModest l.room;
  rooms : l.rooms ≡ map (room_within (plan_view l.self)) (range_with_len 0 l.k);
}

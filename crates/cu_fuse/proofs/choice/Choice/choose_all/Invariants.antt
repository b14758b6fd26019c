use Rattle.std.proofs.Common.{◌≡◌, All, map}
use Rattle.std.specs.List.{range_with_len}
use Rattle.cu_fuse.specs.Choosing.{all_stored, plan_view, IsChosenTo}
use Rattle.cu_fuse.specs.Rooms.{room_within, IsModest}
use Rattle.cu_fuse.proofs.choice.Choice.choose_all.Given as goal

abbrev pub invariant-loop-k : goal.invariant-loop-k
invariant-loop-k l = record {
  chosen : IsChosenTo (plan_view l.self) l.k 0;
  plan : all_stored (plan_view l.self) ≡ all_stored (plan_view l.initial.self);
  rooms : l.rooms.items ≡ map (room_within (plan_view l.self)) (range_with_len 0 l.k);
  modest : All IsModest l.rooms.items;
}

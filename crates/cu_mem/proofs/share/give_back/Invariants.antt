-- The keys from the place on that comes next are back.
use Rattle.std.proofs.Common.{◌≡◌, ◌≤◌, List, ℕ, length, map, take, vec_len}
use Rattle.std.specs.Vec.{vec_capacity}
use Rattle.cu_store.specs.Yard.{IsLater}
use Rattle.cu_cells.specs.Yard.{served_by, known_of, script_of, waits_of, landed_of, room_size, IsHandOf}
use Rattle.cu_mem.specs.Entries.{held_in, has_place}
use Rattle.cu_mem.specs.Sharing.{lent_in, there_by, GivesBack, HoldsFrom}
use Rattle.cu_mem.proofs.share.give_back.Given as goal

abbrev pub invariant-loop-room : goal.invariant-loop-room
invariant-loop-room l = record {
  own : IsHandOf l.yard l.pass;
  same : l.yard ≡ l.initial.yard;
  later : IsLater (known_of l.initial.pass) (known_of l.pass);
  rooms : map (λ v. length v.items) l.rooms.items ≡ map room_size (take (vec_len l.rooms) (served_by l.initial.yard).specs);
  few : vec_len l.rooms ≤ length (served_by l.initial.yard).specs;
  back : GivesBack (lent_in l.initial.yard l.initial.pass) (held_in l.initial.slots.items) (held_in l.slots.items);
  held : HoldsFrom (vec_len l.rooms) (lent_in l.initial.yard l.initial.pass) (there_by l.initial.pass) (held_in l.slots.items);
  faults : (known_of l.pass).faults ≡ (known_of l.initial.pass).faults;
  calls : (known_of l.pass).calls ≡ (known_of l.initial.pass).calls;
  script : script_of l.pass ≡ script_of l.initial.pass;
  waits : waits_of l.pass ≡ waits_of l.initial.pass;
  landed : landed_of l.pass ≡ landed_of l.initial.pass;
  places : (key : List ℕ) → has_place l.slots.items key ≡ has_place l.initial.slots.items key;
  len : vec_len l.slots ≡ vec_len l.initial.slots;
  capacity : vec_capacity l.slots ≡ vec_capacity l.initial.slots;
}

abbrev pub decreases-loop-room : goal.decreases-loop-room
decreases-loop-room l = vec_len l.rooms

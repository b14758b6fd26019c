-- The made keys so far have places.
use Rattle.std.proofs.Common.{◌≡◌, ◌≤◌, ◌+◌, List, ℕ, IsTrue, take, vec_len}
use Rattle.std.specs.Vec.{vec_capacity}
use Rattle.cu_store.specs.Yard.{is_made}
use Rattle.cu_mem.specs.Entries.{held_in, has_place}
use Rattle.cu_mem.proofs.share.keep_places.Given as goal

abbrev pub invariant-loop-at : goal.invariant-loop-at
invariant-loop-at l = record {
  held : (key : List ℕ) → held_in l.slots.items key ≡ held_in l.initial.slots.items key;
  places : (key : List ℕ) → IsTrue (has_place l.initial.slots.items key) → IsTrue (has_place l.slots.items key);
  kept : (key : List ℕ) → IsTrue (is_made (take l.at l.specs) key) → IsTrue (has_place l.slots.items key);
  room : vec_len l.slots + l.more ≤ vec_capacity l.slots;
}

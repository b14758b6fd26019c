-- The puts before place i wait for one call less; those behind are as they were.
use Rattle.std.proofs.Common.{◌≡◌, ◌≤◌, ◌+◌, ◌-◌, ◌++◌, List, ℕ, IsTrue, take, drop, vec_len}
use Rattle.std.specs.Vec.{vec_capacity}
use Rattle.cu_mem.specs.Entries.{held_in, has_place}
use Rattle.cu_mem.proofs.LateLemmas.{landed, waiting_each}
use Rattle.cu_mem.proofs.late.land_due.Given as goal

abbrev pub invariant-loop-i : goal.invariant-loop-i
invariant-loop-i l = record {
  landed : (key : List ℕ) → landed (drop l.i l.late.items) key (held_in l.slots.items key) ≡ landed l.initial.late.items key (held_in l.initial.slots.items key);
  places : (key : List ℕ) → IsTrue (has_place l.initial.slots.items key) → IsTrue (has_place l.slots.items key);
  waiting : take l.i l.late.items ++ waiting_each (drop l.i l.late.items) ≡ waiting_each l.initial.late.items;
  within : l.i ≤ vec_len l.late;
  fewer : vec_len l.slots + vec_len l.late ≤ vec_len l.initial.slots + vec_len l.initial.late;
  short : vec_len l.late ≤ vec_len l.initial.late;
  slots : vec_capacity l.initial.slots ≤ vec_capacity l.slots;
  late : vec_capacity l.initial.late ≤ vec_capacity l.late;
}

abbrev pub decreases-loop-i : goal.decreases-loop-i
decreases-loop-i l = vec_len l.late - l.i

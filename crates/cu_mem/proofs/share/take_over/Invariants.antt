-- Those that are taken over and those that are still late in the pass are all there are, and there is a room for each of the latter.
use Rattle.std.proofs.Common.{◌≡◌, ◌≤◌, ◌+◌, ◌++◌, All, length, vec_len}
use Rattle.std.specs.Vec.{vec_capacity}
use Rattle.cu_cells.specs.Cells.{FitIn}
use Rattle.cu_cells.specs.Yard.{served_by, known_of, script_of, waits_of, IsHandOf}
use Rattle.cu_mem.specs.Sharing.{late_puts}
use Rattle.cu_mem.proofs.share.take_over.Given as goal

abbrev pub invariant-loop-room : goal.invariant-loop-room
invariant-loop-room l = record {
  own : IsHandOf l.yard l.pass;
  known : known_of l.pass ≡ known_of l.initial.pass;
  script : script_of l.pass ≡ script_of l.initial.pass;
  rooms : All (λ v. FitIn (served_by l.yard).specs (length v.items)) l.rooms.items;
  few : length (waits_of l.pass) ≤ vec_len l.rooms;
  late : l.late.items ++ late_puts (served_by l.yard).specs (known_of l.initial.pass).promise (waits_of l.pass) ≡ l.initial.late.items ++ late_puts (served_by l.yard).specs (known_of l.initial.pass).promise (waits_of l.initial.pass);
  place : vec_len l.late + vec_len l.rooms ≤ vec_capacity l.late;
  len : vec_len l.late + vec_len l.rooms ≤ vec_len l.initial.late + vec_len l.initial.rooms;
  capacity : vec_capacity l.initial.late ≤ vec_capacity l.late;
}

abbrev pub decreases-loop-room : goal.decreases-loop-room
decreases-loop-room l = vec_len l.rooms

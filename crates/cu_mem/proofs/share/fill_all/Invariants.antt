-- The keys so far are filled.
use Rattle.std.proofs.Common.{◌≡◌}
use Rattle.cu_cells.specs.Yard.{served_by, known_of, known_entries, waits_of, landed_of, IsOwnPass}
use Rattle.cu_mem.specs.Entries.{held_in}
use Rattle.cu_mem.specs.Sharing.{IsFilled}
use Rattle.cu_mem.proofs.share.fill_all.Given as goal

abbrev pub invariant-loop-at : goal.invariant-loop-at
invariant-loop-at l = record {
  own : IsOwnPass l.yard l.pass;
  specs : (served_by l.yard).specs ≡ l.specs;
  promise : (known_of l.pass).promise ≡ (known_of l.initial.pass).promise;
  filled : IsFilled l.specs l.at (held_in l.slots) (known_of l.pass).seen (known_entries l.pass);
  faults : (known_of l.pass).faults ≡ (known_of l.initial.pass).faults;
  calls : (known_of l.pass).calls ≡ (known_of l.initial.pass).calls;
  waits : waits_of l.pass ≡ waits_of l.initial.pass;
  landed : landed_of l.pass ≡ landed_of l.initial.pass;
}

-- The entries of this kind among those so far.
use Rattle.std.proofs.Common.{◌≡◌, ◌≤◌, take}
use Rattle.cu_history.specs.History.{is_failed, count_kind}
use Rattle.cu_work.proofs.counts.failures.Given as goal

abbrev pub invariant-loop-entry : goal.invariant-loop-entry
invariant-loop-entry l = record {
  count : l.count ≡ count_kind is_failed (take l.entry-index l.history);
  few : l.count ≤ l.entry-index;
}

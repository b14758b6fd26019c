-- By no rule so far does the call fail.
use Rattle.std.proofs.Common.{◌≡◌, drop, find}
use Rattle.std.specs.List.{list_any}
use Rattle.cu_cells.specs.Script.{fails_by}
use Rattle.cu_cells.proofs.script.fate_by.Given as goal

abbrev pub invariant-loop-counted : goal.invariant-loop-counted
invariant-loop-counted l = record {
  found : find (λ c. fails_by c l.kind l.key) l.rules ≡ find (λ c. fails_by c l.kind l.key) (drop l.counted-index l.rules);
  any : list_any (λ c. fails_by c l.kind l.key) l.rules ≡ list_any (λ c. fails_by c l.kind l.key) (drop l.counted-index l.rules);
}

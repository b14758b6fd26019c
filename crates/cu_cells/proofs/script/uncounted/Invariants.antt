-- The rules so far are taken over.
use Rattle.std.proofs.Common.{◌≡◌, take, map}
use Rattle.cu_cells.proofs.script.uncounted.Given as goal

abbrev pub invariant-loop-rule : goal.invariant-loop-rule
invariant-loop-rule l = l.made.items ≡ map (λ r. record { rule = r; count = 0 }) (take l.rule-index l.rules)

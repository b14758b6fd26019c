use Rattle.std.proofs.Common.{◌≡◌, ◌≤◌, take}
use Rattle.cu_table.specs.Table.{undone_among}
use Rattle.cu_table.proofs.open.count_undone.Given as goal

abbrev pub invariant-loop-state : goal.invariant-loop-state
invariant-loop-state l = (l.count ≡ undone_among (take l.state-index l.states)) × (l.count ≤ l.state-index)

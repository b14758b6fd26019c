-- So far there are as many that aren't filled.
use Rattle.std.proofs.Common.{◌≡◌, None, replicate}
use Rattle.cu_cells.proofs.make.no_entries.Given as goal

abbrev pub invariant-loop-at : goal.invariant-loop-at
invariant-loop-at l = l.entries.items ≡ replicate l.at None

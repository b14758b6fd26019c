use Rattle.std.proofs.Common.{◌<◌}
use Rattle.cu_kern.proofs.by_rows.long_piece.Given as goal

abbrev pub invariant-loop-row : goal.invariant-loop-row
invariant-loop-row l = 0 < l.least

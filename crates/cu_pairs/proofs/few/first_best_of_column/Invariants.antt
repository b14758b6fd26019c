use Rattle.std.proofs.Common.{◌*◌, min}
use Rattle.cu_pairs.specs.Columns.{column_of}
use Rattle.cu_pairs.specs.Runs.{IsLeading}
use Rattle.cu_pairs.proofs.few.first_best_of_column.Given as goal

abbrev pub invariant-loop-block : goal.invariant-loop-block
invariant-loop-block l = IsLeading l.least (column_of l.t l.rows.width l.rows.bytes.now l.column) (min (l.block * 256) l.count) l.start l.best

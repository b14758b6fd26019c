use Rattle.std.proofs.Common.{◌≢◌, ◌<◌, ◌≤◌, ℕ}
use Rattle.cu_pairs.specs.Columns.{column_of}
use Rattle.cu_pairs.proofs.few.row_of.Given as goal

abbrev pub invariant-loop-row : goal.invariant-loop-row
invariant-loop-row l = (k : ℕ) → l.start ≤ k → k < l.row → column_of l.t l.rows.width l.rows.bytes.now l.column k ≢ l.x

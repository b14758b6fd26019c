use Rattle.std.proofs.Common.{◌≡◌, ℕ, ◌+◌, ◌<◌, ◌≤◌, length}
use Rattle.cu_pairs.specs.Columns.{table, HasBest}
use Rattle.cu_pairs.proofs.columns.take_row.Given as goal

abbrev pub invariant-loop-k : goal.invariant-loop-k
invariant-loop-k l = record {
  values_length : length l.values ≡ length l.fn.values;
  places_length : length l.places ≡ length l.fn.places;
  done : (k : ℕ) → k < l.k → HasBest l.least (table l.t l.rows.width l.rows.bytes.now l.rows.first l.rows.places.now) (l.row + 1) l.values l.places k;
  left : (k : ℕ) → l.k ≤ k → k < l.rows.width → HasBest l.least (table l.t l.rows.width l.rows.bytes.now l.rows.first l.rows.places.now) l.row l.values l.places k;
}

use Rattle.std.proofs.Common.{◌≡◌, ◌<◌, ℕ, length}
use Rattle.cu_pairs.specs.Columns.{table, HasBest}
use Rattle.cu_pairs.proofs.few.best_of_few_columns.Given as goal

abbrev pub invariant-loop-column : goal.invariant-loop-column
invariant-loop-column l = record {
  values_length : length l.values ≡ length l.fn.values;
  places_length : length l.places ≡ length l.fn.places;
  done : (k : ℕ) → k < l.column → HasBest l.least (table l.t l.rows.width l.rows.bytes.now l.rows.first l.rows.places.now) l.count l.values l.places k;
}

use Rattle.std.proofs.Common.{◌≡◌, length}
use Rattle.cu_pairs.specs.Columns.{table, HasBests}
use Rattle.cu_pairs.proofs.columns.best_of_columns.Given as goal

abbrev pub invariant-loop-row : goal.invariant-loop-row
invariant-loop-row l = record {
  values_length : length l.values ≡ length l.fn.values;
  places_length : length l.places ≡ length l.fn.places;
  done : HasBests l.least (table l.t l.rows.width l.rows.bytes.now l.rows.first l.rows.places.now) l.row l.values l.places;
}

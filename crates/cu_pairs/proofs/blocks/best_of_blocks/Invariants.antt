use Rattle.std.proofs.Common.{◌≡◌, length}
use Rattle.cu_pairs.specs.Columns.{table}
use Rattle.cu_pairs.specs.Blocks.{sizes, HasBestsAlong}
use Rattle.cu_pairs.proofs.blocks.best_of_blocks.Given as goal

abbrev pub invariant-loop-block : goal.invariant-loop-block
invariant-loop-block l = record {
  values_length : length l.values ≡ length l.fn.values;
  places_length : length l.places ≡ length l.fn.places;
  done : HasBestsAlong l.least (table l.t l.rows.width l.rows.bytes.now l.rows.first l.rows.places.now) (sizes l.block l.fn.blocks.rows) l.values l.places;
}

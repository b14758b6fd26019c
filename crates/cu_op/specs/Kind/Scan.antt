-- A scan sums along an axis up to each place: the elements of the place's chunk up to it, and what is carried into the chunk.
use Rattle.cu_num.specs.declared.folds.FoldKind.TheVariants.{Sum}
use Rattle.cu_op.specs.Along.{CarriesFor, carried_reads, carried_array, carried_chunk, carried_room, carried_walks, chunk_on, group_walk}
use Rattle.cu_op.specs.Arrays.{grid_at, type_at, chunk_room}
use Rattle.cu_op.specs.Chunks.{chunk_where}
use Rattle.cu_op.specs.Route.{Computing}
use Rattle.cu_op.specs.Kind.{Kind}
use Rattle.cu_op.specs.Partial.{place_groups}
use Rattle.cu_op.specs.declared.layout.ArrayInfo.{ArrayInfo}
use Rattle.cu_op.specs.declared.operation.Op.TheVariants.{Scan}
use Rattle.cu_reduce.specs.Kinds.{Accumulates}
use Rattle.cu_reduce.specs.Tiers.{scan_at}
use Rattle.std.specs.Prelude.{◌≡◌, ◌⊎◌, ℕ, ◌+◌, ◌*◌, ◌/◌, ◌<◌, ◌≤◌, [], ◌∷◌, ◌++◌, List, length, Option, Some, None, option_map, codes, slice_index, slice_set, ◌==◌, true}

-- the result has the source's grid; where something is carried in, it has a number for each chunk along the axis
pub record ScanFits (arrays : List ArrayInfo) (axis source : ℕ) (carry : Option ℕ) (out : ℕ) : Type 0 where
  pub along : axis < length (grid_at arrays source).shape
  pub grid : grid_at arrays out ≡ grid_at arrays source
  pub types : Accumulates Sum (type_at arrays source) (type_at arrays out)
  pub carried : CarriesFor arrays (place_groups (Some axis) (grid_at arrays source)) source out carry

abbrev pub scan_kind : ℕ → ℕ → Option ℕ → ℕ → Kind
scan_kind axis source carry out = record {
  reads = source ∷ carried_reads carry;
  writes = out ∷ [];
  target = out;
  one_chunk = true;
  by_chunk = λ arrays a. a == source;
  fits = λ arrays. ScanFits arrays axis source carry out;
  tasks = λ arrays. grid_at arrays out;
  walks = λ arrays lo hi.
      group_walk source axis (chunk_on (grid_at arrays source) axis) (slice_index hi axis) lo hi ∷ carried_walks carry axis (chunk_on (grid_at arrays source) axis) lo hi;
  cells = λ arrays c. chunk_where arrays source c ++ carried_chunk arrays carry c;
  input_room = λ arrays. chunk_room arrays source + carried_room arrays carry;
  output_room = λ arrays. chunk_room arrays out;
  kernel = None;
  is_small = Unit {0};
  value = λ arrays at array idx. scan_at (type_at arrays out) axis (chunk_on (grid_at arrays source) axis) (at source) (carried_array at carry) idx;
  reads_at = λ arrays idx a from.
      ((a ≡ source) × (k : ℕ) × (slice_index idx axis / chunk_on (grid_at arrays source) axis * chunk_on (grid_at arrays source) axis ≤ k) × (k ≤ slice_index idx axis) × (from ≡ slice_set idx axis k))
      ⊎ ((carry ≡ Some a) × (from ≡ slice_set idx axis (slice_index idx axis / chunk_on (grid_at arrays source) axis)));
  text = codes "scan";
  renumbered = λ f. Scan axis (f source) (option_map f carry) (f out);
  route = Computing;
  compared = None;
  stored = None;
}

-- A carry gives each of some sums that stand along an axis what comes before it: the sums before it in its group of neighbours, and what is
-- carried into that group.
use Rattle.cu_num.specs.Dtype.{IsInteger}
use Rattle.cu_op.specs.Along.{CarriesFor, carried_reads, carried_array, carried_chunk, carried_walks, chunk_on, group_walk}
use Rattle.cu_op.specs.Arrays.{grid_at, type_at, chunk_room}
use Rattle.cu_op.specs.Chunks.{cell}
use Rattle.cu_op.specs.Route.{Computing}
use Rattle.cu_op.specs.Kind.{Kind}
use Rattle.cu_op.specs.Partial.{merge_groups}
use Rattle.cu_op.specs.declared.layout.ArrayInfo.{ArrayInfo}
use Rattle.cu_op.specs.declared.operation.Op.TheVariants.{Carry}
use Rattle.cu_reduce.specs.Tiers.{carry_at}
use Rattle.std.specs.List.{range_with_len}
use Rattle.std.specs.Prelude.{◌≡◌, ◌⊎◌, ℕ, pred, ◌+◌, ◌-◌, ◌*◌, ◌/◌, ◌<◌, ◌≤◌, [], ◌∷◌, ◌++◌, List, length, Option, Some, None, option_map, codes, map, slice_index, slice_set, false}

-- the sums stand in chunks of one along the axis; what comes before them has their grid and type
pub record CarryFits (arrays : List ArrayInfo) (axis group sums : ℕ) (above : Option ℕ) (out : ℕ) : Type 0 where
  pub along : axis < length (grid_at arrays sums).shape
  pub some : 0 < group
  pub few : group ≤ 65536
  pub single : chunk_on (grid_at arrays sums) axis ≡ 1
  pub grid : grid_at arrays out ≡ grid_at arrays sums
  pub types : type_at arrays out ≡ type_at arrays sums
  pub integer : IsInteger (type_at arrays out)
  pub carried : CarriesFor arrays (merge_groups axis group (grid_at arrays sums)) sums out above

abbrev pub carry_kind : ℕ → ℕ → ℕ → Option ℕ → ℕ → Kind
carry_kind axis group sums above out = record {
  reads = sums ∷ carried_reads above;
  writes = out ∷ [];
  target = out;
  one_chunk = false;
  by_chunk = λ arrays a. false;
  fits = λ arrays. CarryFits arrays axis group sums above out;
  tasks = λ arrays. grid_at arrays out;
  walks = λ arrays lo hi. group_walk sums axis group (pred (slice_index hi axis)) lo hi ∷ carried_walks above axis group lo hi;
  cells = λ arrays c.
      map (λ k. cell sums (slice_set c axis k)) (range_with_len (slice_index c axis / group * group) (slice_index c axis - slice_index c axis / group * group))
      ++ carried_chunk arrays above (slice_set c axis (slice_index c axis / group));
  input_room = λ arrays. (group + 1) * chunk_room arrays sums;
  output_room = λ arrays. chunk_room arrays out;
  kernel = None;
  is_small = group ≤ 65536;
  value = λ arrays at array idx. carry_at (type_at arrays out) axis group (at sums) (carried_array at above) idx;
  reads_at = λ arrays idx a from.
      ((a ≡ sums) × (k : ℕ) × (slice_index idx axis / group * group ≤ k) × (k < slice_index idx axis) × (from ≡ slice_set idx axis k))
      ⊎ ((above ≡ Some a) × (from ≡ slice_set idx axis (slice_index idx axis / group)));
  text = codes "carry";
  renumbered = λ f. Carry axis group (f sums) (option_map f above) (f out);
  route = Computing;
  compared = None;
  stored = None;
}

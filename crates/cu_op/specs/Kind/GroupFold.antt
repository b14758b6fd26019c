-- A fold by labels reduces in each chunk of its source, along an axis, the elements of each label to one partial result.
use Rattle.cu_num.specs.Dtype.{IsInteger}
use Rattle.cu_num.specs.declared.folds.FoldKind.{FoldKind}
use Rattle.cu_num.specs.declared.folds.FoldKind.TheVariants.{Sum, Min}
use Rattle.cu_op.specs.Along.{size_on, chunk_on}
use Rattle.cu_op.specs.Arrays.{grid_at, type_at, chunk_room}
use Rattle.cu_op.specs.Chunks.{chunk_where}
use Rattle.cu_op.specs.Route.{Computing}
use Rattle.cu_op.specs.Grouping.{source_index, label_part, label_chunks, part_places, grouped_walk, labels_walk}
use Rattle.cu_op.specs.Kind.{Kind}
use Rattle.cu_op.specs.Matrix.{HasParts}
use Rattle.cu_op.specs.declared.layout.ArrayInfo.{ArrayInfo}
use Rattle.cu_op.specs.declared.operation.Op.TheVariants.{GroupFold}
use Rattle.cu_reduce.specs.Kinds.{Accumulates}
use Rattle.cu_reduce.specs.Labels.{grouped_to, marked}
use Rattle.std.specs.Prelude.{◌≡◌, ◌⊎◌, ℕ, ◌+◌, ◌<◌, ◌≤◌, [], ◌∷◌, ◌++◌, List, length, Contains, None, codes, slice_index, slice_set, ◌==◌, true}

-- the labels go along the axis in the source's chunks; the result has the groups there, in one chunk
pub record GroupFoldFits (arrays : List ArrayInfo) (kind : FoldKind) (axis groups source labels out : ℕ) : Type 0 where
  pub parts : List ℕ
  pub part_chunks : List ℕ
  pub kinds : (kind ≡ Sum) ⊎ (kind ≡ Min)
  pub along : axis < length (grid_at arrays source).shape
  pub some : 0 < groups
  pub few : groups ≤ 65536
  pub integer : IsInteger (type_at arrays source)
  pub types : Accumulates kind (type_at arrays source) (type_at arrays out)
  pub label_type : IsInteger (type_at arrays labels)
  pub label_sizes : (grid_at arrays labels).shape ≡ size_on (grid_at arrays source) axis ∷ []
  pub label_chunk : (grid_at arrays labels).chunk ≡ chunk_on (grid_at arrays source) axis ∷ []
  pub numbered : HasParts (label_chunks (grid_at arrays source) axis) parts part_chunks
  pub shape : (grid_at arrays out).shape ≡ slice_set (grid_at arrays source).shape axis groups ++ parts
  pub chunk : (grid_at arrays out).chunk ≡ slice_set (grid_at arrays source).chunk axis groups ++ part_chunks

abbrev pub group_fold_kind : FoldKind → ℕ → ℕ → ℕ → ℕ → ℕ → Kind
group_fold_kind kind axis groups source labels out = record {
  reads = source ∷ labels ∷ [];
  writes = out ∷ [];
  target = out;
  one_chunk = true;
  by_chunk = λ arrays a. a == source;
  fits = λ arrays. GroupFoldFits arrays kind axis groups source labels out;
  tasks = λ arrays. grid_at arrays out;
  walks = λ arrays lo hi. grouped_walk (grid_at arrays source) axis source lo hi ∷ labels_walk (grid_at arrays source) axis labels lo hi ∷ [];
  cells = λ arrays c.
      chunk_where arrays source (source_index (grid_at arrays source) axis c (label_part (grid_at arrays source) c))
      ++ chunk_where arrays labels (label_part (grid_at arrays source) c ∷ []);
  input_room = λ arrays. chunk_room arrays source + chunk_room arrays labels;
  output_room = λ arrays. chunk_room arrays out;
  kernel = None;
  is_small = Unit {0};
  value = λ arrays at array idx.
      grouped_to kind (type_at arrays out) (slice_index idx axis)
      (marked (λ k. at labels (k ∷ [])) (λ k. at source (source_index (grid_at arrays source) axis idx k)) (part_places (grid_at arrays source) axis idx));
  reads_at = λ arrays idx a from. (k : ℕ) × Contains (part_places (grid_at arrays source) axis idx) k
      × (((a ≡ source) × (from ≡ source_index (grid_at arrays source) axis idx k)) ⊎ ((a ≡ labels) × (from ≡ k ∷ [])));
  text = codes "groupfold";
  renumbered = λ f. GroupFold kind axis groups (f source) (f labels) (f out);
  route = Computing;
  compared = None;
  stored = None;
}

-- What is proved of a fold by labels.
use Rattle.cu_op.specs.declared.walks.Walk.{Walk}
use Rattle.cu_op.specs.Chunks.{IsOneChunk}
use Rattle.cu_grid.proofs.Regions.{coordinate-length}
use Rattle.cu_grid.specs.Counts.{chunk_lo, chunk_hi, IsWithin}
use Rattle.cu_grid.specs.Grid.{IsCoordinate}
use Rattle.cu_num.specs.Dtype.{IsInteger}
use Rattle.cu_num.specs.declared.folds.FoldKind.{FoldKind}
use Rattle.cu_op.proofs.Alike.{same_mapped}
use Rattle.cu_op.proofs.ByLabels.{source_over, labels_over, source_reads, labels_reads, operands_apart, source_box, labels_box, source_long, labels_long, source_span, labels_span, grouped_range}
use Rattle.cu_op.proofs.ByChunk.{room_told}
use Rattle.cu_op.proofs.Filled.{IsFilled, chunk_filled}
use Rattle.cu_op.proofs.Kind.{Laws, Stands, Keeps}
use Rattle.cu_op.proofs.NewNumbers.{grid_same, type_same, room_same}
use Rattle.cu_op.proofs.Results.{differ_only, nested_only, none_given}
use Rattle.cu_op.proofs.Rooms.{any_room_few}
use Rattle.cu_op.proofs.SameCells.{HaveSame, of_two, operand_same, operand_one}
use Rattle.cu_op.proofs.Spans.{chunk_span}
use Rattle.cu_op.proofs.WalksOf.{over_two, apart_two, first_of_walks, second_of_walks}
use Rattle.cu_op.specs.Along.{size_on, chunk_on}
use Rattle.cu_op.specs.Arrays.{grid_at, type_at, chunk_room}
use Rattle.cu_op.specs.Grouping.{source_index, label_chunks, part_places, grouped_walk, labels_walk, label_part}
use Rattle.cu_op.specs.Kind.GroupFold.{group_fold_kind, GroupFoldFits}
use Rattle.cu_op.specs.Matrix.{HasParts}
use Rattle.cu_op.specs.Walks.{IsWalkOver, cells_of_walks}
use Rattle.cu_op.specs.declared.cells.Cell.{Cell}
use Rattle.cu_op.specs.declared.layout.ArrayInfo.{ArrayInfo}
use Rattle.cu_reduce.specs.Kinds.{Accumulates}
use Rattle.cu_reduce.specs.Labels.{grouped_to, marked, with_label}
use Rattle.std.proofs.Common.{◌≡◌, ℕ, ◌+◌, ◌<◌, List, [], ◌∷◌, ◌++◌, length, All, Option, set, slice_index, refl, sym, ◌∙◌, subst, arith, ℤ, ap, inl, inr, Contains}
use Rattle.std.proofs.lemmas.List.Elements.{All-head, All-tail, All-contains, All-cons, All-nil}
use mathlib.Core.Path.{transport}

pub group_fold_laws : (kind : FoldKind) (axis groups source labels out : ℕ) → Laws (group_fold_kind kind axis groups source labels out)
group_fold_laws kind axis groups source labels out = record {
  alone = λ arrays at other array idx h.
      let g = grid_at arrays source in
      ap (grouped_to kind (type_at arrays out) (slice_index idx axis))
      (same_mapped (λ k. with_label (at labels (k ∷ [])) (at source (source_index g axis idx k))) (λ k. with_label (other labels (k ∷ [])) (other source (source_index g axis idx k))) (part_places g axis idx)
      (λ k c. ap (λ (x : Option ℤ). with_label x (at source (source_index g axis idx k))) (h labels (k ∷ []) (k, c, inr (refl, refl)))
      ∙ ap (with_label (other labels (k ∷ []))) (h source (source_index g axis idx k) (k, c, inl (refl, refl)))));
  listed = λ arrays idx a i reads. elim reads.2 [ inl same ↦ (0, omega arith, sym same.0) | inr same ↦ (1, omega arith, sym same.0) ];
  target = (0, omega arith, refl);
  one_written = λ one. refl;
  one_grid = λ arrays one. refl;
  one_room = λ arrays one. refl;
  one_read = λ arrays d w s here among by. group_one arrays d w s here among;
  by_chunk_room = λ arrays a by. room_told arrays a source (chunk_room arrays source + chunk_room arrays labels) by (omega arith);
  grid = λ arrays s. s.grids out (s.writes 0 0 (omega arith));
  nested = λ arrays s. nested_only arrays out (s.grids out (s.writes 0 0 (omega arith)));
  differ = λ arrays lo hi s. differ_only out lo hi;
  walked = λ arrays lo hi. refl;
  over = group_over;
  apart = λ arrays lo hi s f p v w hv hw other ov ow.
      let ws = s.reads 0 0 (omega arith) in
      let wl = s.reads 1 0 (omega arith) in
      let g = grid_at arrays source in
      apart_two arrays (grouped_walk g axis source lo hi) (labels_walk g axis labels lo hi) v w
      (λ differ. operands_apart arrays kind axis groups source labels out s.fits (s.grids source ws) (s.grids labels wl) (s.grids out (s.writes 0 0 (omega arith))) lo hi ws wl f p differ) hv hw other;
  within = λ arrays lo hi a idx i s f inside w reads.
      let g = grid_at arrays source in
      let x = grouped_walk g axis source lo hi in
      let y = labels_walk g axis labels lo hi in
      elim reads.2 [
        | inl same ↦ first_of_walks x (y ∷ []) a i (sym same.0) (subst (IsWithin x.region.lo x.region.hi) (sym same.1) (source_reads arrays kind axis groups source labels out s.fits lo hi idx reads.0 f w reads.1))
        | inr same ↦ second_of_walks x y a i (sym same.0) (subst (IsWithin y.region.lo y.region.hi) (sym same.1) (labels_reads arrays kind axis groups source labels out s.fits lo hi idx reads.0 f w reads.1))
      ];
  same = group_same;
  range = λ arrays at a idx x among fits inside typed reads v.
      let g = grid_at arrays source in
      grouped_range kind arrays out a (slice_index idx axis) (marked (λ k. at labels (k ∷ [])) (λ k. at source (source_index g axis idx k)) (part_places g axis idx)) x among v;
  small = λ arrays fits. tt;
  inputs_few = λ arrays ok reads few small. let a = any_room_few arrays source source ok in let b = any_room_few arrays labels labels ok in omega (arith, a, b);
  outputs_few = λ arrays ok. let o = any_room_few arrays out out ok in omega (arith, o);
  renumbered = λ f. record {
    reads = refl;
    writes = refl;
    kernel = refl;
    value = λ old new at others array idx s h own.
        let E = h source (0, omega arith, refl) in
        let F = h labels (1, omega arith, refl) in
        let G = grid_same f old new source (s.reads 0 0 (omega arith)) in
        let T = type_same f old new out (s.writes 0 0 (omega arith)) in
        λ i. grouped_to kind (T i) (slice_index idx axis) (marked (λ k. F i (k ∷ [])) (λ k. E i (source_index (G i) axis idx k)) (part_places (G i) axis idx));
    fits = group_fits f;
    tasks = λ old new s. grid_same f old new out (s.writes 0 0 (omega arith));
    input_room = λ old new s. λ i. room_same f old new source (s.reads 0 0 (omega arith)) i + room_same f old new labels (s.reads 1 0 (omega arith)) i;
    output_room = λ old new s. room_same f old new out (s.writes 0 0 (omega arith));
  };
  itself = λ arrays h. h;
  compares = λ array is. absurd (none_given array is);
  stores = λ array is. absurd (none_given array is);
  stores_none = λ is. refl;
  stored_type = λ arrays array fits is. absurd (none_given array is);
}
  where
    group_over : (arrays : List ArrayInfo) (lo hi : List ℕ) → Stands arrays (group_fold_kind kind axis groups source labels out) → IsFilled (grid_at arrays out).shape lo hi
        → All (IsWalkOver arrays) (grouped_walk (grid_at arrays source) axis source lo hi ∷ labels_walk (grid_at arrays source) axis labels lo hi ∷ [])
    group_over arrays lo hi s f =
        over_two arrays (grouped_walk (grid_at arrays source) axis source lo hi) (labels_walk (grid_at arrays source) axis labels lo hi)
        (s.reads 0 0 (omega arith), source_over arrays kind axis groups source labels out s.fits lo hi f) (s.reads 1 0 (omega arith), labels_over arrays kind axis groups source labels out s.fits lo hi f)

    group_same : (arrays : List ArrayInfo) (d : List ℕ) (c : Cell) → Stands arrays (group_fold_kind kind axis groups source labels out) → IsCoordinate (grid_at arrays out) d
        → HaveSame (cells_of_walks arrays ((group_fold_kind kind axis groups source labels out).walks arrays (chunk_lo (grid_at arrays out).chunk d) (chunk_hi (grid_at arrays out).shape (grid_at arrays out).chunk d)))
        ((group_fold_kind kind axis groups source labels out).cells arrays d) c
    group_same arrays d c s here =
        let g = grid_at arrays out in
        let from = grid_at arrays source in
        let ok = s.grids source (s.reads 0 0 (omega arith)) in
        let okl = s.grids labels (s.reads 1 0 (omega arith)) in
        let oko = s.grids out (s.writes 0 0 (omega arith)) in
        let lo = chunk_lo g.chunk d in
        let hi = chunk_hi g.shape g.chunk d in
        let filled = chunk_filled g.shape g.chunk d oko.positive oko.ranks here in
        let span = chunk_span g.shape g.chunk d oko.ranks (coordinate-length g d oko here) in
        let x = grouped_walk from axis source lo hi in
        let y = labels_walk from axis labels lo hi in
        let over = group_over arrays lo hi s filled in
        of_two arrays x y _ _ c
        (operand_same arrays source _ _ _ c ok (All-head (IsWalkOver arrays) x (y ∷ []) over) (source_long arrays kind axis groups source labels out s.fits ok okl oko d here filled)
        (source_box arrays kind axis groups source labels out s.fits ok okl oko d here filled) (source_span arrays kind axis groups source labels out s.fits ok okl oko lo hi filled span))
        (operand_same arrays labels _ _ _ c okl (All-head (IsWalkOver arrays) y [] (All-tail (IsWalkOver arrays) x (y ∷ []) over)) (labels_long arrays kind axis groups source labels out s.fits ok okl oko d here filled)
        (labels_box arrays kind axis groups source labels out s.fits ok okl oko d here filled) (labels_span arrays kind axis groups source labels out s.fits ok okl oko lo hi filled span))

    group_one : (arrays : List ArrayInfo) (d : List ℕ) (w : Walk) → Stands arrays (group_fold_kind kind axis groups source labels out) → IsCoordinate (grid_at arrays out) d
        → Contains ((group_fold_kind kind axis groups source labels out).walks arrays (chunk_lo (grid_at arrays out).chunk d) (chunk_hi (grid_at arrays out).shape (grid_at arrays out).chunk d)) w
        → IsOneChunk (grid_at arrays w.array) w.region
    group_one arrays d w s here among =
        let g = grid_at arrays out in
        let from = grid_at arrays source in
        let ok = s.grids source (s.reads 0 0 (omega arith)) in
        let okl = s.grids labels (s.reads 1 0 (omega arith)) in
        let oko = s.grids out (s.writes 0 0 (omega arith)) in
        let lo = chunk_lo g.chunk d in
        let hi = chunk_hi g.shape g.chunk d in
        let filled = chunk_filled g.shape g.chunk d oko.positive oko.ranks here in
        let span = chunk_span g.shape g.chunk d oko.ranks (coordinate-length g d oko here) in
        let P : Walk → Type 0 = λ v. IsOneChunk (grid_at arrays v.array) v.region in
        All-contains P (grouped_walk from axis source lo hi ∷ labels_walk from axis labels lo hi ∷ []) w
        (All-cons P (grouped_walk from axis source lo hi) (labels_walk from axis labels lo hi ∷ [])
        (operand_one arrays source (source_index from axis d (label_part from d)) (grouped_walk from axis source lo hi).region.lo (grouped_walk from axis source lo hi).region.hi ok (source_long arrays kind axis groups source labels out s.fits ok okl oko d here filled)
        (source_box arrays kind axis groups source labels out s.fits ok okl oko d here filled) (source_span arrays kind axis groups source labels out s.fits ok okl oko lo hi filled span))
        (All-cons P (labels_walk from axis labels lo hi) []
        (operand_one arrays labels (label_part from d ∷ []) (labels_walk from axis labels lo hi).region.lo (labels_walk from axis labels lo hi).region.hi okl (labels_long arrays kind axis groups source labels out s.fits ok okl oko d here filled)
        (labels_box arrays kind axis groups source labels out s.fits ok okl oko d here filled) (labels_span arrays kind axis groups source labels out s.fits ok okl oko lo hi filled span))
        (All-nil P))) among

    group_fits : (f : ℕ → ℕ) (old new : List ArrayInfo) → Keeps f old new (group_fold_kind kind axis groups source labels out) → GroupFoldFits old kind axis groups source labels out
        → GroupFoldFits new kind axis groups (f source) (f labels) (f out)
    group_fits f old new s h =
        let ks = s.reads 0 0 (omega arith) in
        let kl = s.reads 1 0 (omega arith) in
        let ko = s.writes 0 0 (omega arith) in
        let G = sym (grid_same f old new source ks) in
        let L = sym (grid_same f old new labels kl) in
        let O = sym (grid_same f old new out ko) in
        let S = sym (type_same f old new source ks) in
        let B = sym (type_same f old new labels kl) in
        let T = sym (type_same f old new out ko) in
        record {
          parts = h.parts;
          part_chunks = h.part_chunks;
          kinds = h.kinds;
          along = transport (λ i. axis < length (G i).shape) h.along;
          some = h.some;
          few = h.few;
          integer = transport (λ i. IsInteger (S i)) h.integer;
          types = transport (λ i. Accumulates kind (S i) (T i)) h.types;
          label_type = transport (λ i. IsInteger (B i)) h.label_type;
          label_sizes = transport (λ i. (L i).shape ≡ size_on (G i) axis ∷ []) h.label_sizes;
          label_chunk = transport (λ i. (L i).chunk ≡ chunk_on (G i) axis ∷ []) h.label_chunk;
          numbered = transport (λ i. HasParts (label_chunks (G i) axis) h.parts h.part_chunks) h.numbered;
          shape = transport (λ i. (O i).shape ≡ set (G i).shape axis groups ++ h.parts) h.shape;
          chunk = transport (λ i. (O i).chunk ≡ set (G i).chunk axis groups ++ h.part_chunks) h.chunk;
        }

-- What is proved of a fold.
use Rattle.cu_op.specs.declared.walks.Walk.{Walk}
use Rattle.cu_op.specs.Chunks.{IsOneChunk}
use Rattle.cu_op.proofs.Members.{only_member}
use Rattle.cu_grid.specs.Counts.{chunk_lo, chunk_hi}
use Rattle.cu_num.specs.declared.folds.FoldKind.{FoldKind}
use Rattle.cu_op.proofs.Alike.{same_mapped}
use Rattle.cu_op.proofs.ByChunk.{room_told}
use Rattle.cu_op.proofs.Filled.{IsFilled, chunk_filled}
use Rattle.cu_op.proofs.Grouped.{partial_region, partial_reads}
use Rattle.cu_op.proofs.Kind.{Laws, Stands}
use Rattle.cu_op.proofs.NewNumbers.{grid_same, type_same, fold_fits, room_same}
use Rattle.cu_op.proofs.PlanGroups.{chunk_ranks}
use Rattle.cu_op.proofs.ResultRanges.{fold_range}
use Rattle.cu_op.proofs.Results.{differ_only, nested_only, none_given}
use Rattle.cu_op.proofs.Rooms.{any_room_few}
use Rattle.cu_op.proofs.SameCells.{of_one, folded_same, folded_one}
use Rattle.cu_op.proofs.WalksOf.{over_one, apart_one, first_of_walks}
use Rattle.cu_op.specs.Arrays.{grid_at, type_at, chunk_room}
use Rattle.cu_op.specs.Kind.Fold.{fold_kind}
use Rattle.cu_op.specs.Partial.{partial_indices, chunk_groups}
use Rattle.cu_op.specs.Walks.{IsWalkOver}
use Rattle.cu_op.specs.Reductions.{partial_walk}
use Rattle.cu_op.specs.declared.layout.ArrayInfo.{ArrayInfo}
use Rattle.cu_origin.specs.Pull.{has_axis}
use Rattle.cu_origin.specs.declared.axes.Axes.{Axes}
use Rattle.cu_reduce.specs.Folds.{reduced_to}
use Rattle.cu_reduce.specs.Groups.{group_indices, group_of}
use Rattle.std.proofs.Common.{ℕ, List, [], ◌∷◌, All, refl, sym, arith, map, ap, subst}
use Rattle.std.proofs.lemmas.List.Elements.{All-head}

pub fold_laws : (kind : FoldKind) (axes : Axes) (source out : ℕ) → Laws (fold_kind kind axes source out)
fold_laws kind axes source out = record {
  alone = λ arrays at other array idx h.
      ap (reduced_to kind (type_at arrays out)) (same_mapped (at source) (other source) (partial_indices arrays (chunk_groups axes (grid_at arrays source)) source out idx) (λ i c. h source i (refl, c)));
  listed = λ arrays idx a i reads. (0, omega arith, sym reads.0);
  target = (0, omega arith, refl);
  one_written = λ one. refl;
  one_grid = λ arrays one. refl;
  one_room = λ arrays one. refl;
  one_read = λ arrays d w s here among by.
      let g = grid_at arrays out in
      let own = partial_walk arrays (chunk_groups axes (grid_at arrays source)) source out (chunk_lo g.chunk d) (chunk_hi g.shape g.chunk d) in
      subst (λ (v : Walk). IsOneChunk (grid_at arrays v.array) v.region) (only_member own w among)
      (folded_one arrays s.grids (has_axis axes) source out d (s.reads 0 0 (omega arith)) (s.writes 0 0 (omega arith)) s.fits.result here);
  by_chunk_room = λ arrays a by. room_told arrays a source (chunk_room arrays source) by (omega arith);
  grid = λ arrays s. s.grids out (s.writes 0 0 (omega arith));
  nested = λ arrays s. nested_only arrays out (s.grids out (s.writes 0 0 (omega arith)));
  differ = λ arrays lo hi s. differ_only out lo hi;
  walked = λ arrays lo hi. refl;
  over = fold_over kind axes source out;
  apart = λ arrays lo hi s f p v w hv hw other ov ow. apart_one arrays (partial_walk arrays (chunk_groups axes (grid_at arrays source)) source out lo hi) v w hv hw other;
  within = λ arrays lo hi a idx i s f inside w reads.
      let gs = chunk_groups axes (grid_at arrays source) in
      first_of_walks (partial_walk arrays gs source out lo hi) [] a i (sym reads.0)
      (partial_reads arrays gs source out (chunk_ranks arrays (has_axis axes) source (s.grids source (s.reads 0 0 (omega arith)))) s.fits.result lo hi idx i f w inside reads.1);
  same = λ arrays d c s here.
      let g = grid_at arrays out in
      let ok = s.grids out (s.writes 0 0 (omega arith)) in
      let lo = chunk_lo g.chunk d in
      let hi = chunk_hi g.shape g.chunk d in
      let own = partial_walk arrays (chunk_groups axes (grid_at arrays source)) source out lo hi in
      of_one arrays own _ c (folded_same arrays s.grids (has_axis axes) source out d c (s.reads 0 0 (omega arith)) (s.writes 0 0 (omega arith)) s.fits.result here
      (All-head (IsWalkOver arrays) own [] (fold_over kind axes source out arrays lo hi s (chunk_filled g.shape g.chunk d ok.positive ok.ranks here))));
  range = λ arrays at a idx x among fits inside typed reads v.
      fold_range kind arrays out a (map (at source) (partial_indices arrays (chunk_groups axes (grid_at arrays source)) source out idx)) x among v;
  small = λ arrays fits. tt;
  inputs_few = λ arrays ok reads few small. let r = any_room_few arrays source source ok in omega (arith, r);
  outputs_few = λ arrays ok. let o = any_room_few arrays out out ok in omega (arith, o);
  renumbered = λ f. record {
    reads = refl;
    writes = refl;
    kernel = refl;
    value = λ old new at others array idx s h own.
        let E = h source (0, omega arith, refl) in
        let G = grid_same f old new source (s.reads 0 0 (omega arith)) in
        let O = grid_same f old new out (s.writes 0 0 (omega arith)) in
        let T = type_same f old new out (s.writes 0 0 (omega arith)) in
        λ i. reduced_to kind (T i) (map (E i) (group_indices (chunk_groups axes (G i)) (G i).shape (group_of (chunk_groups axes (G i)) (G i).shape (O i).shape idx)));
    fits = λ old new s h. fold_fits f old new kind (chunk_groups axes) source out (s.reads 0 0 (omega arith)) (s.writes 0 0 (omega arith)) h;
    tasks = λ old new s. grid_same f old new out (s.writes 0 0 (omega arith));
    input_room = λ old new s. room_same f old new source (s.reads 0 0 (omega arith));
    output_room = λ old new s. room_same f old new out (s.writes 0 0 (omega arith));
  };
  itself = λ arrays h. h;
  compares = λ array is. absurd (none_given array is);
  stores = λ array is. absurd (none_given array is);
  stores_none = λ is. refl;
  stored_type = λ arrays array fits is. absurd (none_given array is);
}
  where
    fold_over : (kind : FoldKind) (axes : Axes) (source out : ℕ) (arrays : List ArrayInfo) (lo hi : List ℕ) → Stands arrays (fold_kind kind axes source out) → IsFilled (grid_at arrays out).shape lo hi
        → All (IsWalkOver arrays) (partial_walk arrays (chunk_groups axes (grid_at arrays source)) source out lo hi ∷ [])
    fold_over kind axes source out arrays lo hi s f =
        let within = s.reads 0 0 (omega arith) in
        let gs = chunk_groups axes (grid_at arrays source) in
        over_one arrays (partial_walk arrays gs source out lo hi) (within, partial_region arrays gs source out (chunk_ranks arrays (has_axis axes) source (s.grids source within)) s.fits.result lo hi f)

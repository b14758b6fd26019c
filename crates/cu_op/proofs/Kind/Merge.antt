-- What is proved of a merge.
use Rattle.cu_num.specs.declared.folds.FoldKind.{FoldKind}
use Rattle.cu_op.proofs.Alike.{same_mapped}
use Rattle.cu_op.proofs.Grouped.{partial_region, partial_reads}
use Rattle.cu_op.proofs.Kind.{Laws}
use Rattle.cu_op.proofs.NewNumbers.{grid_same, type_same, fold_fits, merge_along, room_same}
use Rattle.cu_op.proofs.PlanGroups.{merge_ranks}
use Rattle.cu_op.proofs.ResultRanges.{fold_range}
use Rattle.cu_op.proofs.Results.{differ_only, nested_only, none_given, not_one}
use Rattle.cu_op.proofs.Rooms.{any_room_few, group_few}
use Rattle.cu_op.proofs.SameCells.{of_one, merged_same}
use Rattle.cu_op.proofs.WalksOf.{over_one, apart_one, first_of_walks}
use Rattle.cu_op.specs.Arrays.{grid_at, type_at, chunk_room}
use Rattle.cu_op.specs.Kind.Merge.{merge_kind}
use Rattle.cu_op.specs.Partial.{partial_indices, merge_groups}
use Rattle.cu_op.specs.Reductions.{partial_walk}
use Rattle.cu_reduce.specs.Folds.{reduced_to}
use Rattle.cu_reduce.specs.Groups.{group_indices, group_of}
use Rattle.std.proofs.Common.{ℕ, [], refl, sym, ◌∙◌, arith, map, ap, ◌*◌}

pub merge_laws : (kind : FoldKind) (axis group source out : ℕ) → Laws (merge_kind kind axis group source out)
merge_laws kind axis group source out = record {
  alone = λ arrays at other array idx h.
      ap (reduced_to kind (type_at arrays out)) (same_mapped (at source) (other source) (partial_indices arrays (merge_groups axis group (grid_at arrays source)) source out idx) (λ i c. h source i (refl, c)));
  listed = λ arrays idx a i reads. (0, omega arith, sym reads.0);
  target = (0, omega arith, refl);
  one_written = λ one. refl;
  one_grid = λ arrays one. refl;
  one_room = λ arrays one. refl;
  one_read = λ arrays d w s here among by. absurd (not_one by);
  by_chunk_room = λ arrays a by. absurd (not_one by);
  grid = λ arrays s. s.grids out (s.writes 0 0 (omega arith));
  nested = λ arrays s. nested_only arrays out (s.grids out (s.writes 0 0 (omega arith)));
  differ = λ arrays lo hi s. differ_only out lo hi;
  walked = λ arrays lo hi. refl;
  over = λ arrays lo hi s f.
      let gs = merge_groups axis group (grid_at arrays source) in
      over_one arrays (partial_walk arrays gs source out lo hi) (s.reads 0 0 (omega arith), partial_region arrays gs source out (merge_ranks arrays axis group source) s.fits.1.result lo hi f);
  apart = λ arrays lo hi s f p v w hv hw other ov ow. apart_one arrays (partial_walk arrays (merge_groups axis group (grid_at arrays source)) source out lo hi) v w hv hw other;
  within = λ arrays lo hi a idx i s f inside w reads.
      let gs = merge_groups axis group (grid_at arrays source) in
      first_of_walks (partial_walk arrays gs source out lo hi) [] a i (sym reads.0) (partial_reads arrays gs source out (merge_ranks arrays axis group source) s.fits.1.result lo hi idx i f w inside reads.1);
  same = λ arrays d c s here.
      of_one arrays _ _ c (merged_same arrays s.grids axis group source out d c (s.reads 0 0 (omega arith)) (s.writes 0 0 (omega arith)) s.fits.0.along s.fits.1.result here);
  range = λ arrays at a idx x among fits inside typed reads v.
      fold_range kind arrays out a (map (at source) (partial_indices arrays (merge_groups axis group (grid_at arrays source)) source out idx)) x among v;
  small = λ arrays fits. fits.0.few;
  inputs_few = λ arrays ok reads few small. let r = any_room_few arrays source source ok in group_few group (chunk_room arrays source) small (omega (arith, r));
  outputs_few = λ arrays ok. let o = any_room_few arrays out out ok in omega (arith, o);
  renumbered = λ f. record {
    reads = refl;
    writes = refl;
    kernel = refl;
    value = λ old new at others array idx s h own.
        let E = h source (0, omega arith, refl) in
        let G = grid_same f old new source (s.reads 0 0 (omega arith)) in
        let O = grid_same f old new out (s.writes 0 0 (omega arith)) in
        let T = type_same f old new out (s.writes 0 0 (omega arith)) in
        λ i. reduced_to kind (T i) (map (E i) (group_indices (merge_groups axis group (G i)) (G i).shape (group_of (merge_groups axis group (G i)) (G i).shape (O i).shape idx)));
    fits = λ old new s h.
        let ks = s.reads 0 0 (omega arith) in
        let ko = s.writes 0 0 (omega arith) in
        (merge_along f old new axis group source ks h.0, fold_fits f old new kind (merge_groups axis group) source out ks ko h.1, type_same f old new source ks ∙ h.2 ∙ sym (type_same f old new out ko));
    tasks = λ old new s. grid_same f old new out (s.writes 0 0 (omega arith));
    input_room = λ old new s. ap (λ n. group * n) (room_same f old new source (s.reads 0 0 (omega arith)));
    output_room = λ old new s. room_same f old new out (s.writes 0 0 (omega arith));
  };
  itself = λ arrays h. h;
  compares = λ array is. absurd (none_given array is);
  stores = λ array is. absurd (none_given array is);
  stores_none = λ is. refl;
  stored_type = λ arrays array fits is. absurd (none_given array is);
}

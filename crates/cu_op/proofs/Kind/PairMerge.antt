-- What is proved of a pair merge.
use Rattle.cu_grid.specs.Grid.{RegularGrid}
use Rattle.cu_num.specs.Dtype.{InRange}
use Rattle.cu_num.specs.declared.types.Dtype.{Dtype}
use Rattle.cu_op.proofs.Alike.{same_mapped}
use Rattle.cu_op.proofs.Filled.{contains_mapped}
use Rattle.cu_op.proofs.Grouped.{partial_region, partial_reads}
use Rattle.cu_op.proofs.Kind.{Laws}
use Rattle.cu_op.proofs.NewNumbers.{bool_same, pairs_renumbered, grid_same, type_same, merge_along, place_kept, pair_fits, room_same, value_room_same, optional_itself}
use Rattle.cu_op.proofs.PairRanges.{best_listed, found_parts, pair_range}
use Rattle.cu_op.proofs.PlanGroups.{merge_ranks, place_squeezed, place_within}
use Rattle.cu_op.proofs.Results.{pair_last, nested_pair, differ_pair, pair_compares, pair_stored, pair_only, type_stored, not_one}
use Rattle.cu_op.proofs.Rooms.{any_room_few, group_few}
use Rattle.cu_op.proofs.SameCells.{of_two, merged_same}
use Rattle.cu_op.proofs.WalksOf.{apart_each, over_two, first_of_walks, second_of_walks}
use Rattle.cu_op.specs.Arrays.{grid_at, chunk_room}
use Rattle.cu_op.specs.Kind.PairMerge.{pair_merge_kind}
use Rattle.cu_op.specs.Places.{pair_writes, pair_part}
use Rattle.cu_op.specs.Partial.{partial_indices, merge_groups}
use Rattle.cu_op.specs.Reductions.{partial_walk}
use Rattle.cu_op.specs.declared.layout.ArrayInfo.{ArrayInfo}
use Rattle.cu_reduce.specs.Groups.{group_indices, group_of}
use Rattle.cu_reduce.specs.Places.{Found, found_at, best_in}
use Rattle.std.proofs.Common.{◌≡◌, ℕ, ◌<◌, ◌+◌, List, [], ◌∷◌, length, All, Option, Some, refl, sym, ◌∙◌, subst, arith, ℤ, map, ap, ◌==◌, inl, inr, ◌*◌, Bool}
use Rattle.std.proofs.lemmas.List.Elements.{All-contains}

pub pair_merge_laws : (least : Bool) (axis group value_source place_source : ℕ) (values : Option ℕ) (out : ℕ) → Laws (pair_merge_kind least axis group value_source place_source values out)
pair_merge_laws least axis group value_source place_source values out = record {
  alone = λ arrays at other array idx h.
      ap (λ (xs : List (Option Found)). pair_part (array == out) (best_in least xs))
      (same_mapped (λ i. found_at (at value_source i) (at place_source i)) (λ i. found_at (other value_source i) (other place_source i))
      (partial_indices arrays (merge_groups axis group (grid_at arrays value_source)) value_source out idx)
      (λ i c. ap (λ (e : Option ℤ). found_at e (at place_source i)) (h value_source i (inl refl, c)) ∙ ap (found_at (other value_source i)) (h place_source i (inr refl, c))));
  listed = λ arrays idx a i reads. elim reads.0 [ inl same ↦ (0, omega arith, sym same) | inr same ↦ (1, omega arith, sym same) ];
  target = pair_last values out;
  one_written = λ one. absurd (not_one one);
  one_grid = λ arrays one. absurd (not_one one);
  one_room = λ arrays one. absurd (not_one one);
  one_read = λ arrays d w s here among by. absurd (not_one by);
  by_chunk_room = λ arrays a by. absurd (not_one by);
  grid = λ arrays s. s.grids out (made arrays s.writes);
  nested = λ arrays s. nested_pair arrays values value_source out s.fits.2.stored (s.grids out (made arrays s.writes));
  differ = λ arrays lo hi s. differ_pair arrays values value_source out lo hi s.fits.2.stored;
  walked = λ arrays lo hi. refl;
  over = λ arrays lo hi s f.
      over_two arrays (partial_walk arrays (merge_groups axis group (grid_at arrays value_source)) value_source out lo hi) (partial_walk arrays (merge_groups axis group (grid_at arrays place_source)) place_source out lo hi)
      (s.reads 0 0 (omega arith), partial_region arrays (merge_groups axis group (grid_at arrays value_source)) value_source out (merge_ranks arrays axis group value_source) s.fits.2.result lo hi f) (
        s.reads 1 0 (omega arith),
        partial_region arrays (merge_groups axis group (grid_at arrays place_source)) place_source out (merge_ranks arrays axis group place_source)
            (place_squeezed arrays axis group value_source place_source out s.fits.1 s.fits.2.result) lo hi f,
      );
  apart = λ arrays lo hi s f p v w. apart_each arrays s.grids (λ a. partial_walk arrays (merge_groups axis group (grid_at arrays a)) a out lo hi) (value_source ∷ place_source ∷ []) v w (λ a. refl);
  within = λ arrays lo hi a idx i s f inside w reads.
      let gs = merge_groups axis group (grid_at arrays value_source) in
      let own = partial_reads arrays gs value_source out (merge_ranks arrays axis group value_source) s.fits.2.result lo hi idx i f w inside reads.1 in
      elim reads.0 [
        | inl same ↦ first_of_walks _ _ a i (sym same) own
        | inr same ↦ second_of_walks _ _ a i (sym same) (place_within arrays axis group value_source place_source out lo hi i s.fits.1 own)
      ];
  same = λ arrays d c s here.
      let there = made arrays s.writes in
      let along : axis < length (grid_at arrays place_source).shape = subst (λ (g : RegularGrid). axis < length g.shape) (sym s.fits.1.grid) s.fits.0.along in
      of_two arrays _ _ _ _ c (merged_same arrays s.grids axis group value_source out d c (s.reads 0 0 (omega arith)) there s.fits.0.along s.fits.2.result here)
      (merged_same arrays s.grids axis group place_source out d c (s.reads 1 0 (omega arith)) there along (place_squeezed arrays axis group value_source place_source out s.fits.1 s.fits.2.result) here);
  range = λ arrays at a idx x among fits inside typed reads v.
      let own = partial_indices arrays (merge_groups axis group (grid_at arrays value_source)) value_source out idx in
      let xs = map (λ i. found_at (at value_source i) (at place_source i)) own in
      pair_range arrays values value_source out a (best_in least xs) x among fits.2.stored fits.2.places
      (λ b e.
      let (i, there, found) = contains_mapped (λ i. found_at (at value_source i) (at place_source i)) own (Some b) (best_listed least xs b e) in
      let parts = found_parts (at value_source i) (at place_source i) b found in
      (typed value_source i b.value (inl refl, there) parts.value_is, subst (λ (d : Dtype). InRange d b.place) fits.1.places (typed place_source i b.place (inr refl, there) parts.place_is))) v;
  small = λ arrays fits. fits.0.few;
  inputs_few = λ arrays ok reads few small.
      let r = any_room_few arrays value_source value_source ok in
      let s = any_room_few arrays place_source place_source ok in
      group_few group (chunk_room arrays value_source + chunk_room arrays place_source) small (omega (arith, r, s));
  outputs_few = λ arrays ok. let o = any_room_few arrays out out ok in let v = any_room_few arrays out value_source ok in omega (arith, o, v);
  renumbered = λ f. record {
    reads = refl;
    writes = pairs_renumbered f values out;
    kernel = refl;
    value = λ old new at others array idx s h own.
        let E = h value_source (0, omega arith, refl) in
        let F = h place_source (1, omega arith, refl) in
        let G = grid_same f old new value_source (s.reads 0 0 (omega arith)) in
        let O = grid_same f old new out (place_kept f old new values out s.writes) in
        let place : (f array == f out) ≡ (array == out) = bool_same (f array) (f out) array out (s.once array out own (pair_last values out)) (ap f) in
        λ i. pair_part (place i) (best_in least (map (λ j. found_at (E i j) (F i j)) (group_indices (merge_groups axis group (G i)) (G i).shape (group_of (merge_groups axis group (G i)) (G i).shape (O i).shape idx))));
    fits = λ old new s h.
        let kv = s.reads 0 0 (omega arith) in
        let kp = s.reads 1 0 (omega arith) in (
          merge_along f old new axis group value_source kv h.0,
          record { grid = grid_same f old new place_source kp ∙ h.1.grid ∙ sym (grid_same f old new value_source kv); places = type_same f old new place_source kp ∙ h.1.places },
          pair_fits f old new (merge_groups axis group) value_source values out kv s.writes s.once h.2,
        );
    tasks = λ old new s. grid_same f old new out (place_kept f old new values out s.writes);
    input_room = λ old new s. λ i. group * (room_same f old new value_source (s.reads 0 0 (omega arith)) i + room_same f old new place_source (s.reads 1 0 (omega arith)) i);
    output_room = λ old new s.
        let ks = s.reads 0 0 (omega arith) in
        let ko = place_kept f old new values out s.writes in
        λ i. value_room_same f old new value_source out ks ko i + room_same f old new out ko i;
  };
  itself = λ arrays h. subst (λ (o : Option ℕ). (pair_merge_kind least axis group value_source place_source o out).fits arrays) (optional_itself values) h;
  compares = pair_compares value_source (place_source ∷ []);
  stores = pair_stored values out;
  stores_none = pair_only values out;
  stored_type = λ arrays array fits is. (value_source, refl, type_stored arrays values value_source out array fits.2.stored is);
}
  where
    made : (arrays : List ArrayInfo) → All (λ a. a < length arrays) (pair_writes values out) → out < length arrays
    made arrays all = All-contains (λ a. a < length arrays) (pair_writes values out) out all (pair_last values out)

-- What is proved of a pair fold.
use Rattle.cu_op.specs.declared.walks.Walk.{Walk}
use Rattle.cu_op.specs.Chunks.{IsOneChunk}
use Rattle.cu_op.proofs.Members.{only_member}
use Rattle.cu_grid.specs.Counts.{chunk_lo, chunk_hi}
use Rattle.cu_num.specs.Dtype.{InRange}
use Rattle.cu_op.proofs.Alike.{same_mapped}
use Rattle.cu_op.proofs.ByChunk.{room_told}
use Rattle.cu_op.proofs.Filled.{IsFilled, chunk_filled, contains_mapped}
use Rattle.cu_op.proofs.Grouped.{partial_region, partial_reads}
use Rattle.cu_op.proofs.Kind.{Laws, Stands}
use Rattle.cu_op.proofs.NewNumbers.{bool_same, pairs_renumbered, grid_same, place_kept, pair_fits, place_axis, room_same, value_room_same, optional_itself}
use Rattle.cu_op.proofs.PairRanges.{best_listed, found_parts, place_range, pair_range}
use Rattle.cu_op.proofs.PlanGroups.{chunk_ranks}
use Rattle.cu_op.proofs.Results.{pair_last, nested_pair, differ_pair, pair_compares, pair_stored, pair_only, type_stored, not_one}
use Rattle.cu_op.proofs.Rooms.{any_room_few}
use Rattle.cu_op.proofs.SameCells.{of_one, folded_same, folded_one}
use Rattle.cu_op.proofs.WalksOf.{over_one, apart_one, first_of_walks}
use Rattle.cu_op.specs.Arrays.{grid_at, chunk_room}
use Rattle.cu_op.specs.Kind.PairFold.{pair_fold_kind}
use Rattle.cu_op.specs.Places.{pair_writes, pair_part, counted_at}
use Rattle.cu_op.specs.Partial.{partial_indices, place_groups}
use Rattle.cu_op.specs.Walks.{IsWalkOver}
use Rattle.cu_op.specs.Reductions.{partial_walk}
use Rattle.cu_op.specs.declared.layout.ArrayInfo.{ArrayInfo}
use Rattle.cu_reduce.specs.Groups.{group_indices, group_of}
use Rattle.cu_reduce.specs.Places.{Found, counted_place, found_at, best_in, is_sought}
use Rattle.std.proofs.Common.{◌≡◌, ℕ, ◌<◌, ◌+◌, List, [], ◌∷◌, length, All, Option, Some, refl, sym, subst, arith, ℤ, map, ap, ◌==◌, pos, Bool}
use Rattle.std.proofs.lemmas.List.Elements.{All-head, All-contains}
use Rattle.std.proofs.lemmas.Option.{same_Some}
use Rattle.cu_num.specs.declared.types.Dtype.TheVariants as types

pub pair_fold_laws : (least : Bool) (axis : Option ℕ) (source : ℕ) (values : Option ℕ) (out : ℕ) → Laws (pair_fold_kind least axis source values out)
pair_fold_laws least axis source values out = record {
  alone = λ arrays at other array idx h.
      let shape = (grid_at arrays source).shape in
      ap (λ (xs : List (Option Found)). pair_part (array == out) (best_in least xs))
      (same_mapped (counted_at shape axis (at source)) (counted_at shape axis (other source)) (partial_indices arrays (place_groups axis (grid_at arrays source)) source out idx)
      (λ i c. ap (λ (e : Option ℤ). found_at e (Some (pos (counted_place axis shape i)))) (h source i (refl, c))));
  listed = λ arrays idx a i reads. (0, omega arith, sym reads.0);
  target = pair_last values out;
  one_written = λ one. absurd (not_one one);
  one_grid = λ arrays one. absurd (not_one one);
  one_room = λ arrays one. absurd (not_one one);
  one_read = λ arrays d w s here among by.
      let g = grid_at arrays out in
      let own = partial_walk arrays (place_groups axis (grid_at arrays source)) source out (chunk_lo g.chunk d) (chunk_hi g.shape g.chunk d) in
      subst (λ (v : Walk). IsOneChunk (grid_at arrays v.array) v.region) (only_member own w among)
      (folded_one arrays s.grids (is_sought axis) source out d (s.reads 0 0 (omega arith)) (made arrays s.writes) s.fits.1.result here);
  by_chunk_room = λ arrays a by. room_told arrays a source (chunk_room arrays source) by (omega arith);
  grid = λ arrays s. s.grids out (made arrays s.writes);
  nested = λ arrays s. nested_pair arrays values source out s.fits.1.stored (s.grids out (made arrays s.writes));
  differ = λ arrays lo hi s. differ_pair arrays values source out lo hi s.fits.1.stored;
  walked = λ arrays lo hi. refl;
  over = pair_over;
  apart = λ arrays lo hi s f p v w hv hw other ov ow. apart_one arrays (partial_walk arrays (place_groups axis (grid_at arrays source)) source out lo hi) v w hv hw other;
  within = λ arrays lo hi a idx i s f inside w reads.
      let gs = place_groups axis (grid_at arrays source) in
      first_of_walks (partial_walk arrays gs source out lo hi) [] a i (sym reads.0)
      (partial_reads arrays gs source out (chunk_ranks arrays (is_sought axis) source (s.grids source (s.reads 0 0 (omega arith)))) s.fits.1.result lo hi idx i f w inside reads.1);
  same = λ arrays d c s here.
      let g = grid_at arrays out in
      let there = made arrays s.writes in
      let ok = s.grids out there in
      let lo = chunk_lo g.chunk d in
      let hi = chunk_hi g.shape g.chunk d in
      let own = partial_walk arrays (place_groups axis (grid_at arrays source)) source out lo hi in
      of_one arrays own _ c (folded_same arrays s.grids (is_sought axis) source out d c (s.reads 0 0 (omega arith)) there s.fits.1.result here
      (All-head (IsWalkOver arrays) own [] (pair_over arrays lo hi s (chunk_filled g.shape g.chunk d ok.positive ok.ranks here))));
  range = λ arrays at a idx x among fits inside typed reads v.
      let shape = (grid_at arrays source).shape in
      let own = partial_indices arrays (place_groups axis (grid_at arrays source)) source out idx in
      let xs = map (counted_at shape axis (at source)) own in
      pair_range arrays values source out a (best_in least xs) x among fits.1.stored fits.1.places
      (λ b e.
      let (i, there, found) = contains_mapped (counted_at shape axis (at source)) own (Some b) (best_listed least xs b e) in
      let parts = found_parts (at source i) (Some (pos (counted_place axis shape i))) b found in
      let r = reads source i (refl, there) in
      (typed source i b.value (refl, there) parts.value_is, subst (InRange types.Int64) (same_Some _ b.place parts.place_is) (place_range axis shape i fits.0 r.0 r.1))) v;
  small = λ arrays fits. tt;
  inputs_few = λ arrays ok reads few small. let r = any_room_few arrays source source ok in omega (arith, r);
  outputs_few = λ arrays ok. let o = any_room_few arrays out out ok in let v = any_room_few arrays out source ok in omega (arith, o, v);
  renumbered = λ f. record {
    reads = refl;
    writes = pairs_renumbered f values out;
    kernel = refl;
    value = λ old new at others array idx s h own.
        let E = h source (0, omega arith, refl) in
        let G = grid_same f old new source (s.reads 0 0 (omega arith)) in
        let O = grid_same f old new out (place_kept f old new values out s.writes) in
        let place : (f array == f out) ≡ (array == out) = bool_same (f array) (f out) array out (s.once array out own (pair_last values out)) (ap f) in
        λ i. pair_part (place i) (best_in least (map (counted_at (G i).shape axis (E i)) (group_indices (place_groups axis (G i)) (G i).shape (group_of (place_groups axis (G i)) (G i).shape (O i).shape idx))));
    fits = λ old new s h.
        let ks = s.reads 0 0 (omega arith) in
        (place_axis f old new axis source ks h.0, pair_fits f old new (place_groups axis) source values out ks s.writes s.once h.1);
    tasks = λ old new s. grid_same f old new out (place_kept f old new values out s.writes);
    input_room = λ old new s. room_same f old new source (s.reads 0 0 (omega arith));
    output_room = λ old new s.
        let ks = s.reads 0 0 (omega arith) in
        let ko = place_kept f old new values out s.writes in
        λ i. value_room_same f old new source out ks ko i + room_same f old new out ko i;
  };
  itself = λ arrays h. subst (λ (o : Option ℕ). (pair_fold_kind least axis source o out).fits arrays) (optional_itself values) h;
  compares = pair_compares source ([]);
  stores = pair_stored values out;
  stores_none = pair_only values out;
  stored_type = λ arrays array fits is. (source, refl, type_stored arrays values source out array fits.1.stored is);
}
  where
    made : (arrays : List ArrayInfo) → All (λ a. a < length arrays) (pair_writes values out) → out < length arrays
    made arrays all = All-contains (λ a. a < length arrays) (pair_writes values out) out all (pair_last values out)

    pair_over : (arrays : List ArrayInfo) (lo hi : List ℕ) → Stands arrays (pair_fold_kind least axis source values out) → IsFilled (grid_at arrays out).shape lo hi
        → All (IsWalkOver arrays) (partial_walk arrays (place_groups axis (grid_at arrays source)) source out lo hi ∷ [])
    pair_over arrays lo hi s f =
        let within = s.reads 0 0 (omega arith) in
        let gs = place_groups axis (grid_at arrays source) in
        over_one arrays (partial_walk arrays gs source out lo hi) (within, partial_region arrays gs source out (chunk_ranks arrays (is_sought axis) source (s.grids source within)) s.fits.1.result lo hi f)

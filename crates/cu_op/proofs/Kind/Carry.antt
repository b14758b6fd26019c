-- What is proved of a carry.
use Rattle.cu_grid.specs.Counts.{chunk_lo, chunk_hi, IsWithin}
use Rattle.cu_grid.specs.Grid.{RegularGrid, IsGrid, IsCoordinate}
use Rattle.cu_num.specs.Dtype.{IsInteger}
use Rattle.cu_num.specs.declared.folds.FoldKind.TheVariants.{Sum}
use Rattle.cu_op.proofs.AlongAxis.{IsCarried, carried_alike, carried_apart, carried_in, carried_listed, carried_renumbered, carried_same, carried_walked, carries_renumbered, array_renumbered, ends_on, group_over, group_reads, last_below, line_same, merged_grid, span_alike}
use Rattle.cu_op.proofs.Filled.{IsFilled, chunk_filled, filled_at, filled_lengths, within_at}
use Rattle.cu_op.proofs.Kind.{Laws, Stands, Keeps}
use Rattle.cu_op.proofs.MapRegions.{within_lengths}
use Rattle.cu_op.proofs.NewNumbers.{grid_same, type_same, room_same, optional_itself}
use Rattle.cu_op.proofs.ResultRanges.{fold_range}
use Rattle.cu_op.proofs.Results.{differ_only, nested_only, none_given, not_one}
use Rattle.cu_op.proofs.Rooms.{any_room_few, next_few}
use Rattle.cu_op.proofs.SameCells.{HaveSame, same_more}
use Rattle.cu_op.specs.Along.{CarriesFor, carried_array, carried_chunk, carried_reads, carried_walks, chunk_on, group_walk}
use Rattle.cu_op.specs.Arrays.{grid_at, type_at, chunk_room, HasLayoutOf}
use Rattle.cu_op.specs.Chunks.{cell}
use Rattle.cu_op.specs.Kind.Carry.{CarryFits, carry_kind}
use Rattle.cu_op.specs.Partial.{merge_groups}
use Rattle.cu_op.specs.Walks.{IsWalkOver, cells_of_walks, walk_cells}
use Rattle.cu_op.specs.declared.cells.Cell.{Cell}
use Rattle.cu_op.specs.declared.layout.ArrayInfo.{ArrayInfo}
use Rattle.cu_reduce.specs.Folds.{reduced_to}
use Rattle.cu_reduce.specs.Levels.{carried}
use Rattle.cu_reduce.specs.Prefix.{line_through, span}
use Rattle.cu_reduce.specs.Tiers.{Array, carry_at}
use Rattle.std.proofs.Common.{◌≡◌, inl, inr, ℕ, suc, pred, ◌<◌, ◌+◌, ◌-◌, ◌*◌, ◌/◌, min, List, ◌∷◌, ◌++◌, length, map, set, All, Option, Some, option_map, get_or, refl, ap, sym, ◌∙◌, subst, arith}
use Rattle.std.proofs.lemmas.List.Elements.{All-contains, All-head}
use Rattle.std.specs.List.{range_with_len}
use mathlib.Core.Path.{transport}

-- ---- its regions, and itself over arrays with other numbers

module _ (axis group sums : ℕ) (above : Option ℕ) (out : ℕ) where
  are_carried : (arrays : List ArrayInfo) → Stands arrays (carry_kind axis group sums above out) → (a : ℕ) → above ≡ Some a → IsCarried arrays axis group sums a
  are_carried arrays s a e =
      let own : CarriesFor arrays (merge_groups axis group (grid_at arrays sums)) sums out (Some a) = subst (CarriesFor arrays (merge_groups axis group (grid_at arrays sums)) sums out) e s.fits.carried in
      let within : a < length arrays = All-contains (λ b. b < length arrays) (sums ∷ carried_reads above) a s.reads (carried_listed sums above a e) in
      record {
        within = within;
        other = own.0;
        grid = s.grids a within;
        groups = merged_grid (grid_at arrays sums) (grid_at arrays a) axis group (s.grids sums (s.reads 0 0 (omega arith))) s.fits.along own.1;
      }

  long : (arrays : List ArrayInfo) (lo hi idx : List ℕ) → Stands arrays (carry_kind axis group sums above out) → IsFilled (grid_at arrays out).shape lo hi → IsWithin lo hi idx → axis < length idx
  long arrays lo hi idx s f w =
      let n = (filled_lengths (grid_at arrays out).shape lo hi f).0 in
      let g : length (grid_at arrays out).shape ≡ length (grid_at arrays sums).shape = ap (λ (g : RegularGrid). length g.shape) s.fits.grid in
      let m = (within_lengths lo hi idx w).0 in
      let l = s.fits.along in
      omega (arith, n, g, m, l)

  carry_over : (arrays : List ArrayInfo) (lo hi : List ℕ) → Stands arrays (carry_kind axis group sums above out) → IsFilled (grid_at arrays out).shape lo hi
      → All (IsWalkOver arrays) (group_walk sums axis group (pred (get_or hi axis 0)) lo hi ∷ carried_walks above axis group lo hi)
  carry_over arrays lo hi s f =
      let filled : IsFilled (grid_at arrays sums).shape lo hi = subst (λ (g : RegularGrid). IsFilled g.shape lo hi) s.fits.grid f in
      let at = filled_at (grid_at arrays sums).shape lo hi axis filled s.fits.along in
      let last = last_below (get_or lo axis 0) (get_or hi axis 0) at.0 in
      group_over arrays axis group sums s.fits.along s.fits.some above (pred (get_or hi axis 0)) lo hi (s.reads 0 0 (omega arith)) (are_carried arrays s) filled last.0
      (let x = last.1 in let y = at.1 in omega (arith, x, y))

  module _ (arrays : List ArrayInfo) (d : List ℕ) (c : Cell) (s : Stands arrays (carry_kind axis group sums above out)) (here : IsCoordinate (grid_at arrays sums) d) where
    abbrev g : RegularGrid
    g = grid_at arrays sums

    abbrev lo : List ℕ
    lo = chunk_lo g.chunk d

    abbrev hi : List ℕ
    hi = chunk_hi g.shape g.chunk d

    abbrev end : ℕ
    end = pred (get_or hi axis 0)

    -- the sums before a place, in the group of another
    abbrev before : ℕ → ℕ → List Cell
    before x y = map (λ k. cell sums (set d axis k)) (range_with_len (x / group * group) (y - x / group * group))

    ok : IsGrid g
    ok = s.grids sums (s.reads 0 0 (omega arith))

    first : get_or lo axis 0 ≡ get_or d axis 0
    first = let e = ends_on g d axis ok here s.fits.along in e.first ∙ ap (λ x. get_or d axis 0 * x) s.fits.single ∙ (let x : get_or d axis 0 * 1 ≡ get_or d axis 0 = omega arith in x)

    last : end ≡ get_or d axis 0
    last =
        let e = ends_on g d axis ok here s.fits.along in
        let one = s.fits.single in
        let starts : get_or d axis 0 * 1 < get_or g.shape axis 0 = subst (λ (x : ℕ). get_or d axis 0 * x < get_or g.shape axis 0) one e.starts in
        ap pred (e.last ∙ ap (λ x. min ((get_or d axis 0 + 1) * x) (get_or g.shape axis 0)) one) ∙ least (get_or d axis 0) (get_or g.shape axis 0) starts
      where
        least : (j n : ℕ) → j * 1 < n → pred (min ((j + 1) * 1) n) ≡ j
        least j n h = let e : min ((j + 1) * 1) n ≡ suc j = (let x : (j + 1) * 1 ≡ suc j = omega arith in omega (arith, x, h)) in ap pred e

    filled : IsFilled (grid_at arrays out).shape lo hi
    filled = subst (λ (r : RegularGrid). IsFilled r.shape lo hi) (sym s.fits.grid) (chunk_filled g.shape g.chunk d ok.positive ok.ranks here)

    line : HaveSame (walk_cells arrays (group_walk sums axis group end lo hi)) (before (get_or lo axis 0) end) c
    line =
        line_same arrays axis group sums d (get_or lo axis 0 / group * group) end c ok here s.fits.along s.fits.single (let e = last in omega (arith, e))
        (All-head (IsWalkOver arrays) (group_walk sums axis group end lo hi) (carried_walks above axis group lo hi) (carry_over arrays lo hi s filled))

    carries : HaveSame (cells_of_walks arrays (carried_walks above axis group lo hi)) (carried_chunk arrays above (set d axis (get_or lo axis 0 / group))) c
    carries = carried_same arrays axis group sums s.fits.along s.fits.some above d c ok here (are_carried arrays s) (ap (λ x. x / group) (last ∙ sym first))

    carry_same : HaveSame (cells_of_walks arrays ((carry_kind axis group sums above out).walks arrays (chunk_lo (grid_at arrays out).chunk d) (chunk_hi (grid_at arrays out).shape (grid_at arrays out).chunk d))) ((carry_kind axis group sums above out).cells arrays d) c
    carry_same =
        subst (λ (g : RegularGrid). HaveSame (cells_of_walks arrays ((carry_kind axis group sums above out).walks arrays (chunk_lo g.chunk d) (chunk_hi g.shape g.chunk d))) ((carry_kind axis group sums above out).cells arrays d) c) (sym s.fits.grid)
        (same_more (walk_cells arrays (group_walk sums axis group end lo hi)) (before (get_or d axis 0) (get_or d axis 0)) (cells_of_walks arrays (carried_walks above axis group lo hi)) (carried_chunk arrays above (set d axis (get_or d axis 0 / group))) c
        (transport (λ i. HaveSame (walk_cells arrays (group_walk sums axis group end lo hi)) (before (first i) (last i)) c) line)
        (transport (λ i. HaveSame (cells_of_walks arrays (carried_walks above axis group lo hi)) (carried_chunk arrays above (set d axis (first i / group))) c) carries))

  carry_fits : (f : ℕ → ℕ) (old new : List ArrayInfo) → Keeps f old new (carry_kind axis group sums above out) → CarryFits old axis group sums above out → CarryFits new axis group (f sums) (option_map f above) (f out)
  carry_fits f old new s h =
      let ks = s.reads 0 0 (omega arith) in
      let ko = s.writes 0 0 (omega arith) in
      let G = sym (grid_same f old new sums ks) in
      let O = sym (grid_same f old new out ko) in
      let S = sym (type_same f old new sums ks) in
      let T = sym (type_same f old new out ko) in
      record {
        along = transport (λ i. axis < length (G i).shape) h.along;
        some = h.some;
        few = h.few;
        single = transport (λ i. chunk_on (G i) axis ≡ 1) h.single;
        grid = transport (λ i. O i ≡ G i) h.grid;
        types = transport (λ i. T i ≡ S i) h.types;
        integer = transport (λ i. IsInteger (T i)) h.integer;
        carried = carries_renumbered f old new (merge_groups axis group) sums out above ks ko
            (λ a e.
            let there = carried_listed sums above a e in
            (All-contains (HasLayoutOf f old new) (sums ∷ carried_reads above) a s.reads there, s.read_once a sums there (0, omega arith, refl))) h.carried;
      }

pub carry_laws : (axis group sums : ℕ) (above : Option ℕ) (out : ℕ) → Laws (carry_kind axis group sums above out)
carry_laws axis group sums above out = record {
  alone = λ arrays at other array idx h.
      let j = get_or idx axis 0 in
      let first = carried_alike above at other axis (j / group) idx (λ a e. h a (set idx axis (j / group)) (inr (e, refl))) in
      let rest = span_alike (line_through (at sums) axis idx) (line_through (other sums) axis idx) (j / group * group) j (λ k low high. h sums (set idx axis k) (inl (refl, k, low, high, refl))) in
      λ i. reduced_to Sum (type_at arrays out) (first i ++ rest i);
  listed = λ arrays idx a i reads. elim reads [ inl same ↦ (0, omega arith, sym same.0) | inr same ↦ carried_listed sums above a same.0 ];
  target = (0, omega arith, refl);
  one_written = λ one. absurd (not_one one);
  one_grid = λ arrays one. absurd (not_one one);
  one_room = λ arrays one. absurd (not_one one);
  one_read = λ arrays d w s here among by. absurd (not_one by);
  by_chunk_room = λ arrays a by. absurd (not_one by);
  grid = λ arrays s. s.grids out (s.writes 0 0 (omega arith));
  nested = λ arrays s. nested_only arrays out (s.grids out (s.writes 0 0 (omega arith)));
  differ = λ arrays lo hi s. differ_only out lo hi;
  walked = λ arrays lo hi. carried_walked (group_walk sums axis group (pred (get_or hi axis 0)) lo hi) above axis group lo hi;
  over = carry_over axis group sums above out;
  apart = λ arrays lo hi s f p v w hv hw other ov ow. carried_apart arrays axis group sums above (pred (get_or hi axis 0)) lo hi v w (are_carried axis group sums above out arrays s) hv hw other;
  within = λ arrays lo hi a idx i s f inside w reads.
      let l = long axis group sums above out arrays lo hi idx s f w in
      let last = last_below (get_or idx axis 0) (get_or hi axis 0) (within_at lo hi idx axis w l).1 in
      elim reads [
        | inl same ↦ group_reads arrays axis group sums s.fits.along s.fits.some above (pred (get_or hi axis 0)) lo hi idx i a same.1 w l same.2 (let x = same.3 in let y = last.0 in omega (arith, x, y)) same.0 same.4
        | inr same ↦ carried_in arrays axis group sums s.fits.along s.fits.some (group_walk sums axis group (pred (get_or hi axis 0)) lo hi) above lo hi idx i a w l same.0 same.1
      ];
  same = λ arrays d c s here. carry_same axis group sums above out arrays d c s (subst (λ (g : RegularGrid). IsCoordinate g d) s.fits.grid here);
  range = λ arrays at a idx x among fits inside typed reads v.
      let j = get_or idx axis 0 in
      fold_range Sum arrays out a (carried (option_map (λ (b : Array). line_through b axis idx) (carried_array at above)) (j / group) ++ span (line_through (at sums) axis idx) (j / group * group) j) x among v;
  small = λ arrays fits. fits.few;
  inputs_few = λ arrays ok reads few small. let r = any_room_few arrays sums sums ok in next_few group (chunk_room arrays sums) small r;
  outputs_few = λ arrays ok. let o = any_room_few arrays out out ok in omega (arith, o);
  renumbered = λ f. record {
    reads = carried_renumbered f sums above;
    writes = refl;
    kernel = refl;
    value = λ old new at others array idx s h own.
        let E = h sums (0, omega arith, refl) in
        let C = array_renumbered f above at others (λ a e. h a (carried_listed sums above a e)) in
        let T = type_same f old new out (s.writes 0 0 (omega arith)) in
        λ i. carry_at (T i) axis group (E i) (C i) idx;
    fits = carry_fits axis group sums above out f;
    tasks = λ old new s. grid_same f old new out (s.writes 0 0 (omega arith));
    input_room = λ old new s. ap (λ n. (group + 1) * n) (room_same f old new sums (s.reads 0 0 (omega arith)));
    output_room = λ old new s. room_same f old new out (s.writes 0 0 (omega arith));
  };
  itself = λ arrays h. subst (λ (o : Option ℕ). (carry_kind axis group sums o out).fits arrays) (optional_itself above) h;
  compares = λ array is. absurd (none_given array is);
  stores = λ array is. absurd (none_given array is);
  stores_none = λ is. refl;
  stored_type = λ arrays array fits is. absurd (none_given array is);
}

-- What is proved of a scan.
use Rattle.cu_op.specs.declared.walks.Walk.{Walk}
use Rattle.cu_grid.specs.Counts.{chunk_lo, chunk_hi, IsWithin}
use Rattle.cu_grid.specs.Grid.{RegularGrid, IsGrid, IsCoordinate}
use Rattle.cu_num.specs.declared.folds.FoldKind.TheVariants.{Sum}
use Rattle.cu_op.proofs.AlongAxis.{IsCarried, array_renumbered, carried_alike, carried_apart, carried_in, carried_listed, carried_renumbered, carried_room_few, carried_same, carried_walked, carries_renumbered, chunked_grid, ends_on, group_over, group_reads, room_renumbered, same_group, span_alike, carried_first}
use Rattle.cu_op.proofs.ByChunk.{room_told, told_equal}
use Rattle.cu_op.proofs.Filled.{IsFilled, chunk_filled, filled_at, filled_lengths, within_at}
use Rattle.cu_op.proofs.InputBoxes.{own_chunk}
use Rattle.cu_op.proofs.Kind.{Laws, Stands, Keeps}
use Rattle.cu_op.proofs.MapRegions.{within_lengths}
use Rattle.cu_op.proofs.NewNumbers.{grid_same, type_same, room_same, optional_itself}
use Rattle.cu_op.proofs.ResultRanges.{fold_range}
use Rattle.cu_op.proofs.Results.{differ_only, nested_only, none_given}
use Rattle.cu_op.proofs.Rooms.{any_room_few}
use Rattle.cu_op.proofs.SameCells.{HaveSame, same_more}
use Rattle.cu_op.specs.Along.{CarriesFor, carried_array, carried_chunk, carried_reads, carried_walks, chunk_on, group_walk}
use Rattle.cu_op.specs.Arrays.{grid_at, type_at, HasLayoutOf}
use Rattle.cu_op.specs.Chunks.{chunk_where, IsOneChunk}
use Rattle.cu_op.specs.Kind.Scan.{ScanFits, scan_kind}
use Rattle.cu_op.specs.Partial.{place_groups}
use Rattle.cu_op.specs.Walks.{IsWalkOver, cells_of_walks, walk_cells}
use Rattle.cu_op.specs.declared.cells.Cell.{Cell}
use Rattle.cu_op.specs.declared.layout.ArrayInfo.{ArrayInfo}
use Rattle.cu_reduce.specs.Folds.{reduced_to}
use Rattle.cu_reduce.specs.Kinds.{Accumulates}
use Rattle.cu_reduce.specs.Levels.{carried}
use Rattle.cu_reduce.specs.Prefix.{line_through, span}
use Rattle.cu_reduce.specs.Tiers.{Array, scan_at}
use Rattle.std.proofs.Common.{◌≡◌, inl, inr, ℕ, suc, pred, ◌<◌, ◌≤◌, ◌+◌, ◌*◌, ◌/◌, List, ◌∷◌, ◌++◌, length, set, All, Option, Some, option_map, get_or, refl, ap, sym, ◌∙◌, subst, arith, Contains}
use Rattle.std.proofs.lemmas.List.{set-get_or}
use Rattle.std.proofs.lemmas.List.Elements.{All-contains, All-head}
use mathlib.Core.Path.{transport}

-- ---- its regions, and itself over arrays with other numbers

module _ (axis source : ℕ) (carry : Option ℕ) (out : ℕ) where
  some : (arrays : List ArrayInfo) → Stands arrays (scan_kind axis source carry out) → 0 < chunk_on (grid_at arrays source) axis
  some arrays s = let ok = s.grids source (s.reads 0 0 (omega arith)) in let r = ok.ranks in let l = s.fits.along in ok.positive axis 0 (omega (arith, r, l))

  are_carried : (arrays : List ArrayInfo) → Stands arrays (scan_kind axis source carry out) → (a : ℕ) → carry ≡ Some a → IsCarried arrays axis (chunk_on (grid_at arrays source) axis) source a
  are_carried arrays s a e =
      let own : CarriesFor arrays (place_groups (Some axis) (grid_at arrays source)) source out (Some a) = subst (CarriesFor arrays (place_groups (Some axis) (grid_at arrays source)) source out) e s.fits.carried in
      let within : a < length arrays = All-contains (λ b. b < length arrays) (source ∷ carried_reads carry) a s.reads (carried_listed source carry a e) in
      record {
        within = within;
        other = own.0;
        grid = s.grids a within;
        groups = chunked_grid (grid_at arrays source) (grid_at arrays a) axis (s.grids source (s.reads 0 0 (omega arith))) own.1;
      }

  long : (arrays : List ArrayInfo) (lo hi idx : List ℕ) → Stands arrays (scan_kind axis source carry out) → IsFilled (grid_at arrays out).shape lo hi → IsWithin lo hi idx → axis < length idx
  long arrays lo hi idx s f w =
      let n = (filled_lengths (grid_at arrays out).shape lo hi f).0 in
      let g : length (grid_at arrays out).shape ≡ length (grid_at arrays source).shape = ap (λ (g : RegularGrid). length g.shape) s.fits.grid in
      let m = (within_lengths lo hi idx w).0 in
      let l = s.fits.along in
      omega (arith, n, g, m, l)

  scan_over : (arrays : List ArrayInfo) (lo hi : List ℕ) → Stands arrays (scan_kind axis source carry out) → IsFilled (grid_at arrays out).shape lo hi
      → All (IsWalkOver arrays) (group_walk source axis (chunk_on (grid_at arrays source) axis) (get_or hi axis 0) lo hi ∷ carried_walks carry axis (chunk_on (grid_at arrays source) axis) lo hi)
  scan_over arrays lo hi s f =
      let filled : IsFilled (grid_at arrays source).shape lo hi = subst (λ (g : RegularGrid). IsFilled g.shape lo hi) s.fits.grid f in
      let at = filled_at (grid_at arrays source).shape lo hi axis filled s.fits.along in
      group_over arrays axis (chunk_on (grid_at arrays source) axis) source s.fits.along (some arrays s) carry (get_or hi axis 0) lo hi (s.reads 0 0 (omega arith)) (are_carried arrays s) filled
      (let x = at.0 in omega (arith, x)) at.1

  module _ (arrays : List ArrayInfo) (d : List ℕ) (s : Stands arrays (scan_kind axis source carry out)) (here : IsCoordinate (grid_at arrays source) d) where
    abbrev g : RegularGrid
    g = grid_at arrays source

    abbrev size : ℕ
    size = chunk_on g axis

    abbrev lo : List ℕ
    lo = chunk_lo g.chunk d

    abbrev hi : List ℕ
    hi = chunk_hi g.shape g.chunk d

    ok : IsGrid g
    ok = s.grids source (s.reads 0 0 (omega arith))

    -- the task's region is one chunk of the source, whose number is the place of what is carried in
    first : get_or lo axis 0 / size ≡ get_or d axis 0
    first = let e = ends_on g d axis ok here s.fits.along in ap (λ x. x / size) e.first ∙ (same_group (get_or d axis 0) size (get_or g.shape axis 0) e.positive e.starts).0

    last : pred (get_or hi axis 0) / size ≡ get_or d axis 0
    last = let e = ends_on g d axis ok here s.fits.along in ap (λ x. pred x / size) e.last ∙ (same_group (get_or d axis 0) size (get_or g.shape axis 0) e.positive e.starts).1

    begins : set lo axis (get_or lo axis 0 / size * size) ≡ lo
    begins = ap (λ x. set lo axis (x * size)) first ∙ ap (set lo axis) (sym (ends_on g d axis ok here s.fits.along).first) ∙ set-get_or lo axis 0

    filled : IsFilled (grid_at arrays out).shape lo hi
    filled = subst (λ (r : RegularGrid). IsFilled r.shape lo hi) (sym s.fits.grid) (chunk_filled g.shape g.chunk d ok.positive ok.ranks here)

    one : IsOneChunk g (group_walk source axis size (get_or hi axis 0) lo hi).region
    one = record { coord = d; long = (ends_on g d axis ok here s.fits.along).long; begins = begins; ends = set-get_or hi axis 0 }

    pub scan_one : (w : Walk) → Contains ((scan_kind axis source carry out).walks arrays (chunk_lo (grid_at arrays out).chunk d) (chunk_hi (grid_at arrays out).shape (grid_at arrays out).chunk d)) w → w.array ≡ source
        → IsOneChunk (grid_at arrays w.array) w.region
    scan_one w among by =
        let there = subst (λ (r : RegularGrid). Contains ((scan_kind axis source carry out).walks arrays (chunk_lo r.chunk d) (chunk_hi r.shape r.chunk d)) w) s.fits.grid among in
        let own = carried_first (group_walk source axis size (get_or hi axis 0) lo hi) carry axis size lo hi w (λ a e same. (are_carried arrays s a e).other (sym same ∙ by)) there in
        subst (λ (v : Walk). IsOneChunk (grid_at arrays v.array) v.region) own one

    module _ (c : Cell) where
      own : HaveSame (walk_cells arrays (group_walk source axis size (get_or hi axis 0) lo hi)) (chunk_where arrays source d) c
      own =
          own_chunk arrays source (set lo axis (get_or lo axis 0 / size * size)) (set hi axis (get_or hi axis 0)) d c ok
          (All-head (IsWalkOver arrays) (group_walk source axis size (get_or hi axis 0) lo hi) (carried_walks carry axis size lo hi) (scan_over arrays lo hi s filled)) (ends_on g d axis ok here s.fits.along).long begins
          (set-get_or hi axis 0)

      carries : HaveSame (cells_of_walks arrays (carried_walks carry axis size lo hi)) (carried_chunk arrays carry (set d axis (get_or lo axis 0 / size))) c
      carries = carried_same arrays axis size source s.fits.along (some arrays s) carry d c ok here (are_carried arrays s) (last ∙ sym first)

      scan_same : HaveSame (cells_of_walks arrays ((scan_kind axis source carry out).walks arrays (chunk_lo (grid_at arrays out).chunk d) (chunk_hi (grid_at arrays out).shape (grid_at arrays out).chunk d))) ((scan_kind axis source carry out).cells arrays d) c
      scan_same =
          subst (λ (r : RegularGrid). HaveSame (cells_of_walks arrays ((scan_kind axis source carry out).walks arrays (chunk_lo r.chunk d) (chunk_hi r.shape r.chunk d))) ((scan_kind axis source carry out).cells arrays d) c) (sym s.fits.grid)
          (same_more (walk_cells arrays (group_walk source axis size (get_or hi axis 0) lo hi)) (chunk_where arrays source d) (cells_of_walks arrays (carried_walks carry axis size lo hi)) (carried_chunk arrays carry d) c
          own (subst (λ (e : List ℕ). HaveSame (cells_of_walks arrays (carried_walks carry axis size lo hi)) (carried_chunk arrays carry e) c) (ap (set d axis) first ∙ set-get_or d axis 0) carries))

  kept : (f : ℕ → ℕ) (old new : List ArrayInfo) → Keeps f old new (scan_kind axis source carry out) → (a : ℕ) → carry ≡ Some a → HasLayoutOf f old new a
  kept f old new s a e = All-contains (HasLayoutOf f old new) (source ∷ carried_reads carry) a s.reads (carried_listed source carry a e)

  scan_fits : (f : ℕ → ℕ) (old new : List ArrayInfo) → Keeps f old new (scan_kind axis source carry out) → ScanFits old axis source carry out → ScanFits new axis (f source) (option_map f carry) (f out)
  scan_fits f old new s h =
      let ks = s.reads 0 0 (omega arith) in
      let ko = s.writes 0 0 (omega arith) in
      let G = sym (grid_same f old new source ks) in
      let O = sym (grid_same f old new out ko) in
      let S = sym (type_same f old new source ks) in
      let T = sym (type_same f old new out ko) in
      record {
        along = transport (λ i. axis < length (G i).shape) h.along;
        grid = transport (λ i. O i ≡ G i) h.grid;
        types = transport (λ i. Accumulates Sum (S i) (T i)) h.types;
        carried = carries_renumbered f old new (place_groups (Some axis)) source out carry ks ko
            (λ a e. (kept f old new s a e, s.read_once a source (carried_listed source carry a e) (0, omega arith, refl))) h.carried;
      }

pub scan_laws : (axis source : ℕ) (carry : Option ℕ) (out : ℕ) → Laws (scan_kind axis source carry out)
scan_laws axis source carry out = record {
  alone = λ arrays at other array idx h.
      let j = get_or idx axis 0 in
      let s = chunk_on (grid_at arrays source) axis in
      let first = carried_alike carry at other axis (j / s) idx (λ a e. h a (set idx axis (j / s)) (inr (e, refl))) in
      let rest = span_alike (line_through (at source) axis idx) (line_through (other source) axis idx) (j / s * s) (suc j)
      (λ k low high. h source (set idx axis k) (inl (refl, k, low, (let m : k ≤ j = omega (arith, high) in m), refl))) in
      λ i. reduced_to Sum (type_at arrays out) (first i ++ rest i);
  listed = λ arrays idx a i reads. elim reads [ inl same ↦ (0, omega arith, sym same.0) | inr same ↦ carried_listed source carry a same.0 ];
  target = (0, omega arith, refl);
  one_written = λ one. refl;
  one_grid = λ arrays one. refl;
  one_room = λ arrays one. refl;
  one_read = λ arrays d w s here among by. scan_one axis source carry out arrays d s (subst (λ (g : RegularGrid). IsCoordinate g d) s.fits.grid here) w among (told_equal w.array source by);
  by_chunk_room = λ arrays a by. room_told arrays a source ((scan_kind axis source carry out).input_room arrays) by (omega arith);
  grid = λ arrays s. s.grids out (s.writes 0 0 (omega arith));
  nested = λ arrays s. nested_only arrays out (s.grids out (s.writes 0 0 (omega arith)));
  differ = λ arrays lo hi s. differ_only out lo hi;
  walked = λ arrays lo hi. carried_walked (group_walk source axis (chunk_on (grid_at arrays source) axis) (get_or hi axis 0) lo hi) carry axis (chunk_on (grid_at arrays source) axis) lo hi;
  over = scan_over axis source carry out;
  apart = λ arrays lo hi s f p v w hv hw other ov ow. carried_apart arrays axis (chunk_on (grid_at arrays source) axis) source carry (get_or hi axis 0) lo hi v w (are_carried axis source carry out arrays s) hv hw other;
  within = λ arrays lo hi a idx i s f inside w reads.
      let size = chunk_on (grid_at arrays source) axis in
      let l = long axis source carry out arrays lo hi idx s f w in
      let last = (within_at lo hi idx axis w l).1 in
      elim reads [
        | inl same ↦ group_reads arrays axis size source s.fits.along (some axis source carry out arrays s) carry (get_or hi axis 0) lo hi idx i a same.1 w l same.2 (let x = same.3 in omega (arith, x, last)) same.0 same.4
        | inr same ↦ carried_in arrays axis size source s.fits.along (some axis source carry out arrays s) (group_walk source axis size (get_or hi axis 0) lo hi) carry lo hi idx i a w l same.0 same.1
      ];
  same = λ arrays d c s here. scan_same axis source carry out arrays d s (subst (λ (g : RegularGrid). IsCoordinate g d) s.fits.grid here) c;
  range = λ arrays at a idx x among fits inside typed reads v.
      let j = get_or idx axis 0 in
      let s = chunk_on (grid_at arrays source) axis in
      fold_range Sum arrays out a (carried (option_map (λ (b : Array). line_through b axis idx) (carried_array at carry)) (j / s) ++ span (line_through (at source) axis idx) (j / s * s) (suc j)) x among v;
  small = λ arrays fits. tt;
  inputs_few = λ arrays ok reads few small. let r = any_room_few arrays source source ok in let s = carried_room_few arrays carry ok in omega (arith, r, s);
  outputs_few = λ arrays ok. let o = any_room_few arrays out out ok in omega (arith, o);
  renumbered = λ f. record {
    reads = carried_renumbered f source carry;
    writes = refl;
    kernel = refl;
    value = λ old new at others array idx s h own.
        let E = h source (0, omega arith, refl) in
        let C = array_renumbered f carry at others (λ a e. h a (carried_listed source carry a e)) in
        let G = grid_same f old new source (s.reads 0 0 (omega arith)) in
        let T = type_same f old new out (s.writes 0 0 (omega arith)) in
        λ i. scan_at (T i) axis (chunk_on (G i) axis) (E i) (C i) idx;
    fits = scan_fits axis source carry out f;
    tasks = λ old new s. grid_same f old new out (s.writes 0 0 (omega arith));
    input_room = λ old new s.
        let R = room_same f old new source (s.reads 0 0 (omega arith)) in
        let C = room_renumbered f old new carry (λ a e. kept axis source carry out f old new s a e) in
        λ i. R i + C i;
    output_room = λ old new s. room_same f old new out (s.writes 0 0 (omega arith));
  };
  itself = λ arrays h. subst (λ (o : Option ℕ). (scan_kind axis source o out).fits arrays) (optional_itself carry) h;
  compares = λ array is. absurd (none_given array is);
  stores = λ array is. absurd (none_given array is);
  stores_none = λ is. refl;
  stored_type = λ arrays array fits is. absurd (none_given array is);
}

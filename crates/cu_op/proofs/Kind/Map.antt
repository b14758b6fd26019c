-- What is proved of a map.
use Rattle.cu_grid.specs.Counts.{chunk_lo, chunk_hi, IsWithin}
use Rattle.cu_grid.specs.Grid.{IsCoordinate}
use Rattle.cu_num.specs.Dtype.{InRange}
use Rattle.cu_num.specs.declared.types.Dtype.{Dtype}
use Rattle.cu_op.proofs.Alike.{same_kernel, same_given}
use Rattle.cu_op.proofs.ByChunk.{alike_told}
use Rattle.cu_op.proofs.CellsOfTasks.{map_contains}
use Rattle.cu_op.proofs.Filled.{IsFilled, filled_region, chunk_filled, contains_mapped}
use Rattle.cu_op.proofs.KernelRanges.{kernel_range}
use Rattle.cu_op.proofs.Kind.{Laws, Stands, ReadsTypes}
use Rattle.cu_op.proofs.MapRegions.{read_within, within_lengths, read_over}
use Rattle.cu_op.proofs.NewNumbers.{given_same, grid_same, type_same, types_same, all_renumbered, room_same, sum_same, mapped_itself}
use Rattle.cu_op.proofs.PairRanges.{some_map, some_then}
use Rattle.cu_op.proofs.Results.{only_written, differ_only, nested_only, none_given}
use Rattle.cu_op.proofs.Rooms.{any_room_few, room_few}
use Rattle.cu_op.proofs.SameCells.{HaveSame, same_list, of_each, read_same, read_one}
use Rattle.cu_op.proofs.WalksOf.{LiesIn, apart_each, own_arrays}
use Rattle.cu_op.specs.Arrays.{grid_at, type_at, chunk_room, HasLayoutOf}
use Rattle.cu_op.specs.Chunks.{cell, IsOneChunk}
use Rattle.cu_op.specs.KernelTypes.{KernelFits, LoadsTypes}
use Rattle.cu_op.specs.Kind.Map.{map_kind, loaded, read_walk}
use Rattle.cu_op.specs.Aligned.{IsAligned}
use Rattle.cu_op.specs.Elements.{Elements}
use Rattle.cu_op.specs.Walks.{back_as, IsWalkOver, cells_of_walks}
use Rattle.cu_op.specs.declared.cells.Cell.{Cell}
use Rattle.cu_op.specs.declared.kernel.Instr.{Instr}
use Rattle.cu_op.specs.declared.layout.ArrayInfo.{ArrayInfo}
use Rattle.cu_op.specs.declared.walks.Walk.{Walk}
use Rattle.cu_shape.proofs.Places.{inside-length}
use Rattle.cu_shape.specs.Index.{IsInside, back}
use Rattle.std.proofs.Common.{◌≡◌, ℕ, List, [], ◌∷◌, length, All, Contains, get_or, refl, sym, ◌∙◌, subst, arith, map, ap, ◌≤◌, ◌*◌, ◌^◌, ◌<◌, sum_by}
use Rattle.std.proofs.Math.Nat.{mul-le-mul_right}
use Rattle.std.proofs.lemmas.List.Concat.{flat_map_single}
use Rattle.std.proofs.lemmas.List.Elements.{All-contains, All-contains_itself, All-map}
use Rattle.std.proofs.lemmas.List.Sums.{sum_by-le, get_or-le-sum_by}
use Rattle.std.proofs.lemmas.Option.{same_Some, slice_get_within, get_or_from_slice_get, slice_get-map}
use Rattle.std.specs.List.{slice_get}
use Rattle.std.specs.Option.{option_and_then}
use mathlib.Core.Path.{transport}

loads_types : (code : List Instr) (ins : List ℕ) (out : ℕ) (arrays : List ArrayInfo) (idx : List ℕ) (at : Elements) → ReadsTypes (map_kind code ins out) arrays idx at
    → LoadsTypes (map (type_at arrays) ins) (loaded arrays ins at idx)
loads_types code ins out arrays idx at typed j t y et ey =
    let m = some_then (λ b. at b (back (grid_at arrays b).shape idx)) (slice_get ins j) y ey in
    let f = some_map (type_at arrays) (slice_get ins j) t (sym (slice_get-map (type_at arrays) ins j) ∙ et) in
    let same : f.0 ≡ m.0 = same_Some f.0 m.0 (sym f.1 ∙ m.1) in
    let listed : Contains ins m.0 = (j, slice_get_within ins j m.0 m.1, get_or_from_slice_get ins j m.0 m.0 m.1) in
    subst (λ (d : Dtype). InRange d y) (ap (type_at arrays) (sym same) ∙ f.2) (typed m.0 (back (grid_at arrays m.0).shape idx) y (listed, refl) m.2)

map_within : (code : List Instr) (ins : List ℕ) (out : ℕ) (arrays : List ArrayInfo) (lo hi : List ℕ) (a : ℕ) (idx i : List ℕ) → Stands arrays (map_kind code ins out) → IsInside (grid_at arrays out).shape idx → IsWithin lo hi idx
    → Contains ins a → i ≡ back (grid_at arrays a).shape idx → LiesIn (map (read_walk arrays lo hi) ins) a i
map_within code ins out arrays lo hi a idx i s inside w among from =
    let g = grid_at arrays a in
    let aligned = All-contains (λ b. IsAligned (grid_at arrays b) (grid_at arrays out)) ins a s.fits.inputs among in
    let n = within_lengths lo hi idx w in
    let rank : length g.shape ≤ length idx = (let e = inside-length (grid_at arrays out).shape idx inside in let l = aligned.rank in omega (arith, e, l)) in
    record {
      one = read_walk arrays lo hi a;
      listed = map_contains (read_walk arrays lo hi) ins a among;
      array = refl;
      within = subst (IsWithin (back_as 0 g.shape lo) (back_as 1 g.shape hi)) (sym from) (read_within g.shape lo hi idx n.0 n.1 rank w);
    }

map_same : (code : List Instr) (ins : List ℕ) (out : ℕ) (arrays : List ArrayInfo) (d : List ℕ) (c : Cell) → Stands arrays (map_kind code ins out) → IsCoordinate (grid_at arrays out) d
    → All (IsWalkOver arrays) (map (read_walk arrays (chunk_lo (grid_at arrays out).chunk d) (chunk_hi (grid_at arrays out).shape (grid_at arrays out).chunk d)) ins)
    → HaveSame (cells_of_walks arrays (map (read_walk arrays (chunk_lo (grid_at arrays out).chunk d) (chunk_hi (grid_at arrays out).shape (grid_at arrays out).chunk d)) ins)) (map (λ a. cell a (back (grid_at arrays a).shape d)) ins) c
map_same code ins out arrays d c s here over =
    let f : ℕ → Walk = read_walk arrays (chunk_lo (grid_at arrays out).chunk d) (chunk_hi (grid_at arrays out).shape (grid_at arrays out).chunk d) in
    let each = of_each arrays f (λ a. cell a (back (grid_at arrays a).shape d) ∷ []) ins c (λ i e b.
    let a = get_or ins i e in
    read_same arrays a (grid_at arrays out) d (s.grids a (s.reads i e b)) (s.grids out (s.writes 0 0 (omega arith))) (s.fits.inputs i e b) here c
    (All-contains (IsWalkOver arrays) (map f ins) (f a) over (map_contains f ins a (All-contains_itself ins i e b)))) in
    let list = same_list _ _ c (flat_map_single (λ a. cell a (back (grid_at arrays a).shape d)) ins) in
    (λ x. list.0 (each.0 x), λ x. each.1 (list.1 x))

map_over : (code : List Instr) (ins : List ℕ) (out : ℕ) (arrays : List ArrayInfo) (lo hi : List ℕ) → Stands arrays (map_kind code ins out) → IsFilled (grid_at arrays out).shape lo hi → All (IsWalkOver arrays) (map (read_walk arrays lo hi) ins)
map_over code ins out arrays lo hi s f =
    All-map (IsWalkOver arrays) (read_walk arrays lo hi) ins
    (λ i d b. read_over arrays (get_or ins i d) (grid_at arrays out) lo hi (s.reads i d b) (s.fits.inputs i d b) (filled_region (grid_at arrays out).shape lo hi f))

pub map_laws : (code : List Instr) (ins : List ℕ) (out : ℕ) → Laws (map_kind code ins out)
map_laws code ins out = record {
  alone = λ arrays at other array idx h.
      same_kernel code (loaded arrays ins at idx) (loaded arrays ins other idx)
      (λ j. same_given (slice_get ins j) (λ a. at a (back (grid_at arrays a).shape idx)) (λ a. other a (back (grid_at arrays a).shape idx))
      (λ a e. h a (back (grid_at arrays a).shape idx) ((j, slice_get_within ins j a e, get_or_from_slice_get ins j a a e), refl)));
  listed = λ arrays idx a i reads. reads.0;
  target = (0, omega arith, refl);
  one_written = λ one. refl;
  one_grid = λ arrays one. refl;
  one_room = λ arrays one. refl;
  one_read = λ arrays d w s here among by.
      let g = grid_at arrays out in
      let f : ℕ → Walk = read_walk arrays (chunk_lo g.chunk d) (chunk_hi g.shape g.chunk d) in
      let (a, listed, is) = contains_mapped f ins w among in
      let within = All-contains (λ b. b < length arrays) ins a s.reads listed in
      let aligned = All-contains (λ b. IsAligned (grid_at arrays b) g) ins a s.fits.inputs listed in
      subst (λ (v : Walk). IsOneChunk (grid_at arrays v.array) v.region) is (read_one arrays a g d (s.grids a within) (s.grids out (s.writes 0 0 (omega arith))) aligned here);
  by_chunk_room = λ arrays a by.
      let (i, l, e) = (alike_told ins a (grid_at arrays a) (grid_at arrays out) by).0 in
      subst (λ (b : ℕ). chunk_room arrays b ≤ sum_by (chunk_room arrays) ins) e (get_or-le-sum_by (chunk_room arrays) ins i a l);
  grid = λ arrays s. s.grids out (s.writes 0 0 (omega arith));
  nested = λ arrays s. nested_only arrays out (s.grids out (s.writes 0 0 (omega arith)));
  differ = λ arrays lo hi s. differ_only out lo hi;
  walked = λ arrays lo hi. own_arrays (read_walk arrays lo hi) ins (λ a. refl);
  over = map_over code ins out;
  apart = λ arrays lo hi s f p v w. apart_each arrays s.grids (read_walk arrays lo hi) ins v w (λ a. refl);
  within = λ arrays lo hi a idx i s f inside w reads. map_within code ins out arrays lo hi a idx i s inside w reads.0 reads.1;
  same = λ arrays d c s here.
      let g = grid_at arrays out in
      let ok = s.grids out (s.writes 0 0 (omega arith)) in
      map_same code ins out arrays d c s here (map_over code ins out arrays (chunk_lo g.chunk d) (chunk_hi g.shape g.chunk d) s (chunk_filled g.shape g.chunk d ok.positive ok.ranks here));
  range = λ arrays at a idx x among fits inside typed reads v.
      subst (λ (b : ℕ). InRange (type_at arrays b) x) (only_written out a among)
      (kernel_range code (map (type_at arrays) ins) (type_at arrays out) (loaded arrays ins at idx) x fits.kernel (loads_types code ins out arrays idx at typed) v);
  small = λ arrays fits. tt;
  inputs_few = λ arrays ok reads few small.
      let s = sum_by-le (chunk_room arrays) (2 ^ 43) ins (λ k d h. room_few arrays (get_or ins k d) ok (reads k d h)) in
      let w : length ins * 2 ^ 43 ≤ 8 * 2 ^ 43 = mul-le-mul_right (2 ^ 43) few in
      omega (arith, s, w);
  outputs_few = λ arrays ok. let o = any_room_few arrays out out ok in omega (arith, o);
  renumbered = λ f. record {
    reads = refl;
    writes = refl;
    kernel = refl;
    value = λ old new at others array idx s h own.
        same_kernel code (loaded new (map f ins) others idx) (loaded old ins at idx)
        (λ k. ap (option_and_then (λ a. others a (back (grid_at new a).shape idx))) (slice_get-map f ins k)
        ∙ given_same f (slice_get ins k) (λ a. others a (back (grid_at new a).shape idx)) (λ a. at a (back (grid_at old a).shape idx))
        (λ a e.
        let there : Contains ins a = (k, slice_get_within ins k a e, get_or_from_slice_get ins k a a e) in
        let g = grid_same f old new a (All-contains (HasLayoutOf f old new) ins a s.reads there) in
        λ i. h a there i (back (g i).shape idx)));
    fits = λ old new s h.
        let O = sym (grid_same f old new out (s.writes 0 0 (omega arith))) in
        let T = sym (type_same f old new out (s.writes 0 0 (omega arith))) in
        record {
          inputs = all_renumbered f old new (λ a. IsAligned (grid_at old a) (grid_at old out)) (λ a. IsAligned (grid_at new a) (grid_at new (f out))) ins s.reads
              (λ a k own. transport (λ i. IsAligned (sym (grid_same f old new a k) i) (O i)) own) h.inputs;
          kernel = transport (λ i. KernelFits code (sym (types_same f old new ins s.reads) i) [] (T i)) h.kernel;
        };
    tasks = λ old new s. grid_same f old new out (s.writes 0 0 (omega arith));
    input_room = λ old new s. sum_same f old new ins s.reads;
    output_room = λ old new s. room_same f old new out (s.writes 0 0 (omega arith));
  };
  itself = λ arrays h. subst (λ (xs : List ℕ). (map_kind code xs out).fits arrays) (mapped_itself ins) h;
  compares = λ array is. absurd (none_given array is);
  stores = λ array is. absurd (none_given array is);
  stores_none = λ is. refl;
  stored_type = λ arrays array fits is. absurd (none_given array is);
}

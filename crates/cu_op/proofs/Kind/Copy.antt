-- What is proved of a copy.
use Rattle.cu_grid.proofs.Regions.{coordinate-length}
use Rattle.cu_grid.specs.Counts.{chunk_lo, chunk_hi, IsRegion, IsWithin}
use Rattle.cu_grid.specs.Grid.{RegularGrid, IsGrid}
use Rattle.cu_num.specs.Dtype.{InRange, size_of}
use Rattle.cu_num.specs.declared.types.Dtype.{Dtype}
use Rattle.cu_op.proofs.Filled.{filled_region}
use Rattle.cu_op.proofs.Kind.{Laws}
use Rattle.cu_op.proofs.NewNumbers.{grid_same, type_same}
use Rattle.cu_op.proofs.Results.{only_written, differ_only, none_given, not_one}
use Rattle.cu_op.proofs.Rooms.{size_few, times_few}
use Rattle.cu_op.proofs.SameCells.{of_one, box_same}
use Rattle.cu_op.proofs.WalksOf.{over_one, apart_one, first_of_walks}
use Rattle.cu_op.specs.Arrays.{grid_at, type_at}
use Rattle.cu_op.specs.Kind.Copy.{copy_kind, region_grid}
use Rattle.cu_op.specs.Schedule.{IsNested}
use Rattle.cu_op.specs.Chunks.{walk}
use Rattle.cu_shape.specs.Index.{product}
use Rattle.std.proofs.Common.{ℕ, List, [], length, Option, refl, sym, ◌∙◌, subst, arith, ℤ, ap, ◌*◌}
use Rattle.std.proofs.lemmas.List.Elements.{All-cons, All-nil}
use mathlib.Core.Path.{transport}

pub copy_laws : (region : List ℕ) (source out : ℕ) → Laws (copy_kind region source out)
copy_laws region source out = record {
  alone = λ arrays at other array idx h. h source idx (refl, refl);
  listed = λ arrays idx a i reads. (0, omega arith, sym reads.0);
  target = (0, omega arith, refl);
  one_written = λ one. absurd (not_one one);
  one_grid = λ arrays one. absurd (not_one one);
  one_room = λ arrays one. absurd (not_one one);
  one_read = λ arrays d w s here among by. absurd (not_one by);
  by_chunk_room = λ arrays a by. absurd (not_one by);
  grid = λ arrays s. s.fits.regions;
  nested = λ arrays s.
      let P : ℕ → Type 0 = λ a. IsNested (grid_at arrays a) (region_grid (grid_at arrays out) region) in
      All-cons P out [] s.fits.nested (All-nil P);
  differ = λ arrays lo hi s. differ_only out lo hi;
  walked = λ arrays lo hi. refl;
  over = λ arrays lo hi s f.
      over_one arrays (walk source lo hi) (s.reads 0 0 (omega arith), subst (λ (ns : List ℕ). IsRegion ns lo hi) (sym s.fits.shape) (filled_region (grid_at arrays out).shape lo hi f));
  apart = λ arrays lo hi s f p v w hv hw other ov ow. apart_one arrays (walk source lo hi) v w hv hw other;
  within = λ arrays lo hi a idx i s f inside w reads. first_of_walks (walk source lo hi) [] a i (sym reads.0) (subst (IsWithin lo hi) (sym reads.1) w);
  same = λ arrays d c s here.
      let g = region_grid (grid_at arrays out) region in
      let lo = chunk_lo region d in
      let hi = chunk_hi g.shape region d in
      of_one arrays (walk source lo hi) _ c (box_same arrays source region d lo hi c (record {
        begins = refl;
        ends = ap (λ (ns : List ℕ). chunk_hi ns region d) (sym s.fits.shape);
        long = coordinate-length g d s.fits.regions here ∙ ap length (sym s.fits.shape);
      }));
  range = λ arrays at a idx x among fits inside typed reads v.
      subst (λ (b : ℕ). InRange (type_at arrays b) x) (only_written out a among) (subst (λ (d : Dtype). InRange d x) fits.types (typed source idx x (refl, refl) v));
  small = λ arrays fits. fits.regions.chunk_elements;
  inputs_few = λ arrays ok reads few small. let r = times_few (product region) (size_of (type_at arrays source)) small (size_few (type_at arrays source)) in omega (arith, r);
  outputs_few = λ arrays ok. omega arith;
  renumbered = λ f. record {
    reads = refl;
    writes = refl;
    kernel = refl;
    value = λ old new at others array idx s h own. ap (λ (e : List ℕ → Option ℤ). e idx) (h source (0, omega arith, refl));
    fits = λ old new s h.
        let G = grid_same f old new source (s.reads 0 0 (omega arith)) in
        let O = grid_same f old new out (s.writes 0 0 (omega arith)) in
        record {
          shape = ap (λ (g : RegularGrid). g.shape) G ∙ h.shape ∙ sym (ap (λ (g : RegularGrid). g.shape) O);
          types = type_same f old new source (s.reads 0 0 (omega arith)) ∙ h.types ∙ sym (type_same f old new out (s.writes 0 0 (omega arith)));
          regions = transport (λ i. IsGrid (region_grid (sym O i) region)) h.regions;
          nested = transport (λ i. IsNested (sym O i) (region_grid (sym O i) region)) h.nested;
        };
    tasks = λ old new s. ap (λ g. region_grid g region) (grid_same f old new out (s.writes 0 0 (omega arith)));
    input_room = λ old new s. ap (λ t. product region * size_of t) (type_same f old new source (s.reads 0 0 (omega arith)));
    output_room = λ old new s. refl;
  };
  itself = λ arrays h. h;
  compares = λ array is. absurd (none_given array is);
  stores = λ array is. absurd (none_given array is);
  stores_none = λ is. refl;
  stored_type = λ arrays array fits is. absurd (none_given array is);
}

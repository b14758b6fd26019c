-- What is proved of a product of matrices.
use Rattle.cu_grid.proofs.Regions.{coordinate-length}
use Rattle.cu_grid.specs.Counts.{chunk_lo, chunk_hi, IsWithin}
use Rattle.cu_grid.specs.Grid.{IsCoordinate}
use Rattle.cu_num.specs.Dtype.{IsInteger}
use Rattle.cu_num.specs.Promotion.{promotion}
use Rattle.cu_num.specs.declared.folds.FoldKind.TheVariants.{Sum}
use Rattle.cu_op.proofs.Alike.{same_mapped}
use Rattle.cu_op.proofs.Filled.{IsFilled, chunk_filled}
use Rattle.cu_op.proofs.Kind.{Laws, Stands, Keeps}
use Rattle.cu_op.proofs.Matrices.{left_over, right_over, left_reads, right_reads, operands_apart, left_box, right_box, left_long, right_long, left_span, right_span}
use Rattle.cu_op.proofs.NewNumbers.{grid_same, type_same, room_same}
use Rattle.cu_op.proofs.ResultRanges.{fold_range}
use Rattle.cu_op.proofs.Results.{differ_only, nested_only, none_given, not_one}
use Rattle.cu_op.proofs.Rooms.{any_room_few}
use Rattle.cu_op.proofs.SameCells.{HaveSame, of_two, operand_same}
use Rattle.cu_op.proofs.Spans.{chunk_span}
use Rattle.cu_op.proofs.WalksOf.{over_two, apart_two, first_of_walks, second_of_walks}
use Rattle.cu_op.specs.Arrays.{grid_at, type_at}
use Rattle.cu_op.specs.Kind.Mul.{mul_kind, MulFits, products_at, left_walk, right_walk}
use Rattle.cu_op.specs.Matrix.{left_inner, inner_chunk_count, batch_rank, right_inner, batch_grid, product_index, part_number, inner_places, rows_of, columns_of, product_at, HasParts}
use Rattle.cu_op.specs.Aligned.{IsAligned}
use Rattle.cu_op.specs.Walks.{IsWalkOver, cells_of_walks}
use Rattle.cu_op.specs.declared.cells.Cell.{Cell}
use Rattle.cu_op.specs.declared.layout.ArrayInfo.{ArrayInfo}
use Rattle.cu_reduce.specs.Folds.{reduced_to}
use Rattle.cu_reduce.specs.Products.{left_index, right_index}
use Rattle.std.proofs.Common.{◌≡◌, ℕ, ◌+◌, List, [], ◌∷◌, length, All, Option, Some, refl, sym, ◌∙◌, subst, arith, ℤ, ◌++◌, ap, ◌≤◌, inl, inr}
use Rattle.std.proofs.lemmas.List.Elements.{All-head, All-tail}
use mathlib.Core.Path.{transport}

pub mul_laws : (left right out : ℕ) → Laws (mul_kind left right out)
mul_laws left right out = record {
  alone = λ arrays at other array idx h.
      let a = (grid_at arrays left).shape in
      let b = (grid_at arrays right).shape in
      let own = product_index a b idx in
      ap (reduced_to Sum (type_at arrays out))
      (same_mapped (λ k. product_at (at left (left_index a b own k)) (at right (right_index a b own k))) (λ k. product_at (other left (left_index a b own k)) (other right (right_index a b own k)))
      (inner_places (grid_at arrays left) (part_number a b idx))
      (λ k c. ap (λ (x : Option ℤ). product_at x (at right (right_index a b own k))) (h left (left_index a b own k) (k, c, inl (refl, refl)))
      ∙ ap (product_at (other left (left_index a b own k))) (h right (right_index a b own k) (k, c, inr (refl, refl)))));
  listed = λ arrays idx a i reads. elim reads.2 [ inl same ↦ (0, omega arith, sym same.0) | inr same ↦ (1, omega arith, sym same.0) ];
  target = (0, omega arith, refl);
  one_written = λ one. refl;
  one_grid = λ arrays one. refl;
  one_room = λ arrays one. refl;
  one_read = λ arrays d w s here among by. absurd (not_one by);
  by_chunk_room = λ arrays a by. absurd (not_one by);
  grid = λ arrays s. s.grids out (s.writes 0 0 (omega arith));
  nested = λ arrays s. nested_only arrays out (s.grids out (s.writes 0 0 (omega arith)));
  differ = λ arrays lo hi s. differ_only out lo hi;
  walked = λ arrays lo hi. refl;
  over = mul_over;
  apart = λ arrays lo hi s f p v w hv hw other ov ow.
      let wl = s.reads 0 0 (omega arith) in
      let wr = s.reads 1 0 (omega arith) in
      apart_two arrays (left_walk arrays left right lo hi) (right_walk arrays left right lo hi) v w
      (λ differ. operands_apart arrays left right out s.fits (s.grids left wl) (s.grids right wr) (s.grids out (s.writes 0 0 (omega arith))) lo hi wl wr f p differ) hv hw other;
  within = λ arrays lo hi a idx i s f inside w reads.
      let l = left_walk arrays left right lo hi in
      let r = right_walk arrays left right lo hi in
      elim reads.2 [
        | inl same ↦ first_of_walks l (r ∷ []) a i (sym same.0) (subst (IsWithin l.region.lo l.region.hi) (sym same.1) (left_reads arrays left right out s.fits lo hi idx reads.0 f w reads.1))
        | inr same ↦ second_of_walks l r a i (sym same.0) (subst (IsWithin r.region.lo r.region.hi) (sym same.1) (right_reads arrays left right out s.fits lo hi idx reads.0 f w reads.1))
      ];
  same = mul_same;
  range = λ arrays at a idx x among fits inside typed reads v.
      fold_range Sum arrays out a (products_at (grid_at arrays left) (grid_at arrays right) (at left) (at right) idx) x among v;
  small = λ arrays fits. tt;
  inputs_few = λ arrays ok reads few small. let r = any_room_few arrays left left ok in let s = any_room_few arrays right right ok in omega (arith, r, s);
  outputs_few = λ arrays ok. let o = any_room_few arrays out out ok in omega (arith, o);
  renumbered = λ f. record {
    reads = refl;
    writes = refl;
    kernel = refl;
    value = λ old new at others array idx s h own.
        let E = h left (0, omega arith, refl) in
        let F = h right (1, omega arith, refl) in
        let L = grid_same f old new left (s.reads 0 0 (omega arith)) in
        let R = grid_same f old new right (s.reads 1 0 (omega arith)) in
        let T = type_same f old new out (s.writes 0 0 (omega arith)) in
        λ i. reduced_to Sum (T i) (products_at (L i) (R i) (E i) (F i) idx);
    fits = mul_fits f;
    tasks = λ old new s. grid_same f old new out (s.writes 0 0 (omega arith));
    input_room = λ old new s. λ i. room_same f old new left (s.reads 0 0 (omega arith)) i + room_same f old new right (s.reads 1 0 (omega arith)) i;
    output_room = λ old new s. room_same f old new out (s.writes 0 0 (omega arith));
  };
  itself = λ arrays h. h;
  compares = λ array is. absurd (none_given array is);
  stores = λ array is. absurd (none_given array is);
  stores_none = λ is. refl;
  stored_type = λ arrays array fits is. absurd (none_given array is);
}
  where
    mul_over : (arrays : List ArrayInfo) (lo hi : List ℕ) → Stands arrays (mul_kind left right out) → IsFilled (grid_at arrays out).shape lo hi
        → All (IsWalkOver arrays) (left_walk arrays left right lo hi ∷ right_walk arrays left right lo hi ∷ [])
    mul_over arrays lo hi s f =
        over_two arrays (left_walk arrays left right lo hi) (right_walk arrays left right lo hi) (s.reads 0 0 (omega arith), left_over arrays left right out s.fits lo hi f)
        (s.reads 1 0 (omega arith), right_over arrays left right out s.fits lo hi f)

    mul_same : (arrays : List ArrayInfo) (d : List ℕ) (c : Cell) → Stands arrays (mul_kind left right out) → IsCoordinate (grid_at arrays out) d
        → HaveSame (cells_of_walks arrays ((mul_kind left right out).walks arrays (chunk_lo (grid_at arrays out).chunk d) (chunk_hi (grid_at arrays out).shape (grid_at arrays out).chunk d))) ((mul_kind left right out).cells arrays d) c
    mul_same arrays d c s here =
        let g = grid_at arrays out in
        let oka = s.grids left (s.reads 0 0 (omega arith)) in
        let okb = s.grids right (s.reads 1 0 (omega arith)) in
        let oko = s.grids out (s.writes 0 0 (omega arith)) in
        let lo = chunk_lo g.chunk d in
        let hi = chunk_hi g.shape g.chunk d in
        let filled = chunk_filled g.shape g.chunk d oko.positive oko.ranks here in
        let span = chunk_span g.shape g.chunk d oko.ranks (coordinate-length g d oko here) in
        let l = left_walk arrays left right lo hi in
        let r = right_walk arrays left right lo hi in
        let over = mul_over arrays lo hi s filled in
        of_two arrays l r _ _ c
        (operand_same arrays left _ _ _ c oka (All-head (IsWalkOver arrays) l (r ∷ []) over) (left_long arrays left right out s.fits oka okb oko d here) (left_box arrays left right out s.fits oka okb oko d here)
        (left_span arrays left right out s.fits oka okb oko lo hi filled span))
        (operand_same arrays right _ _ _ c okb (All-head (IsWalkOver arrays) r [] (All-tail (IsWalkOver arrays) l (r ∷ []) over)) (right_long arrays left right out s.fits oka okb oko d here)
        (right_box arrays left right out s.fits oka okb oko d here) (right_span arrays left right out s.fits oka okb oko lo hi filled span))

    mul_fits : (f : ℕ → ℕ) (old new : List ArrayInfo) → Keeps f old new (mul_kind left right out) → MulFits old left right out → MulFits new (f left) (f right) (f out)
    mul_fits f old new s h =
        let kl = s.reads 0 0 (omega arith) in
        let kr = s.reads 1 0 (omega arith) in
        let ko = s.writes 0 0 (omega arith) in
        let L = sym (grid_same f old new left kl) in
        let R = sym (grid_same f old new right kr) in
        let O = sym (grid_same f old new out ko) in
        let T = sym (type_same f old new out ko) in
        let A = sym (type_same f old new left kl) in
        let B = sym (type_same f old new right kr) in
        record {
          sizes = h.sizes;
          chunks = h.chunks;
          parts = h.parts;
          part_chunks = h.part_chunks;
          left_rank = transport (λ i. 1 ≤ length (L i).shape) h.left_rank;
          right_rank = transport (λ i. 1 ≤ length (R i).shape) h.right_rank;
          integer = transport (λ i. IsInteger (T i)) h.integer;
          types = transport (λ i. promotion (A i) (B i) ≡ Some (T i)) h.types;
          inner = transport (λ i. left_inner (L i).shape ≡ right_inner (R i).shape) h.inner;
          inner_chunk = transport (λ i. left_inner (L i).chunk ≡ right_inner (R i).chunk) h.inner_chunk;
          rank = transport (λ i. length h.sizes ≡ batch_rank (L i).shape (R i).shape) h.rank;
          left_batch = transport (λ i. IsAligned (batch_grid (L i)) (record { shape = h.sizes; chunk = h.chunks })) h.left_batch;
          right_batch = transport (λ i. IsAligned (batch_grid (R i)) (record { shape = h.sizes; chunk = h.chunks })) h.right_batch;
          numbered = transport (λ i. HasParts (inner_chunk_count (L i)) h.parts h.part_chunks) h.numbered;
          shape = transport (λ i. (O i).shape ≡ h.sizes ++ rows_of (L i).shape ++ columns_of (R i).shape ++ h.parts) h.shape;
          chunk = transport (λ i. (O i).chunk ≡ h.chunks ++ rows_of (L i).chunk ++ columns_of (R i).chunk ++ h.part_chunks) h.chunk;
        }

-- The copies of a rechunk as steps.
use Rattle.std.proofs.Common.{if◌then◌else◌, leb, ◌≡◌, ℕ, zero, suc, ◌+◌, ◌-◌, ◌*◌, ◌^◌, ◌<◌, ◌≤◌, Bool, true, false, List, [], ◌∷◌, ◌++◌, All, length, max, sum_by, refl, ap, sym, ◌∙◌, subst, arith, inr}
use Rattle.std.proofs.lemmas.Bool.{leb-true, le-leb}
use Rattle.std.proofs.lemmas.Nat.{mul-le}
use Rattle.cu_num.specs.Dtype.{size_of}
use Rattle.cu_shape.specs.Counts.{counts_of, at_least_one}
use Rattle.cu_shape.specs.Index.{product}
use Rattle.cu_rechunk.specs.Nested.{IsNestedAlong}
use Rattle.cu_rechunk.specs.Tiles.{IsTile, Tiles}
use Rattle.cu_rechunk.specs.declared.staging.Staging.{Staging}
use Rattle.cu_grid.specs.Grid.{RegularGrid, IsGrid}
use Rattle.cu_op.specs.Arrays.{chunk_room, type_at}
use Rattle.cu_op.specs.Nested.{IsNested}
use Rattle.cu_op.specs.Kind.Copy.{region_grid}
use Rattle.cu_op.specs.Elements.{Elements}
use Rattle.cu_op.specs.declared.layout.ArrayInfo.{ArrayInfo}
use Rattle.cu_node.specs.Info.{IsInfo, info_of, chunk_bytes}
use Rattle.cu_node.specs.declared.info.NodeInfo.{NodeInfo}
use Rattle.cu_copy.specs.Chunks.{chunk_count}
use Rattle.cu_copy.specs.Copies.{IsRechunk, between, greater_chunk, is_one_copy, rechunk_cells, rechunk_tasks, rechunked, region_count, staging}
use Rattle.cu_copy.specs.declared.copies.CopyCounts.{CopyCounts}
use Rattle.cu_copy.specs.declared.copies.Rechunk.{Rechunk}
use Rattle.cu_copy.proofs.Staged.{staged_tiles}
use Rattle.cu_tree.proofs.Sizes.{size_positive}
use Rattle.cu_lower_reduce.specs.Copies.{copied, copy_steps, AreCopies, IsCopyStep, IsStaged}
use Rattle.cu_lower_reduce.specs.Steps.{all_made, grid_of, last_made, step_tasks, HasInfo, HaveInfos, IsGiven, IsStep, AreSteps, SolveSteps}
use Rattle.cu_lower_reduce.specs.declared.copy.CopySetting.{CopySetting}
use Rattle.cu_lower_reduce.specs.declared.step.Step.{Step}
use Rattle.cu_lower_reduce.proofs.Folds.{contains_first}
use Rattle.cu_lower_reduce.proofs.Stepping.{room_of}

-- ---- one copy

-- the sizes of an array whose copies keep within the limits of an operation
pub record IsCopied (i : NodeInfo) : Type 0 where
  pub short : length i.dims ≤ 6
  pub elements : product (at_least_one i.dims) ≤ 2 ^ 40

pub of_info : (i : NodeInfo) → IsInfo i → IsCopied i
of_info i h = record { short = h.short; elements = h.elements }

regions_fit : (i : NodeInfo) (item most : ℕ) (region : List ℕ) → IsCopied i → IsTile i.dims item most region → IsGrid (record { shape = i.dims; chunk = region })
regions_fit i item most region c t =
    let e = c.elements in
    let f = t.elements in
    record { ranks = t.ranks; short = c.short; positive = t.positive; elements = omega arith; chunk_elements = omega arith }

pub copy_holds : (arrays : List ArrayInfo) (reserved most : ℕ) (given : List ℕ) (first source out : ℕ) (region chunk : List ℕ) (i : NodeInfo) → IsGiven given first out source → HasInfo arrays source i
    → HasInfo arrays out (info_of i.dtype i.dims chunk) → IsCopied i → IsTile i.dims (size_of i.dtype) most region → IsNestedAlong i.dims chunk region
    → IsStep arrays reserved given first out (copied reserved source out region i (info_of i.dtype i.dims chunk))
copy_holds arrays reserved most given first source out region chunk i g h k c t nested = record {
  writes = refl;
  reads = reads;
  fits = record {
    shape = (λ j. (h.grid j).shape) ∙ (λ j. (sym k.grid j).shape);
    types = h.dtype ∙ sym k.dtype;
    regions = subst (λ (x : RegularGrid). IsGrid (region_grid x region)) (sym k.grid) (regions_fit i (size_of i.dtype) most region c t);
    nested = subst (λ (x : RegularGrid). IsNested x (region_grid x region)) (sym k.grid) (record { shape = refl; axes = nested });
  };
  need = omega (arith, need);
  tasks = (λ j. product (counts_of (k.grid j).shape region));
}
  where
    reads : All (IsGiven given first out) (source ∷ [])
    reads zero d l = g
    reads (suc n) d l = absurd (omega arith)

    need : reserved + max (chunk_room arrays source) (max (chunk_room arrays out) 0) + product region * size_of (type_at arrays source)
        ≡ reserved + max (chunk_bytes i) (max (chunk_bytes (info_of i.dtype i.dims chunk)) 0) + product region * size_of i.dtype
    need j = reserved + max (room_of arrays source i h j) (max (room_of arrays out (info_of i.dtype i.dims chunk) k j) 0) + product region * size_of (h.dtype j)

-- ---- one or two, by the test of their stages

abbrev pub chosen : CopySetting → ℕ → Rechunk → Staging → Bool → List Step
chosen s source r st one =
    if one then copied s.reserved source s.first st.write r.source (rechunked r) ∷ []
    else copied s.reserved source s.first st.read r.source (between r st) ∷ copied s.reserved s.first (s.first + 1) st.write (between r st) (rechunked r) ∷ []

abbrev pub AreStages : CopySetting → Rechunk → Staging → Type 0
AreStages s r st = Tiles r.source.dims r.chunk (size_of r.source.dtype) s.most st

chosen_hold : (arrays : List ArrayInfo) (s : CopySetting) (given : List ℕ) (first source : ℕ) (r : Rechunk) (st : Staging) (one : Bool) → IsCopied r.source → AreStages s r st → first ≤ s.first
    → IsGiven given first s.first source → HasInfo arrays source r.source → HaveInfos arrays s.first (all_made (chosen s source r st one)) → AreSteps arrays s.reserved given first s.first (chosen s source r st one)
chosen_hold arrays s given first source r st true c t before g h k = (copy_holds arrays s.reserved s.most given first source s.first st.write r.chunk r.source g h k.0 c t.writes t.target_in_write, tt)
chosen_hold arrays s given first source r st false c t before g h k = (
  copy_holds arrays s.reserved s.most given first source s.first st.read st.middle r.source g h k.0 c t.reads t.middle_in_read,
  (
    copy_holds arrays s.reserved s.most given first s.first (s.first + 1) st.write r.chunk (between r st) (inr (before, omega arith)) k.0 k.1.0 (record { short = c.short; elements = c.elements }) t.writes t.target_in_write,
    tt,
  ),
)

chosen_last : (arrays : List ArrayInfo) (s : CopySetting) (source : ℕ) (r : Rechunk) (st : Staging) (one : Bool) → HaveInfos arrays s.first (all_made (chosen s source r st one))
    → HasInfo arrays (last_made s.first (chosen s source r st one)) (rechunked r)
chosen_last arrays s source r st true k = let e : s.first ≡ s.first + 1 - 1 = omega arith in subst (λ (a : ℕ). HasInfo arrays a (rechunked r)) e k.0
chosen_last arrays s source r st false k = let e : s.first + 1 ≡ s.first + 2 - 1 = omega arith in subst (λ (a : ℕ). HasInfo arrays a (rechunked r)) e k.1.0

chosen_ends : (s : CopySetting) (source : ℕ) (r : Rechunk) (st : Staging) (one : Bool) → (rest : List NodeInfo) × (all_made (chosen s source r st one) ≡ rest ++ rechunked r ∷ [])
chosen_ends s source r st true = ([], refl)
chosen_ends s source r st false = (between r st ∷ [], refl)

chosen_count : (s : CopySetting) (source : ℕ) (r : Rechunk) (st : Staging) (one : Bool) → 1 ≤ length (all_made (chosen s source r st one))
chosen_count s source r st true = omega arith
chosen_count s source r st false = omega arith

chosen_value : (arrays : List ArrayInfo) (at : Elements) (s : CopySetting) (source : ℕ) (r : Rechunk) (st : Staging) (one : Bool) → SolveSteps arrays at (chosen s source r st one)
    → (idx : List ℕ) → at (last_made s.first (chosen s source r st one)) idx ≡ at source idx
chosen_value arrays at s source r st true solve idx =
    let e : s.first + 1 - 1 ≡ s.first = omega arith in
    ap (λ (a : ℕ). at a idx) e ∙ solve (copied s.reserved source s.first st.write r.source (rechunked r)) s.first idx (0, omega arith, refl) (contains_first s.first [])
chosen_value arrays at s source r st false solve idx =
    let e : s.first + 2 - 1 ≡ s.first + 1 = omega arith in
    ap (λ (a : ℕ). at a idx) e
    ∙ solve (copied s.reserved s.first (s.first + 1) st.write (between r st) (rechunked r)) (s.first + 1) idx (1, omega arith, refl) (contains_first (s.first + 1) [])
    ∙ solve (copied s.reserved source s.first st.read r.source (between r st)) s.first idx (0, omega arith, refl) (contains_first s.first [])

-- ---- what they come to

few_elements : (chunk : List ℕ) (item : ℕ) → 0 < item → product chunk * item ≤ 2 ^ 28 → product chunk ≤ 2 ^ 40
few_elements chunk item some h = let p : product chunk * 1 ≤ product chunk * item = mul-le (product chunk) 1 (product chunk) item (omega arith) (omega arith) in omega (arith, p, h)

grid_rechunked : (r : Rechunk) → IsRechunk r → IsGrid (grid_of (rechunked r))
grid_rechunked r h =
    let e = h.source.elements in
    let f = few_elements r.chunk (size_of r.source.dtype) (size_positive r.source.dtype) (leb-true (product r.chunk * size_of r.source.dtype) (2 ^ 28) h.bytes) in
    record { ranks = h.ranks; short = h.source.short; positive = h.positive; elements = omega arith; chunk_elements = f }

one_step : (s : CopySetting) (source out : ℕ) (region chunk : List ℕ) (i : NodeInfo) → chunk_bytes i ≤ s.most → chunk_bytes (info_of i.dtype i.dims chunk) ≤ s.most → product region * size_of i.dtype ≤ s.most
    → IsCopyStep s (copied s.reserved source out region i (info_of i.dtype i.dims chunk))
one_step s source out region chunk i a b c = record { copy = refl; need = omega (arith, a, b, c) }

chosen_steps : (s : CopySetting) (source : ℕ) (r : Rechunk) (st : Staging) (one : Bool) → AreStages s r st → greater_chunk r ≤ s.most → All (IsCopyStep s) (chosen s source r st one)
chosen_steps s source r st true t g zero d l = one_step s source s.first st.write r.chunk r.source (omega (arith, g)) (omega (arith, g)) t.writes.bytes
chosen_steps s source r st true t g (suc k) d l = absurd (omega arith)
chosen_steps s source r st false t g zero d l = one_step s source s.first st.read st.middle r.source (omega (arith, g)) t.between.bytes t.reads.bytes
chosen_steps s source r st false t g (suc zero) d l = one_step s s.first (s.first + 1) st.write r.chunk (between r st) t.between.bytes (omega (arith, g)) t.writes.bytes
chosen_steps s source r st false t g (suc (suc k)) d l = absurd (omega arith)

chosen_grids : (s : CopySetting) (source : ℕ) (r : Rechunk) (st : Staging) (one : Bool) → AreStages s r st → IsRechunk r → All (λ i. IsGrid (grid_of i)) (all_made (chosen s source r st one))
chosen_grids s source r st true t h zero d l = grid_rechunked r h
chosen_grids s source r st true t h (suc k) d l = absurd (omega arith)
chosen_grids s source r st false t h zero d l = regions_fit r.source (size_of r.source.dtype) s.most st.middle (of_info r.source h.source) t.between
chosen_grids s source r st false t h (suc zero) d l = grid_rechunked r h
chosen_grids s source r st false t h (suc (suc k)) d l = absurd (omega arith)

abbrev chosen_counts : Rechunk → Staging → Bool → CopyCounts
chosen_counts r st one =
    if one then record { tasks = region_count r.source st.write; cells = chunk_count (rechunked r) }
    else record { tasks = region_count r.source st.read + region_count r.source st.write; cells = chunk_count (between r st) + chunk_count (rechunked r) }

chosen_tasks : (s : CopySetting) (source : ℕ) (r : Rechunk) (st : Staging) (one : Bool) → sum_by step_tasks (chosen s source r st one) ≡ (chosen_counts r st one).tasks
chosen_tasks s source r st true = omega arith
chosen_tasks s source r st false = omega arith

chosen_cells : (s : CopySetting) (source : ℕ) (r : Rechunk) (st : Staging) (one : Bool) → sum_by chunk_count (all_made (chosen s source r st one)) ≡ (chosen_counts r st one).cells
chosen_cells s source r st true = omega arith
chosen_cells s source r st false = omega arith

chosen_few : (s : CopySetting) (source : ℕ) (r : Rechunk) (st : Staging) (one : Bool) → length (chosen s source r st one) ≤ 2 * 1
chosen_few s source r st true = omega arith
chosen_few s source r st false = omega arith

-- where the greater chunk fits
counted : (g most : ℕ) (c : CopyCounts) → g ≤ most → c ≡ (if leb g most then c else record { tasks = 0; cells = 0 })
counted g most c h = rw (le-leb g most h) refl

-- ---- the copies of a rechunk

pub tiles : (s : CopySetting) (r : Rechunk) → IsStaged s r → AreStages s r (staging s.most r)
tiles s r h = staged_tiles s.most r h.rechunk h.fits

pub copies_hold : (arrays : List ArrayInfo) (s : CopySetting) (given : List ℕ) (first source : ℕ) (r : Rechunk) → IsStaged s r → first ≤ s.first → IsGiven given first s.first source → HasInfo arrays source r.source
    → HaveInfos arrays s.first (all_made (copy_steps s source r)) → AreSteps arrays s.reserved given first s.first (copy_steps s source r)
copies_hold arrays s given first source r h before g i k =
    chosen_hold arrays s given first source r (staging s.most r) (is_one_copy (staging s.most r)) (of_info r.source h.rechunk.source) (tiles s r h) before g i k

pub copies_last : (arrays : List ArrayInfo) (s : CopySetting) (source : ℕ) (r : Rechunk) → HaveInfos arrays s.first (all_made (copy_steps s source r)) → HasInfo arrays (last_made s.first (copy_steps s source r)) (rechunked r)
copies_last arrays s source r k = chosen_last arrays s source r (staging s.most r) (is_one_copy (staging s.most r)) k

pub copies_end : (s : CopySetting) (source : ℕ) (r : Rechunk) → (rest : List NodeInfo) × (all_made (copy_steps s source r) ≡ rest ++ rechunked r ∷ [])
copies_end s source r = chosen_ends s source r (staging s.most r) (is_one_copy (staging s.most r))

pub copies_some : (s : CopySetting) (source : ℕ) (r : Rechunk) → 1 ≤ length (all_made (copy_steps s source r))
copies_some s source r = chosen_count s source r (staging s.most r) (is_one_copy (staging s.most r))

pub copies_value : (arrays : List ArrayInfo) (at : Elements) (s : CopySetting) (source : ℕ) (r : Rechunk) → SolveSteps arrays at (copy_steps s source r)
    → (idx : List ℕ) → at (last_made s.first (copy_steps s source r)) idx ≡ at source idx
copies_value arrays at s source r solve idx = chosen_value arrays at s source r (staging s.most r) (is_one_copy (staging s.most r)) solve idx

pub copies_come : (s : CopySetting) (source : ℕ) (r : Rechunk) → IsStaged s r → AreCopies s 1 (rechunk_tasks s.most r) (rechunk_cells s.most r) (copy_steps s source r)
copies_come s source r h =
    let st = staging s.most r in
    let one = is_one_copy (staging s.most r) in
    let counts = counted (greater_chunk r) s.most (chosen_counts r (staging s.most r) (is_one_copy (staging s.most r))) h.fits in
    record {
      each = chosen_steps s source r st one (tiles s r h) h.fits;
      few = chosen_few s source r st one;
      grids = chosen_grids s source r st one (tiles s r h) h.rechunk;
      tasks_are = chosen_tasks s source r st one ∙ ap (λ (c : CopyCounts). c.tasks) counts;
      cells_are = chosen_cells s source r st one ∙ ap (λ (c : CopyCounts). c.cells) counts;
    }

-- A plan of one map is sound, and the kernel of an addition fits.
use Rattle.cu_op.proofs.AllStored.{all_projection}
use Rattle.cu_op.proofs.Members.{bool_cases}
use Rattle.cu_grid.specs.Grid.{RegularGrid, IsGrid}
use Rattle.cu_num.proofs.TypeTests.{is_integer-IsInteger}
use Rattle.cu_num.specs.Dtype.{IsInteger}
use Rattle.cu_num.specs.Promotion.{promotion}
use Rattle.cu_num.specs.declared.functions.Fn2.TheVariants.{Add}
use Rattle.cu_num.specs.declared.layout.Encoding.TheVariants.{Plain}
use Rattle.cu_num.specs.declared.layout.Sep.TheVariants.{Slash}
use Rattle.cu_num.specs.declared.types.Dtype.{Dtype}
use Rattle.cu_op.proofs.KeyTexts.{keys_differ}
use Rattle.cu_op.proofs.KindLaws.{laws_of, map_by_kernel}
use Rattle.cu_op.proofs.Plans.{scratch_parts, all_own}
use Rattle.cu_op.proofs.Rooms.{any_room_few, greatest_few}
use Rattle.cu_op.specs.Arrays.{array_at, grid_at, maker_at, grid_counts, array_chunk_count, no_array, chunk_room, is_inlined}
use Rattle.cu_op.specs.Cells.{regions_of}
use Rattle.cu_op.specs.KernelTypes.{Typed, KernelFits}
use Rattle.cu_op.specs.Layout.{IsArray}
use Rattle.cu_op.specs.OneMap.{OneMap, Makes, addition_of, HasGridAndType, AddsAlike}
use Rattle.cu_op.specs.Operation.{writes_of, reads_of, target_of, IsMadeBy, IsReadable, Fits, IsBefore}
use Rattle.cu_op.specs.Aligned.{IsAlignedAlong, IsAligned}
use Rattle.cu_op.specs.PlanView.{operation_at, PlanView}
use Rattle.cu_op.specs.Projection.{projection, instruction_count, HasSmallRegions, own_projection}
use Rattle.cu_op.specs.Sound.{Sound, made_chunks, cells_by, IsOperation}
use Rattle.cu_op.specs.declared.kernel.Instr.TheVariants.{Load, Two}
use Rattle.cu_op.specs.declared.layout.ArrayInfo.{ArrayInfo}
use Rattle.cu_op.specs.declared.operation.Op.{Op}
use Rattle.cu_op.specs.declared.operation.Planned.{Planned}
use Rattle.cu_shape.specs.Counts.{largest}
use Rattle.cu_shape.specs.Index.{product}
use Rattle.std.proofs.Common.{◌≡◌, inl, inr, ℕ, zero, suc, ◌<◌, ◌+◌, List, [], ◌∷◌, ◌++◌, length, map, All, Contains, Option, None, Some, get_or, refl, ap, sym, ◌∙◌, subst, arith, ◌≤◌, ◌-◌, drop, ◌≢◌, ◌^◌, sum_by, false}
use Rattle.std.proofs.lemmas.Bool.{cases_lt}
use Rattle.std.proofs.lemmas.List.{length-append, get_or_append_left, get_or_at}
use Rattle.std.proofs.lemmas.List.Elements.{All-cons, All-nil, All-head, All-tail, All-append}
use Rattle.std.proofs.lemmas.List.Sums.{sum_by-append, sum_by-cons}

-- an array before the last, and the last
at_input : (inputs : List ArrayInfo) (made : ArrayInfo) (a : ℕ) → a < length inputs → array_at (inputs ++ made ∷ []) a ≡ array_at inputs a
at_input inputs made a h = get_or_append_left inputs (made ∷ []) no_array a h

at_made : (inputs : List ArrayInfo) (made : ArrayInfo) → array_at (inputs ++ made ∷ []) (length inputs) ≡ made
at_made inputs made = get_or_at inputs made [] no_array (length inputs) refl

long : (inputs : List ArrayInfo) (made : ArrayInfo) → length (inputs ++ made ∷ []) ≡ length inputs + 1
long inputs made = length-append inputs (made ∷ [])

-- what is made is the last
only_made : (inputs : List ArrayInfo) (made : ArrayInfo) (a : ℕ) → All (λ i. i.maker ≡ None) inputs → a < length (inputs ++ made ∷ []) → maker_at (inputs ++ made ∷ []) a ≢ None → a ≡ length inputs
only_made inputs made a makers h some =
    let n = long inputs made in
    elim (cases_lt a (length inputs)) [
      | inl l ↦ absurd (some (ap (λ (i : ArrayInfo). i.maker) (at_input inputs made a l) ∙ makers a no_array l))
      | inr l ↦ omega (arith, n, h, l)
    ]

no_cells : (inputs : List ArrayInfo) → All (λ i. i.maker ≡ None) inputs → sum_by made_chunks inputs ≡ 0
no_cells [] h = refl
no_cells (i ∷ is) h =
    let first : made_chunks i ≡ 0 = none_made i (All-head (λ (x : ArrayInfo). x.maker ≡ None) i is h) in
    let rest = no_cells is (All-tail (λ (x : ArrayInfo). x.maker ≡ None) i is h) in
    sum_by-cons made_chunks i is ∙ (let e : made_chunks i + sum_by made_chunks is ≡ 0 = omega (arith, first, rest) in e)
  where
    none_counted : (m : Option ℕ) (chunks : ℕ) → m ≡ None → cells_by m chunks ≡ 0
    none_counted None chunks e = refl
    none_counted (Some k) chunks e = cc

    none_made : (i : ArrayInfo) → i.maker ≡ None → made_chunks i ≡ 0
    none_made i none = elim (bool_cases i.inlined) [ inl t ↦ rw t refl | inr f ↦ rw f (none_counted i.maker (array_chunk_count i) none) ]

made_few : (i : ArrayInfo) → made_chunks i ≤ array_chunk_count i
made_few i = elim (bool_cases i.inlined) [ inl t ↦ rw t (omega arith) | inr f ↦ rw f (at_most i.maker (array_chunk_count i)) ]
  where
    at_most : (m : Option ℕ) (chunks : ℕ) → cells_by m chunks ≤ chunks
    at_most None chunks = omega arith
    at_most (Some k) chunks = omega arith

cells_few : (inputs : List ArrayInfo) (made : ArrayInfo) → All (λ i. i.maker ≡ None) inputs → array_chunk_count made ≤ 65536 → sum_by made_chunks (inputs ++ made ∷ []) ≤ 262144
cells_few inputs made makers few =
    let whole = sum_by-append made_chunks inputs (made ∷ []) in
    let none = no_cells inputs makers in
    let one = made_few made in
    let last = sum_by-cons made_chunks made [] in
    omega (arith, whole, none, one, last, few)

-- the operation itself
writes_last : (op : Op) (array : ℕ) → Makes op array → writes_of op ≡ array ∷ []
writes_last op array h =
    let is = map_by_kernel op h.0 h.1 in
    ap writes_of is ∙ ap (λ a. a ∷ []) h.2

target_last : (op : Op) (array : ℕ) → Makes op array → target_of op ≡ array
target_last op array h = h.2

tasks_last : (op : Op) (arrays : List ArrayInfo) (array : ℕ) → Makes op array → regions_of arrays op ≡ array_chunk_count (array_at arrays array)
tasks_last op arrays array h =
    ap (regions_of arrays) (map_by_kernel op h.0 h.1) ∙ ap (λ a. array_chunk_count (array_at arrays a)) h.2

readable_input : (inputs : List ArrayInfo) (made : ArrayInfo) (a : ℕ) → All (λ i. i.maker ≡ None) inputs → a < length inputs → IsReadable (inputs ++ made ∷ []) 0 a
readable_input inputs made a makers h =
    let n = long inputs made in
    let none : maker_at (inputs ++ made ∷ []) a ≡ None = ap (λ (i : ArrayInfo). i.maker) (at_input inputs made a h) ∙ makers a no_array h in
    (omega (arith, n, h), subst (λ (m : Option ℕ). IsBefore m 0) (sym none) tt)

one_operation : (inputs : List ArrayInfo) (made : ArrayInfo) (o : Planned) → OneMap inputs made o.op → IsOperation (inputs ++ made ∷ []) 0 o.op
one_operation inputs made o m =
    let n = long inputs made in
    record {
      reads = λ k d h. readable_input inputs made (get_or (reads_of o.op) k d) m.makers (m.reads k d h);
      writes = subst (λ (ws : List ℕ). All (IsMadeBy (inputs ++ made ∷ []) 0) ws) (sym (writes_last o.op (length inputs) m.makes))
          (All-cons (IsMadeBy (inputs ++ made ∷ []) 0) (length inputs) []
          (omega (arith, n), ap (λ (i : ArrayInfo). i.maker) (at_made inputs made) ∙ m.maker) (All-nil (IsMadeBy (inputs ++ made ∷ []) 0)));
      fits = m.fits;
    }

pub one_map_sound : (inputs : List ArrayInfo) (made : ArrayInfo) (o : Planned) (allowed reserved : ℕ) → OneMap inputs made o.op → o.projected ≡ own_projection (inputs ++ made ∷ []) reserved o.op → o.projected < 2 ^ 64
    → Sound (record { arrays = inputs ++ made ∷ []; ops = o ∷ []; out = length inputs; allowed = allowed; reserved = reserved })
one_map_sound inputs made o allowed reserved m projected room =
    let n = long inputs made in
    let arrays : List ArrayInfo = inputs ++ made ∷ [] in
    let one = one_operation inputs made o m in
    let p : PlanView = record { arrays = inputs ++ made ∷ []; ops = o ∷ []; out = length inputs; allowed = allowed; reserved = reserved } in
    let alone = λ (k : ℕ). all_projection p k m.stored in
    let ok = All-append IsArray inputs (made ∷ []) m.given (All-cons IsArray made [] m.result (All-nil IsArray)) in
    let few = m.few in
    record {
      operations = single inputs made o one;
      projections = λ k h. subst (λ (j : ℕ). (operation_at (o ∷ []) j).projected ≡ projection p j) (only_one k h) (projected ∙ sym (alone 0));
      rooms = λ k h. subst (λ (j : ℕ). projection p j < 2 ^ 64) (only_one k h) (subst (λ (n : ℕ). n < 2 ^ 64) (projected ∙ sym (alone 0)) room);
      inlined = λ a h inner. let stored = m.stored a no_array h in cc;
      makers = λ a k h e. let last : a ≡ length inputs = only_made inputs made a m.makers h (λ none. cc) in
          let made_by : maker_at (inputs ++ made ∷ []) (length inputs) ≡ Some 0 = ap (λ (i : ArrayInfo). i.maker) (at_made inputs made) ∙ m.maker in
          let is_k : maker_at (inputs ++ made ∷ []) (length inputs) ≡ Some k = subst (λ (b : ℕ). maker_at (inputs ++ made ∷ []) b ≡ Some k) last e in
          let zero_is : 0 ≡ k = cc in
          subst (λ (j : ℕ). (j < 1) × Contains (writes_of (operation_at (o ∷ []) j).op) a) zero_is
          (omega arith, subst (λ (ws : List ℕ). Contains ws a) (sym (writes_last o.op (length inputs) m.makes)) (0, omega arith, sym last));
      arrays = ok;
      keys = keys_differ (inputs ++ made ∷ []) ok (record {
        encodings = λ a c. let last = only_made inputs made a m.makers c.within c.made in
            subst (λ (b : ℕ). (array_at (inputs ++ made ∷ []) b).layout.encoding ≡ Plain Slash) (sym last) (ap (λ (i : ArrayInfo). i.layout.encoding) (at_made inputs made) ∙ m.encoding);
        prefixes = λ a b ca cb e. only_made inputs made a m.makers ca.within ca.made ∙ sym (only_made inputs made b m.makers cb.within cb.made);
      });
      out = omega (arith, n);
      array_count = omega (arith, n, few);
      operation_count = omega arith;
      input_chunks = λ a h none. elim (cases_lt a (length inputs)) [
        | inl l ↦ subst (λ (i : ArrayInfo). array_chunk_count i ≤ 65536) (sym (at_input inputs made a l)) (m.given_chunks a no_array l)
        | inr l ↦ let last : a ≡ length inputs = omega (arith, n, h, l) in
            subst (λ (b : ℕ). array_chunk_count (array_at (inputs ++ made ∷ []) b) ≤ 65536) (sym last)
            (subst (λ (i : ArrayInfo). array_chunk_count i ≤ 65536) (sym (at_made inputs made)) m.result_chunks)
      ];
      tasks =
          let own = all_own (inputs ++ made ∷ []) o.op (subst (λ (b : ℕ). is_inlined (inputs ++ made ∷ []) b ≡ false) (sym (target_last o.op (length inputs) m.makes)) (m.stored (length inputs) no_array (omega (arith, n)))) in
          let t = tasks_last o.op (inputs ++ made ∷ []) (length inputs) m.makes in
          let e : array_chunk_count (array_at (inputs ++ made ∷ []) (length inputs)) ≡ array_chunk_count made = ap array_chunk_count (at_made inputs made) in
          let r = m.result_chunks in
          omega (arith, own, t, e, r);
      cells = cells_few inputs made m.makers m.result_chunks;
    }
  where
    single : (inputs : List ArrayInfo) (made : ArrayInfo) (o : Planned) → IsOperation (inputs ++ made ∷ []) 0 o.op → (k : ℕ) → k < 1 → IsOperation (inputs ++ made ∷ []) k (operation_at (o ∷ []) k).op
    single inputs made o one zero h = one
    single inputs made o one (suc k) h = absurd (omega arith)

    only_one : (k : ℕ) → k < 1 → 0 ≡ k
    only_one k h = omega arith

-- an array is aligned to one of its own grid
same_along : (ns cs : List ℕ) → length cs ≡ length ns → IsAlignedAlong ns cs ns cs
same_along [] [] e = tt
same_along [] (c ∷ cs) e = absurd (omega arith)
same_along (n ∷ ns) [] e = absurd (omega arith)
same_along (n ∷ ns) (c ∷ cs) e = (inl (refl, refl), same_along ns cs (omega arith))

pub same_aligned : (g : RegularGrid) → IsGrid g → IsAligned g g
same_aligned g ok =
    let none : 0 ≡ length g.shape - length g.shape = omega arith in
    record {
      rank = omega arith;
      axes = subst (λ (k : ℕ). IsAlignedAlong g.shape g.chunk (drop k g.shape) (drop k g.chunk)) none (same_along g.shape g.chunk ok.ranks);
    }

-- the kernel of an addition of two arrays of one integer type
pub add_fits : (t : Dtype) → IsInteger t → promotion t t ≡ Some t → KernelFits (Load 0 ∷ Load 1 ∷ Two Add t 0 1 ∷ []) (t ∷ t ∷ []) [] t
add_fits t h same =
    (Typed t, (t, refl, refl), (Typed t, (t, refl, refl), (Typed t, (Typed t, Typed t, refl, refl, same, is_integer-IsInteger t h, refl), refl)))

-- an input of an addition, and its result
alike_input : (inputs : List ArrayInfo) (made : ArrayInfo) (g : RegularGrid) (t : Dtype) (a : ℕ) → All (HasGridAndType g t) inputs → a < length inputs → HasGridAndType g t (array_at (inputs ++ made ∷ []) a)
alike_input inputs made g t a given h = subst (HasGridAndType g t) (sym (at_input inputs made a h)) (given a no_array h)

alike_made : (inputs : List ArrayInfo) (made : ArrayInfo) (g : RegularGrid) (t : Dtype) → HasGridAndType g t made → HasGridAndType g t (array_at (inputs ++ made ∷ []) (length inputs))
alike_made inputs made g t ok = subst (HasGridAndType g t) (sym (at_made inputs made)) ok

aligned_alike : (arrays : List ArrayInfo) (g : RegularGrid) (t : Dtype) (a out : ℕ) → HasGridAndType g t (array_at arrays a) → HasGridAndType g t (array_at arrays out) → IsAligned (grid_at arrays a) (grid_at arrays out)
aligned_alike arrays g t a out p q =
    subst (λ (r : RegularGrid). IsAligned (grid_at arrays a) r) (p.grid ∙ sym q.grid) (same_aligned (grid_at arrays a) p.array.grid)

pub add_one_map : ((t : Dtype) → promotion t t ≡ Some t) → (inputs : List ArrayInfo) (made : ArrayInfo) (g : RegularGrid) (t : Dtype) (i j : ℕ) → AddsAlike inputs made g t i j → OneMap inputs made (addition_of t i j (length inputs))
add_one_map stays inputs made g t i j h =
    let arrays : List ArrayInfo = inputs ++ made ∷ [] in
    let a = alike_input inputs made g t i h.given h.first in
    let b = alike_input inputs made g t j h.given h.second in
    let y = alike_made inputs made g t h.result in
    let P : ℕ → Type 0 = λ x. IsAligned (grid_at (inputs ++ made ∷ []) x) (grid_at (inputs ++ made ∷ []) (length inputs)) in
    let W : ℕ → Type 0 = λ x. x < length inputs in
    record {
      given = λ k d l. (h.given k d l).array;
      result = h.result.array;
      makers = h.makers;
      maker = h.maker;
      encoding = h.encoding;
      given_chunks = λ k d l. subst (λ (r : RegularGrid). product (grid_counts r) ≤ 65536) (sym (h.given k d l).grid) h.few_chunks;
      result_chunks = subst (λ (r : RegularGrid). product (grid_counts r) ≤ 65536) (sym h.result.grid) h.few_chunks;
      stored = h.stored;
      few = h.few;
      makes = (Load 0 ∷ Load 1 ∷ Two Add t 0 1 ∷ [], refl, refl);
      reads = All-cons W i (j ∷ []) h.first (All-cons W j [] h.second (All-nil W));
      fits = record {
        inputs = All-cons P i (j ∷ []) (aligned_alike (inputs ++ made ∷ []) g t i (length inputs) a y) (All-cons P j [] (aligned_alike (inputs ++ made ∷ []) g t j (length inputs) b y) (All-nil P));
        kernel = rw (a.dtype, b.dtype, y.dtype) (add_fits t h.integer (stays t));
      };
    }

-- ---- the projection of an operation fits 64 bits

written_few : (ws : List ℕ) (arrays : List ArrayInfo) → All IsArray arrays → largest (map (chunk_room arrays) ws) ≤ 2 ^ 43
written_few ws arrays ok = greatest_few (chunk_room arrays) (2 ^ 43) ws (λ k d h. any_room_few arrays (get_or ws k d) (get_or ws k d) ok)

pub projection_few : (op : Op) (arrays : List ArrayInfo) (reserved : ℕ) → All IsArray arrays → All (λ a. a < length arrays) (reads_of op) → target_of op < length arrays
    → length (reads_of op) ≤ 8 → instruction_count op ≤ 32 → HasSmallRegions op → reserved ≤ 2 ^ 40 → own_projection arrays reserved op < 2 ^ 64
projection_few op arrays reserved ok reads target ins code small few =
    let g = written_few (reads_of op) arrays ok in
    let w = written_few (writes_of op) arrays ok in
    let a = scratch_parts op arrays in
    let b = (laws_of op).inputs_few arrays ok reads ins small in
    let c = (laws_of op).outputs_few arrays ok in
    omega (arith, g, w, a, b, c)

-- an operation that fits its arrays has small regions
pub fits_small : (op : Op) (arrays : List ArrayInfo) → Fits arrays op → HasSmallRegions op
fits_small op = (laws_of op).small

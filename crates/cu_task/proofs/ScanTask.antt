-- A task of a carry or a scan: the regions that it reads, and what its sums are.
use Rattle.std.proofs.Common.{◌≡◌, ℕ, zero, suc, pred, ◌+◌, ◌-◌, ◌*◌, ◌/◌, ◌<◌, ◌≤◌, ℤ, ◌+ℤ◌, set, List, [], ◌∷◌, ◌++◌, length, drop, get_or, Option, None, Some, refl, sym, ap, ◌∙◌, subst, arith, inl, inr}
use Rattle.std.specs.Prelude.{option_map}
use Rattle.std.proofs.lemmas.Bool.Decides.{eqb_tells}
use Rattle.std.proofs.lemmas.List.{set-get_or, length-set, get_or-set_same}
use Rattle.std.proofs.lemmas.List.Elements.{All-get_or}
use Rattle.std.proofs.Math.Nat.{div-mul-le_self}
use Rattle.std.proofs.lemmas.Nat.{mul-le, div-mul-add, div-add-mod', mod_below}
use Rattle.cu_num.specs.Dtype.{size_of}
use Rattle.cu_num.specs.Element.{element_at}
use Rattle.cu_num.specs.Wrap.{wrapped}
use Rattle.cu_num.specs.declared.types.Dtype.{Dtype}
use Rattle.cu_num.specs.declared.folds.FoldKind.TheVariants.{Sum}
use Rattle.cu_num.specs.declared.layout.Endian.TheVariants.{Little}
use Rattle.cu_shape.specs.Index.{product, place_of, index_at, differences, IsInside}
use Rattle.cu_shape.proofs.Axes.{length-axis_by_axis, get_or-axis_by_axis}
use Rattle.cu_shape.proofs.Places.{index-inside}
use Rattle.cu_grid.specs.Counts.{IsWithin}
use Rattle.cu_grid.specs.Grid.{IsGrid, RegularGrid}
use Rattle.cu_grid.proofs.Regions.{coordinate-length}
use Rattle.cu_reduce.specs.Folds.{reduced_to}
use Rattle.cu_reduce.specs.Groups.{Groups, groups_from}
use Rattle.cu_reduce.specs.Levels.{carried}
use Rattle.cu_reduce.specs.Numbers.{HasNumber, line_element}
use Rattle.cu_reduce.specs.Places.{is_sought}
use Rattle.cu_reduce.specs.Prefix.{line_through, span, sum_below}
use Rattle.cu_reduce.specs.Tiers.{carry_at, scan_at}
use Rattle.cu_scan.specs.Scanned.{given_into, IsCarriedInto}
use Rattle.cu_scan.proofs.Told.{IsOneGroup, IsToldAbove, dims, below, beyond, one_row, one_group, differences_set, sum_told, within_axis, within_differences}
use Rattle.cu_op.specs.Along.{CarriesFor, chunk_on, group_walk, carried_walks, carried_array, carried_room}
use Rattle.cu_op.specs.Arrays.{grid_at, type_at, grid_counts, chunk_room}
use Rattle.cu_op.specs.Kind.Carry.{CarryFits}
use Rattle.cu_op.specs.Kind.Scan.{ScanFits}
use Rattle.cu_op.specs.Chunks.{walk}
use Rattle.cu_op.specs.Partial.{partial_chunk, place_groups, merge_groups, partial_grid}
use Rattle.cu_op.specs.Elements.{Elements}
use Rattle.cu_op.specs.declared.layout.ArrayInfo.{ArrayInfo}
use Rattle.cu_op.specs.declared.walks.Walk.{Walk}
use Rattle.cu_op.proofs.Filled.{IsFilled, chunk_filled, filled_lengths, filled_at}
use Rattle.cu_op.proofs.Spans.{IsSpan, IsSpanOn, chunk_span, span_at, span_few}
use Rattle.cu_region.specs.Writing.{buffer_element}
use Rattle.cu_task.specs.Inputs.{walk_room, room_of_walks, HasRegions, HasRegion}
use Rattle.cu_task.proofs.InputReads.{reads_part}
use Rattle.cu_task.proofs.PartialTasks.{result_lo, result_hi}
use Rattle.cu_task.proofs.PartialValues.{number_at}

-- ---- sizes of which one is changed

pub product_set : (ns : List ℕ) (axis n : ℕ) → axis < length ns → product (set ns axis n) ≡ n * product (set ns axis 1)
product_set [] axis n b = absurd (omega arith)
product_set (m ∷ ns) zero n b = omega arith
product_set (m ∷ ns) (suc axis) n b = ap (λ p. m * p) (product_set ns axis n (omega arith)) ∙ turned m n (product (set ns axis 1))
  where
    turned : (a b c : ℕ) → a * (b * c) ≡ b * (a * c)
    turned a b c = omega arith

pub one_size : (ns : List ℕ) (axis : ℕ) → get_or ns axis 0 ≡ 1 → set ns axis 1 ≡ ns
one_size ns axis e = ap (set ns axis) (sym e) ∙ set-get_or ns axis 0

set_few : (ns cs ls hs : List ℕ) (axis : ℕ) → IsSpan ns cs ls hs → product (set (differences hs ls) axis 1) ≤ product (set cs axis 1)
set_few [] [] [] [] axis s = omega arith
set_few (n ∷ ns) (c ∷ cs) (l ∷ ls) (h ∷ hs) zero s = mul-le 1 (product (differences hs ls)) 1 (product cs) (omega arith) (span_few ns cs ls hs s.1)
set_few (n ∷ ns) (c ∷ cs) (l ∷ ls) (h ∷ hs) (suc axis) s =
    mul-le (h - l) (product (set (differences hs ls) axis 1)) c (product (set cs axis 1)) (few_on n c l h s.0) (set_few ns cs ls hs axis s.1)
  where
    few_on : (n c l h : ℕ) → IsSpanOn n c l h → h - l ≤ c
    few_on n c l h s =
        let a = s.starts in
        let b = s.ends in
        let m : (s.number + 1) * c ≡ s.number * c + c = omega arith in
        omega (arith, a, b, m)
set_few ns cs ls hs axis s = absurd s

-- results along one axis stand in chunks of one there
kept_chunk : (first axis : ℕ) (cs : List ℕ) → axis < first → partial_chunk (groups_from (is_sought (Some axis)) first cs) cs ≡ cs
kept_chunk first axis [] b = refl
kept_chunk first axis (c ∷ cs) b =
    elim (eqb_tells first axis) [
      | inl p ↦ let e = p.1 in absurd (omega arith)
      | inr p ↦ rw p.0 (ap (λ xs. c ∷ xs) (kept_chunk (first + 1) axis cs (omega arith)))
    ]

sought_chunk : (first axis k : ℕ) (cs : List ℕ) → axis ≡ first + k → partial_chunk (groups_from (is_sought (Some axis)) first cs) cs ≡ set cs k 1
sought_chunk first axis k [] e = refl
sought_chunk first axis zero (c ∷ cs) e =
    elim (eqb_tells first axis) [
      | inl p ↦ rw p.0 (ap (λ xs. 1 ∷ xs) (kept_chunk (first + 1) axis cs (omega arith)))
      | inr p ↦ absurd (p.1 (omega arith))
    ]
sought_chunk first axis (suc k) (c ∷ cs) e =
    elim (eqb_tells first axis) [
      | inl p ↦ let f = p.1 in absurd (omega arith)
      | inr p ↦ rw p.0 (ap (λ xs. c ∷ xs) (sought_chunk (first + 1) axis k cs (omega arith)))
    ]

differences_at : (ls hs is : List ℕ) (axis : ℕ) → IsWithin ls hs is → get_or (differences is ls) axis 0 ≡ get_or is axis 0 - get_or ls axis 0
differences_at [] [] [] axis w = refl
differences_at (l ∷ ls) (h ∷ hs) (i ∷ is) zero w = refl
differences_at (l ∷ ls) (h ∷ hs) (i ∷ is) (suc axis) w = differences_at ls hs is axis w.2
differences_at ls hs is axis w = absurd w

-- a region that is one chunk is of one group of a chunk's size
record IsOneOn (c l h : ℕ) : Type 0 where
  same : pred h / c ≡ l / c
  start : l / c * c ≡ l

chunk_group : (n c l h : ℕ) → 0 < c → IsSpanOn n c l h → l < h → IsOneOn c l h
chunk_group n c l zero p s b = absurd (omega arith)
chunk_group n c l (suc h) p s b =
    let k = s.number in
    let starts = s.starts in
    let ends = s.ends in
    let more : (s.number + 1) * c ≡ s.number * c + c = omega arith in
    let none : l ≡ s.number * c + 0 = omega (arith, starts) in
    let rest : h ≡ s.number * c + (h - s.number * c) = omega (arith, starts, b) in
    let first : l / c ≡ s.number = ap (λ x. x / c) none ∙ div-mul-add s.number c 0 p in
    let last : h / c ≡ s.number = ap (λ x. x / c) rest ∙ div-mul-add s.number c (h - s.number * c) (omega (arith, ends, more, p)) in
    record { same = last ∙ sym first; start = ap (λ x. x * c) first ∙ sym starts }

-- a place is less than a group behind the start of its group
group_reach : (l g : ℕ) → 0 < g → l - l / g * g ≤ g
group_reach l g p = let e = div-add-mod' l g in let m = mod_below l g p in omega (arith, e, m)

-- ---- the regions of a task, and what is read of them

-- what is carried in has the result's type
abbrev pub IsTyped : List ArrayInfo → ℕ → Option ℕ → Type 0
IsTyped arrays out None = Unit {0}
IsTyped arrays out (Some a) = type_at arrays a ≡ type_at arrays out

typed_of : (arrays : List ArrayInfo) (gs : Groups) (source out : ℕ) (above : Option ℕ) → CarriesFor arrays gs source out above → IsTyped arrays out above
typed_of arrays gs source out None c = tt
typed_of arrays gs source out (Some a) c = c.2

-- the bytes of what is carried in
abbrev pub beside_room : List ArrayInfo → Option ℕ → ℕ → ℕ → List ℕ → List ℕ → ℕ
beside_room arrays None axis s lo hi = 0
beside_room arrays (Some a) axis s lo hi = walk_room arrays (walk a (set lo axis (get_or lo axis 0 / s)) (set hi axis (suc (pred (get_or hi axis 0) / s))))

pub rooms_split : (arrays : List ArrayInfo) (above : Option ℕ) (w : Walk) (axis s : ℕ) (lo hi : List ℕ)
    → room_of_walks arrays (w ∷ carried_walks above axis s lo hi) ≡ walk_room arrays w + beside_room arrays above axis s lo hi
rooms_split arrays None w axis s lo hi = one (walk_room arrays w)
  where
    one : (a : ℕ) → 0 + a ≡ a + 0
    one a = omega arith
rooms_split arrays (Some b) w axis s lo hi = two (walk_room arrays w) _
  where
    two : (a b : ℕ) → 0 + a + b ≡ a + b
    two a b = omega arith

-- the region of the elements in front, that of what is carried in behind it
pub record Cut (room : ℕ) (input front behind : List ℕ) : Type 0 where
  pub long : length front ≡ room
  pub whole : input ≡ front ++ behind
  pub rest : drop room input ≡ behind

module _ (arrays : List ArrayInfo) (axis s source out end : ℕ) (lo hi : List ℕ) (w : IsOneGroup axis s lo hi) where
  abbrev own : Walk
  own = group_walk source axis s end lo hi

  abbrev pub sizes : List ℕ
  sizes = dims axis s end lo hi w

  pub given_room : (above : Option ℕ) (buf : List ℕ) → IsTyped arrays out above → length buf ≡ beside_room arrays above axis s lo hi
      → IsCarriedInto (type_at arrays out) (product (set sizes axis 1)) buf
  given_room None buf typed e some = absurd (omega arith)
  given_room (Some a) buf typed e some =
      let count : product (set sizes axis 1) * size_of (type_at arrays out) ≡ length buf =
      (λ i. product (sym (one_group axis s end lo hi w) i) * size_of (sym typed i)) ∙ sym e in
      omega (arith, count)

  above_told : (above : Option ℕ) (at : Elements) (buf : List ℕ) → IsTyped arrays out above → length buf ≡ beside_room arrays above axis s lo hi
      → HasRegions arrays at (carried_walks above axis s lo hi) buf
      → IsToldAbove (option_map at above) (type_at arrays out) (below axis s end lo hi w) (beyond axis s end lo hi w) buf
  above_told None at buf typed e has = e
  above_told (Some a) at buf typed e has =
      subst (λ (t : Dtype). IsToldAbove (Some (at a)) t (below axis s end lo hi w) (beyond axis s end lo hi w) buf) typed (has.0, omega (arith, e))

  -- the sum up to below a place
  pub sum_is : (above : Option ℕ) (at : Elements) (input front behind : List ℕ) → Cut (walk_room arrays own) input front behind → IsTyped arrays out above
      → length behind ≡ beside_room arrays above axis s lo hi → HasRegions arrays at (own ∷ carried_walks above axis s lo hi) input
      → (idx : List ℕ) (up : ℕ) → IsWithin lo hi idx → get_or lo axis 0 / s * s ≤ up → up ≤ end
      → reduced_to Sum (type_at arrays out) (carried (option_map (λ a. line_through a axis idx) (carried_array at above)) (get_or idx axis 0 / s)
      ++ span (line_through (at source) axis idx) (get_or idx axis 0 / s * s) up)
      ≡ Some (wrapped (type_at arrays out) (given_into (type_at arrays out) sizes axis behind (differences idx lo)
      +ℤ sum_below (line_element (type_at arrays source) sizes axis front (differences idx lo)) (up - get_or lo axis 0 / s * s)))
  sum_is above at input front behind cut typed long has idx up within low high =
      let reads = subst (λ (b : List ℕ). HasRegion (type_at arrays source) (at source) own.region.lo own.region.hi b) cut.whole has.0 in
      let rest = subst (HasRegions arrays at (carried_walks above axis s lo hi)) cut.rest has.1 in
      sum_told (type_at arrays source) (type_at arrays out) axis s end up lo hi idx w within low high (at source) (option_map at above) front behind
      (reads_part (type_at arrays source) (at source) own.region.lo own.region.hi front behind cut.long reads) (above_told above at behind typed long rest)

-- the region of a task of a grid's chunks
task_filled : (g : RegularGrid) (task : ℕ) → IsGrid g → task < product (grid_counts g) → IsFilled g.shape (result_lo g task) (result_hi g task)
task_filled g task ok h = chunk_filled g.shape g.chunk (index_at (grid_counts g) task) ok.positive ok.ranks (index-inside (grid_counts g) task h)

task_span : (g : RegularGrid) (task : ℕ) → IsGrid g → task < product (grid_counts g) → IsSpan g.shape g.chunk (result_lo g task) (result_hi g task)
task_span g task ok h = chunk_span g.shape g.chunk (index_at (grid_counts g) task) ok.ranks (coordinate-length g (index_at (grid_counts g) task) ok (index-inside (grid_counts g) task h))

chunk_some : (g : RegularGrid) (axis : ℕ) → IsGrid g → axis < length g.shape → 0 < chunk_on g axis
chunk_some g axis ok b = let r = ok.ranks in All-get_or (λ (n : ℕ). 0 < n) g.chunk axis 0 (omega (arith, r, b)) ok.positive

-- what the calls write
abbrev pub ScansAs : Dtype → Dtype → List ℕ → ℕ → List ℕ → List ℕ → List ℕ → Type 0
ScansAs t acc ds axis input carry out = (i : List ℕ) → IsInside ds i
    → HasNumber acc out (place_of ds i) (given_into acc ds axis carry i +ℤ sum_below (line_element t ds axis input i) (suc (get_or i axis 0)))

abbrev pub CarriesAs : Dtype → List ℕ → ℕ → List ℕ → List ℕ → List ℕ → Type 0
CarriesAs acc ds axis sums above out = (i : List ℕ) → IsInside (set ds axis 1) i
    → element_at Little acc out (place_of (set ds axis 1) i) ≡ wrapped acc (given_into acc ds axis above i +ℤ sum_below (line_element acc ds axis sums i) (get_or ds axis 0))

-- ---- a task of a scan

module _ (arrays : List ArrayInfo) (axis source : ℕ) (carry : Option ℕ) (out task : ℕ) (f : ScanFits arrays axis source carry out) (ok : IsGrid (grid_at arrays out)) (h : task < product (grid_counts (grid_at arrays out))) where
  abbrev o : RegularGrid
  o = grid_at arrays out

  abbrev pub scan_lo : List ℕ
  scan_lo = result_lo o task

  abbrev pub scan_hi : List ℕ
  scan_hi = result_hi o task

  abbrev pub scan_size : ℕ
  scan_size = chunk_on (grid_at arrays source) axis

  scan_along : axis < length o.shape
  scan_along = let a = f.along in let e = ap (λ (g : RegularGrid). length g.shape) f.grid in omega (arith, a, e)

  scan_filled : IsFilled o.shape scan_lo scan_hi
  scan_filled = task_filled o task ok h

  scan_span : IsSpan o.shape o.chunk scan_lo scan_hi
  scan_span = task_span o task ok h

  scan_on : IsOneOn scan_size (get_or scan_lo axis 0) (get_or scan_hi axis 0)
  scan_on =
      let same : chunk_on o axis ≡ scan_size = ap (λ (g : RegularGrid). chunk_on g axis) f.grid in
      subst (λ c. IsOneOn c (get_or scan_lo axis 0) (get_or scan_hi axis 0)) same
      (chunk_group (get_or o.shape axis 0) (chunk_on o axis) (get_or scan_lo axis 0) (get_or scan_hi axis 0) (chunk_some o axis ok scan_along)
      (span_at axis o.shape o.chunk scan_lo scan_hi scan_span scan_along) (filled_at o.shape scan_lo scan_hi axis scan_filled scan_along).0)

  pub scan_one : IsOneGroup axis scan_size scan_lo scan_hi
  scan_one = record {
    some = subst (λ c. 0 < c) (ap (λ (g : RegularGrid). chunk_on g axis) f.grid) (chunk_some o axis ok scan_along);
    along = (let a = scan_along in let e = (filled_lengths o.shape scan_lo scan_hi scan_filled).0 in omega (arith, a, e));
    one = scan_on.same;
  }

  pub scan_typed : IsTyped arrays out carry
  scan_typed = typed_of arrays (place_groups (Some axis) (grid_at arrays source)) source out carry f.carried

  -- the source's region is the task's
  abbrev pub scan_sizes : List ℕ
  scan_sizes = sizes arrays axis scan_size source out (get_or scan_hi axis 0) scan_lo scan_hi scan_one

  pub scan_region_is : scan_sizes ≡ differences scan_hi scan_lo
  scan_region_is =
      (λ i. differences (set-get_or scan_hi axis 0 i) (set scan_lo axis (scan_on.start i))) ∙ ap (differences scan_hi) (set-get_or scan_lo axis 0)

  pub scan_rank : axis < length scan_sizes
  scan_rank =
      let e = filled_lengths o.shape scan_lo scan_hi scan_filled in
      let n = length-axis_by_axis (λ i j. i - j) scan_hi scan_lo (e.1 ∙ sym e.0) in
      let a = scan_along in
      let same = ap length scan_region_is in
      omega (arith, a, n, same, e.1)

  -- what it keeps
  scan_few : product scan_sizes ≤ product (grid_at arrays source).chunk
  scan_few =
      let few = span_few o.shape o.chunk scan_lo scan_hi scan_span in
      let same = ap product scan_region_is in
      let grid = ap (λ (g : RegularGrid). product g.chunk) f.grid in
      omega (arith, few, same, grid)

  scan_few_beside : product (set scan_sizes axis 1) ≤ product (partial_grid (place_groups (Some axis) (grid_at arrays source)) (grid_at arrays source)).chunk
  scan_few_beside =
      let few = set_few o.shape o.chunk scan_lo scan_hi axis scan_span in
      let same = ap product (one_row axis scan_size (get_or scan_hi axis 0) scan_lo scan_hi scan_one) in
      let grid = ap (λ (g : RegularGrid). product (set g.chunk axis 1)) f.grid in
      let chunk = ap product (sought_chunk 0 axis axis (grid_at arrays source).chunk (omega arith)) in
      omega (arith, few, same, grid, chunk)

  scan_beside_room : (above : Option ℕ) → CarriesFor arrays (place_groups (Some axis) (grid_at arrays source)) source out above
      → beside_room arrays above axis scan_size scan_lo scan_hi ≤ carried_room arrays above
  scan_beside_room None c = omega arith
  scan_beside_room (Some a) c =
      let few = scan_few_beside in
      let count = ap product (one_group axis scan_size (get_or scan_hi axis 0) scan_lo scan_hi scan_one) in
      let grid = ap (λ (g : RegularGrid). product g.chunk) c.1 in
      mul-le _ (size_of (type_at arrays a)) (product (grid_at arrays a).chunk) (size_of (type_at arrays a)) (omega (arith, few, count, grid)) (omega arith)

  pub scan_room : room_of_walks arrays (group_walk source axis scan_size (get_or scan_hi axis 0) scan_lo scan_hi ∷ carried_walks carry axis scan_size scan_lo scan_hi)
      ≤ chunk_room arrays source + carried_room arrays carry
  scan_room =
      let own = mul-le (product scan_sizes) (size_of (type_at arrays source)) (product (grid_at arrays source).chunk) (size_of (type_at arrays source)) scan_few (omega arith) in
      let beside = scan_beside_room carry f.carried in
      let both = rooms_split arrays carry (group_walk source axis scan_size (get_or scan_hi axis 0) scan_lo scan_hi) axis scan_size scan_lo scan_hi in
      omega (arith, own, beside, both)

  -- what it makes
  pub scan_is : (at : Elements) (input front behind output : List ℕ) → Cut (walk_room arrays (group_walk source axis scan_size (get_or scan_hi axis 0) scan_lo scan_hi)) input front behind
      → length behind ≡ beside_room arrays carry axis scan_size scan_lo scan_hi
      → HasRegions arrays at (group_walk source axis scan_size (get_or scan_hi axis 0) scan_lo scan_hi ∷ carried_walks carry axis scan_size scan_lo scan_hi) input
      → ScansAs (type_at arrays source) (type_at arrays out) scan_sizes axis front behind output
      → (idx : List ℕ) → IsWithin scan_lo scan_hi idx
      → scan_at (type_at arrays out) axis scan_size (at source) (carried_array at carry) idx ≡ buffer_element (type_at arrays out) scan_lo scan_hi output idx
  scan_is at input front behind output cut long has sums idx within =
      let a = within_axis scan_lo scan_hi idx axis within scan_one.along in
      let start = scan_on.start in
      let base = differences idx scan_lo in
      let inside : IsInside scan_sizes (differences idx scan_lo) = subst (λ (ds : List ℕ). IsInside ds (differences idx scan_lo)) (sym scan_region_is) (within_differences scan_lo scan_hi idx within) in
      let there = differences_at scan_lo scan_hi idx axis within in
      let count : suc (get_or idx axis 0) - get_or scan_lo axis 0 / scan_size * scan_size ≡ suc (get_or (differences idx scan_lo) axis 0) = omega (arith, a, start, there) in
      let X : ℕ → ℤ = λ n. given_into (type_at arrays out) scan_sizes axis behind (differences idx scan_lo) +ℤ sum_below (line_element (type_at arrays source) scan_sizes axis front (differences idx scan_lo)) n in
      sum_is arrays axis scan_size source out (get_or scan_hi axis 0) scan_lo scan_hi scan_one carry at input front behind cut scan_typed long has idx (suc (get_or idx axis 0)) within
      (omega (arith, a, start)) (omega (arith, a))
      ∙ ap (λ n. Some (wrapped (type_at arrays out) (X n))) count
      ∙ ap (λ x. Some x) (sym (number_at (type_at arrays out) output (place_of scan_sizes (differences idx scan_lo)) (X (suc (get_or (differences idx scan_lo) axis 0))) (sums (differences idx scan_lo) inside)))
      ∙ ap (λ (ds : List ℕ). Some (element_at Little (type_at arrays out) output (place_of ds (differences idx scan_lo)))) scan_region_is

-- ---- a task of a carry

module _ (arrays : List ArrayInfo) (axis group sums : ℕ) (above : Option ℕ) (out task : ℕ) (f : CarryFits arrays axis group sums above out) (ok : IsGrid (grid_at arrays out)) (h : task < product (grid_counts (grid_at arrays out))) where
  abbrev r : RegularGrid
  r = grid_at arrays out

  abbrev pub carry_lo : List ℕ
  carry_lo = result_lo r task

  abbrev pub carry_hi : List ℕ
  carry_hi = result_hi r task

  -- below the region's end
  abbrev pub carry_end : ℕ
  carry_end = pred (get_or carry_hi axis 0)

  carry_along : axis < length r.shape
  carry_along = let a = f.along in let e = ap (λ (g : RegularGrid). length g.shape) f.grid in omega (arith, a, e)

  carry_filled : IsFilled r.shape carry_lo carry_hi
  carry_filled = task_filled r task ok h

  carry_span : IsSpan r.shape r.chunk carry_lo carry_hi
  carry_span = task_span r task ok h

  -- it has one place on the axis
  carry_ends : get_or carry_hi axis 0 ≡ suc (get_or carry_lo axis 0)
  carry_ends =
      let same : chunk_on r axis ≡ 1 = ap (λ (g : RegularGrid). chunk_on g axis) f.grid ∙ f.single in
      let on = subst (λ c. IsSpanOn (get_or r.shape axis 0) c (get_or carry_lo axis 0) (get_or carry_hi axis 0)) same (span_at axis r.shape r.chunk carry_lo carry_hi carry_span carry_along) in
      let some = (filled_at r.shape carry_lo carry_hi axis carry_filled carry_along).0 in
      let starts = on.starts in
      let ends = on.ends in
      omega (arith, starts, ends, some)

  carry_last : carry_end ≡ get_or carry_lo axis 0
  carry_last = ap pred carry_ends

  pub carry_one : IsOneGroup axis group carry_lo carry_hi
  carry_one = record {
    some = f.some;
    along = (let a = carry_along in let e = (filled_lengths r.shape carry_lo carry_hi carry_filled).0 in omega (arith, a, e));
    one = ap (λ n. n / group) carry_last;
  }

  pub carry_typed : IsTyped arrays out above
  carry_typed = typed_of arrays (merge_groups axis group (grid_at arrays sums)) sums out above f.carried

  abbrev pub carry_sizes : List ℕ
  carry_sizes = sizes arrays axis group sums out carry_end carry_lo carry_hi carry_one

  carry_lengths : (length carry_lo ≡ length r.shape) × (length carry_hi ≡ length r.shape)
  carry_lengths = filled_lengths r.shape carry_lo carry_hi carry_filled

  carry_width : length (differences carry_hi carry_lo) ≡ length r.shape
  carry_width =
      let e = carry_lengths in
      length-axis_by_axis (λ i j. i - j) carry_hi carry_lo (e.1 ∙ sym e.0) ∙ e.1

  pub carry_rank : axis < length carry_sizes
  carry_rank =
      let n = ap length (differences_set carry_hi carry_lo axis carry_end (get_or carry_lo axis 0 / group * group)) ∙ length-set (differences carry_hi carry_lo) axis (carry_end - get_or carry_lo axis 0 / group * group) ∙ carry_width in
      let a = carry_along in
      omega (arith, a, n)

  -- with one place on the axis the region of the sums is the task's
  pub carry_row : set carry_sizes axis 1 ≡ differences carry_hi carry_lo
  carry_row =
      let e = carry_lengths in
      let a = carry_along in
      let at = get_or-axis_by_axis (λ i j. i - j) carry_hi carry_lo axis (omega (arith, e.1, a)) (omega (arith, e.0, a)) in
      let ends = carry_ends in
      one_row axis group carry_end carry_lo carry_hi carry_one ∙ one_size (differences carry_hi carry_lo) axis (omega (arith, at, ends))

  -- what it keeps
  carry_row_few : product (set carry_sizes axis 1) ≤ product (grid_at arrays sums).chunk
  carry_row_few =
      let few = span_few r.shape r.chunk carry_lo carry_hi carry_span in
      let same = ap product carry_row in
      let grid = ap (λ (g : RegularGrid). product g.chunk) f.grid in
      omega (arith, few, same, grid)

  carry_few : product carry_sizes ≤ group * product (grid_at arrays sums).chunk
  carry_few =
      let first = get_or carry_lo axis 0 / group * group in
      let all : product carry_sizes ≡ (carry_end - first) * product (set (differences carry_hi carry_lo) axis 1) =
      ap product (differences_set carry_hi carry_lo axis carry_end first) ∙ product_set (differences carry_hi carry_lo) axis (carry_end - first) (let n = carry_width in let a = carry_along in omega (arith, n, a)) in
      let row = ap product (one_row axis group carry_end carry_lo carry_hi carry_one) in
      let few = carry_row_few in
      let last = carry_last in
      let reach = group_reach (get_or carry_lo axis 0) group f.some in
      let most = mul-le (carry_end - first) (product (set (differences carry_hi carry_lo) axis 1)) group (product (grid_at arrays sums).chunk) (omega (arith, last, reach)) (omega (arith, row, few)) in
      omega (arith, all, most)

  carry_beside_room : (over : Option ℕ) → IsTyped arrays out over → beside_room arrays over axis group carry_lo carry_hi ≤ chunk_room arrays sums
  carry_beside_room None typed = omega arith
  carry_beside_room (Some a) typed =
      let few = carry_row_few in
      let count = ap product (one_group axis group carry_end carry_lo carry_hi carry_one) in
      let types : size_of (type_at arrays a) ≡ size_of (type_at arrays sums) = ap size_of (typed ∙ f.types) in
      mul-le _ (size_of (type_at arrays a)) (product (grid_at arrays sums).chunk) (size_of (type_at arrays sums)) (omega (arith, few, count)) (omega (arith, types))

  pub carry_room : room_of_walks arrays (group_walk sums axis group carry_end carry_lo carry_hi ∷ carried_walks above axis group carry_lo carry_hi) ≤ (group + 1) * chunk_room arrays sums
  carry_room =
      let own = mul-le (product carry_sizes) (size_of (type_at arrays sums)) (group * product (grid_at arrays sums).chunk) (size_of (type_at arrays sums)) carry_few (omega arith) in
      let beside = carry_beside_room above carry_typed in
      let both = rooms_split arrays above (group_walk sums axis group carry_end carry_lo carry_hi) axis group carry_lo carry_hi in
      let turned = turn group (product (grid_at arrays sums).chunk) (size_of (type_at arrays sums)) in
      omega (arith, own, beside, both, turned)
    where
      turn : (g c s : ℕ) → (g + 1) * (c * s) ≡ g * c * s + c * s
      turn g c s = omega arith

  -- what it makes
  pub carry_is : (at : Elements) (input front behind output : List ℕ) → Cut (walk_room arrays (group_walk sums axis group carry_end carry_lo carry_hi)) input front behind
      → length behind ≡ beside_room arrays above axis group carry_lo carry_hi
      → HasRegions arrays at (group_walk sums axis group carry_end carry_lo carry_hi ∷ carried_walks above axis group carry_lo carry_hi) input
      → CarriesAs (type_at arrays out) carry_sizes axis front behind output
      → (idx : List ℕ) → IsWithin carry_lo carry_hi idx
      → carry_at (type_at arrays out) axis group (at sums) (carried_array at above) idx ≡ buffer_element (type_at arrays out) carry_lo carry_hi output idx
  carry_is at input front behind output cut long has totals idx within =
      let a = within_axis carry_lo carry_hi idx axis within carry_one.along in
      let last = carry_last in
      let ends = carry_ends in
      let start = div-mul-le_self (get_or carry_lo axis 0) group in
      let acc = type_at arrays out in
      let inside : IsInside (set carry_sizes axis 1) (differences idx carry_lo) = subst (λ (ds : List ℕ). IsInside ds (differences idx carry_lo)) (sym carry_row) (within_differences carry_lo carry_hi idx within) in
      let e = carry_lengths in
      let b = carry_along in
      let size : get_or carry_sizes axis 0 ≡ carry_end - get_or carry_lo axis 0 / group * group =
      ap (λ (ds : List ℕ). get_or ds axis 0) (differences_set carry_hi carry_lo axis carry_end (get_or carry_lo axis 0 / group * group))
      ∙ get_or-set_same (differences carry_hi carry_lo) axis (carry_end - get_or carry_lo axis 0 / group * group) 0 (let n = carry_width in omega (arith, n, b)) in
      let count : get_or idx axis 0 - get_or carry_lo axis 0 / group * group ≡ get_or carry_sizes axis 0 = omega (arith, a, ends, last, size) in
      let X : Dtype → ℕ → ℤ = λ t n. given_into acc carry_sizes axis behind (differences idx carry_lo) +ℤ sum_below (line_element t carry_sizes axis front (differences idx carry_lo)) n in
      sum_is arrays axis group sums out carry_end carry_lo carry_hi carry_one above at input front behind cut carry_typed long has idx (get_or idx axis 0) within
      (omega (arith, a, start)) (omega (arith, a, ends, last))
      ∙ (λ i. Some (wrapped acc (X (sym f.types i) (count i))))
      ∙ ap (λ x. Some x) (sym (totals (differences idx carry_lo) inside))
      ∙ ap (λ (ds : List ℕ). Some (element_at Little acc output (place_of ds (differences idx carry_lo)))) carry_row

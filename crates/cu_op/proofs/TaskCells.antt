-- The chunks that the tasks of a sound plan write and read.
use Rattle.cu_op.proofs.KindLaws.{laws_of}
use Rattle.cu_op.proofs.Members.{bool_cases, only_member}
use Rattle.cu_op.specs.Within.{with_inlined}
use Rattle.std.proofs.Common.{◌≡◌, ◌≢◌, ℕ, pred, ◌<◌, List, [], length, map, All, Contains, Option, None, Some, get_or, refl, ap, sym, ◌∙◌, subst, inl, inr, false, arith}
use Rattle.std.proofs.lemmas.List.Elements.{All-contains, All-map, All-contains_itself}
use Rattle.cu_shape.specs.Index.{place_of, quotients, IsInside}
use Rattle.cu_shape.proofs.Places.{index-inside, index-place, place-below, place-index}
use Rattle.cu_grid.specs.Counts.{chunk_lo, chunk_hi, IsRegion}
use Rattle.cu_grid.specs.Cover.{Meets}
use Rattle.cu_grid.specs.Grid.{RegularGrid, IsGrid, IsCoordinate, IsInChunk}
use Rattle.cu_grid.proofs.Parting.{in_array, has_coordinate, lies_within}
use Rattle.cu_op.specs.declared.cells.Cell.{Cell}
use Rattle.cu_op.specs.declared.operation.Op.{Op}
use Rattle.cu_op.specs.declared.walks.Walk.{Walk}
use Rattle.cu_op.specs.Arrays.{grid_at, maker_at, grid_counts, is_inlined}
use Rattle.cu_op.specs.Chunks.{cell, walk}
use Rattle.cu_op.specs.Cells.{task_grid, task_coord, task_lo, task_hi, IsChunk, regions_of}
use Rattle.cu_op.specs.Operation.{reads_of, writes_of, IsMadeBy, IsReadable, target_of, Fits}
use Rattle.cu_op.specs.PlanView.{PlanView}
use Rattle.cu_op.specs.Schedule.{op_of, IsNested, task_at, WritesCell, IsReady, MakesChunk}
use Rattle.cu_op.specs.Sound.{Sound, IsCell}
use Rattle.cu_op.specs.Elements.{Elements}
use Rattle.cu_op.specs.Value.{ReadsAt, rule, plan_value, stored_inputs}
use Rattle.cu_op.specs.Walks.{IsWalkOver, walk_cells, new_walks, output_walks, input_walks, written_chunks, read_chunks, EachOnce}
use Rattle.cu_op.proofs.CellsOfTasks.{map_contains}
use Rattle.cu_op.proofs.Filled.{filled_first, filled_last}
use Rattle.cu_op.proofs.Operations as ops
use Rattle.cu_op.proofs.Operations.{Fit, target_among}
pub use Rattle.cu_op.proofs.MapRegions.{region_lengths, read_over, read_within}
use Rattle.cu_op.proofs.Nested.{meets_own, begins_in}
use Rattle.cu_op.proofs.Plans.{grid_ok, all_own, inner_kind, own_region}
use Rattle.cu_op.proofs.Values.{rule_reads, value_solves}
use Rattle.cu_op.proofs.WalksOf.{walk_of, apart_each}
use Rattle.cu_op.proofs.WalkCells.{kept_walk, All-new_walks, different, walk_meets, meets_walk, one_walk, from_walk, All-cells, cells_once}

module _ (p : PlanView) (s : Sound p) (k : ℕ) where
  abbrev pub grids : (a : ℕ) → a < length p.arrays → IsGrid (grid_at p.arrays a)
  grids a h = grid_ok p a s h

  module _ (op : Op) (fit : Fit p.arrays k op) where
    region_of : (task : ℕ) → task < regions_of p.arrays op → IsRegion (task_grid p.arrays op).shape (task_lo p.arrays op task) (task_hi p.arrays op task)
    region_of task h = ops.region_of p.arrays grids k op task fit h

    nested_writes : All (λ a. IsNested (grid_at p.arrays a) (task_grid p.arrays op)) (writes_of op)
    nested_writes = ops.nested_writes p.arrays grids k op fit

    tasks_ok : IsGrid (task_grid p.arrays op)
    tasks_ok = ops.grid_of_tasks p.arrays grids k op fit

    -- a task's region, by its first and its last index
    pub task_first : (task : ℕ) → task < regions_of p.arrays op → IsInside (task_grid p.arrays op).shape (task_lo p.arrays op task)
    task_first task h = filled_first (task_grid p.arrays op).shape (task_lo p.arrays op task) (task_hi p.arrays op task) (ops.filled_of p.arrays grids k op task fit h)

    pub task_last : (task : ℕ) → task < regions_of p.arrays op → IsInside (task_grid p.arrays op).shape (map pred (task_hi p.arrays op task))
    task_last task h = filled_last (task_grid p.arrays op).shape (task_lo p.arrays op task) (task_hi p.arrays op task) (ops.filled_of p.arrays grids k op task fit h)

    pub reads_within : All (λ a. a < length p.arrays) (reads_of op)
    reads_within i d b = (fit.0 i d b).0

    pub target_within : target_of op < length p.arrays
    target_within = (ops.target_made p.arrays grids k op fit).0

    pub tasks_grid : IsGrid (task_grid p.arrays op)
    tasks_grid = ops.grid_of_tasks p.arrays grids k op fit

    pub output_over : (task : ℕ) → task < regions_of p.arrays op → All (IsWalkOver p.arrays) (output_walks p.arrays op task)
    output_over task h =
        All-map (IsWalkOver p.arrays) (λ a. walk a (task_lo p.arrays op task) (task_hi p.arrays op task)) (writes_of op)
        (λ i d b. ((fit.1 i d b).0, subst (λ (ns : List ℕ). IsRegion ns (task_lo p.arrays op task) (task_hi p.arrays op task)) (nested_writes i d b).shape (region_of task h)))

    -- a chunk that a task writes
    pub written : (task : ℕ) (c : Cell) → task < regions_of p.arrays op → Contains (written_chunks p.arrays op task) c
        → Contains (writes_of op) c.array × Meets (grid_at p.arrays c.array) (task_lo p.arrays op task) (task_hi p.arrays op task) c.coord
    written task c h there =
        let f : ℕ → Walk = λ a. walk a (task_lo p.arrays op task) (task_hi p.arrays op task) in
        let (w, among, inside) = one_walk p.arrays (output_walks p.arrays op task) c there in
        let of = walk_of f (writes_of op) w (λ a. refl) among in
        let over = All-contains (IsWalkOver p.arrays) (output_walks p.arrays op task) w (output_over task h) among in
        let m = walk_meets p.arrays w c (grids w.array over.0) over inside in (
          subst (Contains (writes_of op)) (sym m.0) of.0,
          subst (λ (x : ℕ). Meets (grid_at p.arrays x) (task_lo p.arrays op task) (task_hi p.arrays op task) c.coord) (sym m.0)
              (subst (λ (x : Walk). Meets (grid_at p.arrays w.array) x.region.lo x.region.hi c.coord) (sym of.1) m.1),
        )

    -- its task is the one in whose region it begins
    pub written_task : (task : ℕ) (c : Cell) → task < regions_of p.arrays op → Contains (written_chunks p.arrays op task) c → task ≡ task_at p.arrays op c
    written_task task c h there =
        let r = task_grid p.arrays op in
        let w = written task c h there in
        let nested = All-contains (λ a. IsNested (grid_at p.arrays a) r) (writes_of op) c.array nested_writes w.0 in
        let made = All-contains (IsMadeBy p.arrays k) (writes_of op) c.array fit.1 w.0 in
        let own = meets_own (grid_at p.arrays c.array) r c.coord (task_coord p.arrays op task) (grid_ok p c.array s made.0) tasks_ok nested (index-inside (grid_counts r) task h) w.1 in
        sym (place-index (grid_counts r) task h) ∙ ap (place_of (grid_counts r)) (sym own)

    -- and that task writes it
    pub task_writes : (c : Cell) → Contains (writes_of op) c.array → IsCoordinate (grid_at p.arrays c.array) c.coord
        → (task_at p.arrays op c < regions_of p.arrays op) × Contains (written_chunks p.arrays op (task_at p.arrays op c)) c
    task_writes c among here =
        let r = task_grid p.arrays op in
        let g = grid_at p.arrays c.array in
        let task = task_at p.arrays op c in
        let nested = All-contains (λ a. IsNested (grid_at p.arrays a) r) (writes_of op) c.array nested_writes among in
        let made = All-contains (IsMadeBy p.arrays k) (writes_of op) c.array fit.1 among in
        let okg = grid_ok p c.array s made.0 in
        let b = begins_in g r c.coord okg tasks_ok nested here in
        let below : task < regions_of p.arrays op = place-below (grid_counts r) _ b.region in
        let again : task_coord p.arrays op task ≡ quotients (chunk_lo g.chunk c.coord) r.chunk = index-place (grid_counts r) _ b.region in
        let meets : Meets g (task_lo p.arrays op task) (task_hi p.arrays op task) c.coord =
        subst (λ (x : List ℕ). Meets g (chunk_lo r.chunk x) (chunk_hi r.shape r.chunk x) c.coord) (sym again) b.meets in
        let f : ℕ → Walk = λ a. walk a (task_lo p.arrays op task) (task_hi p.arrays op task) in
        let listed = map_contains f (writes_of op) c.array among in
        let over = All-contains (IsWalkOver p.arrays) (output_walks p.arrays op task) (f c.array) (output_over task below) listed in
        (below, from_walk p.arrays (output_walks p.arrays op task) (f c.array) c listed (meets_walk p.arrays (f c.array) c.coord okg over meets))

    pub written_once : (task : ℕ) → task < regions_of p.arrays op → EachOnce (written_chunks p.arrays op task)
    written_once task h =
        cells_once p.arrays (output_walks p.arrays op task) (λ i d b. let o = output_over task h i d b in (grid_ok p _ s o.0, o))
        (λ v w hv hw other.
        apart_each p.arrays grids (λ a. walk a (task_lo p.arrays op task) (task_hi p.arrays op task)) (writes_of op) v w (λ a. refl) hv hw other
        (All-contains (IsWalkOver p.arrays) (output_walks p.arrays op task) v (output_over task h) hv) (All-contains (IsWalkOver p.arrays) (output_walks p.arrays op task) w (output_over task h) hw))
        (ops.write_walks_differ p.arrays grids k op (task_lo p.arrays op task) (task_hi p.arrays op task) fit)

    pub written_chunk : (task : ℕ) → task < regions_of p.arrays op → All (IsChunk p.arrays) (written_chunks p.arrays op task)
    written_chunk task h = All-cells p.arrays (IsChunk p.arrays) (output_walks p.arrays op task) (λ i d b c there.
        let o = output_over task h i d b in
        let m = walk_meets p.arrays _ c (grid_ok p _ s o.0) o there in
        subst (λ (x : ℕ). (x < length p.arrays) × IsCoordinate (grid_at p.arrays x) c.coord) (sym m.0) (o.0, m.1.0))

    -- ---- what a task reads

    pub input_over : (task : ℕ) → task < regions_of p.arrays op → All (IsWalkOver p.arrays) (input_walks p.arrays op task)
    input_over task h = ops.input_over p.arrays grids k op task fit h

    pub over_once : (task : ℕ) → task < regions_of p.arrays op → All (IsWalkOver p.arrays) (new_walks (input_walks p.arrays op task) [])
    over_once task h = All-new_walks (IsWalkOver p.arrays) (input_walks p.arrays op task) [] (input_over task h)

    pub read_once : (task : ℕ) → task < regions_of p.arrays op → EachOnce (read_chunks p.arrays op task)
    read_once task h =
        cells_once p.arrays (new_walks (input_walks p.arrays op task) []) (λ i d b. let o = over_once task h i d b in (grid_ok p _ s o.0, o))
        (λ v w hv hw other.
        ops.input_apart p.arrays grids k op task v w fit h (kept_from v hv) (kept_from w hw) other
        (All-contains (IsWalkOver p.arrays) (new_walks (input_walks p.arrays op task) []) v (over_once task h) hv) (All-contains (IsWalkOver p.arrays) (new_walks (input_walks p.arrays op task) []) w (over_once task h) hw))
        (different (input_walks p.arrays op task) [])
      where
        kept_from : (v : Walk) → Contains (new_walks (input_walks p.arrays op task) []) v → Contains (input_walks p.arrays op task) v
        kept_from v hv = All-contains (Contains (input_walks p.arrays op task)) (new_walks (input_walks p.arrays op task) []) v
            (All-new_walks (Contains (input_walks p.arrays op task)) (input_walks p.arrays op task) [] (All-contains_itself (input_walks p.arrays op task))) hv

    pub read_array : (task : ℕ) (c : Cell) → task < regions_of p.arrays op → Contains (read_chunks p.arrays op task) c → Contains (reads_of op) c.array × IsChunk p.arrays c
    read_array task c h there =
        let (w, kept, inside) = one_walk p.arrays (new_walks (input_walks p.arrays op task) []) c there in
        let o = All-contains (IsWalkOver p.arrays) (new_walks (input_walks p.arrays op task) []) w (over_once task h) kept in
        let m = walk_meets p.arrays w c (grid_ok p w.array s o.0) o inside in
        let listed = All-contains (λ (v : Walk). Contains (reads_of op) v.array) (new_walks (input_walks p.arrays op task) []) w
        (All-new_walks (λ (v : Walk). Contains (reads_of op) v.array) (input_walks p.arrays op task) [] (λ i d b. ops.input_array p.arrays grids k op task _ (All-contains_itself (input_walks p.arrays op task) i d b))) kept in
        (subst (Contains (reads_of op)) (sym m.0) listed, subst (λ (x : ℕ). (x < length p.arrays) × IsCoordinate (grid_at p.arrays x) c.coord) (sym m.0) (o.0, m.1.0))

    pub read_chunk : (task : ℕ) → task < regions_of p.arrays op → All (IsChunk p.arrays) (read_chunks p.arrays op task)
    read_chunk task h = λ i d b. (read_array task (get_or (read_chunks p.arrays op task) i d) h (All-contains_itself (read_chunks p.arrays op task) i d b)).1

    -- an element that the rule reads for an index of a chunk that the task writes lies in a chunk that the task reads
    pub reads_lie_in : (task a : ℕ) (c : Cell) (idx i : List ℕ) → task < regions_of p.arrays op → Contains (written_chunks p.arrays op task) c
        → IsInChunk (grid_at p.arrays c.array) c.coord idx → ReadsAt op p.arrays idx a i
        → IsInside (grid_at p.arrays a).shape i × Contains (read_chunks p.arrays op task) (cell a (quotients i (grid_at p.arrays a).chunk))
    reads_lie_in task a c idx i h there within reads =
        let r = task_grid p.arrays op in
        let g = grid_at p.arrays c.array in
        let w = written task c h there in
        let nested = All-contains (λ b. IsNested (grid_at p.arrays b) r) (writes_of op) c.array nested_writes w.0 in
        let made = All-contains (IsMadeBy p.arrays k) (writes_of op) c.array fit.1 w.0 in
        let okg = grid_ok p c.array s made.0 in
        let okr = tasks_ok in
        let inside : IsInside g.shape idx = in_array g c.coord idx okg w.1.0 within in
        let wide : IsInside r.shape idx = subst (λ (ns : List ℕ). IsInside ns idx) (sym nested.shape) inside in
        let at_task = whole_in (grid_at p.arrays c.array) r c.coord (task_coord p.arrays op task) idx okg okr nested (index-inside (grid_counts r) task h) w.1 within in
        let into = ops.reads_inside p.arrays grids k op a idx i fit wide reads in
        let l = ops.input_reads p.arrays grids k op task a idx i fit h wide at_task reads in
        let v = l.one in
        let listed = l.listed in
        let array = l.array in
        let lies = l.within in
        let over = All-contains (IsWalkOver p.arrays) (input_walks p.arrays op task) v (input_over task h) listed in
        let oka = grid_ok p a s (subst (λ (x : ℕ). x < length p.arrays) array over.0) in
        let meets : Meets (grid_at p.arrays v.array) v.region.lo v.region.hi (quotients i (grid_at p.arrays a).chunk) =
        subst (λ (x : ℕ). Meets (grid_at p.arrays x) v.region.lo v.region.hi (quotients i (grid_at p.arrays a).chunk)) (sym array)
        (has_coordinate (grid_at p.arrays a) i oka into, (i, lies, lies_within (grid_at p.arrays a) i oka into)) in
        let here = meets_walk p.arrays v (quotients i (grid_at p.arrays a).chunk) (subst (λ (x : ℕ). IsGrid (grid_at p.arrays x)) (sym array) oka) over meets in (
          into,
          from_walk p.arrays (new_walks (input_walks p.arrays op task) []) v (cell a (quotients i (grid_at p.arrays a).chunk)) (kept_walk (input_walks p.arrays op task) v listed)
              (subst (λ (x : ℕ). Contains (walk_cells p.arrays v) (cell x (quotients i (grid_at p.arrays a).chunk))) array here),
        )
      where
        -- a chunk that meets a region lies whole in it
        whole_in : (g r : RegularGrid) (coord region idx : List ℕ) → IsGrid g → IsGrid r → IsNested g r → IsCoordinate r region
            → Meets g (chunk_lo r.chunk region) (chunk_hi r.shape r.chunk region) coord → IsInChunk g coord idx → IsInChunk r region idx
        whole_in g r coord region idx okg okr nested there meets within =
            let inside : IsInside g.shape idx = in_array g coord idx okg meets.0 within in
            let wide : IsInside r.shape idx = subst (λ (ns : List ℕ). IsInside ns idx) (sym nested.shape) inside in
            let own = meets_own g r coord (quotients idx r.chunk) okg okr nested (has_coordinate r idx okr wide) (meets.0, (idx, lies_within r idx okr wide, within)) in
            let here = meets_own g r coord region okg okr nested there meets in
            subst (λ (x : List ℕ). IsInChunk r x idx) (sym own ∙ here) (lies_within r idx okr wide)

-- ---- over the operations of the plan

module _ (p : PlanView) (s : Sound p) where
  pub fit_of : (k : ℕ) → k < length p.ops → All (IsReadable p.arrays k) (reads_of (op_of p k)) × All (IsMadeBy p.arrays k) (writes_of (op_of p k)) × Fits p.arrays (op_of p k)
  fit_of k h = let ok = s.operations k h in (ok.reads, ok.writes, ok.fits)

  made_number : (m : Option ℕ) → m ≢ None → (k : ℕ) × (m ≡ Some k)
  made_number None h = absurd (h refl)
  made_number (Some k) h = (k, refl)

  -- ---- regions, whether they are those of tasks or not

  pub made_cell : (k region a : ℕ) (coord : List ℕ) → MakesChunk p k region a coord → (maker_at p.arrays a ≡ Some k) × Contains (writes_of (op_of p k)) a × IsChunk p.arrays (cell a coord)
  made_cell k region a coord w =
      let fit = fit_of k w.operation in
      let x = written p s k (op_of p k) fit region (cell a coord) w.number w.cell in
      let m = All-contains (IsMadeBy p.arrays k) (writes_of (op_of p k)) a fit.1 x.0 in
      (m.1, x.0, (m.0, x.1.0))

  pub region_number : (k region a : ℕ) (coord : List ℕ) → MakesChunk p k region a coord → region ≡ task_at p.arrays (op_of p k) (cell a coord)
  region_number k region a coord w = written_task p s k (op_of p k) (fit_of k w.operation) region (cell a coord) w.number w.cell

  pub region_for : (k a : ℕ) (coord : List ℕ) → a < length p.arrays → IsCoordinate (grid_at p.arrays a) coord → maker_at p.arrays a ≡ Some k → MakesChunk p k (task_at p.arrays (op_of p k) (cell a coord)) a coord
  region_for k a coord within here made =
      let w = s.makers a k within made in
      let t = task_writes p s k (op_of p k) (fit_of k w.0) (cell a coord) w.1 here in
      record { operation = w.0; number = t.0; cell = t.1 }

  -- the result of an operation is stored where another array that it writes is
  pub target_stored : (k a : ℕ) → k < length p.ops → Contains (writes_of (op_of p k)) a → is_inlined p.arrays a ≡ false → is_inlined p.arrays (target_of (op_of p k)) ≡ false
  target_stored k a h among stored =
      let op = op_of p k in
      let made = target_among (IsMadeBy p.arrays k) op (fit_of k h).1 in
      elim (bool_cases (is_inlined p.arrays (target_of op))) [
        | inr is ↦ is
        | inl inner ↦
            let one = (laws_of op).one_written (inner_kind p k (target_of op) s made.0 inner made.1) in
            let only : target_of op ≡ a = only_member (target_of op) a (subst (λ (ws : List ℕ). Contains ws a) one among) in
            subst (λ (b : ℕ). is_inlined p.arrays b ≡ false) (sym only) stored
      ]

  -- ---- tasks

  pub makes_of : (k task a : ℕ) (coord : List ℕ) → WritesCell p k task a coord → MakesChunk p k task a coord
  makes_of k task a coord w = record { operation = w.operation; number = own_region p.arrays (op_of p k) task w.number; cell = w.cell }

  pub writes_of_stored : (k task a : ℕ) (coord : List ℕ) → MakesChunk p k task a coord → is_inlined p.arrays a ≡ false → WritesCell p k task a coord
  writes_of_stored k task a coord w stored =
      let own = all_own p.arrays (op_of p k) (target_stored k a w.operation (made_cell k task a coord w).1 stored) in
      record { operation = w.operation; number = (let l = w.number in omega (arith, l, own)); cell = w.cell }

  pub maker_of : (k task a : ℕ) (coord : List ℕ) → WritesCell p k task a coord → maker_at p.arrays a ≡ Some k
  maker_of k task a coord w = (made_cell k task a coord (makes_of k task a coord w)).0

  pub number_of : (k task a : ℕ) (coord : List ℕ) → WritesCell p k task a coord → task ≡ task_at p.arrays (op_of p k) (cell a coord)
  number_of k task a coord w = region_number k task a coord (makes_of k task a coord w)

  pub task_for : (k a : ℕ) (coord : List ℕ) → IsCell p.arrays a coord → maker_at p.arrays a ≡ Some k → WritesCell p k (task_at p.arrays (op_of p k) (cell a coord)) a coord
  task_for k a coord c made = writes_of_stored k _ a coord (region_for k a coord c.within c.coordinate made) c.stored

  pub some_task : (a : ℕ) (coord : List ℕ) → IsCell p.arrays a coord → (k : ℕ) × (task : ℕ) × WritesCell p k task a coord
  some_task a coord c =
      let m = made_number (maker_at p.arrays a) c.made in
      (m.0, task_at p.arrays (op_of p m.0) (cell a coord), task_for m.0 a coord c m.1)

  pub one_task : (k task l other a : ℕ) (coord : List ℕ) → WritesCell p k task a coord → WritesCell p l other a coord → (k ≡ l) × (task ≡ other)
  one_task k task l other a coord v w =
      let mv = maker_of k task a coord v in
      let mw = maker_of l other a coord w in
      let same : k ≡ l = cc in
      (same, number_of k task a coord v ∙ ap (λ n. task_at p.arrays (op_of p n) (cell a coord)) same ∙ sym (number_of l other a coord w))

  pub written_cell : (k task a : ℕ) (coord : List ℕ) → WritesCell p k task a coord → IsCell p.arrays a coord
  written_cell k task a coord w =
      let m = made_cell k task a coord (makes_of k task a coord w) in
      record {
        within = m.2.0;
        made = λ none. let e = m.0 in cc;
        stored = elim (bool_cases (is_inlined p.arrays a)) [
          | inr is ↦ is
          | inl inner ↦
              let op = op_of p k in
              let one = (laws_of op).one_written (inner_kind p k a s m.2.0 inner m.0) in
              let only : target_of op ≡ a = only_member (target_of op) a (subst (λ (ws : List ℕ). Contains ws a) one m.1) in
              let target = ap (is_inlined p.arrays) only ∙ inner in
              let h = w.number in
              let none : task < 0 = rw target at h in
              absurd (omega (arith, none))
        ];
        coordinate = m.2.1;
      }

  -- the rule over what is held and what is made of it, where the task is ready
  pub ready_rule : (k task array : ℕ) (env : Elements) (held : List ℕ → Option (List ℕ)) (coord idx : List ℕ) → IsReady p k task env held → MakesChunk p k task array coord
      → IsInChunk (grid_at p.arrays array) coord idx → rule (op_of p k) p.arrays (with_inlined p (stored_inputs p.arrays held)) array idx ≡ plan_value p env array idx
  ready_rule k task array env held coord idx ready w within =
      rule_reads (op_of p k) p.arrays (with_inlined p (stored_inputs p.arrays held)) (plan_value p env) array idx (λ a i r. ready (cell array coord) idx i a w.cell within r)
      ∙ sym ((value_solves p env s).made k array idx w.operation (made_cell k task array coord w).1)

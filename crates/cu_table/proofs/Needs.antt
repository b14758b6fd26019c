-- What is known of the makers of the chunks that a region needs, walk by walk.
use Rattle.std.proofs.Common.{◌≡◌, ◌≢◌, inl, inr, ℕ, ◌+◌, ◌<◌, true, false, List, [], length, map, get_or, All, Contains, Option, None, Some, is_some, refl, ap, sym, ◌∙◌, subst, arith}
use Rattle.std.proofs.lemmas.Bool.{cases_order}
use Rattle.std.proofs.lemmas.List.{get_or_default, get_or_read}
use Rattle.std.proofs.lemmas.List.Elements.{All-contains, All-contains_itself, All-head, All-map}
use Rattle.std.specs.Iterator.{YieldsFirst}
use Rattle.std.specs.List.{flat_map}
use Rattle.cu_grid.specs.Cover.{covering}
use Rattle.cu_op.specs.Arrays.{array_at, grid_at, is_inlined, maker_at}
use Rattle.cu_op.specs.Cells.{task_coord, task_hi, task_lo}
use Rattle.cu_op.specs.Chunks.{cell, walk}
use Rattle.cu_op.specs.Operation.{reads_of, IsReadable}
use Rattle.cu_op.specs.PlanView.{PlanView}
use Rattle.cu_op.specs.Schedule.{WritesCell}
use Rattle.cu_op.specs.Sound.{Sound}
use Rattle.cu_op.specs.TaskView.{task_op, walk_at, IsReadAsIs, StandsFor, TaskView}
use Rattle.cu_op.specs.Walks.{input_walks, new_walks, read_chunks, walk_cells}
use Rattle.cu_op.specs.Within.{chunks_deep, fetched_chunks}
use Rattle.cu_op.specs.declared.cells.Cell.{Cell}
use Rattle.cu_op.specs.declared.layout.ArrayInfo.{ArrayInfo}
use Rattle.cu_op.specs.declared.walks.Walk.{Walk}
use Rattle.cu_op.proofs.CellsOfTasks.{map_contains}
use Rattle.cu_op.proofs.Fetched.{among, one_of, stored_deep}
use Rattle.cu_op.proofs.Fetching.{inner_fetched, inner_walk, stored_walk}
use Rattle.cu_op.proofs.KindLaws.{laws_of}
use Rattle.cu_op.proofs.Plans.{grid_ok}
use Rattle.cu_op.proofs.TaskCells.{fit_of}
use Rattle.cu_op.proofs.TaskInputs.{reads_same}
use Rattle.cu_op.proofs.WalkCells.{All-new_walks, from_walk, kept_walk}
use Rattle.cu_table.specs.Numbers.{IsTask}
use Rattle.cu_table.specs.Sources.{IsMakerDone, IsPullOp, NeedsEach, TellsOf}
use Rattle.cu_table.specs.declared.sources.Sources.{Sources}
use Rattle.cu_table.specs.declared.sources.Sources.TheVariants.{Complete, Partial, Awaited}
use Rattle.cu_table.proofs.Views.{some_chunk, view_needs}

-- the chunks that are fetched for the walk at a place
abbrev pub fetched_at : TaskView → ℕ → List Cell
fetched_at t place = flat_map (chunks_deep read_chunks t.plan t.op) (walk_cells t.plan.arrays (walk_at t place))

-- of the makers of what is fetched for the walks before a place no task is left
abbrev AreDoneBefore : TaskView → List ℕ → ℕ → Type 0
AreDoneBefore t counts at = (place : ℕ) → place < at → All (IsMakerDone t.plan.arrays counts) (fetched_at t place)

-- what is known after these walks
abbrev pub TellsBefore : TaskView → List ℕ → ℕ → Sources → Type 0
TellsBefore t counts at Complete = AreDoneBefore t counts at
TellsBefore t counts at Partial = AreDoneBefore t counts at → ⊥
TellsBefore t counts at (Awaited k) = NeedsEach t counts k

module _ (t : TaskView) (s : Sound t.plan) (counts : List ℕ) where
  abbrev walks : List Walk
  walks = input_walks t.plan.arrays (task_op t) t.number

  listed : (place : ℕ) → place < length (input_walks t.plan.arrays (task_op t) t.number) → Contains (input_walks t.plan.arrays (task_op t) t.number) (walk_at t place)
  listed place h = All-contains_itself walks place (walk 0 [] []) h

  -- the walk goes over an array that the operation reads
  read_at : (place : ℕ) → place < length (input_walks t.plan.arrays (task_op t) t.number) → Contains (reads_of (task_op t)) (walk_at t place).array
  read_at place h =
      subst (λ (numbers : List ℕ). Contains numbers (walk_at t place).array)
      ((laws_of (task_op t)).walked t.plan.arrays (task_lo t.plan.arrays (task_op t) t.number) (task_hi t.plan.arrays (task_op t) t.number))
      (map_contains (λ (w : Walk). w.array) walks (walk_at t place) (listed place h))

  pub readable_at : (place : ℕ) → place < length (input_walks t.plan.arrays (task_op t) t.number) → IsReadable t.plan.arrays t.op (walk_at t place).array
  readable_at place h = All-contains (IsReadable t.plan.arrays t.op) (reads_of (task_op t)) (walk_at t place).array (s.operations t.op t.operation).reads (read_at place h)

  -- what is found of the array of a walk
  pub array_is : (place : ℕ) → place < length (input_walks t.plan.arrays (task_op t) t.number) → (ws : List Walk) (d : Walk) (info : ArrayInfo) → ws ≡ input_walks t.plan.arrays (task_op t) t.number
      → info ≡ array_at t.plan.arrays (get_or ws place d).array → array_at t.plan.arrays (walk_at t place).array ≡ info
  array_is place h ws d info same found =
      sym (found ∙ ap (λ (xs : List Walk). array_at t.plan.arrays (get_or xs place d).array) same ∙ ap (λ (w : Walk). array_at t.plan.arrays w.array) (get_or_default walks place d (walk 0 [] []) h))

  -- what is read at a place of the list
  pub walk_is : (place : ℕ) → place < length (input_walks t.plan.arrays (task_op t) t.number) → (ws : List Walk) (w : Walk) → ws ≡ input_walks t.plan.arrays (task_op t) t.number
      → w ≡ get_or ws place w → w ≡ walk_at t place
  walk_is place h ws w same is = get_or_read walks place w h (subst (λ (xs : List Walk). w ≡ get_or xs place w) same is) (walk 0 [] [])

  -- ---- a stored array

  -- its maker has no task left, if it has one
  pub walk_done : (w : Walk) → ((k : ℕ) → maker_at t.plan.arrays w.array ≡ Some k → get_or counts k 0 ≡ 0)
      → All (IsMakerDone t.plan.arrays counts) (walk_cells t.plan.arrays w)
  walk_done w done =
      All-map (IsMakerDone t.plan.arrays counts) (cell w.array) (covering (grid_at t.plan.arrays w.array).chunk w.region.lo w.region.hi) (λ i d l. done)

  pub walk_given : (w : Walk) → maker_at t.plan.arrays w.array ≡ None → All (IsMakerDone t.plan.arrays counts) (walk_cells t.plan.arrays w)
  walk_given w none = walk_done w (λ k made. cc)

  pub walk_made : (w : Walk) (source : ℕ) → maker_at t.plan.arrays w.array ≡ Some source → get_or counts source 0 ≡ 0
      → All (IsMakerDone t.plan.arrays counts) (walk_cells t.plan.arrays w)
  walk_made w source made done = walk_done w (λ k other. let same : source ≡ k = cc in subst (λ (j : ℕ). get_or counts j 0 ≡ 0) same done)

  -- a chunk, whose maker has a task left
  pub walk_left : (w : Walk) (source : ℕ) → maker_at t.plan.arrays w.array ≡ Some source → get_or counts source 0 ≢ 0
      → (coords : List (List ℕ)) (first : Option (List ℕ)) (rest : List (List ℕ)) → coords ≡ covering (grid_at t.plan.arrays w.array).chunk w.region.lo w.region.hi
      → YieldsFirst (λ (cs : List (List ℕ)). cs) coords first rest → is_some first ≡ true → All (IsMakerDone t.plan.arrays counts) (walk_cells t.plan.arrays w) → ⊥
  walk_left w source made some coords None rest cover yields found all = absurd cc
  walk_left w source made some coords (Some coord) rest cover yields found all =
      let P = IsMakerDone t.plan.arrays counts in
      let cells = subst (λ (cs : List (List ℕ)). All P (map (cell w.array) cs)) (sym cover ∙ yields) all in
      some (All-head P (cell w.array coord) (map (cell w.array) rest) cells source made)

  -- a view needs all that the maker of a source makes
  pub walk_needs : (place : ℕ) → place < length (input_walks t.plan.arrays (task_op t) t.number) → is_inlined t.plan.arrays (walk_at t place).array ≡ false
      → IsPullOp (task_op t) → (source : ℕ) → maker_at t.plan.arrays (walk_at t place).array ≡ Some source → get_or counts source 0 ≢ 0
      → NeedsEach t counts source
  walk_needs place h stored view source made some = record {
    some = some;
    makes = λ n is.
        let p = t.plan in
        let op = task_op t in
        let a = (walk_at t place).array in
        let within = (readable_at place h).0 in
        let (coord, here, writes) = some_chunk p s source n is a (s.makers a source within made).1 within in
        let c = cell a coord in
        let need = view_needs p.arrays op (task_coord p.arrays op t.number) a coord view (read_at place h) here in
        let read = (reads_same p.arrays (λ b l. grid_ok p b s l) t.op op t.number c (fit_of p s t.op t.operation) t.within).1 need in
        let own : Contains (chunks_deep read_chunks p t.op c) c = subst (λ (cells : List Cell). Contains cells c) (sym (stored_deep p s read_chunks t.op c stored)) (0, omega arith, refl) in
        (c, among (chunks_deep read_chunks p t.op) (read_chunks p.arrays op t.number) c c read own, writes);
  }

  -- what is told of its chunks
  pub stored_tells : (place : ℕ) → is_inlined t.plan.arrays (walk_at t place).array ≡ false → (found : Sources)
      → TellsOf t counts (walk_cells t.plan.arrays (walk_at t place)) found → TellsOf t counts (fetched_at t place) found
  stored_tells place stored found told = subst (λ (cells : List Cell). TellsOf t counts cells found) (sym (stored_walk t.plan s t.op (walk_at t place) stored)) told

  -- ---- an array that is made where it is read

  pub empty_tells : (place : ℕ) → is_inlined t.plan.arrays (walk_at t place).array ≡ true → IsReadAsIs t.plan.arrays (walk_at t place) → TellsOf t counts (fetched_at t place) Complete
  empty_tells place made (inl stored) = absurd (cc (made, stored))
  empty_tells place made (inr none) =
      subst (λ (cells : List Cell). All (IsMakerDone t.plan.arrays counts) (flat_map (chunks_deep read_chunks t.plan t.op) cells)) (sym none) (λ i d l. absurd (omega (arith, l)))

  -- what is told of the region that is computed for it
  pub inner_tells : (place : ℕ) → place < length (input_walks t.plan.arrays (task_op t) t.number) → is_inlined t.plan.arrays (walk_at t place).array ≡ true
      → (inner : TaskView) → StandsFor t (walk_at t place) inner → (found : Sources)
      → TellsOf inner counts (fetched_chunks inner.plan inner.op inner.number) found → TellsOf t counts (fetched_at t place) found
  inner_tells place h made inner stands Complete told =
      let there = subst (λ (q : PlanView). All (IsMakerDone q.arrays counts) (fetched_chunks q inner.op inner.number)) stands.plan told in
      subst (All (IsMakerDone t.plan.arrays counts)) (sym (inner_walk t.plan s t.op (walk_at t place) inner.op inner.number (readable_at place h) made stands.region)) there
  inner_tells place h made inner stands Partial told =
      let there = subst (λ (q : PlanView). All (IsMakerDone q.arrays counts) (fetched_chunks q inner.op inner.number) → ⊥) stands.plan told in
      subst (λ (cells : List Cell). All (IsMakerDone t.plan.arrays counts) cells → ⊥) (sym (inner_walk t.plan s t.op (walk_at t place) inner.op inner.number (readable_at place h) made stands.region)) there
  inner_tells place h made inner stands (Awaited k) told = record {
    some = told.some;
    makes = λ n is.
        let own = subst (λ (q : PlanView). IsTask q k n) (sym stands.plan) is in
        let (c, fetched, writes) = told.makes n own in
        let there = subst (λ (q : PlanView). Contains (fetched_chunks q inner.op inner.number) c) stands.plan fetched in
        let wrote = subst (λ (q : PlanView). WritesCell q k n c.array c.coord) stands.plan writes in
        (c, inner_fetched t.plan s t.op t.number inner.op inner.number (walk_at t place) c t.operation (listed place h) made stands.region there, wrote);
  }

  -- an operation that is waited for is told of all chunks alike
  pub awaited_tells : (k : ℕ) (found : Sources) (cells others : List Cell) → found ≡ Awaited k → TellsOf t counts cells found → TellsOf t counts others found
  awaited_tells k found cells others is told =
      let needs : NeedsEach t counts k = subst (TellsOf t counts cells) is told in
      subst (TellsOf t counts others) (sym is) needs

  -- ---- one walk more, and all of them

  pub one_partial : (at : ℕ) → TellsOf t counts (fetched_at t at) Partial → TellsBefore t counts (at + 1) Partial
  one_partial at own = λ all. own (all at (omega arith))

  pub one_more : (at : ℕ) (found : Sources) → TellsBefore t counts at found → TellsOf t counts (fetched_at t at) Complete → TellsBefore t counts (at + 1) found
  one_more at Complete so_far own = λ place l.
      elim (cases_order place at) [
        | inl same ↦ subst (λ (i : ℕ). All (IsMakerDone t.plan.arrays counts) (fetched_at t i)) (sym same) own
        | inr (inl less) ↦ so_far place less
        | inr (inr more) ↦ absurd (omega (arith, l, more))
      ]
  one_more at Partial so_far own = λ all. so_far (λ place l. all place (omega (arith, l)))
  one_more at (Awaited k) so_far own = so_far

  -- what is fetched for a walk is fetched for the region
  fetched_whole : (place : ℕ) → place < length (input_walks t.plan.arrays (task_op t) t.number) → (c : Cell) → Contains (fetched_at t place) c → Contains (fetched_chunks t.plan t.op t.number) c
  fetched_whole place h c there =
      let deep = chunks_deep read_chunks t.plan t.op in
      let (d, own, inside) = one_of deep (walk_cells t.plan.arrays (walk_at t place)) c there in
      among deep (read_chunks t.plan.arrays (task_op t) t.number) d c (from_walk t.plan.arrays (new_walks walks []) (walk_at t place) d (kept_walk walks (walk_at t place) (listed place h)) own) inside

  pub all_tell : (at : ℕ) (found : Sources) → at ≡ length (input_walks t.plan.arrays (task_op t) t.number) → TellsBefore t counts at found
      → TellsOf t counts (fetched_chunks t.plan t.op t.number) found
  all_tell at Complete all so_far = λ i d l.
      let fetched = fetched_chunks t.plan t.op t.number in
      let deep = chunks_deep read_chunks t.plan t.op in
      let c = get_or fetched i d in
      let (read, is_read, inside) = one_of deep (read_chunks t.plan.arrays (task_op t) t.number) c (All-contains_itself fetched i d l) in
      let (w, kept, here) = one_of (walk_cells t.plan.arrays) (new_walks walks []) read is_read in
      let known : All (λ v. Contains walks v) (new_walks walks []) = All-new_walks (λ v. Contains walks v) walks [] (λ j e b. All-contains_itself walks j e b) in
      let (place, within, is) = All-contains (λ v. Contains walks v) (new_walks walks []) w known kept in
      let own : walk_at t place ≡ w = get_or_default walks place (walk 0 [] []) w within ∙ is in
      let there = subst (λ (v : Walk). Contains (flat_map deep (walk_cells t.plan.arrays v)) c) (sym own) (among deep (walk_cells t.plan.arrays w) read c here inside) in
      All-contains (IsMakerDone t.plan.arrays counts) (fetched_at t place) c (so_far place (omega (arith, within, all))) there
  all_tell at Partial all so_far = λ done.
      so_far (λ place l i d h.
      let c = get_or (fetched_at t place) i d in
      All-contains (IsMakerDone t.plan.arrays counts) (fetched_chunks t.plan t.op t.number) c done (fetched_whole place (omega (arith, l, all)) c (All-contains_itself (fetched_at t place) i d h)))
  all_tell at (Awaited k) all so_far = so_far

-- The tasks that make the input cells of a task.
use Rattle.std.proofs.Common.{◌≡◌, ◌≢◌, inl, inr, ℕ, ◌+◌, ◌<◌, false, List, [], ◌∷◌, ◌++◌, length, get_or, All, Option, Some, None, refl, ap, sym, ◌∙◌, subst, arith, append_assoc, append-nil}
use Rattle.std.specs.Prelude.{Contains, MatchOption, ◌↔◌}
use Rattle.std.proofs.lemmas.Bool.{cases_lt}
use Rattle.std.proofs.lemmas.List.{get_or_past}
use Rattle.std.proofs.lemmas.List.Elements.{All-nil, All-head, All-tail, All-push, All-contains, Contains-push, Contains-append_left}
use Rattle.cu_op.specs.declared.cells.Cell.{Cell}
use Rattle.cu_op.specs.Arrays.{is_inlined, maker_at}
use Rattle.cu_op.specs.Cells.{IsChunk}
use Rattle.cu_op.specs.PlanView.{PlanView}
use Rattle.cu_op.specs.Schedule.{op_of, WritesCell}
use Rattle.cu_op.specs.Sound.{Sound}
use Rattle.cu_op.specs.InputCells.{input_cells}
use Rattle.cu_op.specs.TaskView.{TaskView}
use Rattle.cu_op.specs.Within.{fetched_chunks}
use Rattle.cu_op.specs.declared.layout.ArrayInfo.{ArrayInfo}
use Rattle.cu_table.specs.declared.state.TaskState.{TaskState}
use Rattle.cu_table.specs.Numbers.{IsTask, task_count}
use Rattle.cu_table.specs.Machine.{Machine, IsDone, MakesInput, AreInputsDone}
use Rattle.cu_table.specs.Queue.{of_tasks, AreCounts, Blocks, IsCellDone, IsUndoneMaker, WaitsForTask}
use Rattle.cu_op.proofs.Fetched.{fetched_before, fetched_same, maker_before}
use Rattle.cu_op.proofs.Plans.{own_region}
use Rattle.cu_op.proofs.TaskCells.{maker_of, one_task}
use Rattle.cu_table.specs.Sources.{IsMakerDone, NeedsEach}
use Rattle.cu_table.proofs.Changing.{none_undone, made_task, as_task}

abbrev pub IsStored : List ArrayInfo → Cell → Type 0
IsStored arrays c = is_inlined arrays c.array ≡ false

-- what is known after the cells before these: each is done, or the last found isn't
pub record InputsSoFar (p : PlanView) (states : List TaskState) (op task : ℕ) (last : Option ℕ) (left : List Cell) : Type 0 where
  pub front : List Cell
  pub same : (c : Cell) → (Contains (front ++ left) c → Contains (input_cells p op task) c) × (Contains (input_cells p op task) c → Contains (front ++ left) c)
  pub chunks : All (IsChunk p.arrays) left
  pub stored : All (IsStored p.arrays) left
  pub found : MatchOption last (All (IsCellDone p (of_tasks states)) front) (λ x. WaitsForTask p (of_tasks states) x op task)

module _ (p : PlanView) (states : List TaskState) (op task : ℕ) where
  pub inputs_first : (q : PlanView) → q ≡ p → (left cells : List Cell) → left ≡ cells → ((c : Cell) → Contains cells c ↔ Contains (input_cells q op task) c) → All (IsChunk q.arrays) cells
      → All (IsStored q.arrays) cells → InputsSoFar p states op task None left
  inputs_first q plan left cells e of_plan of_arrays of_stored =
      let exact = subst (λ (r : PlanView). (c : Cell) → Contains cells c ↔ Contains (input_cells r op task) c) plan of_plan in
      let chunks = subst (λ (r : PlanView). All (IsChunk r.arrays) cells) plan of_arrays in
      let stored = subst (λ (r : PlanView). All (IsStored r.arrays) cells) plan of_stored in
      record {
        front = [];
        same = λ c. (λ h. (exact c).0 (subst (λ (cs : List Cell). Contains cs c) e h), λ h. subst (λ (cs : List Cell). Contains cs c) (sym e) ((exact c).1 h));
        chunks = subst (All (IsChunk p.arrays)) (sym e) chunks;
        stored = subst (All (IsStored p.arrays)) (sym e) stored;
        found = All-nil (IsCellDone p (of_tasks states));
      }

  module _ (last : Option ℕ) (left : List Cell) (so_far : InputsSoFar p states op task last left) where
    module _ (cell : Cell) (later : List Cell) (e : left ≡ cell ∷ later) where
      pub inputs_chunk : IsChunk p.arrays cell
      inputs_chunk = All-head (IsChunk p.arrays) cell later (subst (All (IsChunk p.arrays)) e so_far.chunks)

      pub inputs_stored : is_inlined p.arrays cell.array ≡ false
      inputs_stored = All-head (IsStored p.arrays) cell later (subst (All (IsStored p.arrays)) e so_far.stored)

      whole : (so_far.front ++ cell ∷ []) ++ later ≡ so_far.front ++ left
      whole = append_assoc so_far.front (cell ∷ []) later ∙ ap (λ (cs : List Cell). so_far.front ++ cs) (sym e)

      more : (now : Option ℕ) → MatchOption now (All (IsCellDone p (of_tasks states)) (so_far.front ++ cell ∷ [])) (λ x. WaitsForTask p (of_tasks states) x op task) → InputsSoFar p states op task now later
      more now found = record {
        front = so_far.front ++ cell ∷ [];
        same = λ c. (λ h. (so_far.same c).0 (subst (λ (cs : List Cell). Contains cs c) whole h), λ h. subst (λ (cs : List Cell). Contains cs c) (sym whole) ((so_far.same c).1 h));
        chunks = All-tail (IsChunk p.arrays) cell later (subst (All (IsChunk p.arrays)) e so_far.chunks);
        stored = All-tail (IsStored p.arrays) cell later (subst (All (IsStored p.arrays)) e so_far.stored);
        found = found;
      }

      -- a cell that has no maker, or one that is done
      pub inputs_done : IsCellDone p (of_tasks states) cell → InputsSoFar p states op task last later
      inputs_done done = more last (still last so_far.found)
        where
          still : (o : Option ℕ) → MatchOption o (All (IsCellDone p (of_tasks states)) so_far.front) (λ x. WaitsForTask p (of_tasks states) x op task)
              → MatchOption o (All (IsCellDone p (of_tasks states)) (so_far.front ++ cell ∷ [])) (λ x. WaitsForTask p (of_tasks states) x op task)
          still None all = All-push (IsCellDone p (of_tasks states)) so_far.front cell all done
          still (Some x) waits = waits

      -- a cell whose maker isn't done
      pub inputs_undone : (x : ℕ) → IsUndoneMaker p (of_tasks states) cell x → InputsSoFar p states op task (Some x) later
      inputs_undone x (k, t, writes, undone, at) = more (Some x) (record {
        maker = k;
        number = t;
        makes = (cell, (so_far.same cell).0 (subst (λ (cs : List Cell). Contains cs cell) whole (Contains-append_left (so_far.front ++ cell ∷ []) later cell (Contains-push so_far.front cell))), writes);
        undone = undone;
        thing = at;
      })

    pub inputs_all : left ≡ [] → MatchOption last (AreInputsDone p (of_tasks states) op task) (λ x. WaitsForTask p (of_tasks states) x op task)
    inputs_all none = all last so_far.found
      where
        all : (o : Option ℕ) → MatchOption o (All (IsCellDone p (of_tasks states)) so_far.front) (λ x. WaitsForTask p (of_tasks states) x op task)
            → MatchOption o (AreInputsDone p (of_tasks states) op task) (λ x. WaitsForTask p (of_tasks states) x op task)
        all None done = λ k t makes.
            All-contains (IsCellDone p (of_tasks states)) so_far.front makes.0 done
            (subst (λ (cs : List Cell). Contains cs makes.0) (ap (λ (cs : List Cell). so_far.front ++ cs) none ∙ append-nil so_far.front) ((so_far.same makes.0).1 makes.1)) k t makes.2
        all (Some x) waits = waits

-- ---- sources

-- a task that makes an input cell is one of an operation before
pub maker_earlier : (p : PlanView) → Sound p → (k t op task : ℕ) → IsTask p op task → MakesInput p k t op task → k < op
maker_earlier p sound k t op task is (c, has, writes) =
    let number = own_region p.arrays (op_of p op) task is.number in
    let readable = fetched_before p sound op task c is.operation number ((fetched_same p sound op task c is.operation number).1 has) in
    maker_before p sound (maker_at p.arrays c.array) op k readable.1 (maker_of p sound k t c.array c.coord writes)

-- where the makers of all that is fetched are done the task is ready
pub sources_ready : (p : PlanView) → Sound p → (states : List TaskState) → length states ≡ task_count p → (undone : List ℕ) → AreCounts p (of_tasks states) undone
    → (op task : ℕ) → IsTask p op task → All (IsMakerDone p.arrays undone) (fetched_chunks p op task) → AreInputsDone p (of_tasks states) op task
sources_ready p sound states long undone counts op task is all k t makes =
    let (c, has, writes) = makes in
    let number = own_region p.arrays (op_of p op) task is.number in
    let fetched = (fetched_same p sound op task c is.operation number).1 has in
    let none = All-contains (IsMakerDone p.arrays undone) (fetched_chunks p op task) c all fetched k (maker_of p sound k t c.array c.coord writes) in
    none_undone p states long k writes.operation (sym (counts.counts k writes.operation) ∙ none) t (made_task p k t op task makes)

-- a task waits for an operation that isn't done, if it needs a chunk that each task of that makes
pub source_waits : (p : PlanView) → Sound p → (states : List TaskState) → (undone : List ℕ) → AreCounts p (of_tasks states) undone → (op task : ℕ) → IsTask p op task → (k : ℕ)
    → get_or undone k 0 ≢ 0 → ((n : ℕ) → IsTask p k n → (c : Cell) × Contains (fetched_chunks p op task) c × WritesCell p k n c.array c.coord)
    → Blocks p (of_tasks states) (task_count p + k) op task
source_waits p sound states undone counts op task is k some makes =
    let h : k < length p.ops = within in
    let number = own_region p.arrays (op_of p op) task is.number in
    inr (record {
      maker = k;
      within = h;
      makes = λ n that.
          let (c, fetched, writes) = makes n that in
          (c, (fetched_same p sound op task c is.operation number).0 fetched, writes);
      undone = λ none. some (counts.counts k h ∙ none);
      thing = refl;
    })
  where
    within : k < length p.ops
    within =
        elim (cases_lt k (length p.ops)) [
          | inl less ↦ less
          | inr past ↦ absurd (some (get_or_past undone k 0 (let e = counts.operations in omega (arith, past, e))))
        ]

-- ---- what is told of a task

module _ (p : PlanView) (sound : Sound p) (states : List TaskState) (undone : List ℕ) (counts : AreCounts p (of_tasks states) undone) (t : TaskView) (op task : ℕ) (plan : t.plan ≡ p)
    (at_op : t.op ≡ op) (number : t.number ≡ task) (is : IsTask p op task) where
  pub told_ready : length states ≡ task_count p → All (IsMakerDone t.plan.arrays undone) (fetched_chunks t.plan t.op t.number) → AreInputsDone p (of_tasks states) op task
  told_ready long told =
      let of_plan = subst (λ (q : PlanView). All (IsMakerDone q.arrays undone) (fetched_chunks q t.op t.number)) plan told in
      let of_op = subst (λ (k : ℕ). All (IsMakerDone p.arrays undone) (fetched_chunks p k t.number)) at_op of_plan in
      let of_task = subst (λ (n : ℕ). All (IsMakerDone p.arrays undone) (fetched_chunks p op n)) number of_op in
      sources_ready p sound states long undone counts op task is of_task

  pub told_waits : (k : ℕ) → NeedsEach t undone k → Blocks p (of_tasks states) (task_count p + k) op task
  told_waits k needs =
      source_waits p sound states undone counts op task is k needs.some (λ n that.
      let (c, fetched, writes) = needs.makes n (subst (λ (q : PlanView). IsTask q k n) (sym plan) that) in
      let of_plan = subst (λ (q : PlanView). Contains (fetched_chunks q t.op t.number) c) plan fetched in
      let of_op = subst (λ (j : ℕ). Contains (fetched_chunks p j t.number) c) at_op of_plan in
      let of_task = subst (λ (m : ℕ). Contains (fetched_chunks p op m) c) number of_op in
      (c, of_task, subst (λ (q : PlanView). WritesCell q k n c.array c.coord) plan writes))

-- ---- what a chunk's maker says

-- no task writes a chunk of an input
pub cell_input : (p : PlanView) → Sound p → (m : Machine) (c : Cell) → maker_at p.arrays c.array ≡ None → IsCellDone p m c
cell_input p sound m c none k t writes = absurd (let e = maker_of p sound k t c.array c.coord writes in cc (none, e))

-- the one task that writes it is done
pub cell_done : (p : PlanView) → Sound p → (m : Machine) (c : Cell) (k t : ℕ) → WritesCell p k t c.array c.coord → IsDone p m k t → IsCellDone p m c
cell_done p sound m c k t writes done l other too =
    as_task (λ (x y : ℕ). IsDone p m x y) k t l other (one_task p sound k t l other c.array c.coord writes too) done

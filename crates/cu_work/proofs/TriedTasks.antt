-- Tasks of a part, tried straight in a depot: when they are ready, and what their puts are.
use Rattle.std.proofs.Common.{◌≡◌, ◌≢◌, ◌⊎◌, inl, inr, ℕ, zero, suc, ◌+◌, ◌-◌, ◌*◌, ◌<◌, ◌≤◌, Bool, true, false, List, [], ◌∷◌, length, Contains, Option, Some, None, Ok, Err, refl, ap, sym, ◌∙◌, subst, arith, mul-le-mul_right}
use Rattle.std.specs.Prelude.{slice_index_or, if◌then◌else◌}
use Rattle.std.proofs.Math.Nat.{mul-add}
use Rattle.std.proofs.lemmas.Bool.{cases_lt}
use Rattle.cu_zarr.proofs.Spelled.{length-spelled}
use Rattle.cu_store.specs.Faults.{Rose}
use Rattle.cu_store.specs.Held.{Contents, Holds, IsHeldIn}
use Rattle.cu_store.specs.Steps.{Changes, Shown, Steps, Within}
use Rattle.cu_store.specs.declared.faults.TaskFault.{TaskFault}
use Rattle.cu_store.specs.declared.faults.TaskFault.TheVariants as fault
use Rattle.cu_store.proofs.Steps.{steps_same, steps_then, steps_wider}
use Rattle.cu_op.specs.declared.cells.Cell.{Cell}
use Rattle.cu_op.specs.Arrays.{layout_at, maker_at, chunk_room}
use Rattle.cu_op.specs.Cells.{tasks_of, IsChunk}
use Rattle.cu_op.specs.PlanView.{PlanView}
use Rattle.cu_op.specs.Schedule.{op_of, key_of}
use Rattle.cu_op.specs.Sound.{Sound, IsCell}
use Rattle.cu_op.specs.Elements.{Elements}
use Rattle.cu_op.specs.Value.{plan_value}
use Rattle.cu_op.specs.Walks.{written_chunks}
use Rattle.cu_op.specs.Within.{fetched_chunks}
use Rattle.cu_op.proofs.TaskCells.{written_cell}
use Rattle.cu_region.specs.Steady.{HoldsLength}
use Rattle.cu_run_law.specs.Left.{IsLeft, Begun, RunChange}
use Rattle.cu_run_law.specs.Pieces.{chunks_alone, Chunk, IsInputChunk, HoldsPiece, HoldsTask, piece_value}
use Rattle.cu_run_law.proofs.Elements.{HaveRanges}
use Rattle.cu_run_law.proofs.Keeping.{left_kept, piece_stays, begun_since}
use Rattle.cu_run_law.proofs.Reading.{input_or_made, not_none, task_ready}
use Rattle.cu_task.specs.Task.{TaskChange, HoldsCells, IsTaskReady, IsTaskFault}
use Rattle.cu_task.specs.Calls.{calls_of}
use Rattle.cu_table.specs.Numbers.{IsTask}
use Rattle.cu_work.specs.Calls.{sum_of_first}
use Rattle.cu_work.proofs.StoredChunks.{read_cell, read_stored, region}
use Rattle.cu_work.proofs.Searching.{Fills, held_stays}
use Rattle.cu_work.specs.Asked.{AreChosen, IsChosenAt}
use Rattle.cu_work.specs.Part.{HasInputs, IsPartOf, TaskPut}
use Rattle.cu_work.specs.Tried.{AreTaskStarts, ChosenPut, HaveRun, IsMemoryOf, IsTaskEnd, IsTried, IsStoppedBy, ends_tries, task_fault, task_id, chosen_below, chosen_calls}
use Rattle.cu_work.specs.declared.part.Part.{Part}
use Rattle.cu_work.specs.declared.part.PartCounts.{PartCounts}
use Rattle.cu_work.specs.declared.trying.TaskMemory.{TaskMemory}

-- ---- one task

module _ (p : PlanView) (sound : Sound p) (k task : ℕ) (operation : k < length p.ops) (number : task < tasks_of p.arrays (op_of p k)) where
  a_task : IsTask p k task
  a_task = record { operation = operation; number = number }

  chunk_of : (c : Cell) → Contains (fetched_chunks p k task) c → IsChunk p.arrays c
  chunk_of c listed = (read_stored p sound k task a_task c listed).0

  cell_of : (c : Cell) → Contains (written_chunks p.arrays (op_of p k) task) c → IsCell p.arrays c.array c.coord
  cell_of c listed = written_cell p sound k task c.array c.coord (record { operation = operation; number = number; cell = listed })

  made_cell : (c : Cell) → Contains (fetched_chunks p k task) c → maker_at p.arrays c.array ≢ None → IsCell p.arrays c.array c.coord
  made_cell c listed made = read_cell p sound k task a_task c listed made

  pub put_runs : (first : Shown) → Within (TaskPut p k task first) (RunChange (chunks_alone p) first)
  put_runs first key value (c, bytes, listed, at, is, valued) = (Chunk c, bytes, cell_of c listed, at, is, valued)

  put_fills : (first : Shown) → Fills (TaskPut p k task first)
  put_fills first key value (c, bytes, listed, at, is, valued) = (bytes, is)

-- ---- a moment at which the chunks are left so

module _ (ranges : HaveRanges) (p : PlanView) (sound : Sound p) (k task : ℕ) (operation : k < length p.ops) (number : task < tasks_of p.arrays (op_of p k)) where
  chunk : (c : Cell) → Contains (fetched_chunks p k task) c → IsChunk p.arrays c
  chunk = chunk_of p sound k task operation number

  own_cell : (c : Cell) → Contains (written_chunks p.arrays (op_of p k) task) c → IsCell p.arrays c.array c.coord
  own_cell = cell_of p sound k task operation number

  input_cell : (c : Cell) → Contains (fetched_chunks p k task) c → maker_at p.arrays c.array ≢ None → IsCell p.arrays c.array c.coord
  input_cell = made_cell p sound k task operation number

  module _ (env : Elements) (now : Shown) (left : IsLeft (chunks_alone p) env now) where
    held_piece : (c : Cell) → IsCell p.arrays c.array c.coord → IsHeldIn now.held (key_of p.arrays c) → HoldsPiece (chunks_alone p) env (Chunk c) now
    held_piece c cell held =
        let (bytes, is) = subst (λ (h : Option Contents). IsHeldIn h (key_of p.arrays c)) left.told held in
        elim (left.pieces (Chunk c) cell) [
          | inl none ↦ absurd (cc (none, is))
          | inr (own, has, v) ↦ (own, v, subst (λ (h : Option Contents). Holds h (key_of p.arrays c) own) (sym left.told) has)
        ]

    steady_made : (c : Cell) (bytes own : List ℕ) → piece_value (chunks_alone p) env (Chunk c) ≡ Some bytes → piece_value (chunks_alone p) env (Chunk c) ≡ Some own
        → Holds now.held (key_of p.arrays c) own → left.held (key_of p.arrays c) ≡ Some bytes
    steady_made c bytes own v w holds =
        let is : left.held (key_of p.arrays c) ≡ Some own = subst (λ (h : Option Contents). Holds h (key_of p.arrays c) own) left.told holds in
        is ∙ sym w ∙ v

    pub ready_now : HasInputs p k task now.held → IsTaskReady p k task env now
    ready_now has = record {
      held = left.held;
      told = left.told;
      inputs = task_ready ranges (chunks_alone p) env now left k task operation (region p sound k task (a_task p sound k task operation number))
          (λ c listed made. held_piece c (input_cell c listed made) (has (key_of p.arrays c) (c, listed, made, refl)));
      steady = λ c bytes listed among. elim (input_or_made (maker_at p.arrays c.array)) [
        | inl given ↦
            let at = chunk c listed in
            left.quiet.inputs c bytes (record { within = at.0; given = given; coordinate = at.1 }) among
        | inr maker ↦
            let made = not_none (maker_at p.arrays c.array) maker.0 maker.1 in
            let cell = input_cell c listed made in
            let (own, w, holds) = held_piece c cell (has (key_of p.arrays c) (c, listed, made, refl)) in
            steady_made c bytes own (left.quiet.pieces (Chunk c) bytes cell among) w holds
      ];
      own = λ c bytes listed among. left.quiet.pieces (Chunk c) bytes (own_cell c listed) among;
    }

    same_bytes : (a b : List ℕ) → Some a ≡ Some b → a ≡ b
    same_bytes a b e = cc

    -- a chunk that is held with another length than a chunk's is an input's
    pub of_input : (c : Cell) (got : ℕ) → Contains (fetched_chunks p k task) c → got ≢ chunk_room p.arrays c.array → HoldsLength now.held (key_of p.arrays c) got
        → IsInputChunk p.arrays c
    of_input c got listed bad length_is = elim (input_or_made (maker_at p.arrays c.array)) [
      | inl given ↦ let at = chunk c listed in record { within = at.0; given = given; coordinate = at.1 }
      | inr maker ↦
          let made = not_none (maker_at p.arrays c.array) maker.0 maker.1 in
          let (bytes, is, long) = subst (λ (h : Option Contents). HoldsLength h (key_of p.arrays c) got) left.told length_is in
          elim (left.pieces (Chunk c) (input_cell c listed made)) [
            | inl none ↦ absurd (cc (none, is))
            | inr (own, has, v) ↦
                let same : bytes ≡ own = same_bytes bytes own (sym is ∙ has) in
                absurd (bad (sym long ∙ ap length same ∙ length-spelled (layout_at p.arrays c.array) (plan_value p env c.array) c.coord own v))
          ]
    ]

  -- ---- from a first moment on

  module _ (first : Shown) where
    pub left_on : (l m : ℕ) (now : Shown) → Steps (TaskPut p k task first) l m first now → (env : Elements) → IsLeft (chunks_alone p) env first → IsLeft (chunks_alone p) env now
    left_on l m now step env left =
        left_kept (chunks_alone p) env first left l m now (begun_since (chunks_alone p) env first left l m now (steps_wider (put_runs p sound k task operation number first) (omega arith) (omega arith) step))

    pub inputs_on : (l m : ℕ) (now : Shown) → Steps (TaskPut p k task first) l m first now → HasInputs p k task first.held → HasInputs p k task now.held
    inputs_on l m now step has key made = held_stays (TaskPut p k task first) (put_fills p sound k task operation number first) l m first now step key (has key made)

    module _ (has : HasInputs p k task first.held) (n : ℕ) (now : Shown) (step : Steps (TaskPut p k task first) 0 (n * calls_of p k task) first now) where
      change_put : Within (TaskChange p k task now) (TaskPut p k task first)
      change_put key value (c, bytes, listed, at, is, valued) = (
        c,
        bytes,
        listed,
        at,
        is,
        λ env left. valued env (ready_now env now (left_on 0 (n * calls_of p k task) now step env left) (inputs_on 0 (n * calls_of p k task) now step has)),
      )

      pub try_more : (new : Shown) → Steps (TaskChange p k task now) 0 (calls_of p k task) now new → Steps (TaskPut p k task first) 0 ((n + 1) * calls_of p k task) first new
      try_more new tried =
          let second : Steps (TaskPut p k task first) 0 (calls_of p k task) now new = steps_wider change_put (omega arith) (omega arith) tried in
          steps_wider (λ key value change. change) (omega arith) (omega arith) (steps_then step second)

      pub try_holds : (new : Shown) → ((env : Elements) → IsTaskReady p k task env now → HoldsCells p k task env new) → (env : Elements) → IsLeft (chunks_alone p) env first
          → HoldsTask (chunks_alone p) env k task new
      try_holds new stored env left =
          stored env (ready_now env now (left_on 0 (n * calls_of p k task) now step env left) (inputs_on 0 (n * calls_of p k task) now step has))

      pub try_end : (retries : ℕ) (new : Shown) (e : TaskFault) → Steps (TaskChange p k task now) 0 (calls_of p k task) now new → Rose n first.faults now.faults → (e ≡ fault.Store → n ≡ retries)
          → IsTaskFault now new p k task e → IsTaskEnd p (task_id k task) (retries + 1) (first, new) e
      try_end retries new fault.Store tried rose last cause = let all = last refl in let r = cause in omega (arith, all, r, rose)
      try_end retries new fault.NoMemory tried rose last cause = cause
      try_end retries new (fault.BadChunk key got want) tried rose last (c, listed, is, size, other, holds) = (
        (c, listed, is, size, other, holds),
        λ env left. (
          c,
          of_input env new (left_on 0 ((n + 1) * calls_of p k task) new (try_more new tried) env left) c got listed (λ e. other (e ∙ sym size))
              (subst (λ (x : List ℕ). HoldsLength new.held x got) is holds),
          is,
        ),
      )

-- fewer tries than there may be
pub tries_all : (W : Changes) (calls n retries : ℕ) (a b : Shown) → n ≤ retries → Steps W 0 ((n + 1) * calls) a b → Steps W 0 ((retries + 1) * calls) a b
tries_all W calls n retries a b few step =
    let m : (n + 1) * calls ≤ (retries + 1) * calls = mul-le-mul_right calls (let h : n + 1 ≤ retries + 1 = omega (arith, few) in h) in
    steps_wider (λ key value change. change) (omega arith) (omega (arith, m)) step

pub ended_so : (e : TaskFault) → ends_tries e ≡ true → e ≡ fault.Store → ⊥
ended_so fault.Store ends same = let h : false ≡ true = ends in cc
ended_so (fault.BadChunk key got want) ends same = cc
ended_so fault.NoMemory ends same = cc

pub failed_so : (p : PlanView) (k task : ℕ) (now new : Shown) (e : TaskFault) → ends_tries e ≡ false → IsTaskFault now new p k task e → Rose 1 now.faults new.faults
failed_so p k task now new fault.Store ends cause = cause
failed_so p k task now new (fault.BadChunk key got want) ends cause = absurd (let h : true ≡ false = ends in cc)
failed_so p k task now new fault.NoMemory ends cause = absurd (let h : true ≡ false = ends in cc)

-- so many tries failed
pub record TriesSoFar (p : PlanView) (k task n : ℕ) (shown : Shown × Shown) (memory : TaskMemory) : Type 0 where
  pub lent : IsMemoryOf p k memory
  pub step : Steps (TaskPut p k task shown.0) 0 (n * calls_of p k task) shown.0 shown.1
  pub rose : Rose n shown.0.faults shown.1.faults

pub no_try : (p : PlanView) (k task : ℕ) (memory : TaskMemory) (first : Shown) → IsMemoryOf p k memory → TriesSoFar p k task 0 (first, first) memory
no_try p k task memory first is = record {
  lent = is;
  step = steps_wider (λ key value change. change) (omega arith) (omega arith) (steps_same (TaskPut p k task first) first);
  rose = let last = steps_same (TaskPut p k task first) first in omega (arith);
}

module _ (ranges : HaveRanges) (p : PlanView) (sound : Sound p) (k task : ℕ) (operation : k < length p.ops) (number : task < tasks_of p.arrays (op_of p k)) (first : Shown) (has : HasInputs p k task first.held)
    (n retries : ℕ) (now : Shown) (memory : TaskMemory) (so_far : TriesSoFar p k task n (first, now) memory) (new : Shown) (tried : Steps (TaskChange p k task now) 0 (calls_of p k task) now new) where
  pub once_more : Steps (TaskPut p k task first) 0 ((n + 1) * calls_of p k task) first new
  once_more = try_more ranges p sound k task operation number first has n now so_far.step new tried

  pub tried_once : (later : TaskMemory) → IsMemoryOf p k later → Rose 1 now.faults new.faults → TriesSoFar p k task (n + 1) (first, new) later
  tried_once later lent failed = record { lent = lent; step = once_more; rose = let before = so_far.rose in omega (arith, before, failed) }

  pub all_tries : n ≤ retries → Steps (TaskPut p k task first) 0 ((retries + 1) * calls_of p k task) first new
  all_tries few = tries_all (TaskPut p k task first) (calls_of p k task) n retries first new few once_more

  pub tried_well : n ≤ retries → IsTried p (task_id k task) retries (first, new) (Ok n)
  tried_well few = (few, let before = so_far.rose in let more = tried.count in omega (arith, before, more))

  pub holds_well : ((env : Elements) → IsTaskReady p k task env now → HoldsCells p k task env new) → (env : Elements) → IsLeft (chunks_alone p) env first → HoldsTask (chunks_alone p) env k task new
  holds_well stored = try_holds ranges p sound k task operation number first has n now so_far.step new stored

  pub tried_badly : (e : TaskFault) → (e ≡ fault.Store → n ≡ retries) → IsTaskFault now new p k task e → IsTried p (task_id k task) retries (first, new) (Err e)
  tried_badly e last cause = try_end ranges p sound k task operation number first has n now so_far.step retries new e tried so_far.rose last cause

-- ---- the chosen tasks, one after another

module _ (ranges : HaveRanges) (p : PlanView) (sound : Sound p) (q : Part) (part : IsPartOf p q) (chosen : List Bool) (retries : ℕ) (first : Shown) where
  abbrev calls_to : ℕ → ℕ
  calls_to n = (retries + 1) * chosen_calls p q chosen n

  chosen_fills : Fills (ChosenPut p q chosen first)
  chosen_fills key value (i, named, (c, bytes, listed, at, is, valued)) = (bytes, is)

  pub none_run : HaveRun p q chosen retries 0 (first, first)
  none_run = record {
    step = steps_wider (λ key value change. change) (omega arith) (omega arith) (steps_same (ChosenPut p q chosen first) first);
    done = λ env left i below named. absurd (omega (arith, below));
  }

  -- the tasks that are chosen are tasks of the plan
  pub chosen_task : length chosen ≡ q.to - q.from → (i : ℕ) → i < length chosen → q.from + i < tasks_of p.arrays (op_of p q.op)
  chosen_task whole i below = let few = part.few in omega (arith, whole, below, few)

  module _ (tasks : (i : ℕ) → IsChosenAt chosen i → q.from + i < tasks_of p.arrays (op_of p q.op)) where
    pub chosen_runs : Within (ChosenPut p q chosen first) (RunChange (chunks_alone p) first)
    chosen_runs key value (i, named, put) = put_runs p sound q.op (q.from + i) part.operation (tasks i named) first key value put

    left_then : (l m : ℕ) (now : Shown) → Steps (ChosenPut p q chosen first) l m first now → (env : Elements) → IsLeft (chunks_alone p) env first → IsLeft (chunks_alone p) env now
    left_then l m now step env left =
        left_kept (chunks_alone p) env first left l m now (begun_since (chunks_alone p) env first left l m now (steps_wider chosen_runs (omega arith) (omega arith) step))

    module _ (n : ℕ) (now : Shown) (run : HaveRun p q chosen retries n (first, now)) where
      pub inputs_still : (i : ℕ) → HasInputs p q.op (q.from + i) first.held → HasInputs p q.op (q.from + i) now.held
      inputs_still i has key made = held_stays (ChosenPut p q chosen first) chosen_fills 0 (calls_to n) first now run.step key (has key made)

      calls_more : (b : Bool) → slice_index_or chosen n false ≡ b → chosen_calls p q chosen (n + 1) ≡ chosen_calls p q chosen n + (if b then calls_of p q.op (q.from + n) else 0)
      calls_more b is =
          let e : suc n ≡ n + 1 = omega arith in
          sym (ap (chosen_calls p q chosen) e) ∙ ap (λ (x : Bool). chosen_calls p q chosen n + (if x then calls_of p q.op (q.from + n) else 0)) is

      before_or_last : (i : ℕ) → i < n + 1 → (i < n) ⊎ (i ≡ n)
      before_or_last i below = elim (cases_lt i n) [ inl less ↦ inl less | inr more ↦ inr (omega (arith, below, more)) ]

      pub run_pass : slice_index_or chosen n false ≡ false → HaveRun p q chosen retries (n + 1) (first, now)
      run_pass passed = record {
        step =
            let more = calls_more false passed in
            let e : chosen_calls p q chosen (n + 1) ≡ chosen_calls p q chosen n = omega (arith, more) in
            let m : (retries + 1) * chosen_calls p q chosen (n + 1) ≡ (retries + 1) * chosen_calls p q chosen n = ap (λ (k : ℕ). (retries + 1) * k) e in
            steps_wider (λ key value change. change) (omega arith) (omega (arith, m)) run.step;
        done = λ env left i below named. elim (before_or_last i below) [
          | inl earlier ↦ run.done env left i earlier named
          | inr last ↦ let fails_so : slice_index_or chosen i false ≡ false = subst (λ (x : ℕ). slice_index_or chosen x false ≡ false) (sym last) passed in absurd (cc (fails_so, named))
        ];
      }

      module _ (named : IsChosenAt chosen n) (new : Shown) (step : Steps (TaskPut p q.op (q.from + n) now) 0 ((retries + 1) * calls_of p q.op (q.from + n)) now new) where
        last_put : Within (TaskPut p q.op (q.from + n) now) (ChosenPut p q chosen first)
        last_put key value (c, bytes, listed, at, is, valued) = (n, named, (c, bytes, listed, at, is, λ env left. valued env (left_then 0 (calls_to n) now run.step env left)))

        pub last_step : Steps (ChosenPut p q chosen first) 0 (calls_to (n + 1)) first new
        last_step =
            let more = calls_more true named in
            let e : chosen_calls p q chosen (n + 1) ≡ chosen_calls p q chosen n + calls_of p q.op (q.from + n) = omega (arith, more) in
            let m : (retries + 1) * chosen_calls p q chosen (n + 1) ≡ (retries + 1) * (chosen_calls p q chosen n + calls_of p q.op (q.from + n)) = ap (λ (k : ℕ). (retries + 1) * k) e in
            let d = mul-add (retries + 1) (chosen_calls p q chosen n) (calls_of p q.op (q.from + n)) in
            let second : Steps (ChosenPut p q chosen first) 0 ((retries + 1) * calls_of p q.op (q.from + n)) now new = steps_wider last_put (omega arith) (omega arith) step in
            steps_wider (λ key value change. change) (omega arith) (omega (arith, m, d)) (steps_then run.step second)

        last_begun : (env : Elements) → IsLeft (chunks_alone p) env now → Begun (chunks_alone p) env 0 ((retries + 1) * calls_of p q.op (q.from + n)) now new
        last_begun env left =
            begun_since (chunks_alone p) env now left 0 ((retries + 1) * calls_of p q.op (q.from + n)) new
            (steps_wider (put_runs p sound q.op (q.from + n) part.operation (tasks n named) now) (omega arith) (omega arith) step)

        pub run_more : ((env : Elements) → IsLeft (chunks_alone p) env now → HoldsTask (chunks_alone p) env q.op (q.from + n) new) → HaveRun p q chosen retries (n + 1) (first, new)
        run_more holds = record {
          step = last_step;
          done = λ env left i below chosen_i. elim (before_or_last i below) [
            | inl earlier ↦ λ c listed.
                let there = left_then 0 (calls_to n) now run.step env left in
                piece_stays (chunks_alone p) env now there 0 ((retries + 1) * calls_of p q.op (q.from + n)) new (last_begun env there) (Chunk c)
                (cell_of p sound q.op (q.from + i) part.operation (tasks i chosen_i) c listed) (run.done env left i earlier chosen_i c listed)
            | inr last ↦
                subst (λ (x : ℕ). HoldsTask (chunks_alone p) env q.op (q.from + x) new) (sym last) (holds env (left_then 0 (calls_to n) now run.step env left))
          ];
        }

-- what is chosen is in the list
pub named_below : (bs : List Bool) (i : ℕ) → IsChosenAt bs i → i < length bs
named_below [] i named = absurd (cc (named))
named_below (b ∷ bs) zero named = omega arith
named_below (b ∷ bs) (suc i) named = let rest = named_below bs i named in omega (arith, rest)

-- ---- sums over the chosen

pub sum_grows : (f : ℕ → ℕ) (n m : ℕ) → n ≤ m → sum_of_first f n ≤ sum_of_first f m
sum_grows f n zero below = subst (λ (x : ℕ). sum_of_first f x ≤ 0) (let e : 0 ≡ n = omega arith in e) (omega arith)
sum_grows f n (suc m) below = elim (cases_lt m n) [
  | inl past ↦ subst (λ (x : ℕ). sum_of_first f n ≤ sum_of_first f x) (let e : n ≡ suc m = omega arith in e) (omega arith)
  | inr within ↦ let rest = sum_grows f n m within in omega (arith, rest)
]

weight_few : (b : Bool) → (if b then 1 else 0) ≤ 1
weight_few true = omega arith
weight_few false = omega arith

pub chosen_few : (chosen : List Bool) (n : ℕ) → chosen_below chosen n ≤ n
chosen_few chosen zero = omega arith
chosen_few chosen (suc n) = let rest = chosen_few chosen n in let one = weight_few (slice_index_or chosen n false) in omega (arith, rest, one)

pub chosen_more : (chosen : List Bool) (n : ℕ) (b : Bool) → slice_index_or chosen n false ≡ b → chosen_below chosen (n + 1) ≡ chosen_below chosen n + (if b then 1 else 0)
chosen_more chosen n b is =
    let e : suc n ≡ n + 1 = omega arith in
    sym (ap (chosen_below chosen) e) ∙ ap (λ (x : Bool). chosen_below chosen n + (if x then 1 else 0)) is

pub starts_none : (retries faults : ℕ) (chosen : List Bool) → AreTaskStarts retries chosen 0 (faults, faults) (record { starts = 0; failures = 0 })
starts_none retries faults chosen = (refl, omega arith, omega arith)

-- the counts of so few tasks are small
pub starts_fit : (retries below n failed starts failures : ℕ) → starts ≡ failures + below → failures ≤ retries * below → below ≤ n → retries ≤ 8 → failed ≤ retries → starts + (failed + 1) ≤ 9 * n + 9
starts_fit retries below n failed starts failures is least few small more =
    let m : retries * below ≤ 8 * below = mul-le-mul_right below small in
    omega (arith, is, least, few, small, more, m)

module _ (retries : ℕ) (chosen : List Bool) (n a b : ℕ) (c : PartCounts) (so_far : AreTaskStarts retries chosen n (a, b) c) where
  pub starts_pass : slice_index_or chosen n false ≡ false → AreTaskStarts retries chosen (n + 1) (a, b) c
  starts_pass passed =
      let more = chosen_more chosen n false passed in
      let e : chosen_below chosen (n + 1) ≡ chosen_below chosen n = omega (arith, more) in
      let m : retries * chosen_below chosen (n + 1) ≡ retries * chosen_below chosen n = ap (λ (k : ℕ). retries * k) e in
      let s = so_far.0 in
      let f = so_far.1 in
      (omega (arith, e, s), omega (arith, m, f), so_far.2)

  pub starts_more : (d failed : ℕ) → IsChosenAt chosen n → failed ≤ retries → Rose failed b d
      → AreTaskStarts retries chosen (n + 1) (a, d) (record { starts = c.starts + (failed + 1); failures = c.failures + failed })
  starts_more d failed named few rose =
      let more = chosen_more chosen n true named in
      let e : chosen_below chosen (n + 1) ≡ chosen_below chosen n + 1 = omega (arith, more) in
      let m : retries * chosen_below chosen (n + 1) ≡ retries * (chosen_below chosen n + 1) = ap (λ (k : ℕ). retries * k) e in
      let t = mul-add retries (chosen_below chosen n) 1 in
      let s = so_far.0 in
      let f = so_far.1 in
      let r = so_far.2 in
      (omega (arith, e, s), omega (arith, m, t, f, few), omega (arith, r, rose))

-- the first n tasks were looked at, and the chosen ones of them run
pub record RunSoFar (p : PlanView) (q : Part) (chosen : List Bool) (retries n : ℕ) (shown : Shown × Shown) (memory : TaskMemory) (c : PartCounts) : Type 0 where
  pub lent : IsMemoryOf p q.op memory
  pub run : HaveRun p q chosen retries n shown
  pub starts : AreTaskStarts retries chosen n (shown.0.faults, shown.1.faults) c

module _ (ranges : HaveRanges) (p : PlanView) (sound : Sound p) (q : Part) (part : IsPartOf p q) (chosen : List Bool) (retries : ℕ) (first : Shown) (whole : length chosen ≡ q.to - q.from)
    (n : ℕ) (below : n < length chosen) (now : Shown) (memory : TaskMemory) (c : PartCounts) (so_far : RunSoFar p q chosen retries n (first, now) memory c) where
  all_tasks : (i : ℕ) → IsChosenAt chosen i → q.from + i < tasks_of p.arrays (op_of p q.op)
  all_tasks i named = chosen_task ranges p sound q part chosen retries first whole i (named_below chosen i named)

  pub this_task : q.from + n < tasks_of p.arrays (op_of p q.op)
  this_task = chosen_task ranges p sound q part chosen retries first whole n below

  pub these_inputs : (old : Shown) → AreChosen p q (old, first) chosen → IsChosenAt chosen n → HasInputs p q.op (q.from + n) now.held
  these_inputs old tasks named = inputs_still ranges p sound q part chosen retries first all_tasks n now so_far.run n (tasks.ready n named)

  pub passed_so : slice_index_or chosen n false ≡ false → RunSoFar p q chosen retries (n + 1) (first, now) memory c
  passed_so passed = record {
    lent = so_far.lent;
    run = run_pass ranges p sound q part chosen retries first all_tasks n now so_far.run passed;
    starts = starts_pass retries chosen n first.faults now.faults c so_far.starts passed;
  }

  module _ (named : IsChosenAt chosen n) (new : Shown) (step : Steps (TaskPut p q.op (q.from + n) now) 0 ((retries + 1) * calls_of p q.op (q.from + n)) now new) where
    pub ran_so : (later : TaskMemory) → IsMemoryOf p q.op later → ((env : Elements) → IsLeft (chunks_alone p) env now → HoldsTask (chunks_alone p) env q.op (q.from + n) new) → (failed : ℕ)
        → IsTried p (task_id q.op (q.from + n)) retries (now, new) (Ok failed) → RunSoFar p q chosen retries (n + 1) (first, new) later (record { starts = c.starts + (failed + 1); failures = c.failures + failed })
    ran_so later lent holds failed tried = record {
      lent = lent;
      run = run_more ranges p sound q part chosen retries first all_tasks n now so_far.run named new step holds;
      starts = starts_more retries chosen n first.faults now.faults c so_far.starts new.faults failed named tried.0 tried.1;
    }

    -- a task ended them
    pub stopped_step : Steps (ChosenPut p q chosen first) 0 ((retries + 1) * chosen_calls p q chosen (q.to - q.from)) first new
    stopped_step =
        let few = sum_grows (λ i. if slice_index_or chosen i false then calls_of p q.op (q.from + i) else 0) (n + 1) (q.to - q.from) (omega (arith, below, whole)) in
        let m : chosen_calls p q chosen (n + 1) * (retries + 1) ≤ chosen_calls p q chosen (q.to - q.from) * (retries + 1) = mul-le-mul_right (retries + 1) few in
        steps_wider (λ key value change. change) (omega arith) (omega (arith, m)) (last_step ranges p sound q part chosen retries first all_tasks n now so_far.run named new step)

    pub stopped_by : (e : TaskFault) → IsTried p (task_id q.op (q.from + n)) retries (now, new) (Err e) → IsStoppedBy p q chosen (retries + 1) (first, new) (task_fault (q.from + n) e)
    stopped_by fault.Store rose = (n, refl, named, let more = so_far.run.step.count in omega (arith, rose, more))
    stopped_by (fault.BadChunk key got want) (bad, input) = (n, named, (bad, λ env left. input env (left_then ranges p sound q part chosen retries first all_tasks 0 ((retries + 1) * chosen_calls p q chosen n) now so_far.run.step env left)))
    stopped_by fault.NoMemory lacks = lacks

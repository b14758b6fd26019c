-- What a part comes to, by what was asked, chosen and run.
use Rattle.std.proofs.Common.{◌≡◌, ◌⊎◌, inl, inr, ℕ, zero, suc, ◌+◌, ◌-◌, ◌*◌, ◌<◌, Bool, true, false, List, [], ◌∷◌, length, Option, Some, Result, Ok, Err, refl, sym, ◌∙◌, subst, arith}
use Rattle.std.specs.Prelude.{IfErr, IfOk, OnOk, slice_index_or}
use Rattle.cu_store.specs.Faults.{last_count}
use Rattle.cu_store.specs.Held.{Contents, Holds}
use Rattle.cu_store.specs.Steps.{Shown, Changes, NoChange, Steps, Within}
use Rattle.cu_store.proofs.Steps.{steps_none, steps_same, steps_then, steps_wider}
use Rattle.cu_op.specs.declared.cells.Cell.{Cell}
use Rattle.cu_op.specs.Cells.{tasks_of}
use Rattle.cu_op.specs.PlanView.{PlanView}
use Rattle.cu_op.specs.Schedule.{op_of, key_of}
use Rattle.cu_op.specs.Sound.{Sound, IsCell}
use Rattle.cu_op.specs.Elements.{Elements}
use Rattle.cu_op.proofs.TaskCells.{written_cell}
use Rattle.cu_run_law.specs.Left.{IsLeft, Begun}
use Rattle.cu_run_law.specs.Pieces.{chunks_alone, Chunk, HoldsPiece, HoldsTask}
use Rattle.cu_run_law.proofs.Keeping.{left_kept, piece_stays, begun_since}
use Rattle.cu_work.proofs.AskedKeys.{steps_ever}
use Rattle.cu_work.proofs.TriedTasks.{chosen_runs}
use Rattle.cu_run_law.proofs.Elements.{HaveRanges}
use Rattle.cu_work.specs.Asked.{Asking, asking_of, AreChosen, HasAsked, IsChosenAt, IsUnstarted, own_chunks}
use Rattle.cu_work.specs.Ended.{HasCalled, IsPartDone, IsPartEnd, IsPartFault, WereChosen, count_of_part}
use Rattle.cu_work.specs.Part.{IsInPart, IsPartOf, PartPut}
use Rattle.cu_work.specs.Tried.{AreTaskStarts, ChosenPut, HaveRun, IsStoppedBy, chosen_calls}
use Rattle.cu_work.specs.declared.part.Part.{Part}
use Rattle.cu_work.specs.declared.part.PartCounts.{PartCounts}
use Rattle.cu_work.specs.declared.part.PartFault.{PartFault}
use Rattle.cu_work.specs.declared.part.PartFault.TheVariants.{Failed, NotReady, Broken, BadChunk, NoMemory}

index_anyhow : (bs : List Bool) (i : ℕ) (d e : Bool) → i < length bs → slice_index_or bs i d ≡ slice_index_or bs i e
index_anyhow [] i d e below = absurd (omega (arith, below))
index_anyhow (b ∷ bs) zero d e below = refl
index_anyhow (b ∷ bs) (suc i) d e below = index_anyhow bs i d e (omega (arith, below))

pub index_below : (bs : List Bool) (i : ℕ) → IsChosenAt bs i → i < length bs
index_below [] i named = absurd (cc (named))
index_below (b ∷ bs) zero named = omega arith
index_below (b ∷ bs) (suc i) named = let rest = index_below bs i named in omega (arith, rest)

yes_or_no : (b : Bool) → (b ≡ true) ⊎ (b ≡ false)
yes_or_no true = inl refl
yes_or_no false = inr refl

-- ---- no task was started

module _ (s : Asking) (now : Shown) where
  pub unstarted_fault : (f : PartFault) → IsUnstarted s now f → Steps NoChange 0 last_count s.start now → IsPartFault s now f
  unstarted_fault (Failed key) why step = (why, step)
  unstarted_fault (NotReady task) why step = (why, step)
  unstarted_fault (Broken task) why step = absurd why
  unstarted_fault (BadChunk key got want) why step = absurd why
  unstarted_fault NoMemory why step = inl step

  pub asked_step : (own : ℕ) → HasAsked s own now → Steps NoChange 0 last_count s.start now
  asked_step own asked = steps_ever NoChange 0 (s.tries * (own + length asked.inputs)) s.start now asked.step

  pub asked_calls : HasAsked s (own_chunks s.plan s.part (count_of_part s.part)) now → HasCalled s now
  asked_calls asked = record {
    inputs = asked.inputs;
    chosen = [];
    differ = asked.differ;
    sought = asked.sought;
    lacking = λ i named. absurd (none i named);
    calls = let most = asked.step.calls.1 in omega (arith, most);
  }
    where
      none : (i : ℕ) → IsChosenAt [] i → ⊥
      none i named = cc (named)

-- nothing is changed by a step of nothing
pub not_changed : (W : Changes) (shown : Shown) → Steps W 0 last_count shown shown
not_changed W shown = steps_wider (λ key value change. change) (omega arith) (omega arith) (steps_same W shown)

-- ---- the chosen tasks were run

module _ (ranges : HaveRanges) (p : PlanView) (sound : Sound p) (q : Part) (part : IsPartOf p q) (retries : ℕ) (old mid new : Shown) (chosen : List Bool) (whole : length chosen ≡ count_of_part q)
    (asked : HasAsked (asking_of p q (retries + 1) old) (own_chunks p q (count_of_part q)) mid) (each : Steps NoChange (own_chunks p q (count_of_part q)) last_count old mid) (tasks : AreChosen p q (old, mid) chosen) where
  abbrev s : Asking
  s = asking_of p q (retries + 1) old

  first_step : Steps NoChange 0 last_count old mid
  first_step = asked_step s mid (own_chunks p q (count_of_part q)) asked

  in_part : (i : ℕ) → IsChosenAt chosen i → IsInPart q (q.from + i)
  in_part i named = let below = index_below chosen i named in (omega arith, let o = part.ordered in omega (arith, below, whole, o))

  a_task : (i : ℕ) → IsChosenAt chosen i → q.from + i < tasks_of p.arrays (op_of p q.op)
  a_task i named = let few = part.few in let inside = in_part i named in omega (arith, few, inside.1)

  left_mid : (env : Elements) → IsLeft (chunks_alone p) env old → IsLeft (chunks_alone p) env mid
  left_mid env left = left_kept (chunks_alone p) env old left 0 last_count mid (steps_none first_step)

  module _ (step : Steps (ChosenPut p q chosen mid) 0 ((retries + 1) * chosen_calls p q chosen (count_of_part q)) mid new) where
    chosen_put : Within (ChosenPut p q chosen mid) (PartPut p q old)
    chosen_put key value (i, named, (c, bytes, listed, at, is, valued)) = (
      q.from + i,
      in_part i named,
      tasks.lacking i named,
      (c, bytes, listed, at, is, λ env left. valued env (left_mid env left)),
    )

    run_step : Steps (PartPut p q old) 0 ((retries + 1) * chosen_calls p q chosen (count_of_part q)) mid new
    run_step = steps_wider chosen_put (omega arith) (omega arith) step

    pub part_step : Steps (PartPut p q old) 0 last_count old new
    part_step =
        let before : Steps (PartPut p q old) 0 last_count old mid = steps_none first_step in
        steps_ever (PartPut p q old) 0 (last_count + (retries + 1) * chosen_calls p q chosen (count_of_part q)) old new (steps_then before run_step)

    pub part_calls : HasCalled s new
    part_calls = record {
      inputs = asked.inputs;
      chosen = chosen;
      differ = asked.differ;
      sought = asked.sought;
      lacking = tasks.lacking;
      calls = let a = asked.step.calls.1 in let b = step.calls.1 in omega (arith, a, b);
    }

    run_begun : (env : Elements) → IsLeft (chunks_alone p) env mid → Begun (chunks_alone p) env 0 ((retries + 1) * chosen_calls p q chosen (count_of_part q)) mid new
    run_begun env left =
        begun_since (chunks_alone p) env mid left 0 ((retries + 1) * chosen_calls p q chosen (count_of_part q)) new
        (steps_wider (chosen_runs ranges p sound q part chosen retries mid a_task) (omega arith) (omega arith) step)

    -- a chunk that was held when all had been asked for holds its value
    held_piece : (env : Elements) (left : IsLeft (chunks_alone p) env mid) (c : Cell) → IsCell p.arrays c.array c.coord → (now : Contents) → mid.held ≡ Some now
        → (bytes : List ℕ) → now (key_of p.arrays c) ≡ Some bytes → HoldsPiece (chunks_alone p) env (Chunk c) mid
    held_piece env left c cell now told bytes is =
        let same : left.held ≡ now = cc (left.told, told) in
        elim (left.pieces (Chunk c) cell) [
          | inl none ↦ absurd (cc (same, none, is))
          | inr (own, has, v) ↦ (own, v, subst (λ (h : Option Contents). Holds h (key_of p.arrays c) own) (sym left.told) has)
        ]

    part_holds : HaveRun p q chosen retries (count_of_part q) (mid, new) → (env : Elements) (task : ℕ) → IsLeft (chunks_alone p) env old → IsInPart q task → HoldsTask (chunks_alone p) env q.op task new
    part_holds run env task left (least, less) =
        let i = task - q.from in
        let back : q.from + i ≡ task = omega (arith, least) in
        let below : i < length chosen = omega (arith, least, less, whole) in
        let at = left_mid env left in
        subst (λ (x : ℕ). HoldsTask (chunks_alone p) env q.op x new) back (elim (yes_or_no (slice_index_or chosen i false)) [
          | inl named ↦ run.done env at i (omega (arith, below, whole)) named
          | inr passed ↦ λ c listed.
              let few = part.few in
              let cell = written_cell p sound q.op (q.from + i) c.array c.coord (record { operation = part.operation; number = omega (arith, back, less, few); cell = listed }) in
              let (bytes, is) = tasks.stored i at.held (sym (index_anyhow chosen i false true below) ∙ passed) at.told c listed in
              piece_stays (chunks_alone p) env mid at 0 ((retries + 1) * chosen_calls p q chosen (count_of_part q)) new (run_begun env at) (Chunk c) cell (held_piece env at c cell at.held at.told bytes is)
        ])

    abbrev were_chosen : WereChosen s new
    were_chosen = record {
      asked = mid;
      first = each;
      chosen = chosen;
      whole = whole;
      tasks = tasks;
      later = step;
    }

    pub part_done : (n : PartCounts) → HaveRun p q chosen retries (count_of_part q) (mid, new) → AreTaskStarts retries chosen (count_of_part q) (mid.faults, new.faults) n → IsPartDone s new n
    part_done n run starts = record {
      choice = were_chosen;
      starts =
          let same : retries ≡ (retries + 1) - 1 = omega arith in
          subst (λ (r : ℕ). AreTaskStarts r chosen (count_of_part q) (mid.faults, new.faults) n) same starts;
      held = part_holds run;
    }

    pub part_stopped : (f : PartFault) → IsStoppedBy p q chosen (retries + 1) (mid, new) f → IsPartFault s new f
    part_stopped (Broken number) (i, is, named, rose) = (were_chosen, (i, is, named), rose)
    part_stopped (BadChunk key got want) (i, named, (bad, input)) =
        (were_chosen, q.from + i, (i, refl, named), (bad, λ env left. input env (left_mid env left)))
    part_stopped NoMemory lacks = inr lacks
    part_stopped (Failed key) why = absurd why
    part_stopped (NotReady task) why = absurd why

    pub part_end : (result : Result PartCounts PartFault) → OnOk result (HaveRun p q chosen retries (count_of_part q) (mid, new)) → IfOk result (AreTaskStarts retries chosen (count_of_part q) (mid.faults, new.faults))
        → IfErr result (IsStoppedBy p q chosen (retries + 1) (mid, new)) → IsPartEnd s new result
    part_end (Ok n) run starts stopped = part_done n run starts
    part_end (Err f) run starts stopped = part_stopped f stopped

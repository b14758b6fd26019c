-- A run that goes on from its record: each other answer has a cause that isn't there.
use Rattle.std.proofs.Common.{◌≡◌, ◌≢◌, ◌⊎◌, inl, inr, ℕ, ◌+◌, ◌<◌, List, length, Contains, Option, Some, None, Bool, false, refl, sym, ap, ◌∙◌, subst, arith}
use Rattle.std.specs.Prelude.{slice_get}
use Rattle.std.proofs.lemmas.List.Elements.{All-weaker}
use Rattle.cu_store.specs.Held.{Contents, IsAmong}
use Rattle.cu_store.specs.Steps.{Shown, OrLate, Lands}
use Rattle.cu_store.proofs.Steps.{steps_none}
use Rattle.cu_name.specs.Keys.{record_key_of}
use Rattle.cu_expr.specs.declared.inputs.InputInfo.{InputInfo}
use Rattle.cu_grid.specs.Grid.{IsCoordinate}
use Rattle.cu_op.specs.declared.cells.Cell.{Cell}
use Rattle.cu_op.specs.Arrays.{chunk_room, grid_at, is_inlined, maker_at}
use Rattle.cu_op.specs.Cells.{tasks_of}
use Rattle.cu_op.specs.Schedule.{op_of, key_of}
use Rattle.cu_op.specs.Sound.{Sound}
use Rattle.cu_op.specs.Within.{fetched_chunks}
use Rattle.cu_op.proofs.Fetched.{fetched_stored}
use Rattle.cu_op.proofs.Plans.{own_region}
use Rattle.cu_region.specs.Steady.{HoldsLength}
use Rattle.cu_run_law.specs.Left.{RunChange}
use Rattle.cu_run_law.specs.Pieces.{Text, Chunk, IsInputChunk, IsPiece, KeysApart}
use Rattle.cu_run_law.proofs.Keeping.{left_kept}
use Rattle.cu_work.specs.Drive.{IsBadChunk, IsInputKey}
use Rattle.cu_work.specs.Tried.{IsBadRead, task_id}
use Rattle.cu_command.proofs.JobLemmas.{only_memory}
use Rattle.cu_command.specs.Inputs.{IsReadAt, IsRefusedAt, IsTurn}
use Rattle.cu_command.specs.Job.{IsJob, IsJobFault, IsIllTyped, IsTypable, StoodStill}
use Rattle.cu_command.specs.Seen.{Stepped}
use Rattle.cu_command.specs.Streams.{ReadsAll}
use Rattle.cu_command.specs.declared.job.Job.{Job}
use Rattle.cu_command.specs.declared.job.JobFault.{JobFault}
use Rattle.cu_command.specs.declared.job.JobFault.TheVariants as fault
use Rattle.cu_command.specs.declared.status.Status.{Status}
use Rattle.cu_command.specs.declared.status.Status.TheVariants.{Done, BadExpr, BadType, OverMemory, OverLimit, BadMeta, NoArray, TaskFailed, ReadFault, WriteFault, BadChunk, OtherPlan, NoPlan, DepotFailed, NoMemory}
use Rattle.cu_top.proofs.CallLemmas.{same_text}
use Rattle.cu_top.proofs.Completeness.{none_rose, none_or_some, length_before, lands_told}
use Rattle.cu_lower.specs.declared.options.Options.{Options}
use Rattle.cu_top.specs.Call.{CameToRun}
use Rattle.cu_top.specs.Complete.{AreWhole, HasWholeInputs, IsLeftRecorded, IsResumable, IsResumeCause, IsServed}
use Rattle.cu_top.specs.Held.{HoldsOther}
use Rattle.cu_top.specs.Record.{record_text}
use Rattle.cu_top.specs.Resume.{IsResumed, ResumeTells, WasResumed}
use Rattle.cu_top.specs.Run.{Scene, RunCase, case, plan_in, job_run, env_of, IsSpared, HasNoJob}

-- ---- why a text with a job has none: only the depot or want of memory

abbrev unfailed : Shown → Shown
unfailed s = record { held = s.held; late = s.late; faults = 0; calls = s.calls; lacks = s.lacks }

module _ (entry now : Shown) (text : List ℕ) where
  read_so : (i : InputInfo) → IsReadAt entry i → IsReadAt (unfailed entry) i
  read_so i r = record { layout = r.layout; held = r.held }

  turn_so : (names : List (List ℕ)) (name : List ℕ) → IsTurn names entry name → IsTurn names (unfailed entry) name
  turn_so names name t = record {
    before = t.before;
    behind = t.behind;
    place = t.place;
    read = All-weaker (IsReadAt entry) (IsReadAt (unfailed entry)) read_so t.before t.read;
  }

  refused_so : (key : List ℕ) (code : ℕ) → IsRefusedAt entry now key code → IsRefusedAt (unfailed entry) (unfailed now) key code
  refused_so key code r = record { now = r.now; entry = r.entry }

  ill_so : (code node : ℕ) → IsIllTyped entry text code node → IsIllTyped (unfailed entry) text code node
  ill_so code node ill = record {
    expr = ill.expr;
    said = ill.said;
    inputs = ill.inputs;
    names = ill.names;
    read = All-weaker (IsReadAt entry) (IsReadAt (unfailed entry)) read_so ill.inputs ill.read;
    place = ill.place;
    fault = ill.fault;
  }

  module _ (typable : IsTypable entry text) (retries : ℕ) where
    typable_so : IsTypable (unfailed entry) text
    typable_so = record {
      contents = typable.contents;
      told = typable.told;
      expr = typable.expr;
      said = typable.said;
      inputs = typable.inputs;
      names = typable.names;
      held = typable.held;
      calm = typable.calm;
      types = typable.types;
      accepted = typable.accepted;
    }

    wants : (f : JobFault) → IsJobFault (retries + 1) text (unfailed entry) (unfailed now) f → f ≡ fault.NoMemory
    wants f why = only_memory retries text (unfailed entry) (unfailed now) f typable_so (refl, omega arith) why

    pub fault_so : (f : JobFault) → IsJobFault (retries + 1) text entry now f → (f ≡ fault.NoMemory) ⊎ ((key : List ℕ) × (f ≡ fault.DepotFailed key))
    fault_so (fault.Expression code node) why = inl (wants (fault.Expression code node) why)
    fault_so (fault.DepotFailed key) why = inr (key, refl)
    fault_so (fault.NoArray name) why = inl (wants (fault.NoArray name) (turn_so _ name why.0, why.1))
    fault_so (fault.BadMeta name code) why = inl (wants (fault.BadMeta name code) (turn_so _ name why.0, refused_so _ code why.1))
    fault_so (fault.Typing code node) why = inl (wants (fault.Typing code node) (ill_so code node why))
    fault_so fault.NoMemory why = inl refl

-- ---- the record that is held

same_value : (v w : Option (List ℕ)) (a b : List ℕ) → v ≡ w → v ≡ Some a → w ≡ Some b → a ≡ b
same_value v w a b same one other = cc

pub absent_or : (v : Option (List ℕ)) (a : List ℕ) → v ≡ None → v ≡ Some a → ⊥
absent_or v a none some = cc

module _ (c : RunCase) (job : Job) (entry : Contents) (rest : IsLeftRecorded c.options job entry c.old.depot) where
  pub never_other : (place : ℕ) → IsSpared c → HoldsOther c.new.depot.held (record_key_of job.expr.store_as) (record_text c.options job) place → ⊥
  never_other place spared other =
      let left = left_kept (job_run c job) (env_of c job entry) c.old.depot rest.left 0 spared.calls c.new.depot (steps_none spared.step) in
      let (bytes, is, (same, differ)) = subst (λ (h : Option Contents). HoldsOther h (record_key_of job.expr.store_as) (record_text c.options job) place) left.told other in
      elim (left.pieces (Text 0) (omega arith)) [
        | inl none ↦ absent_or (left.held (record_key_of job.expr.store_as)) bytes none is
        | inr (value, has, v) ↦
            let one : bytes ≡ value = same_value (left.held (record_key_of job.expr.store_as)) (left.held (record_key_of job.expr.store_as)) bytes value refl is has in
            let two : record_text c.options job ≡ value = same_value (Some (record_text c.options job)) (Some value) (record_text c.options job) value v refl refl in
            differ (ap (λ (t : List ℕ). slice_get t place) (one ∙ sym two))
      ]

-- ---- a chunk of an input

module _ (c : RunCase) (job : Job) (entry : Contents) (told : c.old.depot.held ≡ Some entry) (sound : Sound (plan_in c job)) (apart : KeysApart (job_run c job))
    (step : Stepped (RunChange (job_run c job) c.old.depot) c.old.depot c.new.depot)
    (calm : (k : Cell) (bytes : List ℕ) → IsInputChunk (plan_in c job).arrays k → IsAmong c.old.depot.late (key_of (plan_in c job).arrays k) bytes → entry (key_of (plan_in c job).arrays k) ≡ Some bytes) where
  lands : Lands (OrLate (RunChange (job_run c job) c.old.depot) c.old.depot.late) (Some entry) c.new.depot.held
  lands = subst (λ (h : Option Contents). Lands (OrLate (RunChange (job_run c job) c.old.depot) c.old.depot.late) h c.new.depot.held) told step.step.lands

  own : (k : Cell) → IsInputChunk (plan_in c job).arrays k → (value : Option (List ℕ)) → RunChange (job_run c job) c.old.depot (key_of (plan_in c job).arrays k) value → ⊥
  own k input value (q, bytes, piece, at, is, valued) = apart.inputs q k piece input (sym at)

  -- the chunk is absent or whole at first
  abbrev pub IsWhole : Cell → Type 0
  IsWhole k = (bytes : List ℕ) → entry (key_of (plan_in c job).arrays k) ≡ Some bytes → length bytes ≡ chunk_room (plan_in c job).arrays k.array

  whole_input : (k : Cell) (key : List ℕ) (got want : ℕ) → IsInputChunk (plan_in c job).arrays k → IsWhole k → key ≡ key_of (plan_in c job).arrays k → want ≡ chunk_room (plan_in c job).arrays k.array
      → got ≢ want → HoldsLength c.new.depot.held key got → ⊥
  whole_input k key got want input fits is_key is_want differ holds =
      let (bytes, was, long) = length_before (RunChange (job_run c job) c.old.depot) c.old.depot.late entry c.new.depot.held (key_of (plan_in c job).arrays k) got lands (own k input)
      (λ bytes among. calm k bytes input among) (subst (λ (x : List ℕ). HoldsLength c.new.depot.held x got) is_key holds)
      (lands_told (OrLate (RunChange (job_run c job) c.old.depot) c.old.depot.late) entry c.new.depot.held lands) in
      differ (sym long ∙ fits bytes was ∙ sym is_want)

  not_made : (k : Cell) (key : List ℕ) → IsPiece (job_run c job) (Chunk k) → key ≡ key_of (plan_in c job).arrays k → IsInputKey (plan_in c job) key → ⊥
  not_made k key piece is_key (other, input, same) = apart.inputs (Chunk k) other piece input (sym is_key ∙ same)

  -- a chunk that a task reads isn't of another length, if it is whole where it is an input's
  pub never_bad : (key : List ℕ) (got want : ℕ) (op task : ℕ) → op < length (plan_in c job).ops → task < tasks_of (plan_in c job).arrays (op_of (plan_in c job) op)
      → IsBadRead (plan_in c job) (task_id op task) c.new.depot key got want
      → ((k : Cell) → Contains (fetched_chunks (plan_in c job) op task) k → IsInputChunk (plan_in c job).arrays k → IsWhole k) → IsInputKey (plan_in c job) key → ⊥
  never_bad key got want op task first number (k, listed, is_key, is_want, differ, holds) whole of_input =
      let (chunk, stored) = fetched_stored (plan_in c job) sound op task k first (own_region (plan_in c job).arrays (op_of (plan_in c job) op) task number) listed in
      by_maker (maker_at (plan_in c job).arrays k.array) refl stored chunk.0 chunk.1
    where
      by_maker : (m : Option ℕ) → maker_at (plan_in c job).arrays k.array ≡ m → is_inlined (plan_in c job).arrays k.array ≡ false → (k.array < length (plan_in c job).arrays)
          → IsCoordinate (grid_at (plan_in c job).arrays k.array) k.coord → ⊥
      by_maker None given stored within coordinate =
          let input : IsInputChunk (plan_in c job).arrays k = record { within = within; given = given; coordinate = coordinate } in
          whole_input k key got want input (whole k listed input) is_key is_want differ holds
      by_maker (Some n) made stored within coordinate =
          not_made k key (record { within = within; made = λ none. none_or_some (maker_at (plan_in c job).arrays k.array) n none made; stored = stored; coordinate = coordinate }) is_key of_input

pub some_same : (a b : Contents) → ◌≡◌ {A = Option Contents} (Some a) (Some b) → a ≡ b
some_same a b e = cc

-- ---- the answers

module _ (c : RunCase) (entry : Contents) (told : c.old.depot.held ≡ Some entry) (typable : IsTypable c.old.depot c.text)
    (rest : (job : Job) → IsJob c.old.depot c.text job → IsLeftRecorded c.options job entry c.old.depot) where
  pub never_unread : (f : JobFault) → HasNoJob c f → (f ≡ fault.NoMemory → ⊥) → ((key : List ℕ) → f ≡ fault.DepotFailed key → ⊥) → ⊥
  never_unread f why memory failed = elim (fault_so c.old.depot c.new.depot c.text typable c.options.retries f why.1) [
    | inl e ↦ memory e
    | inr (key, e) ↦ failed key e
  ]

  pub resume_cause : (lack : Bool) (status : Status) → WasResumed lack c status → IsResumeCause status
  resume_cause lack Done why = tt
  resume_cause lack (TaskFailed op task) why = tt
  resume_cause lack WriteFault why = tt
  resume_cause lack (BadChunk key got want) why = tt
  resume_cause lack (DepotFailed key) why = tt
  resume_cause lack NoMemory why = tt
  resume_cause lack (OtherPlan place) (spared, (job, accepted, (planned, other))) = never_other c job entry (rest job accepted) place spared other
  resume_cause lack NoPlan (spared, (job, accepted, (planned, none))) =
      absent_or (entry (record_key_of job.expr.store_as)) (record_text c.options job) (none entry told) (rest job accepted).recorded
  resume_cause lack (BadExpr code node) why = never_unread (fault.Expression code node) why (λ e. cc) (λ key e. cc)
  resume_cause lack (BadType code node) why = never_unread (fault.Typing code node) why (λ e. cc) (λ key e. cc)
  resume_cause lack (BadMeta name code) why = never_unread (fault.BadMeta name code) why (λ e. cc) (λ key e. cc)
  resume_cause lack (NoArray name) why = never_unread (fault.NoArray name) why (λ e. cc) (λ key e. cc)
  resume_cause lack (OverMemory node need allowed) (spared, (job, accepted, why)) = none_or_some _ _ (rest job accepted).planned why
  resume_cause lack (OverLimit which count) (spared, (job, accepted, why)) = none_or_some _ _ (rest job accepted).planned why
  resume_cause lack status why = absurd why

  module _ (whole : (job : Job) → IsJob c.old.depot c.text job → AreWhole (plan_in c job) entry) (depot : StoodStill c.old.depot.faults c.new.depot.faults)
      (sink : StoodStill c.old.sink.faults c.new.sink.faults) where
    bad_never : (key : List ℕ) (got want : ℕ) (job : Job) → IsResumed c job → IsBadChunk (plan_in c job) c.new.depot key got want → IsInputKey (plan_in c job) key → ⊥
    bad_never key got want job resumed (op, task, k, first, number, listed, is_key, is_want, differ, holds) input =
        let left = (rest job resumed.reopened.accepted).left in
        let same : left.held ≡ entry = some_same left.held entry (sym left.told ∙ told) in
        never_bad c job entry told resumed.reopened.sound resumed.reopened.apart resumed.step
        (λ k bytes chunk among. ap (λ (h : Contents). h (key_of (plan_in c job).arrays k)) (sym same) ∙ left.quiet.inputs k bytes chunk among) key got want op task first number
        (k, listed, is_key, is_want, differ, holds) (λ x inside chunk bytes is. whole job resumed.reopened.accepted x bytes chunk is) input

    pub resume_served : (lack : Bool) (status : Status) → WasResumed lack c status → IsServed status
    resume_served lack Done why = tt
    resume_served lack NoMemory why = tt
    resume_served lack WriteFault why = none_rose 1 c.old.sink.faults c.new.sink.faults (omega arith) sink why.0
    resume_served lack (TaskFailed op task) why = none_rose (c.options.retries + 1) c.old.depot.faults c.new.depot.faults (omega arith) depot why.0
    resume_served lack (DepotFailed key) (inl why) = none_rose (c.options.retries + 1) c.old.depot.faults c.new.depot.faults (omega arith) depot why.0
    resume_served lack (DepotFailed key) (inr why) = none_rose (c.options.retries + 1) c.old.depot.faults c.new.depot.faults (omega arith) depot why.0
    resume_served lack (BadChunk key got want) (job, resumed, (bad, texts, input)) = bad_never key got want job resumed bad (input entry told)
    resume_served lack (OtherPlan place) why = absurd (resume_cause lack (OtherPlan place) why)
    resume_served lack NoPlan why = absurd (resume_cause lack NoPlan why)
    resume_served lack (BadExpr code node) why = absurd (resume_cause lack (BadExpr code node) why)
    resume_served lack (BadType code node) why = absurd (resume_cause lack (BadType code node) why)
    resume_served lack (BadMeta name code) why = absurd (resume_cause lack (BadMeta name code) why)
    resume_served lack (NoArray name) why = absurd (resume_cause lack (NoArray name) why)
    resume_served lack (OverMemory node need allowed) why = absurd (resume_cause lack (OverMemory node need allowed) why)
    resume_served lack (OverLimit which count) why = absurd (resume_cause lack (OverLimit which count) why)
    resume_served lack status why = absurd why

-- ---- the call

module _ (options : Options) (left : List ℕ) (entry : Contents) (old new : Scene) (told_left : old.source.told ≡ Some left) (told : old.depot.held ≡ Some entry)
    (premise : IsResumable options left entry old.depot) where
  came : (fact : RunCase → Type 0) → CameToRun options old new fact → fact (case options left old new)
  came fact (text, read, ran) =
      let same : text ≡ left = same_text left text new.source.told premise.typable.expr (subst (λ (t : Option (List ℕ)). ReadsAll t new.source.told text) told_left read) premise.typable.said in
      subst (λ (t : List ℕ). fact (case options t old new)) same ran

  -- a run that goes on from its record fails by these causes alone
  pub caused : (lack : Bool) (status : Status) → ResumeTells lack options old new status → IsResumeCause status
  caused lack ReadFault tells = tt
  caused lack NoMemory tells = tt
  caused lack status tells = resume_cause (case options left old new) entry told premise.typable premise.rest lack status (came (λ c. WasResumed lack c status) tells)

  module _ (whole : HasWholeInputs options left entry old.depot) (source : StoodStill old.source.faults new.source.faults) (sink : StoodStill old.sink.faults new.sink.faults)
      (depot : StoodStill old.depot.faults new.depot.faults) where
    -- where nothing fails, it is carried out, or memory is wanted
    pub went_on : (lack : Bool) (status : Status) → ResumeTells lack options old new status → IsServed status
    went_on lack ReadFault tells = none_rose 1 old.source.faults new.source.faults (omega arith) source tells.0
    went_on lack NoMemory tells = tt
    went_on lack status tells =
        resume_served (case options left old new) entry told premise.typable premise.rest whole depot sink lack status (came (λ c. WasResumed lack c status) tells)

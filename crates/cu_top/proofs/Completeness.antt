-- A run that is servable is served: each other answer has a cause that isn't there.
use Rattle.std.proofs.Common.{◌≡◌, ◌≢◌, ◌⊎◌, ℕ, ◌+◌, ◌<◌, Bool, true, false, List, length, Contains, Option, Some, None, refl, sym, ◌∙◌, subst, inl, inr, arith}
use Rattle.std.proofs.lemmas.List.Elements.{All-contains}
use Rattle.cu_store.specs.Faults.{Rose}
use Rattle.cu_store.specs.Held.{Contents, Write, IsAmong, IsHeldIn}
use Rattle.cu_store.specs.Steps.{NoChange, OrLate, Lands}
use Rattle.cu_op.specs.declared.cells.Cell.{Cell}
use Rattle.cu_grid.specs.Grid.{IsCoordinate}
use Rattle.cu_op.specs.Arrays.{chunk_room, grid_at, is_inlined, maker_at}
use Rattle.cu_op.specs.Schedule.{op_of, key_of}
use Rattle.cu_op.proofs.Fetched.{fetched_stored}
use Rattle.cu_op.proofs.Plans.{own_region}
use Rattle.cu_region.specs.Steady.{HoldsLength}
use Rattle.cu_run_law.specs.Left.{RunChange}
use Rattle.cu_run_law.specs.Pieces.{Chunk, IsInputChunk, IsPiece, piece_key}
use Rattle.cu_work.specs.Drive.{IsBadChunk, IsInputKey}
use Rattle.cu_work.specs.Order.{IsFree}
use Rattle.cu_command.proofs.JobLemmas.{only_memory}
use Rattle.cu_command.specs.Job.{IsJob, IsTypable, StoodStill}
use Rattle.cu_command.specs.Streams.{ReadsAll}
use Rattle.cu_command.specs.declared.job.Job.{Job}
use Rattle.cu_command.specs.declared.job.JobFault.{JobFault}
use Rattle.cu_command.specs.declared.job.JobFault.TheVariants as fault
use Rattle.cu_command.specs.declared.status.Status.{Status}
use Rattle.cu_command.specs.declared.status.Status.TheVariants.{Done, BadExpr, BadType, OverMemory, OverLimit, BadMeta, NoArray, Exists, TaskFailed, ReadFault, WriteFault, BadChunk, DepotFailed, NoMemory}
use Rattle.cu_top.proofs.CallLemmas.{same_text}
use Rattle.cu_top.proofs.RunLemmas.{piece_listed}
use Rattle.cu_lower.specs.declared.options.Options.{Options}
use Rattle.cu_plan.specs.Refusal.{refusal_of}
use Rattle.cu_top.specs.Ask.{IsInWay}
use Rattle.cu_top.specs.Call.{CameToRun, RunTells}
use Rattle.cu_top.specs.Complete.{AreWhole, IsServable, IsAtRest, IsServed, IsWayFree}
use Rattle.cu_top.specs.Prepare.{is_own_input, asked_keys}
use Rattle.cu_top.specs.Run.{Scene, RunCase, case, job_run, plan_in, IsQuietEntry, IsStarted, IsSpared, HasNoJob, Ran, WasRefused}

-- ---- each other answer lacks its cause

pub none_rose : (n before after : ℕ) → 0 < n → StoodStill before after → Rose n before after → ⊥
none_rose n before after some still rose = omega (arith, still.0, still.1, rose, some)

absent : (v : Option (List ℕ)) (text : List ℕ) → v ≡ Some text → v ≡ None → ⊥
absent v text some none = cc

pub none_or_some : {A : Type 0} (v : Option A) (x : A) → v ≡ None → v ≡ Some x → ⊥
none_or_some v x none some = cc

true_or_false : (b : Bool) → b ≡ true → b ≡ false → ⊥
true_or_false b holds fails = cc

-- what is held at a key on which no put is late was held at first
pub key_before : (late : List Write) (entry : Contents) (new : Option Contents) (key : List ℕ) → Lands (OrLate NoChange late) (Some entry) new → ((bytes : List ℕ) → IsAmong late key bytes → ⊥)
    → entry key ≡ None → new ≢ None → IsHeldIn new key → ⊥
key_before late entry None key lands settled free told held = told refl
key_before late entry (Some now) key lands settled free told (bytes, there) = at (now key) (lands key) there
  where
    at : (v : Option (List ℕ)) → (v ≡ entry key) ⊎ OrLate NoChange late key v → v ≡ Some bytes → ⊥
    at v (inl same) is = absent (entry key) bytes (sym same ∙ is) free
    at v (inr (inl none)) is = none
    at v (inr (inr (b, now, among))) is = settled b among

-- the length of what an input's chunk holds is what it was
pub length_before : (W : List ℕ → Option (List ℕ) → Type 0) (late : List Write) (entry : Contents) (new : Option Contents) (key : List ℕ) (got : ℕ) → Lands (OrLate W late) (Some entry) new
    → ((value : Option (List ℕ)) → W key value → ⊥) → ((bytes : List ℕ) → IsAmong late key bytes → entry key ≡ Some bytes) → HoldsLength new key got → new ≢ None
    → (bytes : List ℕ) × (entry key ≡ Some bytes) × (length bytes ≡ got)
length_before W late entry None key got lands own calm holds told = absurd (told refl)
length_before W late entry (Some now) key got lands own calm (bytes, there, long) told = (bytes, at (now key) (lands key) there, long)
  where
    at : (v : Option (List ℕ)) → (v ≡ entry key) ⊎ OrLate W late key v → v ≡ Some bytes → entry key ≡ Some bytes
    at v (inl same) is = sym same ∙ is
    at v (inr (inl change)) is = absurd (own v change)
    at v (inr (inr (b, now, among))) is = calm b among ∙ sym now ∙ is

pub lands_told : (W : List ℕ → Option (List ℕ) → Type 0) (entry : Contents) (new : Option Contents) → Lands W (Some entry) new → new ≢ None
lands_told W entry None lands e = lands
lands_told W entry (Some now) lands e = cc

-- ---- no chunk of an input is of another length

module _ (c : RunCase) (entry : Contents) (told : c.old.depot.held ≡ Some entry) (job : Job) (started : IsStarted c job) (calm : IsQuietEntry c job entry)
    (whole : AreWhole (plan_in c job) entry) where
  lands : Lands (OrLate (RunChange (job_run c job) c.old.depot) c.old.depot.late) (Some entry) c.new.depot.held
  lands = subst (λ (h : Option Contents). Lands (OrLate (RunChange (job_run c job) c.old.depot) c.old.depot.late) h c.new.depot.held) told started.step.step.lands

  own : (k : Cell) → IsInputChunk (plan_in c job).arrays k → (value : Option (List ℕ)) → RunChange (job_run c job) c.old.depot (key_of (plan_in c job).arrays k) value → ⊥
  own k input value (q, bytes, piece, at, is, valued) = started.apart.inputs q k piece input (sym at)

  -- an input's chunk holds as many bytes as a chunk has, since it did
  whole_input : (k : Cell) (key : List ℕ) (got want : ℕ) → IsInputChunk (plan_in c job).arrays k → key ≡ key_of (plan_in c job).arrays k → want ≡ chunk_room (plan_in c job).arrays k.array
      → got ≢ want → HoldsLength c.new.depot.held key got → ⊥
  whole_input k key got want input is_key is_want differ holds =
      let (bytes, was, long) = length_before (RunChange (job_run c job) c.old.depot) c.old.depot.late entry c.new.depot.held (key_of (plan_in c job).arrays k) got lands (own k input)
      (λ bytes among. calm.inputs k bytes input among) (subst (λ (x : List ℕ). HoldsLength c.new.depot.held x got) is_key holds)
      (lands_told (OrLate (RunChange (job_run c job) c.old.depot) c.old.depot.late) entry c.new.depot.held lands) in
      differ (sym long ∙ whole k bytes input was ∙ sym is_want)

  -- a chunk that the plan makes has no key of an input's chunk
  not_made : (k : Cell) (key : List ℕ) → IsPiece (job_run c job) (Chunk k) → key ≡ key_of (plan_in c job).arrays k → IsInputKey (plan_in c job) key → ⊥
  not_made k key piece is_key (other, input, same) = started.apart.inputs (Chunk k) other piece input (sym is_key ∙ same)

  pub not_bad : (key : List ℕ) (got want : ℕ) → IsBadChunk (plan_in c job) c.new.depot key got want → IsInputKey (plan_in c job) key → ⊥
  not_bad key got want (op, task, k, first, number, listed, is_key, is_want, differ, holds) of_input =
      let (chunk, stored) = fetched_stored (plan_in c job) started.sound op task k first (own_region (plan_in c job).arrays (op_of (plan_in c job) op) task number) listed in
      by_maker (maker_at (plan_in c job).arrays k.array) refl stored chunk.0 chunk.1
    where
      by_maker : (m : Option ℕ) → maker_at (plan_in c job).arrays k.array ≡ m → is_inlined (plan_in c job).arrays k.array ≡ false → (k.array < length (plan_in c job).arrays)
          → IsCoordinate (grid_at (plan_in c job).arrays k.array) k.coord → ⊥
      by_maker None given stored within coordinate = whole_input k key got want (record { within = within; given = given; coordinate = coordinate }) is_key is_want differ holds
      by_maker (Some n) made stored within coordinate =
          not_made k key (record { within = within; made = λ none. none_or_some (maker_at (plan_in c job).arrays k.array) n none made; stored = stored; coordinate = coordinate }) is_key of_input

-- ---- no other answer

module _ (c : RunCase) (entry : Contents) (told : c.old.depot.held ≡ Some entry) (typable : IsTypable c.old.depot c.text)
    (depot : StoodStill c.old.depot.faults c.new.depot.faults) (sink : StoodStill c.old.sink.faults c.new.sink.faults) where
  no_fault : (f : JobFault) → HasNoJob c f → f ≡ fault.NoMemory
  no_fault f unread = only_memory c.options.retries c.text c.old.depot c.new.depot f typable depot unread.1

  lands_spared : IsSpared c → Lands (OrLate NoChange c.old.depot.late) (Some entry) c.new.depot.held
  lands_spared spared = subst (λ (h : Option Contents). Lands (OrLate NoChange c.old.depot.late) h c.new.depot.held) told spared.step.lands

  module _ (planned : (job : Job) → IsJob c.old.depot c.text job → refusal_of c.options job.expr job.types ≡ None) where
    pub never_refused : (status : Status) → WasRefused c status → ⊥
    never_refused (BadExpr code node) why = let e = no_fault (fault.Expression code node) why in cc
    never_refused (BadType code node) why = let e = no_fault (fault.Typing code node) why in cc
    never_refused (BadMeta name code) why = let e = no_fault (fault.BadMeta name code) why in cc
    never_refused (NoArray name) why = let e = no_fault (fault.NoArray name) why in cc
    never_refused (OverMemory node need allowed) (spared, (job, accepted, why)) = none_or_some _ _ (planned job accepted) why
    never_refused (OverLimit which count) (spared, (job, accepted, why)) = none_or_some _ _ (planned job accepted) why
    never_refused status why = why

  module _ (job : Job) (way : IsWayFree c.options job entry c.old.depot) where
    late_on_none : (key : List ℕ) → Contains (asked_keys c.options job) key → (bytes : List ℕ) → IsAmong c.old.depot.late key bytes → ⊥
    late_on_none key listed = All-contains (λ (k : List ℕ). (bytes : List ℕ) → IsAmong c.old.depot.late k bytes → ⊥) (asked_keys c.options job) key way.settled listed

    pub not_in_way : (key : List ℕ) → IsSpared c → Contains (asked_keys c.options job) key → IsInWay job.expr c.new.depot key → ⊥
    not_in_way key spared listed (inl held) =
        key_before c.old.depot.late entry c.new.depot.held key (lands_spared spared) (late_on_none key listed)
        (All-contains (IsFree entry) (asked_keys c.options job) key way.free listed) (lands_told (OrLate NoChange c.old.depot.late) entry c.new.depot.held (lands_spared spared)) held
    not_in_way key spared listed (inr (is, own)) = true_or_false (is_own_input job.expr) own way.own

  module _ (job : Job) (rest : IsAtRest c.options job entry c.old.depot) (started : IsStarted c job) where
    calm : IsQuietEntry c job entry
    calm = record {
      pieces = λ q bytes piece among. absurd (late_on_none job rest.way (piece_key (job_run c job) q) (piece_listed c job q started.sound piece) bytes among);
      inputs = λ k bytes input among. rest.calm (key_of (plan_in c job).arrays k) bytes among (k, input, refl);
    }

    no_bad : (key : List ℕ) (got want : ℕ) → IsBadChunk (plan_in c job) c.new.depot key got want → IsInputKey (plan_in c job) key → ⊥
    no_bad key got want bad input = not_bad c entry told job started calm rest.whole key got want bad input

  module _ (rest : (job : Job) → IsJob c.old.depot c.text job → IsAtRest c.options job entry c.old.depot) where
    served_run : (lack : Bool) (status : Status) → Ran lack c status → IsServed status
    served_run lack Done ran = tt
    served_run lack NoMemory ran = tt
    served_run lack WriteFault ran = none_rose 1 c.old.sink.faults c.new.sink.faults (omega arith) sink ran.0
    served_run lack (DepotFailed key) ran = none_rose (c.options.retries + 1) c.old.depot.faults c.new.depot.faults (omega arith) depot ran.0
    served_run lack (TaskFailed op task) ran = none_rose (c.options.retries + 1) c.old.depot.faults c.new.depot.faults (omega arith) depot ran.0
    served_run lack (Exists key) (spared, (job, accepted, (planned, (first, blocked, own)))) = not_in_way job (rest job accepted).way key spared first.0 blocked
    served_run lack (BadChunk key got want) (job, started, (bad, texts, input)) =
        let at_rest = rest job started.accepted in
        no_bad job at_rest started key got want bad (input entry told (started.opens entry told (calm job at_rest started)))
    served_run lack status ran = absurd (never_refused (λ job is. (rest job is).way.planned) status ran)

-- ---- the call

-- what was read is the text that the source had, where that is an expression
pub of_that_text : (options : Options) (left : List ℕ) (old new : Scene) → old.source.told ≡ Some left → IsTypable old.depot left → (fact : RunCase → Type 0)
    → CameToRun options old new fact → fact (case options left old new)
of_that_text options left old new told_left typable fact (text, read, so) =
    let same : text ≡ left = same_text left text new.source.told typable.expr (subst (λ (t : Option (List ℕ)). ReadsAll t new.source.told text) told_left read) typable.said in
    subst (λ (t : List ℕ). fact (case options t old new)) same so

module _ (options : Options) (left : List ℕ) (entry : Contents) (old new : Scene) (told_left : old.source.told ≡ Some left) (told : old.depot.held ≡ Some entry)
    (premise : IsServable options left entry old.depot) (source : StoodStill old.source.faults new.source.faults) (sink : StoodStill old.sink.faults new.sink.faults)
    (depot : StoodStill old.depot.faults new.depot.faults) where
  came : (lack : Bool) (status : Status) → CameToRun options old new (λ c. Ran lack c status) → IsServed status
  came lack status came_so =
      served_run (case options left old new) entry told premise.typable depot sink premise.rest lack status
      (of_that_text options left old new told_left premise.typable (λ c. Ran lack c status) came_so)

  -- Where all is accepted, nothing is in the way and no count of faults rises, the run is carried out, or memory is wanted.
  pub served : (lack : Bool) (status : Status) → RunTells lack options old new status → IsServed status
  served lack ReadFault tells = none_rose 1 old.source.faults new.source.faults (omega arith) source tells.0
  served lack NoMemory tells = tt
  served lack status tells = came lack status tells

-- The record that is held, and a plan that is found again.
use Rattle.std.proofs.Common.{◌≡◌, ◌≢◌, ◌⊎◌, inl, inr, ℕ, ◌+◌, ◌<◌, List, length, take, get_or}
use Rattle.std.proofs.Common.{Option, Some, None, Result, Ok, Err, refl, sym, ap, ◌∙◌, subst, arith}
use Rattle.std.specs.Prelude.{min, slice_get, OnOk, IfErr, true, false}
use Rattle.std.proofs.lemmas.Bool.{cases_lt}
use Rattle.std.proofs.lemmas.List.{take_all, take-take, length-take, get_or-take}
use Rattle.std.proofs.lemmas.Option.{slice_get-get_or, slice_get_past}
use Rattle.cu_store.specs.Held.{Contents, Holds, IsGone, IsAmong, Gets}
use Rattle.cu_store.specs.Steps.{Shown, NoChange, OrLate, Lands}
use Rattle.cu_store.specs.declared.depot.Got.TheVariants.{Held as Has}
use Rattle.cu_name.specs.Keys.{record_key_of}
use Rattle.cu_command.specs.Job.{IsJob}
use Rattle.cu_command.specs.Seen.{Stepped}
use Rattle.cu_command.proofs.SeenLemmas.{stepped_then, gone_before}
use Rattle.cu_command.specs.declared.job.Job.{Job}
use Rattle.cu_command.specs.declared.status.Status.{Status}
use Rattle.cu_command.specs.declared.status.Status.TheVariants.{OtherPlan, NoPlan, DepotFailed, NoMemory}
use Rattle.cu_lower.specs.declared.options.Options.{Options}
use Rattle.cu_top.specs.Planned.{IsPlanRefused}
use Rattle.cu_top.specs.Prepare.{is_own_input, HasPlan}
use Rattle.cu_top.specs.Record.{record_text}
use Rattle.cu_top.specs.Run.{RunCase, IsAccepted}
use Rattle.cu_top.specs.Held.{TextsDifferAt, IsCompared, HoldsOther, IsRecordFault, IsNotReopened, IsFoundAgain, record_answer}
use Rattle.cu_top.specs.declared.held.RecordFault.{RecordFault}
use Rattle.cu_top.specs.declared.held.RecordFault.TheVariants as fault

-- ---- two texts

some_none : (v w : Option ℕ) (x : ℕ) → v ≡ w → v ≡ Some x → w ≡ None → ⊥
some_none v w x same some none = cc

some_same : (v w : Option ℕ) (x y : ℕ) → v ≡ w → v ≡ Some x → w ≡ Some y → x ≡ y
some_same v w x y same one other = cc

-- they differ at a byte that both have
pub differs_within : (a b : List ℕ) (place d : ℕ) → place < length a → place < length b → take place a ≡ take place b → get_or a place d ≢ get_or b place d → TextsDifferAt a b place
differs_within a b place d left right same differ =
    (same, λ e. differ (some_same (slice_get a place) (slice_get b place) (get_or a place d) (get_or b place d) e (slice_get-get_or a place d left) (slice_get-get_or b place d right)))

-- one of them ends
pub differs_at_end : (a b : List ℕ) → length a ≢ length b → take (min (length a) (length b)) a ≡ take (min (length a) (length b)) b → TextsDifferAt a b (min (length a) (length b))
differs_at_end a b lengths same = (
  same,
  elim (cases_lt (length a) (length b)) [
    | inl less ↦ λ e. ends b a (min (length a) (length b)) (grind arith) (grind arith) (sym e)
    | inr least ↦ λ e. ends a b (min (length a) (length b)) (grind arith) (grind arith) e
  ],
)
  where
    ends : (long short : List ℕ) (n : ℕ) → n ≡ length short → n < length long → slice_get long n ≡ slice_get short n → ⊥
    ends long short n at below e = some_none (slice_get long n) (slice_get short n) (get_or long n 0) e (slice_get-get_or long n 0 below) (slice_get_past short n (omega (arith, at)))

-- they are one
pub same_whole : (a b : List ℕ) → length a ≡ length b → take (min (length a) (length b)) a ≡ take (min (length a) (length b)) b → a ≡ b
same_whole a b lengths same =
    sym (take_all (min (length a) (length b)) a (grind arith)) ∙ same ∙ take_all (min (length a) (length b)) b (grind arith)

-- ---- a text of which some bytes more than this one has are seen

-- what was seen is the front of the text
pub seen_front : (front bytes : List ℕ) (n room : ℕ) → length front ≡ room → n ≡ length bytes → take n front ≡ take (length front) bytes → take (min room n) front ≡ take room bytes
seen_front front bytes n room has long seen = elim (cases_lt n room) [
  | inl less ↦ ap (λ (k : ℕ). take k front) (let e : min room n ≡ n = grind arith in e) ∙ seen ∙ ap (λ (k : ℕ). take k bytes) has
  | inr least ↦
      ap (λ (k : ℕ). take k front) (let e : min room n ≡ room = grind arith in e) ∙ take_all room front (omega (arith, has))
      ∙ sym (take_all n front (omega (arith, has, least))) ∙ seen ∙ ap (λ (k : ℕ). take k bytes) has
]

module _ (bytes text : List ℕ) where
  whole : take (length text + 1) bytes ≡ text → bytes ≡ text
  whole same = elim (cases_lt (length bytes) (length text + 1)) [
    | inl less ↦ sym (take_all (length text + 1) bytes (omega (arith, less))) ∙ same
    | inr least ↦ absurd (let e = ap length same in let l = length-take (length text + 1) bytes in grind arith)
  ]

  longer : (place : ℕ) → TextsDifferAt (take (length text + 1) bytes) text place → TextsDifferAt bytes text place
  longer place (same, differ) = elim (cases_lt place (length text + 1)) [
    | inl less ↦ (
      sym (take-take place (length text + 1) bytes (omega (arith, less))) ∙ same,
      λ e. differ (slice_take place less ∙ e),
    )
    | inr least ↦ absurd (differ (slice_get_past (take (length text + 1) bytes) place (let l = length-take (length text + 1) bytes in grind arith) ∙ sym (slice_get_past text place (omega (arith, least)))))
  ]
    where
      slice_take : (k : ℕ) → k < length text + 1 → slice_get (take (length text + 1) bytes) k ≡ slice_get bytes k
      slice_take k below = elim (cases_lt k (length bytes)) [
        | inl there ↦
            slice_get-get_or (take (length text + 1) bytes) k 0 (let l = length-take (length text + 1) bytes in grind arith)
            ∙ ap Some (get_or-take (length text + 1) bytes k 0 below) ∙ sym (slice_get-get_or bytes k 0 there)
        | inr past ↦
            slice_get_past (take (length text + 1) bytes) k (let l = length-take (length text + 1) bytes in grind arith)
            ∙ sym (slice_get_past bytes k past)
      ]

  -- what is told of the front is so of the whole text
  pub told_whole : (result : Result (Unit {0}) RecordFault) → IsCompared (take (length text + 1) bytes) text result → IsCompared bytes text result
  told_whole (Ok x) same = whole same
  told_whole (Err (fault.Other place)) differ = longer place differ
  told_whole (Err fault.Absent) told = absurd told
  told_whole (Err fault.Failed) told = absurd told
  told_whole (Err fault.NoMemory) told = absurd told

-- ---- the key of the record

module _ (key text front : List ℕ) (count : ℕ) (has : length front ≡ length text + 1) where
  equal_at : (held : Contents) (bytes : List ℕ) (result : Result (Unit {0}) RecordFault) → held key ≡ Some bytes → IsCompared bytes text result → OnOk result (held key ≡ Some text)
  equal_at held bytes (Ok x) is same = is ∙ ap Some same
  equal_at held bytes (Err f) is told = tt

  other_at : (tries : ℕ) (held : Contents) (shown : Shown × Shown) (bytes : List ℕ) (result : Result (Unit {0}) RecordFault) → shown.1.held ≡ Some held → held key ≡ Some bytes → IsCompared bytes text result
      → IfErr result (IsRecordFault tries key text shown)
  other_at tries held shown bytes (Ok x) told is same = tt
  other_at tries held shown bytes (Err (fault.Other place)) told is differ = subst (λ (h : Option Contents). HoldsOther h key text place) (sym told) (bytes, is, differ)
  other_at tries held shown bytes (Err fault.Absent) told is none = absurd none
  other_at tries held shown bytes (Err fault.Failed) told is none = absurd none
  other_at tries held shown bytes (Err fault.NoMemory) told is none = absurd none

  untold_at : (tries : ℕ) (shown : Shown × Shown) (found : List ℕ) (result : Result (Unit {0}) RecordFault) → shown.1.held ≡ None → IsCompared found text result → IfErr result (IsRecordFault tries key text shown)
  untold_at tries shown found (Ok x) told same = tt
  untold_at tries shown found (Err (fault.Other place)) told differ = subst (λ (h : Option Contents). HoldsOther h key text place) (sym told) tt
  untold_at tries shown found (Err fault.Absent) told none = absurd none
  untold_at tries shown found (Err fault.Failed) told none = absurd none
  untold_at tries shown found (Err fault.NoMemory) told none = absurd none

  untold_equal : (found : List ℕ) (result : Result (Unit {0}) RecordFault) → OnOk result (Unit {0})
  untold_equal found (Ok x) = tt
  untold_equal found (Err f) = tt

  -- the whole text, from what was read of it
  compared : (held : Contents) (result : Result (Unit {0}) RecordFault) (g : (bytes : List ℕ) × (held key ≡ Some bytes) × (count ≡ length bytes) × (take count front ≡ take (length front) bytes))
      → IsCompared (take (min (length front) count) front) text result → IsCompared g.0 text result
  compared held result (bytes, is, long, seen) told =
      told_whole bytes text result (subst (λ (found : List ℕ). IsCompared found text result)
      (seen_front front bytes count (length front) refl long seen ∙ ap (λ (k : ℕ). take k bytes) has) told)

  pub found_equal : (h : Option Contents) (result : Result (Unit {0}) RecordFault) → Gets h key front (Ok (Has count)) → IsCompared (take (min (length front) count) front) text result
      → OnOk result (Holds h key text)
  found_equal None result gets told = untold_equal text result
  found_equal (Some held) result gets told = equal_at held gets.0 result gets.1 (compared held result gets told)

  pub found_fault : (tries : ℕ) (h : Option Contents) (shown : Shown × Shown) (result : Result (Unit {0}) RecordFault) → shown.1.held ≡ h → Gets h key front (Ok (Has count))
      → IsCompared (take (min (length front) count) front) text result → IfErr result (IsRecordFault tries key text shown)
  found_fault tries None shown result is gets told = untold_at tries shown (take (min (length front) count) front) result is told
  found_fault tries (Some held) shown result is gets told = other_at tries held shown gets.0 result is gets.1 (compared held result gets told)

-- ---- what was held at first, where nothing but late puts has landed since

-- a key that holds these bytes held them at first, or a put of them was late
pub held_before : (old new : Shown) (key bytes : List ℕ) (entry : Contents) → Stepped NoChange old new → old.held ≡ Some entry → Holds new.held key bytes
    → (entry key ≡ Some bytes) ⊎ IsAmong old.late key bytes
held_before old new key bytes entry step told holds = from new.held (subst (λ (h : Option Contents). Lands (OrLate NoChange old.late) h new.held) told step.step.lands) holds
  where
    at : (v : Option (List ℕ)) → (v ≡ entry key) ⊎ OrLate NoChange old.late key v → v ≡ Some bytes → (entry key ≡ Some bytes) ⊎ IsAmong old.late key bytes
    at v (inl same) is = inl (sym same ∙ is)
    at v (inr (inl none)) is = absurd none
    at v (inr (inr (own, there, among))) is = inr (subst (λ (x : List ℕ). IsAmong old.late key x) (let e : own ≡ bytes = cc in e) among)

    from : (h : Option Contents) → Lands (OrLate NoChange old.late) (Some entry) h → Holds h key bytes → (entry key ≡ Some bytes) ⊎ IsAmong old.late key bytes
    from None lands held = absurd lands
    from (Some now) lands held = at (now key) (lands key) held

-- ---- a plan that isn't found again

-- the text, the inputs, the types or the plan were refused
pub refused_reopened : (c : RunCase) (status : Status) → IsPlanRefused c status → IsNotReopened c status
refused_reopened c (DepotFailed key) why = (why.1.3, inl why)
refused_reopened c NoMemory why = why
refused_reopened c (OtherPlan place) why = absurd why
refused_reopened c NoPlan why = absurd why
refused_reopened c status why = why

module _ (c : RunCase) (job : Job) (between : Shown) (accepted : IsAccepted c job) (planned : HasPlan c.options job) (first : Stepped NoChange c.old.depot between) (second : Stepped NoChange between c.new.depot) where
  whole_step : Stepped NoChange c.old.depot c.new.depot
  whole_step = stepped_then first second

  no_record : (f : RecordFault) → IsRecordFault (c.options.retries + 1) (record_key_of job.expr.store_as) (record_text c.options job) (between, c.new.depot) f
      → IsNotReopened c (record_answer (record_key_of job.expr.store_as) f)
  no_record fault.Absent gone = (
    whole_step,
    (
      job,
      accepted,
      (
        planned,
        inl
            (λ entry told.
            subst (λ (h : Option Contents). IsGone h (record_key_of job.expr.store_as)) told (gone_before c.old.depot c.new.depot (record_key_of job.expr.store_as) whole_step gone)),
      ),
    ),
  )
  no_record (fault.Other place) other = (whole_step, (job, accepted, (planned, other)))
  no_record fault.Failed rose = ((let earlier = first.step.count in omega (arith, rose, earlier)), inr (whole_step, (job, accepted, (planned, refl))))
  no_record fault.NoMemory none = whole_step

  -- the record isn't held
  pub record_refused : (key text : List ℕ) (f : RecordFault) (status : Status) → key ≡ record_key_of job.expr.store_as → text ≡ record_text c.options job → status ≡ record_answer key f
      → IsRecordFault (c.options.retries + 1) key text (between, c.new.depot) f → IsNotReopened c status
  record_refused key text f status key_is text_is status_is why =
      let at_key = subst (λ (k : List ℕ). IsRecordFault (c.options.retries + 1) k text (between, c.new.depot) f) key_is why in
      let at_text = subst (λ (t : List ℕ). IsRecordFault (c.options.retries + 1) (record_key_of job.expr.store_as) t (between, c.new.depot) f) text_is at_key in
      subst (λ (s : Status). IsNotReopened c s) (sym (status_is ∙ ap (λ (k : List ℕ). record_answer k f) key_is)) (no_record f at_text)

  -- the output is one of the inputs
  pub own_refused : (key text : List ℕ) → key ≡ record_key_of job.expr.store_as → text ≡ record_text c.options job → Holds c.new.depot.held key text → is_own_input job.expr ≡ true → IsNotReopened c NoPlan
  own_refused key text key_is text_is holds own =
      let at_key = subst (λ (k : List ℕ). Holds c.new.depot.held k text) key_is holds in
      let at_text = subst (λ (t : List ℕ). Holds c.new.depot.held (record_key_of job.expr.store_as) t) text_is at_key in (
        whole_step,
        (
          job,
          accepted,
          (
            planned,
            inr (own, λ entry told. held_before c.old.depot c.new.depot (record_key_of job.expr.store_as) (record_text c.options job) entry whole_step told at_text),
          ),
        ),
      )

-- it is found again
pub found_again : (options : Options) (text : List ℕ) (old between new : Shown) (job : Job) (key record_is : List ℕ) → IsJob old text job → HasPlan options job → Stepped NoChange old between → Stepped NoChange between new
    → key ≡ record_key_of job.expr.store_as → record_is ≡ record_text options job → Holds new.held key record_is → is_own_input job.expr ≡ false → IsFoundAgain options text old new job
found_again options text old between new job key record_is accepted planned first second key_is text_is holds own = record {
  accepted = accepted;
  planned = planned;
  own = own;
  record_held = subst (λ (t : List ℕ). Holds new.held (record_key_of job.expr.store_as) t) text_is (subst (λ (k : List ℕ). Holds new.held k record_is) key_is holds);
  spared = stepped_then first second;
}

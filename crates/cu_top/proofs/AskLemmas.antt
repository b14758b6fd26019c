-- Asking for the keys of a plan.
use Rattle.std.proofs.Common.{◌≡◌, ◌⊎◌, inl, inr, true, false, Bool, ℕ, zero, suc, List, [], ◌∷◌, length, All, Contains, Some, Result, Ok, Err, IfErr, OnOk, refl, sym, subst, arith}
use Rattle.cu_store.specs.Faults.{Rose}
use Rattle.cu_store.specs.Held.{Contents}
use Rattle.cu_store.specs.Steps.{Shown, Caused}
use Rattle.cu_store.specs.declared.faults.DepotFault.{DepotFault}
use Rattle.cu_store.specs.declared.faults.DepotFault.TheVariants as fault
use Rattle.cu_zarr.specs.Key.{metadata_key_of, zarray_key_of}
use Rattle.cu_name.specs.Keys.{record_key_of}
use Rattle.cu_work.proofs.Asking.{asked_ended}
use Rattle.cu_work.specs.Order.{plan_keys, IsAsked, IsFree}
use Rattle.cu_work.specs.declared.way.WayFault.{WayFault}
use Rattle.cu_work.specs.declared.way.WayFault.TheVariants.{Held, Failed, NoMemory}
use Rattle.cu_form.specs.Expression.{Expression}
use Rattle.cu_command.specs.declared.job.Job.{Job}
use Rattle.cu_top.specs.Ask.{IsFirstOf, IsOwnFirst, IsAskEnd}
use Rattle.cu_top.specs.Prepare.{is_own_input, HasNoOwnInput, job_plan, asked_keys}
use Rattle.cu_lower.specs.declared.options.Options.{Options}

pub caused_rose : (n : ℕ) (old new : Shown) (f : DepotFault) → f ≡ fault.Failed → Caused {T = Bool} n old new (Err f) → Rose n old.faults new.faults
caused_rose n old new fault.Failed e cause = cause.0
caused_rose n old new fault.NoMemory e cause = cc

-- ---- a plan whose output is one of its inputs

module _ (tries : ℕ) (job : Job) (options : Options) (old new : Shown) where
  abbrev TheTexts : List (List ℕ)
  TheTexts = record_key_of job.expr.store_as ∷ metadata_key_of job.expr.store_as ∷ []

  abbrev TheOthers : List (List ℕ)
  TheOthers = zarray_key_of job.expr.store_as ∷ plan_keys (job_plan options job) (length (job_plan options job).ops)

  one_text : (key : List ℕ) → Contains TheTexts key → (key ≡ record_key_of job.expr.store_as) ⊎ (key ≡ metadata_key_of job.expr.store_as)
  one_text key (zero, below, at) = inl (sym at)
  one_text key (suc zero, below, at) = inr (sym at)
  one_text key (suc (suc n), below, at) = absurd (omega (arith, below))

  own_first : (key : List ℕ) → Contains TheTexts key → IsOwnFirst job.expr key
  own_first key listed own = elim (one_text key listed) [
    | inl first ↦ inl first
    | inr second ↦ inr (inl second)
  ]

  -- one of the texts' keys is in the way
  pub own_ended : (f : WayFault) → IsAsked tries old new TheTexts (Err f) → IsAskEnd tries job.expr (asked_keys options job) old new f
  own_ended (Held key) asked =
      let all = asked_ended tries old new TheTexts TheOthers (Held key) asked in
      ((all.listed, all.first), inl asked.cause, own_first key asked.listed)
  own_ended (Failed key) asked =
      let all = asked_ended tries old new TheTexts TheOthers (Failed key) asked in
      ((all.listed, all.first), asked.cause, own_first key asked.listed)
  own_ended NoMemory asked = tt

  -- neither is, and then the metadata of version 2 is
  pub own_zarray : (key : List ℕ) → key ≡ zarray_key_of job.expr.store_as → is_own_input job.expr ≡ true → IsAsked tries old new TheTexts (Ok tt)
      → IsAskEnd tries job.expr (asked_keys options job) old new (Held key)
  own_zarray key same own asked = (
    subst (λ (k : List ℕ). IsFirstOf old (asked_keys options job) k) (sym same) ((suc (suc zero), omega arith, refl), λ entry told. (TheTexts, _, refl, asked.free entry told)),
    inr (same, own),
    λ again. inr (inr same),
  )

-- ---- any other plan

true_false : (b : Bool) → b ≡ true → b ≡ false → ⊥
true_false b holds fails = cc

asked_end : (tries : ℕ) (e : Expression) (keys : List (List ℕ)) (old new : Shown) (f : WayFault) → IsAsked tries old new keys (Err f) → HasNoOwnInput e → IsAskEnd tries e keys old new f
asked_end tries e keys old new (Held key) asked apart = ((asked.listed, asked.first), inl asked.cause, λ own. absurd (true_false (is_own_input e) own apart))
asked_end tries e keys old new (Failed key) asked apart = ((asked.listed, asked.first), asked.cause, λ own. absurd (true_false (is_own_input e) own apart))
asked_end tries e keys old new NoMemory asked apart = tt

pub plan_asked : (tries : ℕ) (e : Expression) (keys all : List (List ℕ)) (old new : Shown) (result : Result (Unit {0}) WayFault) → keys ≡ all → IsAsked tries old new keys result → HasNoOwnInput e
    → IfErr result (IsAskEnd tries e all old new)
plan_asked tries e keys all old new (Ok x) same asked apart = tt
plan_asked tries e keys all old new (Err f) same asked apart = asked_end tries e all old new f (subst (λ (ks : List (List ℕ)). IsAsked tries old new ks (Err f)) same asked) apart

pub plan_free : (tries : ℕ) (keys all : List (List ℕ)) (old new : Shown) (result : Result (Unit {0}) WayFault) → keys ≡ all → IsAsked tries old new keys result → (entry : Contents)
    → old.held ≡ Some entry → OnOk result (All (IsFree entry) all)
plan_free tries keys all old new result same asked entry told = subst (λ (ks : List (List ℕ)). OnOk result (All (IsFree entry) ks)) same (asked.free entry told)

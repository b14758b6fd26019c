-- What a step of the table adds to its history, and what it leaves as it was.
use Rattle.std.proofs.Common.{◌≡◌, ◌⊎◌, ℕ, ◌==◌, Bool, true, false, true≢false, cond, [], ◌∷◌, Option, Some, None, Result, Ok, Err, refl, sym, ap, ◌∙◌, subst, inl, inr, ⊎_elim, append-nil}
use Rattle.cu_store.specs.declared.faults.TaskFault.{TaskFault}
use Rattle.cu_store.specs.declared.faults.TaskFault.TheVariants as fault
use Rattle.cu_history.specs.declared.entry.Entry.{Entry}
use Rattle.cu_history.specs.declared.entry.EventKind.{EventKind}
use Rattle.cu_history.specs.declared.entry.EventKind.TheVariants as kind
use Rattle.cu_history.specs.History.{has_halt, is_done}
use Rattle.cu_table.specs.declared.claim.Claim.{Claim}
use Rattle.cu_table.specs.declared.claim.Claim.TheVariants as claim
use Rattle.cu_table.specs.declared.state.Ending.{Ending}
use Rattle.cu_table.specs.declared.state.Ending.TheVariants as ending
use Rattle.cu_table.specs.Numbers.{IsTask}
use Rattle.cu_table.specs.Machine.{Machine, IsDone}
use Rattle.cu_table.specs.Step.{Settings, StepOf, ending_after}
use Rattle.cu_table.specs.Table.{TableView, Goes, IsClaim, IsReported, start_event, end_of, report_kind, is_late}
use Rattle.cu_board.specs.Board.{halted_fault, IsGrownBy, Reports}

pub no_truth : false ≡ true → ⊥
no_truth e = true≢false (sym e)

-- ---- a machine that has ended stays as it ended

abbrev is_some_ending : Option Ending → Bool
is_some_ending None = false
is_some_ending (Some x) = true

none_ended : (x : Ending) → ◌≡◌ {A = Option Ending} None (Some x) → ⊥
none_ended x e = true≢false (sym (ap is_some_ending e))

ended_same : (s : Settings) (old : Machine) (k : EventKind) (e : Entry) (new : Machine) (x : Ending) → StepOf s old k e new → old.ended ≡ Some x → new.ended ≡ old.ended
ended_same s old kind.Start e new x (may, now) is = absurd (none_ended x (sym may.going ∙ is))
ended_same s old kind.Done e new x (may, now) is = absurd (none_ended x (sym may.going ∙ is))
ended_same s old kind.Failed e new x (may, now) is = absurd (none_ended x (sym may.going ∙ is))
ended_same s old kind.Halt e new x (may, (fault, halts, now)) is = absurd (none_ended x (sym may.going ∙ is))
ended_same s old kind.Late e new x (may, now) is = ap (λ (m : Machine). m.ended) now

-- a history with a Halt was halted
abbrev pub IsHalted : TableView → Type 0
IsHalted t = has_halt t.history ≡ true → (f : TaskFault) × (t.state.ended ≡ Some (ending.Halted f))

pub grown_by : (n : ℕ) (t u : TableView) (e : Entry) → e.worker ≡ n → Goes t u e → IsHalted t → IsGrownBy n t u
grown_by n t u e is g halted = record {
  entries = e ∷ [];
  history = g.history;
  of = (is, tt);
  fault = λ h. let (f, at) = halted h in ap halted_fault (sym (ended_same t.settings t.state e.kind e u.state (ending.Halted f) g.step at));
}

grown_same : (n : ℕ) (t u : TableView) → u ≡ t → IsGrownBy n t u
grown_same n t u is = record {
  entries = [];
  history = ap (λ (x : TableView). x.history) is ∙ sym (append-nil t.history);
  of = tt;
  fault = λ h. ap (λ (x : TableView). halted_fault x.state.ended) (sym is);
}

pub claim_grown : (n : ℕ) (t : TableView) (r : Claim) (u : TableView) → IsClaim t n r u → IsHalted t → IsGrownBy n t u
claim_grown n t (claim.Run op task copy) u (g, count) halted = grown_by n t u (start_event t.settings.plan n op task) refl g halted
claim_grown n t claim.Idle u c halted = grown_same n t u c.0
claim_grown n t claim.Finished u c halted = grown_same n t u c.0
claim_grown n t (claim.Broken op task) u c halted = grown_same n t u c.0
claim_grown n t (claim.Halted f) u c halted = grown_same n t u c.0

pub report_grown : (n op task : ℕ) (r : Result (Unit {0}) TaskFault) (t u : TableView) → Reports t n op task r u → IsHalted t → IsGrownBy n t u
report_grown n op task r t u (g, kept) halted = grown_by n t u (end_of (report_kind (is_late t.settings.plan t.state op task) r) n op task) refl g halted

-- ---- what a claim leaves as it was

-- what a step makes done: the task of a Done, and no other
abbrev pub MakesDone : TableView → TableView → Entry → Type 0
MakesDone t u e = (op task : ℕ) → IsTask t.settings.plan op task → IsDone t.settings.plan u.state op task
    → IsDone t.settings.plan t.state op task ⊎ ((e.kind ≡ kind.Done) × (e.op ≡ op) × (e.task ≡ task))

abbrev pub DoneLaw : TableView → TableView → Type 0
DoneLaw t u = (e : Entry) → Goes t u e → MakesDone t u e

pub start_undone : kind.Start ≡ kind.Done → ⊥
start_undone e = no_truth (ap is_done e)

pub claim_settings : (n : ℕ) (t : TableView) (r : Claim) (u : TableView) → IsClaim t n r u → (u.settings ≡ t.settings) × (u.done ≡ t.done)
claim_settings n t (claim.Run op task copy) u (g, count) = (g.settings, g.done)
claim_settings n t claim.Idle u c = (ap (λ (x : TableView). x.settings) c.0, ap (λ (x : TableView). x.done) c.0)
claim_settings n t claim.Finished u c = (ap (λ (x : TableView). x.settings) c.0, ap (λ (x : TableView). x.done) c.0)
claim_settings n t (claim.Broken op task) u c = (ap (λ (x : TableView). x.settings) c.0, ap (λ (x : TableView). x.done) c.0)
claim_settings n t (claim.Halted f) u c = (ap (λ (x : TableView). x.settings) c.0, ap (λ (x : TableView). x.done) c.0)

pub claim_ended : (n : ℕ) (t : TableView) (r : Claim) (u : TableView) → IsClaim t n r u → u.state.ended ≡ t.state.ended
claim_ended n t (claim.Run op task copy) u (g, count) = ap (λ (m : Machine). m.ended) g.step.1
claim_ended n t claim.Idle u c = ap (λ (x : TableView). x.state.ended) c.0
claim_ended n t claim.Finished u c = ap (λ (x : TableView). x.state.ended) c.0
claim_ended n t (claim.Broken op task) u c = ap (λ (x : TableView). x.state.ended) c.0
claim_ended n t (claim.Halted f) u c = ap (λ (x : TableView). x.state.ended) c.0

-- a task that is done was done before
pub claim_done : (n : ℕ) (t : TableView) (r : Claim) (u : TableView) → IsClaim t n r u → DoneLaw t u → (op task : ℕ) → IsTask t.settings.plan op task
    → IsDone t.settings.plan u.state op task → IsDone t.settings.plan t.state op task
claim_done n t (claim.Run o k copy) u (g, count) law op task is d =
    ⊎_elim (λ was. was) (λ (made : (kind.Start ≡ kind.Done) × (o ≡ op) × (k ≡ task)). absurd (start_undone made.0)) (law (start_event t.settings.plan n o k) g op task is d)
claim_done n t claim.Idle u c law op task is d = subst (λ (x : TableView). IsDone t.settings.plan x.state op task) c.0 d
claim_done n t claim.Finished u c law op task is d = subst (λ (x : TableView). IsDone t.settings.plan x.state op task) c.0 d
claim_done n t (claim.Broken o k) u c law op task is d = subst (λ (x : TableView). IsDone t.settings.plan x.state op task) c.0 d
claim_done n t (claim.Halted f) u c law op task is d = subst (λ (x : TableView). IsDone t.settings.plan x.state op task) c.0 d

-- ---- what a report adds

pub no_fault : (f : TaskFault) → ◌≡◌ {A = Option TaskFault} None (Some f) → ⊥
no_fault f e = true≢false (sym (ap has e))
  where
    has : Option TaskFault → Bool
    has None = false
    has (Some g) = true

abbrev fault_or : TaskFault → Option TaskFault → TaskFault
fault_or d None = d
fault_or d (Some f) = f

some_same : (f g : TaskFault) → ◌≡◌ {A = Option TaskFault} (Some f) (Some g) → f ≡ g
some_same f g e = ap (fault_or f) e

not_halted : (retries failures op task : ℕ) → halted_fault (ending_after retries failures op task) ≡ None
not_halted retries failures op task = by_test (failures == retries)
  where
    by_test : (b : Bool) → halted_fault (cond b (Some (ending.Broken op task)) None) ≡ None
    by_test true = refl
    by_test false = refl

-- the fault of a machine after a report: the one before, or the reported
pub report_fault : (b : Bool) (n op task : ℕ) (r : Result (Unit {0}) TaskFault) (t u : TableView) → IsReported t (end_of (report_kind b r) n op task) r u
    → (f : TaskFault) → halted_fault u.state.ended ≡ Some f → (halted_fault t.state.ended ≡ Some f) ⊎ (r ≡ Err f)
report_fault true n op task r t u (g, kept) f is = inl (ap halted_fault (sym (ap (λ (m : Machine). m.ended) g.step.1)) ∙ is)
report_fault false n op task (Ok x) t u (g, kept) f is = absurd (no_fault f (sym (ap (λ (m : Machine). halted_fault m.ended) g.step.1) ∙ is))
report_fault false n op task (Err fault.Store) t u (g, kept) f is =
    absurd (no_fault f (sym (ap (λ (m : Machine). halted_fault m.ended) g.step.1 ∙ not_halted t.settings.retries _ op task) ∙ is))
report_fault false n op task (Err (fault.BadChunk key got want)) t u (g, kept) f is = inr (ap Err (some_same (fault.BadChunk key got want) f (sym (ap halted_fault kept) ∙ is)))
report_fault false n op task (Err fault.NoMemory) t u (g, kept) f is = inr (ap Err (some_same fault.NoMemory f (sym (ap halted_fault kept) ∙ is)))

-- where the entry is a Done, the task ended well
pub report_done : (b : Bool) (r : Result (Unit {0}) TaskFault) → report_kind b r ≡ kind.Done → r ≡ Ok tt
report_done true r e = absurd (no_truth (ap is_done e))
report_done false (Ok x) e = refl
report_done false (Err fault.Store) e = absurd (no_truth (ap is_done e))
report_done false (Err (fault.BadChunk key got want)) e = absurd (no_truth (ap is_done e))
report_done false (Err fault.NoMemory) e = absurd (no_truth (ap is_done e))

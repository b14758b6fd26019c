-- Each answer of a claim comes exactly where its condition holds.
use Rattle.std.proofs.Common.{◌≡◌, inl, inr, ℕ, Option, Some, None, refl, subst}
use Rattle.cu_store.specs.declared.faults.TaskFault.{TaskFault}
use Rattle.cu_table.specs.declared.claim.Claim.{Claim}
use Rattle.cu_table.specs.declared.claim.Claim.TheVariants as claim
use Rattle.cu_table.specs.declared.state.Ending.{Ending}
use Rattle.cu_table.specs.declared.state.Ending.TheVariants.{Broken, Halted}
use Rattle.cu_table.specs.Numbers.{IsTask}
use Rattle.cu_table.specs.Machine.{Machine, AllDone}
use Rattle.cu_table.specs.Step.{Settings, CanStart, Replays}
use Rattle.cu_table.specs.Table.{TableView, IsClaim, NoneStarts}
use Rattle.cu_table.proofs.Ended.{ended_undone}

-- a task that can be started isn't done, and is one that the answer Idle rules out
startable_undone : (s : Settings) (m : Machine) (op task : ℕ) → IsTask s.plan op task → CanStart s m op task → AllDone s.plan m → ⊥
startable_undone s m op task is (inl (ready, waits)) all = let d = all op task is in let u = waits.0 in cc (d, u)
startable_undone s m op task is (inr (none, on, single)) all = let d = all op task is in let u = single.0 in cc (d, u)

startable_some : (s : Settings) (m : Machine) (op task : ℕ) → IsTask s.plan op task → CanStart s m op task → NoneStarts s m → ⊥
startable_some s m op task is (inl (ready, waits)) none = none.0 op task is ready waits
startable_some s m op task is (inr (waiting, on, single)) none = none.1 on op task is single

going_ended : (o : Option Ending) (x : Ending) → o ≡ None → o ≡ Some x → ⊥
going_ended o x n e = cc (n, e)

abbrev IsRun : Claim → Type 0
IsRun c = (op : ℕ) × (task : ℕ) × (copy : ℕ) × (c ≡ claim.Run op task copy)

abbrev CanStartSome : TableView → Type 0
CanStartSome old = (op : ℕ) × (task : ℕ) × IsTask old.settings.plan op task × CanStart old.settings old.state op task

module _ (old : TableView) (worker : ℕ) (new : TableView) where
  run_means : (c : Claim) → IsClaim old worker c new → IsRun c → (old.state.ended ≡ None) × CanStartSome old
  run_means c is (op, task, copy, e) =
      let (goes, before) = subst (λ (x : Claim). IsClaim old worker x new) e is in
      (goes.step.0.going, (op, task, goes.step.0.task, goes.step.0.can))

  run_where : (c : Claim) → IsClaim old worker c new → old.state.ended ≡ None → CanStartSome old → IsRun c
  run_where (claim.Run op task copy) is going can = (op, task, copy, refl)
  run_where claim.Idle (same, on, some, none) going (op, task, that, can) = absurd (startable_some old.settings old.state op task that can none)
  run_where claim.Finished (same, on, all) going (op, task, that, can) = absurd (startable_undone old.settings old.state op task that can all)
  run_where (claim.Broken op task) (same, ended) going can = absurd (going_ended old.state.ended (Broken op task) going ended)
  run_where (claim.Halted fault) (same, ended) going can = absurd (going_ended old.state.ended (Halted fault) going ended)

  pub run_exact : (c : Claim) → IsClaim old worker c new → (IsRun c → (old.state.ended ≡ None) × CanStartSome old) × ((old.state.ended ≡ None) × CanStartSome old → IsRun c)
  run_exact c is = (run_means c is, λ h. run_where c is h.0 h.1)

  abbrev MayIdle : Type 0
  MayIdle = (old.state.ended ≡ None) × (AllDone old.settings.plan old.state → ⊥) × NoneStarts old.settings old.state

  idle_where : (c : Claim) → IsClaim old worker c new → MayIdle → c ≡ claim.Idle
  idle_where (claim.Run op task copy) (goes, before) (going, some, none) = absurd (startable_some old.settings old.state op task goes.step.0.task goes.step.0.can none)
  idle_where claim.Idle is h = refl
  idle_where claim.Finished (same, on, all) (going, some, none) = absurd (some all)
  idle_where (claim.Broken op task) (same, ended) (going, some, none) = absurd (going_ended old.state.ended (Broken op task) going ended)
  idle_where (claim.Halted fault) (same, ended) (going, some, none) = absurd (going_ended old.state.ended (Halted fault) going ended)

  pub idle_exact : (c : Claim) → IsClaim old worker c new → (c ≡ claim.Idle → MayIdle) × (MayIdle → c ≡ claim.Idle)
  idle_exact c is = (λ e. let (same, going, some, none) = subst (λ (x : Claim). IsClaim old worker x new) e is in (going, some, none), idle_where c is)

  finished_where : (c : Claim) → Replays old.settings old.done old.history old.state → IsClaim old worker c new → AllDone old.settings.plan old.state → c ≡ claim.Finished
  finished_where (claim.Run op task copy) replays (goes, before) all = absurd (startable_undone old.settings old.state op task goes.step.0.task goes.step.0.can all)
  finished_where claim.Idle replays (same, going, some, none) all = absurd (some all)
  finished_where claim.Finished replays is all = refl
  finished_where (claim.Broken op task) replays (same, ended) all = absurd (ended_undone old.settings old.done old.history old.state (Broken op task) replays ended all)
  finished_where (claim.Halted fault) replays (same, ended) all = absurd (ended_undone old.settings old.done old.history old.state (Halted fault) replays ended all)

  pub finished_exact : (c : Claim) → Replays old.settings old.done old.history old.state → IsClaim old worker c new
      → (c ≡ claim.Finished → AllDone old.settings.plan old.state) × (AllDone old.settings.plan old.state → c ≡ claim.Finished)
  finished_exact c replays is = (λ e. let (same, going, all) = subst (λ (x : Claim). IsClaim old worker x new) e is in all, finished_where c replays is)

  broken_where : (c : Claim) (op task : ℕ) → IsClaim old worker c new → old.state.ended ≡ Some (Broken op task) → c ≡ claim.Broken op task
  broken_where (claim.Run o t copy) op task (goes, before) ended = absurd (going_ended old.state.ended (Broken op task) goes.step.0.going ended)
  broken_where claim.Idle op task (same, going, some, none) ended = absurd (going_ended old.state.ended (Broken op task) going ended)
  broken_where claim.Finished op task (same, going, all) ended = absurd (going_ended old.state.ended (Broken op task) going ended)
  broken_where (claim.Broken o t) op task (same, is) ended = cc (is, ended)
  broken_where (claim.Halted fault) op task (same, is) ended = absurd (cc (is, ended))

  pub broken_exact : (c : Claim) (op task : ℕ) → IsClaim old worker c new
      → (c ≡ claim.Broken op task → old.state.ended ≡ Some (Broken op task)) × (old.state.ended ≡ Some (Broken op task) → c ≡ claim.Broken op task)
  broken_exact c op task is = (λ e. (subst (λ (x : Claim). IsClaim old worker x new) e is).1, broken_where c op task is)

  halted_where : (c : Claim) (fault : TaskFault) → IsClaim old worker c new → old.state.ended ≡ Some (Halted fault) → c ≡ claim.Halted fault
  halted_where (claim.Run o t copy) fault (goes, before) ended = absurd (going_ended old.state.ended (Halted fault) goes.step.0.going ended)
  halted_where claim.Idle fault (same, going, some, none) ended = absurd (going_ended old.state.ended (Halted fault) going ended)
  halted_where claim.Finished fault (same, going, all) ended = absurd (going_ended old.state.ended (Halted fault) going ended)
  halted_where (claim.Broken o t) fault (same, is) ended = absurd (cc (is, ended))
  halted_where (claim.Halted other) fault (same, is) ended = cc (is, ended)

  pub halted_exact : (c : Claim) (fault : TaskFault) → IsClaim old worker c new
      → (c ≡ claim.Halted fault → old.state.ended ≡ Some (Halted fault)) × (old.state.ended ≡ Some (Halted fault) → c ≡ claim.Halted fault)
  halted_exact c fault is = (λ e. (subst (λ (x : Claim). IsClaim old worker x new) e is).1, halted_where c fault is)

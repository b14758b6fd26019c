-- The calls of a run of tasks, by their starts and in all.
use Rattle.std.specs.Prelude.{min}
use Rattle.std.proofs.Common.{◌≡◌, ℕ, ◌+◌, ◌*◌, ◌≤◌, Bool, List, ap, ◌∙◌, subst, arith}
use Rattle.cu_store.specs.Faults.{last_count, Rose}
use Rattle.cu_store.specs.Steps.{Shown, OnceEach}
use Rattle.cu_store.specs.Yard.{Served, Known}
use Rattle.cu_history.specs.History.{is_start, is_failed, count_kind}
use Rattle.cu_history.specs.declared.entry.Entry.{Entry}
use Rattle.cu_op.specs.PlanView.{PlanView}
use Rattle.cu_table.specs.Machine.{opening}
use Rattle.cu_table.specs.Step.{Settings, Replays}
use Rattle.cu_table.specs.Table.{TableView}
use Rattle.cu_work.specs.Drive.{IsTaskMost}
use Rattle.cu_work.specs.Shared.{opened_table}
use Rattle.cu_work.specs.Starts.{IsOfWorkers, WithinHistory, started_calls, most_starts, most_calls}
use Rattle.cu_work.specs.Workers.{HasWorked}
use Rattle.cu_work.specs.declared.options.RunOptions.{RunOptions}
use Rattle.cu_work.proofs.Started.{started_most, started_within}

-- a call to share, and those of a pass that began with none
pub shared_once : (p : PlanView) (history : List Entry) (start mid new : Shown) (first last : Known) → OnceEach 1 start mid → first.calls ≡ 0 → first.faults ≡ 0
    → last.calls ≤ first.calls + started_calls p history → Rose (count_kind is_failed history) first.faults last.faults
    → new.calls ≤ mid.calls + last.calls → new.faults ≡ min (mid.faults + last.faults) last_count → WithinHistory 1 p history start new
shared_once p history start mid new first last once uncalled unfailed ran rose back counted = omega (arith, once, uncalled, unfailed, ran, rose, back, counted)

-- some keys, and then a run
pub once_before : (j k : ℕ) (p : PlanView) (history : List Entry) (a b c : Shown) → OnceEach j a b → WithinHistory k p history b c → WithinHistory (j + k) p history a c
once_before j k p history a b c first run = omega (arith, first, run)

at_most : (old new s t : ℕ) → new ≤ old + s → s ≤ t → new ≤ old + t
at_most old new s t few most = omega (arith, few, most)

module _ (o : RunOptions) (p : PlanView) (done : List Bool) (table now : TableView) (opened : table ≡ opened_table p o done) (yard : Served) (old new : Known)
    (worked : HasWorked yard table now old new) where
  settings : now.settings ≡ record { plan = p; retries = o.retries; backups = o.backups }
  settings = worked.settings ∙ ap (λ (t : TableView). t.settings) opened

  legal : Replays (record { plan = p; retries = o.retries; backups = o.backups }) now.done now.history now.state
  legal = subst (λ (s : Settings). Replays s now.done now.history now.state) settings worked.legal

  -- those of the starts
  pub calls_started : new.calls ≤ old.calls + started_calls p now.history
  calls_started = subst (λ (t : TableView). new.calls ≤ old.calls + started_calls t.settings.plan now.history) opened worked.calls

  -- `m` for each start at most
  pub calls_by_starts : (m : ℕ) → IsTaskMost p m → new.calls ≤ old.calls + count_kind is_start now.history * m
  calls_by_starts m most =
      at_most old.calls new.calls (started_calls p now.history) (count_kind is_start now.history * m) calls_started
      (started_most (record { plan = p; retries = o.retries; backups = o.backups }) (opening now.done) now.history now.state legal.1 m most)

  -- those of each task as often as it is started at most
  pub calls_of_all : IsOfWorkers o.workers table.settings now.history → new.calls ≤ old.calls + most_calls o p
  calls_of_all by =
      at_most old.calls new.calls (started_calls p now.history) (most_calls o p) calls_started
      (started_within (record { plan = p; retries = o.retries; backups = o.backups }) now.done now.history now.state legal (most_starts o.workers o.backups o.retries)
      (subst (λ (t : TableView). IsOfWorkers o.workers t.settings now.history) opened by).starts)

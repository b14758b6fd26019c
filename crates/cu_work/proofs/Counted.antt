-- How often tasks are started until all are done.
use Rattle.std.proofs.Common.{◌≡◌, ℕ, ◌+◌, ◌≤◌, Bool, false, List, Result, Ok, Err, ap, sym, ◌∙◌, subst, arith}
use Rattle.std.specs.Prelude.{IfOk}
use Rattle.cu_store.specs.Steps.{Shown}
use Rattle.cu_store.specs.declared.faults.DepotFault.{DepotFault}
use Rattle.cu_history.specs.declared.entry.Entry.{Entry}
use Rattle.cu_history.specs.History.{is_start, is_failed, count_kind}
use Rattle.cu_table.specs.Machine.{Machine, AllDone, opening}
use Rattle.cu_table.specs.Step.{Settings, Replays}
use Rattle.cu_table.specs.Table.{TableView, undone_among}
use Rattle.cu_work.specs.Shared.{HasDriven, AreCounted, IfComplete}
use Rattle.cu_work.specs.declared.outcome.Outcome.{Outcome}
use Rattle.cu_work.specs.declared.outcome.Outcome.TheVariants as outcome
use Rattle.cu_work.specs.declared.outcome.RunEnd.{RunEnd}

-- what is used of the table's law of counts
pub record CountLaws : Type 0 where
  pub least : (s : Settings) (done : List Bool) (history : List Entry) (m : Machine) → Replays s done history m
      → count_kind is_failed history + undone_among (opening done).tasks ≤ count_kind is_start history + undone_among m.tasks
  pub none : (s : Settings) (done : List Bool) (history : List Entry) (m : Machine) → Replays s done history m → AllDone s.plan m → undone_among m.tasks ≡ 0
  pub whole : (s : Settings) (done : List Bool) (history : List Entry) (m : Machine) → Replays s done history m → s.backups ≡ false → AllDone s.plan m
      → count_kind is_start history ≡ count_kind is_failed history + undone_among (opening done).tasks

module _ (l : CountLaws) (first : TableView) (fresh : first.state ≡ opening first.done) where
  counted : (now : TableView) (old new : Shown) → HasDriven first now old new outcome.Complete → AreCounted first now
  counted now old new driven =
      let all : AllDone now.settings.plan now.state = subst (λ (s : Settings). AllDone s.plan now.state) (sym driven.settings) driven.decided.1 in
      let same : undone_among (opening now.done).tasks ≡ undone_among first.state.tasks =
      ap (λ (d : List Bool). undone_among (opening d).tasks) driven.done ∙ ap (λ (m : Machine). undone_among m.tasks) (sym fresh) in
      let least = l.least now.settings now.done now.history now.state driven.legal in
      let none = l.none now.settings now.done now.history now.state driven.legal all in (
        omega (arith, least, none, same),
        λ off.
            l.whole now.settings now.done now.history now.state driven.legal (ap (λ (s : Settings). s.backups) driven.settings ∙ off) all
            ∙ ap (λ (n : ℕ). count_kind is_failed now.history + n) same,
      )

  counted_by : (o : Outcome) (now : TableView) (old new : Shown) → HasDriven first now old new o → IfComplete o (AreCounted first now)
  counted_by outcome.Complete now old new driven = counted now old new driven
  counted_by (outcome.Broken op task) now old new driven = tt
  counted_by (outcome.BadChunk key got want) now old new driven = tt
  counted_by outcome.Lacked now old new driven = tt

  pub counted_at_end : (r : Result RunEnd DepotFault) (old new : Shown) → IfOk r (λ end. HasDriven first end.table old new end.outcome)
      → IfOk r (λ end. IfComplete end.outcome (AreCounted first end.table))
  counted_at_end (Ok end) old new driven = counted_by end.outcome end.table old new driven
  counted_at_end (Err e) old new driven = tt

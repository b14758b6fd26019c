use Rattle.std.proofs.Common.{◌≡◌, List, [], All, map, length, Bool, ℕ, Option, None, refl, ap, sym, ◌∙◌, subst}
use Rattle.std.proofs.lemmas.List.{length-map}
use Rattle.std.proofs.lemmas.List.Elements.{All-map}
use Rattle.cu_history.specs.declared.entry.Entry.{Entry}
use Rattle.cu_op.specs.PlanView.{PlanView}
use Rattle.cu_op.specs.Sound.{Sound}
use Rattle.cu_table.specs.declared.line.Undone.{Undone}
use Rattle.cu_table.specs.declared.state.Ending.{Ending}
use Rattle.cu_table.specs.declared.state.RunningCopy.{RunningCopy}
use Rattle.cu_table.specs.declared.state.TaskState.{TaskState}
use Rattle.cu_table.specs.Machine.{opened}
use Rattle.cu_table.specs.Numbers.{task_count}
use Rattle.cu_table.specs.Queue.{IsFresh, AreUndone, IsQueue, IsTable, Lined, of_tasks}
use Rattle.cu_table.specs.Step.{Replays}
use Rattle.cu_table.specs.Table.{TableView}
use Rattle.cu_table.proofs.table.Table.begin.Goals as goal

fresh_opened : (done : List Bool) → All IsFresh (map opened done)
fresh_opened done = All-map IsFresh opened done (λ k d l. refl)

-- as many states as the plan has tasks
states_count : (plan p : PlanView) (done : List Bool) (states : List TaskState) → length done ≡ task_count plan → p ≡ plan → states ≡ map opened done → length states ≡ task_count p
states_count plan p done states long same is = ap length is ∙ length-map done opened ∙ long ∙ ap task_count (sym same)

module _ (p : PlanView) (retries : ℕ) (backups : Bool) where
  abbrev view_of : List Bool → List Entry → List TaskState → List RunningCopy → Option Ending → TableView
  view_of done history tasks copies ended = record {
    settings = record { plan = p; retries = retries; backups = backups };
    done = done;
    history = history;
    state = record { tasks = tasks; copies = copies; ended = ended };
  }

  module _ (done kept : List Bool) (history : List Entry) (tasks : List TaskState) (copies : List RunningCopy) (ended : Option Ending) (is_kept : kept ≡ done) (empty : history ≡ []) (are_opened : tasks ≡ map opened done)
      (none : copies ≡ []) (goes : ended ≡ None) where
    -- what a table begins with
    begins_as : view_of kept history tasks copies ended ≡ view_of done [] (map opened done) [] None
    begins_as = cc

    begun : (u : Undone) (q : Lined) → Sound p → length done ≡ task_count p → AreUndone p tasks u → IsQueue p (of_tasks tasks) q → IsTable (view_of kept history tasks copies ended) u q
    begun u q sound long counts queue = record {
      sound = sound;
      replays = subst (λ (v : TableView). Replays v.settings v.done v.history v.state) (sym begins_as) (long, refl);
      counts = counts;
      queue = λ goes_on. queue;
    }

pub first_records-requires : goal.first_records-requires
first_records-requires c = c.requires ∙ ap task_count (sym (c.in_ok-tasks.ensures ∙ c.in_ok-copy.ensures))

pub first_undone-requires : goal.first_undone-requires
first_undone-requires c =
    states_count c.args.plan.now c.in_ok-tasks.tasks c.args.done.now c.deref.result.now c.requires (c.in_ok-tasks.ensures ∙ c.in_ok-copy.ensures) (c.deref.ensures.value ∙ c.in_ok-records.ensures.tasks)

pub first_queue-requires-clause-states : goal.first_queue-requires-clause-states
first_queue-requires-clause-states c =
    states_count c.args.plan.now c.in_ok-tasks.tasks c.args.done.now c.deref-2.result.now c.requires (c.in_ok-tasks.ensures ∙ c.in_ok-copy.ensures) (c.deref-2.ensures.value ∙ c.in_ok-records.ensures.tasks)

pub first_queue-requires-clause-counts : goal.first_queue-requires-clause-counts
first_queue-requires-clause-counts c = subst (λ (ts : List TaskState). AreUndone c.in_ok-tasks.tasks ts c.in_ok-undone.undone) (c.deref.ensures.value ∙ sym c.deref-2.ensures.value) c.in_ok-undone.ensures

pub first_queue-requires-clause-fresh : goal.first_queue-requires-clause-fresh
first_queue-requires-clause-fresh c = subst (All IsFresh) (sym (c.deref-2.ensures.value ∙ c.in_ok-records.ensures.tasks)) (fresh_opened c.args.done.now)

pub invariant_of-result : goal.invariant_of-result
invariant_of-result c =
    let r = c.in_ok-records.ensures in (
      begun c.in_ok-tasks.tasks c.args.retries c.args.backups c.args.done.now c.in-Ok.kept.items c.in_ok-records.records.history.items c.in_ok-records.records.tasks.items c.in_ok-records.records.copies.items
          c.in_ok-records.records.ended c.in-Ok.ensures.items r.history r.tasks r.copies r.ended c.in_ok-undone.undone c.in_ok-queue.queue r.sound
          (c.requires ∙ ap task_count (sym (c.in_ok-tasks.ensures ∙ c.in_ok-copy.ensures)))
          (subst (λ (ts : List TaskState). AreUndone c.in_ok-tasks.tasks ts c.in_ok-undone.undone) c.deref.ensures.value c.in_ok-undone.ensures)
          (subst (λ (ts : List TaskState). IsQueue c.in_ok-tasks.tasks (of_tasks ts) c.in_ok-queue.queue) c.deref-2.ensures.value c.in_ok-queue.ensures),
      r.room,
    )

pub returns-clause-table : goal.returns-clause-table
returns-clause-table c =
    let r = c.in_ok-records.ensures in
    begins_as c.in_ok-tasks.tasks c.args.retries c.args.backups c.args.done.now c.in-Ok.kept.items c.in_ok-records.records.history.items c.in_ok-records.records.tasks.items c.in_ok-records.records.copies.items
    c.in_ok-records.records.ended c.in-Ok.ensures.items r.history r.tasks r.copies r.ended
    ∙ ap (λ (p : PlanView). view_of p c.args.retries c.args.backups c.args.done.now [] (map opened c.args.done.now) [] None) (c.in_ok-tasks.ensures ∙ c.in_ok-copy.ensures)

pub returns-clause-legal : goal.returns-clause-legal
returns-clause-legal c = (invariant_of-result c).0.replays

pub returns-clause-sound : goal.returns-clause-sound
returns-clause-sound c = c.in_ok-records.ensures.sound

use Rattle.std.proofs.Common.{◌≡◌, List, All, length, Some, None, refl, ap, sym, ◌∙◌, subst, arith}
use Rattle.cu_table.specs.declared.state.RunningCopy.{RunningCopy}
use Rattle.cu_table.specs.declared.state.TaskState.{TaskState}
use Rattle.cu_table.specs.declared.table.Table.TheInside.{Inside}
use Rattle.cu_table.specs.Table.{TableView}
use Rattle.cu_table.specs.Numbers.{IsTask}
use Rattle.cu_table.specs.Machine.{AllDone, RunsNothing}
use Rattle.cu_table.specs.Table.{NoneStarts}
use Rattle.cu_table.specs.Queue.{IsTable, IsNextTask, HasNoNext, of_tasks}
use Rattle.cu_table.proofs.Tables.{kept, finished, not_finished, none_starts, next_few, start_entry, start_machine, start_room, start_goes, start_replays, copy_room, start_table, gone_is, waiting_small, queue_now, ended_answer, legal_as, sound_as, started_as}
use Rattle.cu_table.proofs.table.Table.claim.Goals as goal

abbrev viewed : Inside → TableView
viewed i = record {
  settings = record { plan = i.tasks; retries = i.retries; backups = i.backups };
  done = i.done.items;
  history = i.records.history.items;
  state = record { tasks = i.records.tasks.items; copies = i.records.copies.items; ended = i.records.ended };
}

pub returns-in-Some-clause-answer : goal.returns-in-Some-clause-answer
returns-in-Some-clause-answer c =
    ended_answer c.args.self.now c.args.worker c.in-Some.ending c.ended_claim.result c.ended_claim.ensures (subst (λ (v : TableView). v.state.ended ≡ Some c.in-Some.ending) c.self.view_is c.in-Some.is)

pub returns-in-Some-clause-legal : goal.returns-in-Some-clause-legal
returns-in-Some-clause-legal c = legal_as (viewed c.self.inside) c.args.self.now c.self.view_is c.self.invariant.0.replays

pub returns-in-Some-clause-sound : goal.returns-in-Some-clause-sound
returns-in-Some-clause-sound c = sound_as (viewed c.self.inside) c.args.self.now c.self.view_is c.self.invariant.0.sound

pub returns-then-self-eq0-clause-answer : goal.returns-then-self-eq0-clause-answer
returns-then-self-eq0-clause-answer c = (
  refl,
  subst (λ (v : TableView). v.state.ended ≡ None) c.self.view_is c.in_default.is,
  subst (λ (v : TableView). AllDone v.settings.plan v.state) c.self.view_is (finished (viewed c.self.inside) c.self.inside.undone c.self.inside.queue c.self.invariant.0 c.if-self-eq0.true),
)

pub returns-then-self-eq0-clause-legal : goal.returns-then-self-eq0-clause-legal
returns-then-self-eq0-clause-legal c = legal_as (viewed c.self.inside) c.args.self.now c.self.view_is c.self.invariant.0.replays

pub returns-then-self-eq0-clause-sound : goal.returns-then-self-eq0-clause-sound
returns-then-self-eq0-clause-sound c = sound_as (viewed c.self.inside) c.args.self.now c.self.view_is c.self.invariant.0.sound

pub next_task-next-requires-clause-copies : goal.next_task-next-requires-clause-copies
next_task-next-requires-clause-copies c =
    subst (λ (cs : List RunningCopy). All (λ d. IsTask c.self.inside.tasks d.op d.task) cs) (sym c.deref-2.ensures.value) (kept (viewed c.self.inside) c.self.inside.undone c.self.inside.queue c.self.invariant.0).listed

pub next_task-next-requires-clause-states : goal.next_task-next-requires-clause-states
next_task-next-requires-clause-states c = ap length c.deref.ensures.value ∙ (kept (viewed c.self.inside) c.self.inside.undone c.self.inside.queue c.self.invariant.0).tasks

pub next_task-next-requires-clause-waiting : goal.next_task-next-requires-clause-waiting
next_task-next-requires-clause-waiting c =
    waiting_small c.self.inside.tasks (of_tasks c.self.inside.records.tasks.items) (λ j. ⊥) c.self.inside.queue (queue_now (viewed c.self.inside) c.self.inside.undone c.self.inside.queue c.self.invariant.0 c.in_default.is).lined

pub invariant_of-self : goal.invariant_of-self
invariant_of-self c = (subst (IsTable (viewed c.self.inside) c.self.inside.undone) (sym c.in-None.ensures.same) c.self.invariant.0, c.self.invariant.1)

pub returns-in-None-clause-answer : goal.returns-in-None-clause-answer
returns-in-None-clause-answer c =
    let none = subst (λ (ts : List TaskState). HasNoNext c.self.inside.tasks c.self.inside.backups ts c.self.inside.records.copies.items c.self.inside.queue c.next_task-next.new.queue) c.deref.ensures.value
    (subst (λ (cs : List RunningCopy). HasNoNext c.self.inside.tasks c.self.inside.backups c.deref.result.now cs c.self.inside.queue c.next_task-next.new.queue) c.deref-2.ensures.value c.in-None.ensures) in (
      c.self.view_is,
      subst (λ (v : TableView). v.state.ended ≡ None) c.self.view_is c.in_default.is,
      subst (λ (v : TableView). AllDone v.settings.plan v.state → ⊥) c.self.view_is (not_finished (viewed c.self.inside) c.self.inside.undone c.self.inside.queue c.self.invariant.0 c.if-self-eq0.false),
      subst (λ (v : TableView). NoneStarts v.settings v.state) c.self.view_is (none_starts (viewed c.self.inside) c.self.inside.undone c.self.inside.queue c.self.invariant.0 c.in_default.is c.next_task-next.new.queue none),
    )

pub returns-in-None-clause-legal : goal.returns-in-None-clause-legal
returns-in-None-clause-legal c = c.self.invariant.0.replays

pub returns-in-None-clause-sound : goal.returns-in-None-clause-sound
returns-in-None-clause-sound c = sound_as (viewed c.self.inside) c.args.self.now c.self.view_is c.self.invariant.0.sound

pub start-requires-clause-task : goal.start-requires-clause-task
start-requires-clause-task c = c.in-Some-next.ensures.0

pub start-requires-clause-states : goal.start-requires-clause-states
start-requires-clause-states c = (kept (viewed c.self.inside) c.self.inside.undone c.self.inside.queue c.self.invariant.0).tasks

pub start-requires-clause-few : goal.start-requires-clause-few
start-requires-clause-few c =
    next_few (viewed c.self.inside) c.self.inside.undone c.self.inside.queue c.self.invariant.0 c.in_default.is c.in-Some-next.id c.next_task-next.new.queue
    (subst (λ (ts : List TaskState). IsNextTask c.self.inside.tasks c.self.inside.backups ts c.in-Some-next.id c.self.inside.queue c.next_task-next.new.queue) c.deref.ensures.value c.in-Some-next.ensures)

pub start-requires-clause-history : goal.start-requires-clause-history
start-requires-clause-history c =
    let next = subst (λ (ts : List TaskState). IsNextTask c.self.inside.tasks c.self.inside.backups ts c.in-Some-next.id c.self.inside.queue c.next_task-next.new.queue) c.deref.ensures.value c.in-Some-next.ensures in
    let free = subst (λ (v : TableView). RunsNothing v.state c.args.worker) (sym c.self.view_is) c.requires in
    let a = start_room (viewed c.self.inside) c.self.inside.undone c.self.inside.queue c.self.invariant.0 c.in_default.is c.in-Some-next.id c.next_task-next.new.queue next c.args.worker free in
    let b = c.self.invariant.1.entries in
    let l = c.self.inside.records.history.ok.0 in
    omega (arith, a, b, l)

pub start-requires-clause-copies : goal.start-requires-clause-copies
start-requires-clause-copies c =
    let next = subst (λ (ts : List TaskState). IsNextTask c.self.inside.tasks c.self.inside.backups ts c.in-Some-next.id c.self.inside.queue c.next_task-next.new.queue) c.deref.ensures.value c.in-Some-next.ensures in
    let free = subst (λ (v : TableView). RunsNothing v.state c.args.worker) (sym c.self.view_is) c.requires in
    let a = copy_room (viewed c.self.inside) c.self.inside.undone c.self.inside.queue c.self.invariant.0 c.in_default.is c.in-Some-next.id c.next_task-next.new.queue next c.args.worker free in
    let b = c.self.invariant.1.copies in
    let l = c.self.inside.records.copies.ok.0 in
    omega (arith, a, b, l)

pub invariant_of-self-in-Some-next : goal.invariant_of-self-in-Some-next
invariant_of-self-in-Some-next c =
    let next = subst (λ (ts : List TaskState). IsNextTask c.self.inside.tasks c.self.inside.backups ts c.in-Some-next.id c.self.inside.queue c.next_task-next.new.queue) c.deref.ensures.value c.in-Some-next.ensures in
    let free = subst (λ (v : TableView). RunsNothing v.state c.args.worker) (sym c.self.view_is) c.requires in
    let r = c.self.invariant.1 in
    let a = c.start.ensures.room in
    let b = c.start.ensures.copy_room in
    let ra = r.entries in
    let rb = r.copies in (
      subst (λ (v : TableView). IsTable v c.self.inside.undone c.next_task-next.new.queue)
          (sym (gone_is (viewed c.self.inside) (start_entry (viewed c.self.inside) c.self.inside.undone c.self.inside.queue c.self.invariant.0 c.in_default.is c.in-Some-next.id c.next_task-next.new.queue next c.args.worker free)
          (start_machine (viewed c.self.inside) c.self.inside.undone c.self.inside.queue c.self.invariant.0 c.in_default.is c.in-Some-next.id c.next_task-next.new.queue next c.args.worker free)
          c.start.new.records.history.items c.start.new.records.tasks.items c.start.new.records.copies.items c.start.new.records.ended c.start.ensures.history c.start.ensures.tasks c.start.ensures.copies c.start.ensures.ended))
          (start_table (viewed c.self.inside) c.self.inside.undone c.self.inside.queue c.self.invariant.0 c.in_default.is c.in-Some-next.id c.next_task-next.new.queue next c.args.worker free),
      record { entries = omega (arith, a, ra); copies = omega (arith, b, rb) },
    )

pub returns-in-Some-next-clause-answer : goal.returns-in-Some-next-clause-answer
returns-in-Some-next-clause-answer c =
    let next = subst (λ (ts : List TaskState). IsNextTask c.self.inside.tasks c.self.inside.backups ts c.in-Some-next.id c.self.inside.queue c.next_task-next.new.queue) c.deref.ensures.value c.in-Some-next.ensures in
    let free = subst (λ (v : TableView). RunsNothing v.state c.args.worker) (sym c.self.view_is) c.requires in
    started_as (viewed c.self.inside) c.args.self.now _ c.args.worker c.in-Some-next.id c.start.result _ c.self.view_is
    (gone_is (viewed c.self.inside) (start_entry (viewed c.self.inside) c.self.inside.undone c.self.inside.queue c.self.invariant.0 c.in_default.is c.in-Some-next.id c.next_task-next.new.queue next c.args.worker free)
    (start_machine (viewed c.self.inside) c.self.inside.undone c.self.inside.queue c.self.invariant.0 c.in_default.is c.in-Some-next.id c.next_task-next.new.queue next c.args.worker free)
    c.start.new.records.history.items c.start.new.records.tasks.items c.start.new.records.copies.items c.start.new.records.ended c.start.ensures.history c.start.ensures.tasks c.start.ensures.copies c.start.ensures.ended)
    (start_goes (viewed c.self.inside) c.self.inside.undone c.self.inside.queue c.self.invariant.0 c.in_default.is c.in-Some-next.id c.next_task-next.new.queue next c.args.worker free) c.start.ensures.before

pub returns-in-Some-next-clause-legal : goal.returns-in-Some-next-clause-legal
returns-in-Some-next-clause-legal c =
    let next = subst (λ (ts : List TaskState). IsNextTask c.self.inside.tasks c.self.inside.backups ts c.in-Some-next.id c.self.inside.queue c.next_task-next.new.queue) c.deref.ensures.value c.in-Some-next.ensures in
    let free = subst (λ (v : TableView). RunsNothing v.state c.args.worker) (sym c.self.view_is) c.requires in
    legal_as _ _ (sym (gone_is (viewed c.self.inside) (start_entry (viewed c.self.inside) c.self.inside.undone c.self.inside.queue c.self.invariant.0 c.in_default.is c.in-Some-next.id c.next_task-next.new.queue next c.args.worker free)
    (start_machine (viewed c.self.inside) c.self.inside.undone c.self.inside.queue c.self.invariant.0 c.in_default.is c.in-Some-next.id c.next_task-next.new.queue next c.args.worker free)
    c.start.new.records.history.items c.start.new.records.tasks.items c.start.new.records.copies.items c.start.new.records.ended c.start.ensures.history c.start.ensures.tasks c.start.ensures.copies c.start.ensures.ended))
    (start_replays (viewed c.self.inside) c.self.inside.undone c.self.inside.queue c.self.invariant.0 c.in_default.is c.in-Some-next.id c.next_task-next.new.queue next c.args.worker free)

pub returns-in-Some-next-clause-sound : goal.returns-in-Some-next-clause-sound
returns-in-Some-next-clause-sound c = sound_as (viewed c.self.inside) c.args.self.now c.self.view_is c.self.invariant.0.sound

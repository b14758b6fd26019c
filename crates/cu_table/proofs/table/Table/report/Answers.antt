use Rattle.std.proofs.Common.{◌≡◌, ℕ, ◌≤◌, false, List, get_or, None, ap, sym, ◌∙◌, subst, arith}
use Rattle.std.proofs.lemmas.List.{get_or_default}
use Rattle.cu_table.specs.declared.state.TaskState.{TaskState}
use Rattle.cu_table.specs.declared.table.Table.TheInside.{Inside}
use Rattle.cu_table.specs.Table.{TableView}
use Rattle.cu_table.specs.Machine.{Runs, no_task}
use Rattle.cu_table.specs.Queue.{IsTable, IsQueue, AreUndone, of_tasks}
use Rattle.cu_table.proofs.Tables.{kept, entry_room, sound_as}
use Rattle.cu_table.proofs.Reports.{report_task, report_copy, report_failures, report_step, line_states, line_state, line_leaves, line_counts, line_queue, table_after, view_after, reported_as, legal_after}
use Rattle.cu_table.proofs.table.Table.report.Goals as goal

abbrev viewed : Inside → TableView
viewed i = record {
  settings = record { plan = i.tasks; retries = i.retries; backups = i.backups };
  done = i.done.items;
  history = i.records.history.items;
  state = record { tasks = i.records.tasks.items; copies = i.records.copies.items; ended = i.records.ended };
}

pub number-number-requires : goal.number-number-requires
number-number-requires c = report_task (viewed c.self.inside) c.self.inside.undone c.self.inside.queue c.self.invariant.0 c.args.worker c.args.op c.args.task (subst (λ (w : TableView). Runs w.state c.args.worker c.args.op c.args.task) (sym c.self.view_is) c.requires)

pub index-was-requires : goal.index-was-requires
index-was-requires c =
    let n = c.number-number.ensures.within in
    let k = (kept (viewed c.self.inside) c.self.inside.undone c.self.inside.queue c.self.invariant.0).tasks in
    let l = c.self.inside.records.tasks.ok.0 in
    omega (arith, n, k, l)

pub end_copy-end-requires-clause-copies : goal.end_copy-end-requires-clause-copies
end_copy-end-requires-clause-copies c =
    subst (λ (s : TaskState). 1 ≤ s.copies) (sym ((c.index-was.ensures ∙ get_or_default c.self.inside.records.tasks.items c.number-number.result c.index-was.result.now no_task (let n = c.number-number.ensures.within in let k = (kept (viewed c.self.inside) c.self.inside.undone c.self.inside.queue c.self.invariant.0).tasks in omega (arith, n, k))) ∙ ap (λ (n : ℕ). get_or c.self.inside.records.tasks.items n no_task) c.number-number.ensures.number)) (report_copy (viewed c.self.inside) c.self.inside.undone c.self.inside.queue c.self.invariant.0 c.args.worker c.args.op c.args.task (subst (λ (w : TableView). Runs w.state c.args.worker c.args.op c.args.task) (sym c.self.view_is) c.requires))

pub end_copy-end-requires-clause-failures : goal.end_copy-end-requires-clause-failures
end_copy-end-requires-clause-failures c =
    subst (λ (s : TaskState). c.self.inside.records.ended ≡ None → s.done ≡ false → s.failures ≤ c.self.inside.retries)
    (sym ((c.index-was.ensures ∙ get_or_default c.self.inside.records.tasks.items c.number-number.result c.index-was.result.now no_task (let n = c.number-number.ensures.within in let k = (kept (viewed c.self.inside) c.self.inside.undone c.self.inside.queue c.self.invariant.0).tasks in omega (arith, n, k))) ∙ ap (λ (n : ℕ). get_or c.self.inside.records.tasks.items n no_task) c.number-number.ensures.number)) (report_failures (viewed c.self.inside) c.self.inside.undone c.self.inside.queue c.self.invariant.0 c.args.worker c.args.op c.args.task (subst (λ (w : TableView). Runs w.state c.args.worker c.args.op c.args.task) (sym c.self.view_is) c.requires))

pub end-requires-clause-number : goal.end-requires-clause-number
end-requires-clause-number c = let n = c.number-number.ensures.within in let k = (kept (viewed c.self.inside) c.self.inside.undone c.self.inside.queue c.self.invariant.0).tasks in omega (arith, n, k)

pub end-requires-clause-history : goal.end-requires-clause-history
end-requires-clause-history c =
    let a = entry_room (viewed c.self.inside) c.self.inside.undone c.self.inside.queue c.self.invariant.0 _ _ (report_step (viewed c.self.inside) c.self.inside.undone c.self.inside.queue c.self.invariant.0 c.args.worker c.args.op c.args.task (subst (λ (w : TableView). Runs w.state c.args.worker c.args.op c.args.task) (sym c.self.view_is) c.requires) c.args.ended) in
    let b = c.self.invariant.1.entries in
    let l = c.self.inside.records.history.ok.0 in
    omega (arith, a, b, l)

pub line_up-requires-clause-task : goal.line_up-requires-clause-task
line_up-requires-clause-task c = report_task (viewed c.self.inside) c.self.inside.undone c.self.inside.queue c.self.invariant.0 c.args.worker c.args.op c.args.task (subst (λ (w : TableView). Runs w.state c.args.worker c.args.op c.args.task) (sym c.self.view_is) c.requires)

pub line_up-requires-clause-states : goal.line_up-requires-clause-states
line_up-requires-clause-states c = line_states (viewed c.self.inside) c.self.inside.undone c.self.inside.queue c.self.invariant.0 c.args.worker c.args.op c.args.task (subst (λ (w : TableView). Runs w.state c.args.worker c.args.op c.args.task) (sym c.self.view_is) c.requires) c.args.ended c.number-number.result c.number-number.ensures.number c.index-was.result.now (c.index-was.ensures ∙ get_or_default c.self.inside.records.tasks.items c.number-number.result c.index-was.result.now no_task (let n = c.number-number.ensures.within in let k = (kept (viewed c.self.inside) c.self.inside.undone c.self.inside.queue c.self.invariant.0).tasks in omega (arith, n, k))) c.end_copy-end.result c.end_copy-end.ensures.kind c.end_copy-end.ensures.was c.end_copy-end.ensures.state c.end_copy-end.ensures.ended c.deref.result.now (c.deref.ensures.value ∙ c.end.ensures.tasks)

pub line_up-requires-clause-state : goal.line_up-requires-clause-state
line_up-requires-clause-state c = line_state (viewed c.self.inside) c.self.inside.undone c.self.inside.queue c.self.invariant.0 c.args.worker c.args.op c.args.task (subst (λ (w : TableView). Runs w.state c.args.worker c.args.op c.args.task) (sym c.self.view_is) c.requires) c.args.ended c.number-number.result c.number-number.ensures.number c.index-was.result.now (c.index-was.ensures ∙ get_or_default c.self.inside.records.tasks.items c.number-number.result c.index-was.result.now no_task (let n = c.number-number.ensures.within in let k = (kept (viewed c.self.inside) c.self.inside.undone c.self.inside.queue c.self.invariant.0).tasks in omega (arith, n, k))) c.end_copy-end.result c.end_copy-end.ensures.kind c.end_copy-end.ensures.was c.end_copy-end.ensures.state c.end_copy-end.ensures.ended c.deref.result.now (c.deref.ensures.value ∙ c.end.ensures.tasks)

pub line_up-requires-clause-leaves : goal.line_up-requires-clause-leaves
line_up-requires-clause-leaves c = line_leaves (viewed c.self.inside) c.self.inside.undone c.self.inside.queue c.self.invariant.0 c.args.worker c.args.op c.args.task (subst (λ (w : TableView). Runs w.state c.args.worker c.args.op c.args.task) (sym c.self.view_is) c.requires) c.args.ended c.number-number.result c.number-number.ensures.number c.index-was.result.now (c.index-was.ensures ∙ get_or_default c.self.inside.records.tasks.items c.number-number.result c.index-was.result.now no_task (let n = c.number-number.ensures.within in let k = (kept (viewed c.self.inside) c.self.inside.undone c.self.inside.queue c.self.invariant.0).tasks in omega (arith, n, k))) c.end_copy-end.result c.end_copy-end.ensures.kind c.end_copy-end.ensures.was c.end_copy-end.ensures.state c.end_copy-end.ensures.ended c.deref.result.now (c.deref.ensures.value ∙ c.end.ensures.tasks)

pub line_up-requires-clause-counts : goal.line_up-requires-clause-counts
line_up-requires-clause-counts c = line_counts (viewed c.self.inside) c.self.inside.undone c.self.inside.queue c.self.invariant.0 c.args.worker c.args.op c.args.task (subst (λ (w : TableView). Runs w.state c.args.worker c.args.op c.args.task) (sym c.self.view_is) c.requires) c.args.ended c.number-number.result c.number-number.ensures.number c.index-was.result.now (c.index-was.ensures ∙ get_or_default c.self.inside.records.tasks.items c.number-number.result c.index-was.result.now no_task (let n = c.number-number.ensures.within in let k = (kept (viewed c.self.inside) c.self.inside.undone c.self.inside.queue c.self.invariant.0).tasks in omega (arith, n, k))) c.end_copy-end.result c.end_copy-end.ensures.kind c.end_copy-end.ensures.was c.end_copy-end.ensures.state c.end_copy-end.ensures.ended c.deref.result.now (c.deref.ensures.value ∙ c.end.ensures.tasks)

pub line_up-requires-clause-queue : goal.line_up-requires-clause-queue
line_up-requires-clause-queue c = line_queue (viewed c.self.inside) c.self.inside.undone c.self.inside.queue c.self.invariant.0 c.args.worker c.args.op c.args.task (subst (λ (w : TableView). Runs w.state c.args.worker c.args.op c.args.task) (sym c.self.view_is) c.requires) c.args.ended c.number-number.result c.number-number.ensures.number c.index-was.result.now (c.index-was.ensures ∙ get_or_default c.self.inside.records.tasks.items c.number-number.result c.index-was.result.now no_task (let n = c.number-number.ensures.within in let k = (kept (viewed c.self.inside) c.self.inside.undone c.self.inside.queue c.self.invariant.0).tasks in omega (arith, n, k))) c.end_copy-end.result c.end_copy-end.ensures.kind c.end_copy-end.ensures.was c.end_copy-end.ensures.state c.end_copy-end.ensures.ended c.deref.result.now (c.deref.ensures.value ∙ c.end.ensures.tasks)

pub invariant_of-self : goal.invariant_of-self
invariant_of-self c =
    let r = c.self.invariant.1 in
    let a = c.end.ensures.room in
    let b = c.end.ensures.copy_room in
    let ra = r.entries in
    let rb = r.copies in (
      subst (λ (v : TableView). IsTable v c.line_up.new.undone c.line_up.new.queue)
          (sym (view_after (viewed c.self.inside) c.self.inside.undone c.self.inside.queue c.self.invariant.0 c.args.worker c.args.op c.args.task (subst (λ (w : TableView). Runs w.state c.args.worker c.args.op c.args.task) (sym c.self.view_is) c.requires) c.args.ended c.number-number.result c.number-number.ensures.number c.index-was.result.now (c.index-was.ensures ∙ get_or_default c.self.inside.records.tasks.items c.number-number.result c.index-was.result.now no_task (let n = c.number-number.ensures.within in let k = (kept (viewed c.self.inside) c.self.inside.undone c.self.inside.queue c.self.invariant.0).tasks in omega (arith, n, k))) c.end_copy-end.result c.end_copy-end.ensures.kind c.end_copy-end.ensures.was c.end_copy-end.ensures.state c.end_copy-end.ensures.ended c.end.new.self.tasks.items c.end.ensures.tasks c.end.new.self.history.items c.end.new.self.copies.items c.end.new.self.ended c.end.ensures.history c.end.ensures.copies c.end.ensures.ended))
          (table_after (viewed c.self.inside) c.self.inside.undone c.self.inside.queue c.self.invariant.0 c.args.worker c.args.op c.args.task (subst (λ (w : TableView). Runs w.state c.args.worker c.args.op c.args.task) (sym c.self.view_is) c.requires) c.args.ended c.number-number.result c.number-number.ensures.number c.index-was.result.now (c.index-was.ensures ∙ get_or_default c.self.inside.records.tasks.items c.number-number.result c.index-was.result.now no_task (let n = c.number-number.ensures.within in let k = (kept (viewed c.self.inside) c.self.inside.undone c.self.inside.queue c.self.invariant.0).tasks in omega (arith, n, k))) c.end_copy-end.result c.end_copy-end.ensures.kind c.end_copy-end.ensures.was c.end_copy-end.ensures.state c.end_copy-end.ensures.ended c.end.new.self.tasks.items c.end.ensures.tasks c.line_up.new.undone c.line_up.new.queue
          (subst (λ (ts : List TaskState). AreUndone c.self.inside.tasks ts c.line_up.new.undone) c.deref.ensures.value c.line_up.ensures.counts)
          (λ none. subst (λ (ts : List TaskState). IsQueue c.self.inside.tasks (of_tasks ts) c.line_up.new.queue) c.deref.ensures.value (c.line_up.ensures.queue none))),
      record { entries = omega (arith, a, ra); copies = omega (arith, b, rb) },
    )

pub returns-clause-reported : goal.returns-clause-reported
returns-clause-reported c =
    reported_as (viewed c.self.inside) c.self.inside.undone c.self.inside.queue c.self.invariant.0 c.args.worker c.args.op c.args.task (subst (λ (w : TableView). Runs w.state c.args.worker c.args.op c.args.task) (sym c.self.view_is) c.requires) c.args.ended c.args.self.now _ c.self.view_is
    (view_after (viewed c.self.inside) c.self.inside.undone c.self.inside.queue c.self.invariant.0 c.args.worker c.args.op c.args.task (subst (λ (w : TableView). Runs w.state c.args.worker c.args.op c.args.task) (sym c.self.view_is) c.requires) c.args.ended c.number-number.result c.number-number.ensures.number c.index-was.result.now (c.index-was.ensures ∙ get_or_default c.self.inside.records.tasks.items c.number-number.result c.index-was.result.now no_task (let n = c.number-number.ensures.within in let k = (kept (viewed c.self.inside) c.self.inside.undone c.self.inside.queue c.self.invariant.0).tasks in omega (arith, n, k))) c.end_copy-end.result c.end_copy-end.ensures.kind c.end_copy-end.ensures.was c.end_copy-end.ensures.state c.end_copy-end.ensures.ended c.end.new.self.tasks.items c.end.ensures.tasks c.end.new.self.history.items c.end.new.self.copies.items c.end.new.self.ended c.end.ensures.history c.end.ensures.copies c.end.ensures.ended)

pub returns-clause-legal : goal.returns-clause-legal
returns-clause-legal c =
    legal_after (viewed c.self.inside) c.self.inside.undone c.self.inside.queue c.self.invariant.0 c.args.worker c.args.op c.args.task (subst (λ (w : TableView). Runs w.state c.args.worker c.args.op c.args.task) (sym c.self.view_is) c.requires) c.args.ended c.args.self.now _ c.self.view_is
    (view_after (viewed c.self.inside) c.self.inside.undone c.self.inside.queue c.self.invariant.0 c.args.worker c.args.op c.args.task (subst (λ (w : TableView). Runs w.state c.args.worker c.args.op c.args.task) (sym c.self.view_is) c.requires) c.args.ended c.number-number.result c.number-number.ensures.number c.index-was.result.now (c.index-was.ensures ∙ get_or_default c.self.inside.records.tasks.items c.number-number.result c.index-was.result.now no_task (let n = c.number-number.ensures.within in let k = (kept (viewed c.self.inside) c.self.inside.undone c.self.inside.queue c.self.invariant.0).tasks in omega (arith, n, k))) c.end_copy-end.result c.end_copy-end.ensures.kind c.end_copy-end.ensures.was c.end_copy-end.ensures.state c.end_copy-end.ensures.ended c.end.new.self.tasks.items c.end.ensures.tasks c.end.new.self.history.items c.end.new.self.copies.items c.end.new.self.ended c.end.ensures.history c.end.ensures.copies c.end.ensures.ended)

pub returns-clause-sound : goal.returns-clause-sound
returns-clause-sound c = sound_as (viewed c.self.inside) c.args.self.now c.self.view_is c.self.invariant.0.sound

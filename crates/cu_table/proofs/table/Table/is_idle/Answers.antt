use Rattle.std.proofs.Common.{◌≡◌, ◌↔◌, List, All, length, None, IsTrue, false, ap, sym, ◌∙◌, subst, rules}
use Rattle.cu_table.specs.declared.state.RunningCopy.{RunningCopy}
use Rattle.cu_table.specs.declared.state.TaskState.{TaskState}
use Rattle.cu_table.specs.declared.table.Table.TheInside.{Inside}
use Rattle.cu_table.specs.Numbers.{IsTask}
use Rattle.cu_table.specs.Table.{TableView, IsIdle}
use Rattle.cu_table.specs.Queue.{HasNext, HasNoNext}
use Rattle.cu_table.proofs.Tables.{kept, has_ended, all_done, is_idle}
use Rattle.cu_table.proofs.table.Table.is_idle.Goals as goal

abbrev pub viewed : Inside → TableView
viewed i = record {
  settings = record { plan = i.tasks; retries = i.retries; backups = i.backups };
  done = i.done.items;
  history = i.records.history.items;
  state = record { tasks = i.records.tasks.items; copies = i.records.copies.items; ended = i.records.ended };
}

pub returns-then-is_some : goal.returns-then-is_some
returns-then-is_some c =
    let some : c.self.inside.records.ended ≡ None → ⊥ = search rules in
    subst (λ (v : TableView). IsTrue false ↔ IsIdle v) c.self.view_is
    (has_ended (viewed c.self.inside) c.self.inside.undone c.self.inside.queue c.self.invariant.0 some)

pub returns-then-self-eq0 : goal.returns-then-self-eq0
returns-then-self-eq0 c =
    subst (λ (v : TableView). IsTrue false ↔ IsIdle v) c.self.view_is
    (all_done (viewed c.self.inside) c.self.inside.undone c.self.inside.queue c.self.invariant.0 c.if-self-eq0.true)

pub none_next-requires-clause-copies : goal.none_next-requires-clause-copies
none_next-requires-clause-copies c =
    subst (λ (cs : List RunningCopy). All (λ d. IsTask c.self.inside.tasks d.op d.task) cs) (sym c.deref-2.ensures.value) (kept (viewed c.self.inside) c.self.inside.undone c.self.inside.queue c.self.invariant.0).listed

pub none_next-requires-clause-states : goal.none_next-requires-clause-states
none_next-requires-clause-states c = ap length c.deref.ensures.value ∙ (kept (viewed c.self.inside) c.self.inside.undone c.self.inside.queue c.self.invariant.0).tasks

pub returns : goal.returns
returns c =
    let going : c.self.inside.records.ended ≡ None = search rules in
    subst (λ (v : TableView). IsTrue c.none_next.result ↔ IsIdle v) c.self.view_is
    (is_idle (viewed c.self.inside) c.self.inside.undone c.self.inside.queue c.self.invariant.0 going c.none_next.result c.if-self-eq0.false
    (λ is. subst (λ (cs : List RunningCopy). HasNoNext c.self.inside.tasks c.self.inside.backups c.self.inside.records.tasks.items cs c.self.inside.queue c.self.inside.queue) c.deref-2.ensures.value
    (subst (λ (ts : List TaskState). HasNoNext c.self.inside.tasks c.self.inside.backups ts c.deref-2.result.now c.self.inside.queue c.self.inside.queue) c.deref.ensures.value (c.none_next.ensures.none is)))
    (λ isnt. subst (λ (ts : List TaskState). HasNext c.self.inside.tasks c.self.inside.backups ts c.self.inside.queue) c.deref.ensures.value (c.none_next.ensures.some isnt)))

use Rattle.std.proofs.Common.{ℕ, ◌+◌, ◌-◌, set, refl, ap, sym, ◌∙◌, subst, arith}
use Rattle.cu_table.specs.Queue.{of_tasks, IsOver, IsWoken}
use Rattle.cu_table.proofs.Lines.{within_of, of_some, counts_now, undone_now, now_over, all_over, now_lined, queue_woken, queue_all_woken, read_is, again_is}
use Rattle.cu_table.proofs.line.finish.Goals as goal

pub overflow_sub-index_mut : goal.overflow_sub-index_mut
overflow_sub-index_mut c =
    let r = read_is c.args.undone.now.by_op.items c.args.id.op c.index_mut.result.now (within_of c.args.tasks.now c.args.states.now c.requires.states c.args.id.op c.args.id.task c.requires.task c.args.was c.requires.done c.requires.before c.args.undone.now c.requires.counts) c.index_mut.ensures.value in
    let s = of_some c.args.tasks.now c.args.states.now c.requires.states c.args.id.op c.args.id.task c.requires.task c.args.was c.requires.done c.requires.before c.args.undone.now c.requires.counts in
    omega (arith, r, s)

pub wake-requires-clause-counts : goal.wake-requires-clause-counts
wake-requires-clause-counts c =
    let r = read_is c.args.undone.now.by_op.items c.args.id.op c.index_mut.result.now (within_of c.args.tasks.now c.args.states.now c.requires.states c.args.id.op c.args.id.task c.requires.task c.args.was c.requires.done c.requires.before c.args.undone.now c.requires.counts) c.index_mut.ensures.value in
    counts_now c.args.tasks.now c.args.states.now c.requires.states c.args.id.op c.args.id.task c.requires.task c.args.was c.requires.done c.requires.before c.args.undone.now c.requires.counts c.deref.result.now
    (c.deref.ensures.value ∙ ap (λ (x : ℕ). set c.args.undone.now.by_op.items c.args.id.op (x - 1)) r)

pub wake-requires-clause-over : goal.wake-requires-clause-over
wake-requires-clause-over c =
    subst (IsOver c.args.tasks.now (of_tasks c.args.states.now)) (sym c.number.ensures.number) (now_over c.args.tasks.now c.args.states.now c.requires.states c.args.id.op c.args.id.task c.requires.task c.args.was c.requires.done c.requires.before c.args.undone.now c.requires.counts)

pub wake-requires-clause-lined : goal.wake-requires-clause-lined
wake-requires-clause-lined c = now_lined c.args.tasks.now c.args.states.now c.requires.states c.args.id.op c.args.id.task c.requires.task c.args.was c.requires.done c.requires.before c.args.undone.now c.requires.counts c.args.queue.now c.requires.queue c.requires.copies

pub wake-requires-then-index-eq0-clause-counts : goal.wake-requires-then-index-eq0-clause-counts
wake-requires-then-index-eq0-clause-counts c =
    let r = read_is c.args.undone.now.by_op.items c.args.id.op c.index_mut.result.now (within_of c.args.tasks.now c.args.states.now c.requires.states c.args.id.op c.args.id.task c.requires.task c.args.was c.requires.done c.requires.before c.args.undone.now c.requires.counts) c.index_mut.ensures.value in
    counts_now c.args.tasks.now c.args.states.now c.requires.states c.args.id.op c.args.id.task c.requires.task c.args.was c.requires.done c.requires.before c.args.undone.now c.requires.counts c.deref-then-index-eq0.result.now
    (c.deref-then-index-eq0.ensures.value ∙ ap (λ (x : ℕ). set c.args.undone.now.by_op.items c.args.id.op (x - 1)) r)

pub wake-requires-then-index-eq0-clause-over : goal.wake-requires-then-index-eq0-clause-over
wake-requires-then-index-eq0-clause-over c =
    let h = within_of c.args.tasks.now c.args.states.now c.requires.states c.args.id.op c.args.id.task c.requires.task c.args.was c.requires.done c.requires.before c.args.undone.now c.requires.counts in
    let r = read_is c.args.undone.now.by_op.items c.args.id.op c.index_mut.result.now h c.index_mut.ensures.value in
    let a = again_is c.args.undone.now.by_op.items c.args.id.op c.index_mut.result.now c.index.result.now h r c.index.ensures in
    subst (λ (n : ℕ). IsOver c.args.tasks.now (of_tasks c.args.states.now) (n + c.args.id.op)) (sym c.count.ensures.count)
    (all_over c.args.tasks.now c.args.states.now c.requires.states c.args.id.op c.args.id.task c.requires.task c.args.was c.requires.done c.requires.before c.args.undone.now c.requires.counts (sym a ∙ c.if-index-eq0.true))

pub returns-then-index-eq0-clause-counts : goal.returns-then-index-eq0-clause-counts
returns-then-index-eq0-clause-counts c =
    let r = read_is c.args.undone.now.by_op.items c.args.id.op c.index_mut.result.now (within_of c.args.tasks.now c.args.states.now c.requires.states c.args.id.op c.args.id.task c.requires.task c.args.was c.requires.done c.requires.before c.args.undone.now c.requires.counts) c.index_mut.ensures.value in
    undone_now c.args.tasks.now c.args.states.now c.requires.states c.args.id.op c.args.id.task c.requires.task c.args.was c.requires.done c.requires.before c.args.undone.now c.requires.counts _ (ap (λ (x : ℕ). set c.args.undone.now.by_op.items c.args.id.op (x - 1)) r) refl

pub returns-then-index-eq0-clause-queue : goal.returns-then-index-eq0-clause-queue
returns-then-index-eq0-clause-queue c =
    queue_all_woken c.args.tasks.now c.args.states.now c.requires.states c.args.id.op c.args.id.task c.requires.task c.args.was c.requires.done c.requires.before c.args.undone.now c.requires.counts c.args.queue.now c.requires.queue c.requires.copies c.wake.new.queue c.wake-then-index-eq0.new.queue
    (subst (λ (n : ℕ). IsWoken c.args.tasks.now (of_tasks c.args.states.now) n c.args.queue.now c.wake.new.queue) c.number.ensures.number c.wake.ensures)
    (subst (λ (n : ℕ). IsWoken c.args.tasks.now (of_tasks c.args.states.now) (n + c.args.id.op) c.wake.new.queue c.wake-then-index-eq0.new.queue) c.count.ensures.count c.wake-then-index-eq0.ensures)

pub returns-else-index-eq0-clause-counts : goal.returns-else-index-eq0-clause-counts
returns-else-index-eq0-clause-counts c =
    let r = read_is c.args.undone.now.by_op.items c.args.id.op c.index_mut.result.now (within_of c.args.tasks.now c.args.states.now c.requires.states c.args.id.op c.args.id.task c.requires.task c.args.was c.requires.done c.requires.before c.args.undone.now c.requires.counts) c.index_mut.ensures.value in
    undone_now c.args.tasks.now c.args.states.now c.requires.states c.args.id.op c.args.id.task c.requires.task c.args.was c.requires.done c.requires.before c.args.undone.now c.requires.counts _ (ap (λ (x : ℕ). set c.args.undone.now.by_op.items c.args.id.op (x - 1)) r) refl

pub returns-else-index-eq0-clause-queue : goal.returns-else-index-eq0-clause-queue
returns-else-index-eq0-clause-queue c =
    let h = within_of c.args.tasks.now c.args.states.now c.requires.states c.args.id.op c.args.id.task c.requires.task c.args.was c.requires.done c.requires.before c.args.undone.now c.requires.counts in
    let r = read_is c.args.undone.now.by_op.items c.args.id.op c.index_mut.result.now h c.index_mut.ensures.value in
    let a = again_is c.args.undone.now.by_op.items c.args.id.op c.index_mut.result.now c.index.result.now h r c.index.ensures in
    queue_woken c.args.tasks.now c.args.states.now c.requires.states c.args.id.op c.args.id.task c.requires.task c.args.was c.requires.done c.requires.before c.args.undone.now c.requires.counts c.args.queue.now c.requires.queue c.requires.copies c.wake.new.queue
    (subst (λ (n : ℕ). IsWoken c.args.tasks.now (of_tasks c.args.states.now) n c.args.queue.now c.wake.new.queue) c.number.ensures.number c.wake.ensures)
    (λ z. c.if-index-eq0.false (a ∙ z))

use Rattle.std.proofs.Common.{◌≡◌, ◌≤◌, false, None, ap, sym, ◌∙◌, subst}
use Rattle.cu_history.specs.declared.entry.EventKind.{EventKind}
use Rattle.cu_history.specs.declared.entry.EventKind.TheVariants.{Done, Failed}
use Rattle.cu_table.specs.declared.end.End.{End}
use Rattle.cu_table.specs.declared.state.TaskState.{TaskState}
use Rattle.cu_table.specs.Machine.{failed_now, done_now}
use Rattle.cu_table.specs.Queue.{LeavesBy, pushed}
use Rattle.cu_table.proofs.Lines.{undone_stays, queue_late, queue_still, place_failed, queue_failed, none_of, other_leaves}
use Rattle.cu_table.proofs.line.line_up.Goals as goal

-- what a copy that failed leaves
failed_leaves : (e : End) → e.kind ≡ Failed → LeavesBy e.kind e.was e.state e.ended → (1 ≤ e.was.copies) × (e.was.done ≡ false) × (e.state ≡ failed_now e.was)
failed_leaves e is leaves = subst (λ (k : EventKind). LeavesBy k e.was e.state e.ended) is leaves

done_leaves : (e : End) → e.kind ≡ Done → LeavesBy e.kind e.was e.state e.ended → (1 ≤ e.was.copies) × (e.was.done ≡ false) × (e.state ≡ done_now e.was) × (e.ended ≡ None)
done_leaves e is leaves = subst (λ (k : EventKind). LeavesBy k e.was e.state e.ended) is leaves

pub finish-requires-clause-before : goal.finish-requires-clause-before
finish-requires-clause-before c = (done_leaves c.args.end.now c.in-Done.is c.requires.leaves).1

pub finish-requires-clause-done : goal.finish-requires-clause-done
finish-requires-clause-done c = ap (λ (s : TaskState). s.done) (c.requires.state ∙ (done_leaves c.args.end.now c.in-Done.is c.requires.leaves).2)

pub finish-requires-clause-queue : goal.finish-requires-clause-queue
finish-requires-clause-queue c = c.requires.queue (done_leaves c.args.end.now c.in-Done.is c.requires.leaves).3

pub finish-requires-clause-copies : goal.finish-requires-clause-copies
finish-requires-clause-copies c = (done_leaves c.args.end.now c.in-Done.is c.requires.leaves).0

pub push-requires : goal.push-requires
push-requires c =
    let (some, undone, now_is) = failed_leaves c.args.end.now c.in-Failed.is c.requires.leaves in
    (place_failed c.args.tasks.now c.args.states.now c.requires.states c.args.id.op c.args.id.task c.requires.task c.args.end.now.was (ap (λ (s : TaskState). s.done) (c.requires.state ∙ now_is)) c.args.queue.now (c.requires.queue (none_of c.args.end.now.ended c.if-is_none.ensures)) some undone
    (ap (λ (s : TaskState). s.copies) c.requires.state ∙ c.if-end-eq0.true)).room

pub returns-then-end-eq0-clause-counts : goal.returns-then-end-eq0-clause-counts
returns-then-end-eq0-clause-counts c =
    let (some, undone, now_is) = failed_leaves c.args.end.now c.in-Failed.is c.requires.leaves in
    undone_stays c.args.tasks.now c.args.states.now c.requires.states c.args.id.op c.args.id.task c.requires.task c.args.end.now.was (ap (λ (s : TaskState). s.done) (c.requires.state ∙ now_is)) c.args.undone.now c.requires.counts

pub returns-then-end-eq0-clause-queue : goal.returns-then-end-eq0-clause-queue
returns-then-end-eq0-clause-queue c = λ none.
    let (some, undone, now_is) = failed_leaves c.args.end.now c.in-Failed.is c.requires.leaves in
    queue_failed c.args.tasks.now c.args.states.now c.requires.states c.args.id.op c.args.id.task c.requires.task c.args.end.now.was (ap (λ (s : TaskState). s.done) (c.requires.state ∙ now_is)) c.args.queue.now (c.requires.queue none) some undone
    (ap (λ (s : TaskState). s.copies) c.requires.state ∙ c.if-end-eq0.true) c.push.new.self (c.push.ensures ∙ ap (pushed c.args.queue.now) c.number.ensures.number)

pub returns-else-end-eq0-clause-counts : goal.returns-else-end-eq0-clause-counts
returns-else-end-eq0-clause-counts c =
    let (some, undone, now_is) = failed_leaves c.args.end.now c.in-Failed.is c.requires.leaves in
    undone_stays c.args.tasks.now c.args.states.now c.requires.states c.args.id.op c.args.id.task c.requires.task c.args.end.now.was (ap (λ (s : TaskState). s.done) (c.requires.state ∙ now_is)) c.args.undone.now c.requires.counts

pub returns-else-end-eq0-clause-queue : goal.returns-else-end-eq0-clause-queue
returns-else-end-eq0-clause-queue c = λ none.
    let (some, undone, now_is) = failed_leaves c.args.end.now c.in-Failed.is c.requires.leaves in
    queue_still c.args.tasks.now c.args.states.now c.requires.states c.args.id.op c.args.id.task c.requires.task c.args.end.now.was (ap (λ (s : TaskState). s.done) (c.requires.state ∙ now_is)) c.args.queue.now (c.requires.queue none) some undone
    (λ z. c.if-end-eq0.false (sym (ap (λ (s : TaskState). s.copies) c.requires.state) ∙ z))

pub returns-else-is_none-clause-counts : goal.returns-else-is_none-clause-counts
returns-else-is_none-clause-counts c =
    let (some, undone, now_is) = failed_leaves c.args.end.now c.in-Failed.is c.requires.leaves in
    undone_stays c.args.tasks.now c.args.states.now c.requires.states c.args.id.op c.args.id.task c.requires.task c.args.end.now.was (ap (λ (s : TaskState). s.done) (c.requires.state ∙ now_is)) c.args.undone.now c.requires.counts

pub returns-in_default : goal.returns-in_default
returns-in_default c =
    let (some, done, now_is) = other_leaves c.args.end.now.kind c.args.end.now.was c.args.end.now.state c.args.end.now.ended c.in_default.not-Done c.in_default.not-Failed c.requires.leaves in
    let same = ap (λ (s : TaskState). s.done) (c.requires.state ∙ now_is) in
    record {
      counts = undone_stays c.args.tasks.now c.args.states.now c.requires.states c.args.id.op c.args.id.task c.requires.task c.args.end.now.was same c.args.undone.now c.requires.counts;
      queue = λ none. queue_late c.args.tasks.now c.args.states.now c.requires.states c.args.id.op c.args.id.task c.requires.task c.args.end.now.was same c.args.queue.now (c.requires.queue none) some (done none);
    }

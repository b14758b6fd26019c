use Rattle.std.proofs.Common.{◌≡◌, ◌+◌, ◌-◌, ℕ, subst, sym, arith}
use Rattle.std.specs.HashSet.{contains_text}
use Rattle.cu_work.specs.Asked.{own_chunks, asking_of}
use Rattle.cu_work.specs.Ended.{count_of_part}
use Rattle.cu_work.proofs.AskedTasks.{ChosenSoFar, all_asked, all_called, choice_stopped, chosen_at_first, chosen_next, empty_text, stopped_asked}
use Rattle.cu_work.proofs.choosing.choose_tasks.Goals as goal

pub loop-task-init : goal.loop-task-init
loop-task-init g c =
    let first : c.args.part.now.from - c.args.part.now.from ≡ 0 = omega arith in
    subst (λ (n : ℕ). ChosenSoFar (asking_of c.args.plan.now c.args.part.now (c.args.retries + 1) (g.D.PutStore.shown c.args.depot.now)) n (contains_text c.new-known.result) (g.D.PutStore.shown c.args.depot.now) c.in-Ok.chosen.items) (sym first)
    (chosen_at_first c.args.plan.now c.args.part.now (c.args.retries + 1) (contains_text c.new-known.result) (g.D.PutStore.shown c.args.depot.now) c.in-Ok.chosen.items c.in-Ok.ensures.items
    (empty_text c.new-known.result c.new-known.ensures.empty))

pub returns-in-Err-clause-asked : goal.returns-in-Err-clause-asked
returns-in-Err-clause-asked g c =
    let (has, none, cause) = (c.in-Err.ensures.asked (g.D.PutStore.shown c.args.depot.now) (own_chunks c.args.plan.now c.args.part.now (c.loop-task.task - c.args.part.now.from)) c.loop-task.invariant.asking) in
    stopped_asked c.args.plan.now c.args.part.now (c.args.retries + 1) (g.D.PutStore.shown c.args.depot.now) c.loop-task.task (contains_text c.loop-task.known) (g.D.PutStore.shown c.loop-task.depot) c.loop-task.chosen.items (let f = c.loop-task.auto.task in omega (arith, f)) c.loop-task.invariant (contains_text c.choose_task.new.known) (g.D.PutStore.shown c.choose_task.new.depot) c.choose_task.ensures.step (count_of_part c.args.part.now)
    (let f = c.loop-task.auto.task in let t = c.loop-task-test.true in omega (arith, f, t)) has

pub returns-in-Err-clause-fault : goal.returns-in-Err-clause-fault
returns-in-Err-clause-fault g c =
    let (has, none, cause) = (c.in-Err.ensures.asked (g.D.PutStore.shown c.args.depot.now) (own_chunks c.args.plan.now c.args.part.now (c.loop-task.task - c.args.part.now.from)) c.loop-task.invariant.asking) in
    choice_stopped c.args.plan.now c.args.part.now (c.args.retries + 1) (g.D.PutStore.shown c.args.depot.now) c.loop-task.task (contains_text c.loop-task.known) (g.D.PutStore.shown c.loop-task.depot) c.loop-task.chosen.items (let f = c.loop-task.auto.task in omega (arith, f)) c.loop-task.invariant (contains_text c.choose_task.new.known) (g.D.PutStore.shown c.choose_task.new.depot) c.choose_task.ensures.step (let f = c.loop-task.auto.task in let t = c.loop-task-test.true in (omega (arith, f), omega (arith, t))) c.in-Err.fault cause

pub loop-task-preserved : goal.loop-task-preserved
loop-task-preserved g c =
    let (on, choice, none) = (c.in-Ok-choose_task.ensures.asked (g.D.PutStore.shown c.args.depot.now) (own_chunks c.args.plan.now c.args.part.now (c.loop-task.task - c.args.part.now.from)) c.loop-task.invariant.asking) in
    rw c.push_reserved.ensures.items (chosen_next c.args.plan.now c.args.part.now (c.args.retries + 1) (g.D.PutStore.shown c.args.depot.now) c.loop-task.task (contains_text c.loop-task.known) (g.D.PutStore.shown c.loop-task.depot) c.loop-task.chosen.items (let f = c.loop-task.auto.task in omega (arith, f)) c.loop-task.invariant (contains_text c.choose_task.new.known) (g.D.PutStore.shown c.choose_task.new.depot) c.choose_task.ensures.step c.in-Ok-choose_task.starts on choice)

pub returns-clause-asked : goal.returns-clause-asked
returns-clause-asked g c =
    all_asked c.args.plan.now c.args.part.now (c.args.retries + 1) (g.D.PutStore.shown c.args.depot.now) c.loop-task.task (contains_text c.loop-task.known) (g.D.PutStore.shown c.loop-task.depot) c.loop-task.chosen.items (let f = c.loop-task.auto.task in omega (arith, f)) c.loop-task.invariant (count_of_part c.args.part.now)
    (let t = c.loop-task.auto.task-end in omega (arith, t))

pub returns-clause-each : goal.returns-clause-each
returns-clause-each g c =
    all_called c.args.plan.now c.args.part.now (c.args.retries + 1) (g.D.PutStore.shown c.args.depot.now) c.loop-task.task (contains_text c.loop-task.known) (g.D.PutStore.shown c.loop-task.depot) c.loop-task.chosen.items (let f = c.loop-task.auto.task in omega (arith, f)) c.loop-task.invariant (count_of_part c.args.part.now)
    (let f = c.loop-task.auto.task in let e = c.loop-task.auto.task-end in let t = c.loop-task-test.false in let o = c.requires.part.ordered in omega (arith, f, e, t, o))

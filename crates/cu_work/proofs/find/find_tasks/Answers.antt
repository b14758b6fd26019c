use Rattle.std.proofs.Common.{◌≡◌, ◌∙◌, ◌+◌, ℕ, length, refl, ap, subst, arith}
use Rattle.cu_work.specs.Search.{IsSearched}
use Rattle.cu_work.proofs.SearchedTasks.{plan_ended, operations_step, operations_once, searched_nothing}
use Rattle.cu_table.proofs.Numbers.{first_more}
use Rattle.cu_work.proofs.find.find_tasks.Goals as goal

pub returns-in-Err-clause-cause : goal.returns-in-Err-clause-cause
returns-in-Err-clause-cause g c =
    let e = ap length c.ops.ensures.ops in
    let t = c.loop-op-test.true in
    plan_ended (c.args.retries + 1) c.args.plan.now (g.D.PutStore.shown c.args.depot.now) (g.D.PutStore.shown c.find_operation.new.depot) c.in-Err.fault c.loop-op.op (g.D.PutStore.shown c.loop-op.depot)
    (omega (arith, e, t))
    (operations_step (c.args.retries + 1) c.args.plan.now (g.D.PutStore.shown c.args.depot.now) c.loop-op.op (g.D.PutStore.shown c.loop-op.depot) c.loop-op.done c.loop-op.invariant.1)
    (operations_once (c.args.retries + 1) c.args.plan.now (g.D.PutStore.shown c.args.depot.now) c.loop-op.op (g.D.PutStore.shown c.loop-op.depot) c.loop-op.done c.loop-op.invariant.1)
    c.in-Err.ensures.cause

pub find_operation-requires : goal.find_operation-requires
find_operation-requires g c =
    let e = ap length c.ops.ensures.ops in
    record { operation = omega (arith, e); first = c.loop-op.invariant.0; tasks = c.loop-op.auto.done ∙ c.requires }

pub returns : goal.returns
returns g c =
    let e = ap length c.ops.ensures.ops in
    let all : c.loop-op.op ≡ length c.args.plan.now.ops = omega (arith, e) in
    record { searched = subst (λ (n : ℕ). IsSearched (c.args.retries + 1) c.args.plan.now n 0 (g.D.PutStore.shown c.args.depot.now, g.D.PutStore.shown c.loop-op.depot) c.loop-op.done) all c.loop-op.invariant.1; cause = tt }

pub loop-op-preserved : goal.loop-op-preserved
loop-op-preserved g c =
    let e = ap length c.ops.ensures.ops in
    let t = c.loop-op-test.true in
    let first = c.loop-op.invariant.0 in
    let tasks = c.tasks.ensures.tasks in
    let more = first_more c.args.plan.now c.loop-op.op (omega (arith, e, t)) in
    (omega (arith, first, tasks, more), c.in_default.ensures.searched (g.D.PutStore.shown c.args.depot.now) c.loop-op.invariant.1)

pub loop-op-init : goal.loop-op-init
loop-op-init g c = (refl, searched_nothing (c.args.retries + 1) c.args.plan.now (g.D.PutStore.shown c.args.depot.now) c.args.done.now c.requires)

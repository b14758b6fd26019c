use Rattle.std.proofs.Common.{◌≡◌, ℕ, ◌+◌, ◌-◌, ◌<◌, ◌≤◌, List, All, length, get_or, ap, sym, ◌∙◌, subst, arith}
use Rattle.cu_op.specs.PlanView.{PlanView}
use Rattle.cu_table.specs.declared.state.TaskState.{TaskState}
use Rattle.cu_table.specs.Machine.{no_task}
use Rattle.cu_table.specs.Numbers.{task_count}
use Rattle.cu_table.specs.Queue.{IsFresh}
use Rattle.cu_table.proofs.Firsts.{FirstSoFar, first_none, first_place, first_more, first_skip, first_all}
use Rattle.cu_table.proofs.open.first_queue.Goals as goal

pub loop-number-init : goal.loop-number-init
loop-number-init c =
    let n = c.count-count.ensures.count in
    let few = c.count-count.ensures.few in
    let o = ap length c.ops.ensures.ops in
    let p = ap (λ (p : PlanView). length p.ops) c.plan.ensures.plan in
    let t = c.in_ok-queue.ensures.things in
    subst (λ (k : ℕ). FirstSoFar c.args.tasks.now c.args.states.now k c.in_ok-queue.queue) (sym n)
    (first_none c.args.tasks.now c.args.states.now (omega (arith, n, few)) c.in_ok-queue.queue (c.in_ok-queue.ensures.size ∙ n) (omega (arith, t, n, o, p)) c.in_ok-queue.ensures.waiting c.in_ok-queue.ensures.watching)

pub settle-requires-clause-place : goal.settle-requires-clause-place
settle-requires-clause-place c =
    first_place c.args.tasks.now c.args.states.now (c.loop-number.number - 1) c.loop-number.queue (subst (λ (n : ℕ). FirstSoFar c.args.tasks.now c.args.states.now n c.loop-number.queue) (let t = c.loop-number-test.true in let e : c.loop-number.number ≡ c.loop-number.number - 1 + 1 = omega (arith, t) in e) c.loop-number.invariant) (let t = c.loop-number-test.true in let a = c.loop-number.auto.number in let n = c.count-count.ensures.count in omega (arith, t, a, n))

fresh_in : (states : List TaskState) (number count total : ℕ) → All IsFresh states → length states ≡ total → count ≡ total → 0 < number → number ≤ count → (get_or states (number - 1) no_task).copies ≡ 0
fresh_in states number count total fresh long is some few = fresh (number - 1) no_task (omega (arith, long, is, some, few))

pub loop-number-preserved-then-not-states-number : goal.loop-number-preserved-then-not-states-number
loop-number-preserved-then-not-states-number c =
    first_more c.args.tasks.now c.args.states.now (c.loop-number.number - 1) c.loop-number.queue (subst (λ (n : ℕ). FirstSoFar c.args.tasks.now c.args.states.now n c.loop-number.queue) (let t = c.loop-number-test.true in let e : c.loop-number.number ≡ c.loop-number.number - 1 + 1 = omega (arith, t) in e) c.loop-number.invariant) (let t = c.loop-number-test.true in let a = c.loop-number.auto.number in let n = c.count-count.ensures.count in omega (arith, t, a, n))
    c.if-not-states-number.true
    (fresh_in c.args.states.now c.loop-number.number c.count-count.result (task_count c.args.tasks.now) c.requires.fresh c.requires.states c.count-count.ensures.count c.loop-number-test.true c.loop-number.auto.number) c.settle.new.queue c.settle.ensures

pub loop-number-preserved : goal.loop-number-preserved
loop-number-preserved c =
    first_skip c.args.tasks.now c.args.states.now (c.loop-number.number - 1) c.loop-number.queue (subst (λ (n : ℕ). FirstSoFar c.args.tasks.now c.args.states.now n c.loop-number.queue) (let t = c.loop-number-test.true in let e : c.loop-number.number ≡ c.loop-number.number - 1 + 1 = omega (arith, t) in e) c.loop-number.invariant) (let t = c.loop-number-test.true in let a = c.loop-number.auto.number in let n = c.count-count.ensures.count in omega (arith, t, a, n)) c.if-not-states-number.false

pub returns : goal.returns
returns c =
    let z : c.loop-number.number ≡ 0 = (let t = c.loop-number-test.false in omega (arith, t)) in
    first_all c.args.tasks.now c.args.states.now c.requires.fresh c.requires.states c.loop-number.queue
    (subst (λ (n : ℕ). FirstSoFar c.args.tasks.now c.args.states.now n c.loop-number.queue) z c.loop-number.invariant)

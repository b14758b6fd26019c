use Rattle.std.proofs.Common.{◌≡◌, ◌↔◌, ℕ, Bool, IsTrue, true, false, List, get_or, refl, sym, subst, arith}
use Rattle.std.proofs.lemmas.List.{get_or_default}
use borrow.Author.Count.{below_more}
use Rattle.cu_table.specs.declared.state.RunningCopy.{RunningCopy}
use Rattle.cu_table.specs.declared.state.TaskState.{TaskState}
use Rattle.cu_table.specs.Numbers.{task_number}
use Rattle.cu_table.specs.Machine.{no_task, IsSingleState}
use Rattle.cu_table.proofs.next.single_copy.Goals as goal

-- what the test of the state at a task's number says of the task
is_single : (states : List TaskState) (n number : ℕ) (b : Bool) → (IsTrue b ↔ IsSingleState (get_or states n no_task)) → n ≡ number → b ≡ true → IsSingleState (get_or states number no_task)
is_single states n number b tells is passed = subst (λ (k : ℕ). IsSingleState (get_or states k no_task)) is (tells.0 (subst IsTrue (sym passed) refl))

isnt_single : (states : List TaskState) (n number : ℕ) (b : Bool) → (IsTrue b ↔ IsSingleState (get_or states n no_task)) → n ≡ number → b ≡ false → IsSingleState (get_or states number no_task) → ⊥
isnt_single states n number b tells is failed single =
    let yes : b ≡ true = tells.1 (subst (λ (k : ℕ). IsSingleState (get_or states k no_task)) (sym is) single) in cc

pub returns-then-is_single : goal.returns-then-is_single
returns-then-is_single c = (
  c.requires.copies c.loop-copy.copy-index _ c.loop-copy-test.true,
  is_single c.args.states.now c.number.result _ c.is_single.result c.is_single.ensures c.number.ensures.number c.if-is_single.true,
)

pub loop-copy-preserved : goal.loop-copy-preserved
loop-copy-preserved c =
    let copies = c.args.copies.now in
    let states = c.args.states.now in
    let alone = λ (x : RunningCopy). IsSingleState (get_or states (task_number c.args.tasks.now x.op x.task) no_task) → ⊥ in
    λ k d within. below_more (λ (i : ℕ). (e : RunningCopy) → alone (get_or copies i e)) c.loop-copy.copy-index (λ i below e. c.loop-copy.invariant i e below)
    (λ e. subst alone (get_or_default copies c.loop-copy.copy-index _ e c.loop-copy-test.true)
    (isnt_single states c.number.result _ c.is_single.result c.is_single.ensures c.number.ensures.number c.if-is_single.false)) k within d

pub returns : goal.returns
returns c = λ k d within. c.loop-copy.invariant k d (let past = c.loop-copy-test.false in omega (arith, within, past))

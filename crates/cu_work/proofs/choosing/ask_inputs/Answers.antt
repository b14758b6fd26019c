use Rattle.std.proofs.Common.{◌≡◌, ◌≢◌, ◌+◌, None, true, false}
use Rattle.std.specs.Prelude.{IsTrue}
use Rattle.std.specs.HashSet.{contains_text}
use Rattle.cu_store.specs.Held.{IsHeldIn}
use Rattle.cu_op.specs.Arrays.{maker_at}
use Rattle.cu_op.specs.Schedule.{key_of}
use Rattle.cu_work.specs.Asked.{asking_of}
use Rattle.cu_work.proofs.AskedTasks.{cell_listed, inputs_all, inputs_more, went_false, went_true}
use Rattle.cu_work.proofs.choosing.ask_inputs.Goals as goal

pub loop-cell-preserved : goal.loop-cell-preserved
loop-cell-preserved g c =
    inputs_more c.args.plan.now c.args.part.now (c.args.retries + 1) c.args.task (contains_text c.args.known.now) (contains_text c.loop-cell.known) (g.D.PutStore.shown c.args.depot.now) (g.D.PutStore.shown c.loop-cell.depot) c.loop-cell.cell-iterator c.loop-cell.invariant
    c.in-Some.cell c.next.new.self c.in-Some.ensures.steps (contains_text c.ask_cell.new.known) (g.D.PutStore.shown c.ask_cell.new.depot) c.ask_cell.ensures.step
    (λ start own lacks a.
    went_true (asking_of c.args.plan.now c.args.part.now (c.args.retries + 1) start) own (contains_text c.ask_cell.new.known) (g.D.PutStore.shown c.ask_cell.new.depot)
    (λ held. IsTrue held → maker_at c.args.plan.now.arrays c.in-Some.cell.array ≢ None → IsHeldIn (g.D.PutStore.shown c.ask_cell.new.depot).held (key_of c.args.plan.now.arrays c.in-Some.cell))
    c.in-Ok-true.field-0 c.in-Ok-true.field-0-test (c.in-Ok-true.ensures.asked start own lacks a))

pub returns-clause-asked : goal.returns-clause-asked
returns-clause-asked g c = λ start own lacks a.
    inputs_all c.args.plan.now c.args.part.now (c.args.retries + 1) c.args.task (contains_text c.args.known.now) (contains_text c.loop-cell.known) (g.D.PutStore.shown c.args.depot.now) (g.D.PutStore.shown c.loop-cell.depot) c.loop-cell.cell-iterator c.loop-cell.invariant c.in-None.ensures.steps.0 start own lacks a

pub returns-in-Ok-false-clause-asked : goal.returns-in-Ok-false-clause-asked
returns-in-Ok-false-clause-asked g c = λ start own lacks a. (
  (went_false (asking_of c.args.plan.now c.args.part.now (c.args.retries + 1) start) own (contains_text c.ask_cell.new.known) (g.D.PutStore.shown c.ask_cell.new.depot)
      (λ held. IsTrue held → maker_at c.args.plan.now.arrays c.in-Some.cell.array ≢ None → IsHeldIn (g.D.PutStore.shown c.ask_cell.new.depot).held (key_of c.args.plan.now.arrays c.in-Some.cell))
      c.in-Ok-false.field-0 c.in-Ok-false.field-0-test (c.in-Ok-false.ensures.asked start own lacks (c.loop-cell.invariant.asked start own lacks a).0)).0,
  λ so. absurd (let e : false ≡ true = so in cc),
)

pub returns-in-Err-clause-asked : goal.returns-in-Err-clause-asked
returns-in-Err-clause-asked g c = λ start own lacks a. c.in-Err.ensures.asked start own lacks (c.loop-cell.invariant.asked start own lacks a).0

pub ask_cell-requires-clause-read : goal.ask_cell-requires-clause-read
ask_cell-requires-clause-read g c =
    cell_listed c.args.plan.now c.args.part.now (c.args.retries + 1) c.args.task (contains_text c.args.known.now) (contains_text c.loop-cell.known) (g.D.PutStore.shown c.args.depot.now) (g.D.PutStore.shown c.loop-cell.depot) c.loop-cell.cell-iterator c.loop-cell.invariant
    c.in-Some.cell c.next.new.self c.in-Some.ensures.steps

use Rattle.std.proofs.Common.{◌+◌, length, refl, subst, sym}
use Rattle.std.specs.Prelude.{IsTrue}
use Rattle.std.specs.HashSet.{contains_text}
use Rattle.cu_op.specs.Schedule.{op_of}
use Rattle.cu_op.specs.Walks.{written_chunks}
use Rattle.cu_work.specs.Order.{task_keys}
use Rattle.cu_work.specs.Search.{AreAsked}
use Rattle.cu_work.specs.Asked.{IsChoiceFault, asking_of}
use Rattle.cu_work.specs.Part.{HasInputs}
use Rattle.cu_work.proofs.AskedTasks.{asking_on, ever_then, lacking_fault, lacks_first, passed_task, stopped_task, task_ever, unasked_fault, went_false, went_true}
use Rattle.cu_work.proofs.choosing.choose_task.Goals as goal

pub returns-in-Ok-true-clause-asked : goal.returns-in-Ok-true-clause-asked
returns-in-Ok-true-clause-asked g c = λ start own a.
    let (on, stored) = passed_task c.args.plan.now c.args.part.now (c.args.retries + 1) c.args.task c.requires.within start own (contains_text c.args.known.now) (g.D.PutStore.shown c.args.depot.now) a (g.D.PutStore.shown c.find_task.new.depot)
    (subst (AreAsked (c.args.retries + 1) (task_keys c.args.plan.now c.args.part.now.op c.args.task) (g.D.PutStore.shown c.args.depot.now) (g.D.PutStore.shown c.find_task.new.depot)) c.in-Ok-true.field-0-test c.in-Ok-true.ensures.asked) in
    (on, stored, tt)

pub returns-in-Err-clause-asked : goal.returns-in-Err-clause-asked
returns-in-Err-clause-asked g c = λ start own a.
    let (has, cause) = stopped_task c.args.plan.now c.args.part.now (c.args.retries + 1) c.args.task c.requires.within start own (contains_text c.args.known.now) (g.D.PutStore.shown c.args.depot.now) a (g.D.PutStore.shown c.find_task.new.depot) c.in-Err.fault c.in-Err.ensures.cause in
    (has, tt, subst (IsChoiceFault (asking_of c.args.plan.now c.args.part.now (c.args.retries + 1) start) c.args.task (g.D.PutStore.shown c.find_task.new.depot)) (sym c.fault_of.ensures) cause)

pub returns-in-Ok-true-ask_inputs-clause-asked : goal.returns-in-Ok-true-ask_inputs-clause-asked
returns-in-Ok-true-ask_inputs-clause-asked g c = λ start own a.
    let asked = (subst (AreAsked (c.args.retries + 1) (task_keys c.args.plan.now c.args.part.now.op c.args.task) (g.D.PutStore.shown c.args.depot.now) (g.D.PutStore.shown c.find_task.new.depot)) c.in-Ok-false.field-0-test c.in-Ok-false.ensures.asked) in
    let on = asking_on c.args.plan.now c.args.part.now (c.args.retries + 1) c.args.task c.requires.within start own (contains_text c.args.known.now) (g.D.PutStore.shown c.args.depot.now) a (g.D.PutStore.shown c.find_task.new.depot) asked in
    let lacks = lacks_first c.args.plan.now c.args.part.now (c.args.retries + 1) c.args.task c.requires.within start own (contains_text c.args.known.now) (g.D.PutStore.shown c.args.depot.now) a (g.D.PutStore.shown c.find_task.new.depot) asked in
    let more = own + length (written_chunks c.args.plan.now.arrays (op_of c.args.plan.now c.args.part.now.op) c.args.task) in
    let (all, has) = went_true (asking_of c.args.plan.now c.args.part.now (c.args.retries + 1) start) more (contains_text c.ask_inputs.new.known) (g.D.PutStore.shown c.ask_inputs.new.depot)
    (λ all. IsTrue all → HasInputs c.args.plan.now c.args.part.now.op c.args.task (g.D.PutStore.shown c.ask_inputs.new.depot).held)
    c.in-Ok-true-ask_inputs.field-0 c.in-Ok-true-ask_inputs.field-0-test (c.in-Ok-true-ask_inputs.ensures.asked start more lacks on) in
    (all, (lacks, has refl), tt)

pub returns-in-Ok-false-ask_inputs-clause-asked : goal.returns-in-Ok-false-ask_inputs-clause-asked
returns-in-Ok-false-ask_inputs-clause-asked g c = λ start own a.
    let asked = (subst (AreAsked (c.args.retries + 1) (task_keys c.args.plan.now c.args.part.now.op c.args.task) (g.D.PutStore.shown c.args.depot.now) (g.D.PutStore.shown c.find_task.new.depot)) c.in-Ok-false.field-0-test c.in-Ok-false.ensures.asked) in
    let on = asking_on c.args.plan.now c.args.part.now (c.args.retries + 1) c.args.task c.requires.within start own (contains_text c.args.known.now) (g.D.PutStore.shown c.args.depot.now) a (g.D.PutStore.shown c.find_task.new.depot) asked in
    let lacks = lacks_first c.args.plan.now c.args.part.now (c.args.retries + 1) c.args.task c.requires.within start own (contains_text c.args.known.now) (g.D.PutStore.shown c.args.depot.now) a (g.D.PutStore.shown c.find_task.new.depot) asked in
    let more = own + length (written_chunks c.args.plan.now.arrays (op_of c.args.plan.now c.args.part.now.op) c.args.task) in
    let (ended, none) = went_false (asking_of c.args.plan.now c.args.part.now (c.args.retries + 1) start) more (contains_text c.ask_inputs.new.known) (g.D.PutStore.shown c.ask_inputs.new.depot)
    (λ all. IsTrue all → HasInputs c.args.plan.now c.args.part.now.op c.args.task (g.D.PutStore.shown c.ask_inputs.new.depot).held)
    c.in-Ok-false-ask_inputs.field-0 c.in-Ok-false-ask_inputs.field-0-test (c.in-Ok-false-ask_inputs.ensures.asked start more lacks on) in
    let (has, cause) = lacking_fault c.args.plan.now c.args.part.now (c.args.retries + 1) c.args.task c.requires.within start own (contains_text c.args.known.now) (g.D.PutStore.shown c.args.depot.now) a (g.D.PutStore.shown c.find_task.new.depot) asked (g.D.PutStore.shown c.ask_inputs.new.depot) (c.in-Ok-false-ask_inputs.ensures.lacking c.in-Ok-false-ask_inputs.field-0-test) ended in
    (has, tt, cause)

pub returns-in-Err-ask_inputs-clause-asked : goal.returns-in-Err-ask_inputs-clause-asked
returns-in-Err-ask_inputs-clause-asked g c = λ start own a.
    let asked = (subst (AreAsked (c.args.retries + 1) (task_keys c.args.plan.now c.args.part.now.op c.args.task) (g.D.PutStore.shown c.args.depot.now) (g.D.PutStore.shown c.find_task.new.depot)) c.in-Ok-false.field-0-test c.in-Ok-false.ensures.asked) in
    let on = asking_on c.args.plan.now c.args.part.now (c.args.retries + 1) c.args.task c.requires.within start own (contains_text c.args.known.now) (g.D.PutStore.shown c.args.depot.now) a (g.D.PutStore.shown c.find_task.new.depot) asked in
    let lacks = lacks_first c.args.plan.now c.args.part.now (c.args.retries + 1) c.args.task c.requires.within start own (contains_text c.args.known.now) (g.D.PutStore.shown c.args.depot.now) a (g.D.PutStore.shown c.find_task.new.depot) asked in
    let more = own + length (written_chunks c.args.plan.now.arrays (op_of c.args.plan.now c.args.part.now.op) c.args.task) in
    let (ended, none) = c.in-Err-ask_inputs.ensures.asked start more lacks on in
    let (has, cause) = unasked_fault c.args.plan.now c.args.part.now (c.args.retries + 1) c.args.task c.requires.within start own (contains_text c.args.known.now) (g.D.PutStore.shown c.args.depot.now) a (g.D.PutStore.shown c.find_task.new.depot) asked (g.D.PutStore.shown c.ask_inputs.new.depot) c.in-Err-ask_inputs.fault c.in-Err-ask_inputs.ensures.fault ended in
    (has, tt, subst (IsChoiceFault (asking_of c.args.plan.now c.args.part.now (c.args.retries + 1) start) c.args.task (g.D.PutStore.shown c.ask_inputs.new.depot)) (sym c.fault_of-in-Err-ask_inputs.ensures) cause)

pub returns-in-Ok-true-ask_inputs-clause-step : goal.returns-in-Ok-true-ask_inputs-clause-step
returns-in-Ok-true-ask_inputs-clause-step g c =
    ever_then (g.D.PutStore.shown c.args.depot.now) (g.D.PutStore.shown c.find_task.new.depot) (g.D.PutStore.shown c.ask_inputs.new.depot)
    (task_ever c.args.plan.now c.args.part.now (c.args.retries + 1) c.args.task (g.D.PutStore.shown c.args.depot.now) (g.D.PutStore.shown c.find_task.new.depot) c.in-Ok-false.field-0 c.in-Ok-false.ensures.asked) c.ask_inputs.ensures.step

pub returns-in-Ok-false-ask_inputs-clause-step : goal.returns-in-Ok-false-ask_inputs-clause-step
returns-in-Ok-false-ask_inputs-clause-step g c =
    ever_then (g.D.PutStore.shown c.args.depot.now) (g.D.PutStore.shown c.find_task.new.depot) (g.D.PutStore.shown c.ask_inputs.new.depot)
    (task_ever c.args.plan.now c.args.part.now (c.args.retries + 1) c.args.task (g.D.PutStore.shown c.args.depot.now) (g.D.PutStore.shown c.find_task.new.depot) c.in-Ok-false.field-0 c.in-Ok-false.ensures.asked) c.ask_inputs.ensures.step

pub returns-in-Err-ask_inputs-clause-step : goal.returns-in-Err-ask_inputs-clause-step
returns-in-Err-ask_inputs-clause-step g c =
    ever_then (g.D.PutStore.shown c.args.depot.now) (g.D.PutStore.shown c.find_task.new.depot) (g.D.PutStore.shown c.ask_inputs.new.depot)
    (task_ever c.args.plan.now c.args.part.now (c.args.retries + 1) c.args.task (g.D.PutStore.shown c.args.depot.now) (g.D.PutStore.shown c.find_task.new.depot) c.in-Ok-false.field-0 c.in-Ok-false.ensures.asked) c.ask_inputs.ensures.step

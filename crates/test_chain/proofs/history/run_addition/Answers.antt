use Rattle.test_chain.proofs.Additions.{plan_keys_apart, plan_inputs_apart}
use Rattle.test_chain.proofs.history.run_addition.Goals as goal

pub run_tasks-requires-clause-apart : goal.run_tasks-requires-clause-apart
run_tasks-requires-clause-apart g c κs within =
    plan_keys_apart c.in_ok-plan.plan c.in_ok-plan.ensures.plan c.in_ok-plan.ensures.sound

pub run_tasks-requires-clause-inputs : goal.run_tasks-requires-clause-inputs
run_tasks-requires-clause-inputs g c κs within =
    plan_inputs_apart c.in_ok-plan.plan c.in_ok-plan.ensures.plan c.in_ok-plan.ensures.sound

use Rattle.cu_op.specs.Value.{stored_inputs}
use Rattle.cu_work.specs.World.{first_world}
use Rattle.cu_work.proofs.Worlds.{all_good, first_good, all_elements}
use Rattle.cu_work.proofs.world.world_law.Goals as goal

pub returns-clause-right : goal.returns-clause-right
returns-clause-right c = λ g done held events w left found all.
    let ranges = c.range_law.ensures.values in
    let env = stored_inputs g.plan.arrays held in
    (all_good ranges g env (first_world done held) (first_good ranges g env done held left found) events w all).right

pub returns-clause-complete : goal.returns-clause-complete
returns-clause-complete c = λ g done held events w a idx left found all finished within stored inside.
    let ranges = c.range_law.ensures.values in
    let env = stored_inputs g.plan.arrays held in
    all_elements ranges g.plan env w (all_good ranges g env (first_world done held) (first_good ranges g env done held left found) events w all).right finished a idx within stored inside

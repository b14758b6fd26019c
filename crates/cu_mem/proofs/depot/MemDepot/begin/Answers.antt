use Rattle.cu_mem.proofs.MemorySteps.{begins_step}
use Rattle.cu_mem.proofs.depot.MemDepot.begin.Goals as goal

pub returns-clause-step : goal.returns-clause-step
returns-clause-step c = rw (← c.self.view_is) (begins_step _ _ _ _ _ _ _ c.land_due.ensures.landed c.land_due.ensures.waiting c.saturating_add-self-inside.ensures)

use Rattle.cu_op.proofs.plan.Plan.copy.Goals as goal

pub invariant_of-result : goal.invariant_of-result
invariant_of-result c = rw (c.in-Ok-Ok.ensures, c.deref.ensures.value, c.in-Ok-Ok.ensures', c.deref-2.ensures.value) c.self.invariant

pub returns-in-Ok-Ok : goal.returns-in-Ok-Ok
returns-in-Ok-Ok c = rw (c.in-Ok-Ok.ensures, c.deref.ensures.value, c.in-Ok-Ok.ensures', c.deref-2.ensures.value) c.self.view_is

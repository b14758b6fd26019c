use Rattle.std.proofs.Common.{refl, inl, arith}
use Rattle.cu_command.proofs.SeenLemmas.{stepped_same}
use Rattle.cu_top.proofs.ToldLemmas.{plan_answered}
use Rattle.cu_top.proofs.call.plan_command.Goals as goal

pub returns-in-Ok : goal.returns-in-Ok
returns-in-Ok g c =
    plan_answered _ _ _ c.in-Ok.text.items _ _ c.deref.ensures.value c.in-Ok.ensures.text c.print_plan.ensures.prints c.print_plan.ensures.answer c.print_plan.ensures.calls c.print_plan.ensures.once

pub returns-in-Err-Fault : goal.returns-in-Err-Fault
returns-in-Err-Fault g c = record { tells = (rw c.in-Err-Fault.field-0-is at c.in-Err-Fault.ensures.cause, stepped_same _ _); prints = refl; calls = inl (omega arith) }

pub returns-in-Err-NoMemory : goal.returns-in-Err-NoMemory
returns-in-Err-NoMemory g c = record { tells = stepped_same _ _; prints = refl; calls = inl (omega arith) }

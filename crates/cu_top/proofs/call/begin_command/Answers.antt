use Rattle.std.proofs.Common.{refl, inl, arith}
use Rattle.cu_command.proofs.SeenLemmas.{stepped_same}
use Rattle.cu_top.proofs.ToldLemmas.{begin_answered}
use Rattle.cu_top.proofs.call.begin_command.Goals as goal

pub returns-in-Ok : goal.returns-in-Ok
returns-in-Ok g c =
    begin_answered _ _ _ c.in-Ok.text.items _ _ c.deref.ensures.value c.in-Ok.ensures.text c.begin.ensures.prints c.begin.ensures.answer c.begin.ensures.calls

pub returns-in-Err-Fault : goal.returns-in-Err-Fault
returns-in-Err-Fault g c = record { tells = (rw c.in-Err-Fault.field-0-is at c.in-Err-Fault.ensures.cause, stepped_same _ _); prints = refl; calls = inl (omega arith) }

pub returns-in-Err-NoMemory : goal.returns-in-Err-NoMemory
returns-in-Err-NoMemory g c = record { tells = inl (stepped_same _ _); prints = refl; calls = inl (omega arith) }

use Rattle.std.proofs.Common.{List, ℕ, refl, sym, subst, inl, arith}
use Rattle.cu_command.proofs.SeenLemmas.{stepped_same}
use Rattle.cu_top.proofs.ToldLemmas.{resume_answered}
use Rattle.cu_top.specs.Held.{IsLeftEntry}
use Rattle.cu_top.proofs.call.resume_command.Goals as goal

pub resume-requires-clause-left : goal.resume-requires-clause-left
resume-requires-clause-left g c κs within =
    subst (λ (text : List ℕ). IsLeftEntry c.args.options.now text (g.D.PutStore.shown c.args.depot.now)) (sym c.deref.ensures.value)
    (c.requires.left c.in-Ok.text.items (g.R.Source.left c.read_all.new.src) c.in-Ok.ensures.text)

pub returns-in-Ok : goal.returns-in-Ok
returns-in-Ok g c =
    resume_answered _ _ _ c.in-Ok.text.items _ _ c.deref.ensures.value c.in-Ok.ensures.text c.resume.ensures.prints _ c.resume.ensures.answer c.resume.ensures.calls

pub returns-in-Err-Fault : goal.returns-in-Err-Fault
returns-in-Err-Fault g c = record { tells = (rw c.in-Err-Fault.field-0-is at c.in-Err-Fault.ensures.cause, stepped_same _ _); prints = refl; calls = inl (omega arith) }

pub returns-in-Err-NoMemory : goal.returns-in-Err-NoMemory
returns-in-Err-NoMemory g c = record { tells = inl (stepped_same _ _); prints = refl; calls = inl (omega arith) }

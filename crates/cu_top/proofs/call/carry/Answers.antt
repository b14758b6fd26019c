use Rattle.std.specs.Prelude.{List, ℕ, Ok, map, string_bytes}
use Rattle.std.proofs.Common.{◌≡◌, refl, sym, subst}
use Rattle.cu_top.proofs.ToldLemmas.{by_command, by_refusal, by_want}
use Rattle.cu_top.specs.Words.{command_of, run, resume, drop, plan, load, check, print, demo, begin, part, part_numbers}
use Rattle.cu_top.proofs.call.carry.Goals as goal

pub run_command-requires-clause-options : goal.run_command-requires-clause-options
run_command-requires-clause-options g c κs within = rw c.in-Run.is at c.in-Asked.ensures.answer.1

pub run_command-requires-clause-quiet : goal.run_command-requires-clause-quiet
run_command-requires-clause-quiet g c κs within = λ text next read. c.requires.quiet c.in-Run.options text next (rw c.in-Run.is at c.in-Asked.ensures.answer.0) read

pub resume_command-requires-clause-options : goal.resume_command-requires-clause-options
resume_command-requires-clause-options g c κs within = rw c.in-Resume.is at c.in-Asked.ensures.answer.1

pub resume_command-requires-clause-left : goal.resume_command-requires-clause-left
resume_command-requires-clause-left g c κs within = λ text next read. c.requires.left c.in-Resume.options text next (rw c.in-Resume.is at c.in-Asked.ensures.answer.0) read

pub drop_command-requires : goal.drop_command-requires
drop_command-requires g c = record { options = rw c.in-Drop.is at c.in-Asked.ensures.answer.1 }

pub key_of_name-requires : goal.key_of_name-requires
key_of_name-requires g c = rw c.in-Print.is at c.in-Asked.ensures.answer.1

pub plan_command-requires : goal.plan_command-requires
plan_command-requires g c = record { options = rw c.in-Plan.is at c.in-Asked.ensures.answer.1 }

pub demo-requires-clause-options : goal.demo-requires-clause-options
demo-requires-clause-options g c κs within = (rw c.in-Demo.is at c.in-Asked.ensures.answer.1).0

pub demo-requires-clause-some : goal.demo-requires-clause-some
demo-requires-clause-some g c κs within = (rw c.in-Demo.is at c.in-Asked.ensures.answer.1).1

pub demo-requires-clause-few : goal.demo-requires-clause-few
demo-requires-clause-few g c κs within = (rw c.in-Demo.is at c.in-Asked.ensures.answer.1).2

pub demo-requires-clause-quiet : goal.demo-requires-clause-quiet
demo-requires-clause-quiet g c κs within = c.requires.demo_quiet c.in-Demo.size c.in-Demo.options (rw c.in-Demo.is at c.in-Asked.ensures.answer.0)

pub returns-in-Refused : goal.returns-in-Refused
returns-in-Refused g c = by_refusal _ _ _ c.in-Refused.code c.in-Refused.ensures.answer

pub returns-in-NoMemory : goal.returns-in-NoMemory
returns-in-NoMemory g c = by_want _ _ _ (λ err. let refused = c.in-NoMemory.ensures.unknown err in cc)

pub returns-in-Run : goal.returns-in-Run
returns-in-Run g c = by_command _ _ _ _ _ (run c.in-Run.options) (rw c.in-Run.is at c.in-Asked.ensures.answer.0) c.run_command.ensures

pub returns-in-Resume : goal.returns-in-Resume
returns-in-Resume g c = by_command _ _ _ _ _ (resume c.in-Resume.options) (rw c.in-Resume.is at c.in-Asked.ensures.answer.0) c.resume_command.ensures

pub returns-in-Drop : goal.returns-in-Drop
returns-in-Drop g c = by_command _ _ _ _ _ (drop c.in-Drop.options) (rw c.in-Drop.is at c.in-Asked.ensures.answer.0) c.drop_command.ensures

pub returns-in-Plan : goal.returns-in-Plan
returns-in-Plan g c = by_command _ _ _ _ _ (plan c.in-Plan.options) (rw c.in-Plan.is at c.in-Asked.ensures.answer.0) c.plan_command.ensures

pub returns-in-Load : goal.returns-in-Load
returns-in-Load g c = by_command _ _ _ _ _ (load c.in-Load.retries) (rw c.in-Load.is at c.in-Asked.ensures.answer.0) (record { tells = c.load.ensures.answer; calls = c.load.ensures.calls; once = c.load.ensures.once })

pub returns-in-Check : goal.returns-in-Check
returns-in-Check g c = by_command _ _ _ _ _ (check c.in-Check.retries) (rw c.in-Check.is at c.in-Asked.ensures.answer.0) (record { tells = c.check.ensures.answer; calls = c.check.ensures.calls; once = c.check.ensures.once })

pub returns-in-Print : goal.returns-in-Print
returns-in-Print g c =
    let asked = rw c.in-Print.is at c.in-Asked.ensures.answer.0 in
    let named = subst (λ (name : List ℕ). command_of (map string_bytes c.args.words.now) ≡ Ok (print name c.in-Print.retries)) (sym c.key_of_name.ensures.key) asked in
    by_command _ _ _ _ _ (print c.key_of_name.result c.in-Print.retries) named (record { tells = c.print.ensures.answer; kept = refl; calls = c.print.ensures.calls; once = c.print.ensures.once })

pub returns-in-Demo : goal.returns-in-Demo
returns-in-Demo g c =
    by_command _ _ _ _ _ (demo c.in-Demo.size c.in-Demo.options) (rw c.in-Demo.is at c.in-Asked.ensures.answer.0) (record { tells = c.demo.ensures.answer; kept = refl; calls = c.demo.ensures.calls })

pub begin_command-requires : goal.begin_command-requires
begin_command-requires g c = record { options = rw c.in-Begin.is at c.in-Asked.ensures.answer.1 }

pub part_command-requires-clause-options : goal.part_command-requires-clause-options
part_command-requires-clause-options g c = rw c.in-Part.is at c.in-Asked.ensures.answer.1

pub part_command-requires-clause-left : goal.part_command-requires-clause-left
part_command-requires-clause-left g c = λ text next read.
    c.requires.part_left c.in-Part.options (part_numbers c.in-Part.numbers) text next (rw c.in-Part.is at c.in-Asked.ensures.answer.0) read

pub returns-in-Begin : goal.returns-in-Begin
returns-in-Begin g c = by_command _ _ _ _ _ (begin c.in-Begin.options) (rw c.in-Begin.is at c.in-Asked.ensures.answer.0) c.begin_command.ensures

pub returns-in-Part : goal.returns-in-Part
returns-in-Part g c =
    by_command _ _ _ _ _ (part c.in-Part.options (part_numbers c.in-Part.numbers)) (rw c.in-Part.is at c.in-Asked.ensures.answer.0) c.part_command.ensures

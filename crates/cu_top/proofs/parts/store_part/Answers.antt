use Rattle.std.proofs.Common.{◌≡◌, ◌∙◌, ◌+◌, ◌≤◌, ℕ, Ok, Err, ap, refl, length, subst, sym, arith}
use Rattle.cu_command.specs.Seen.{stream}
use Rattle.cu_command.specs.Streams.{WroteFront}
use Rattle.cu_command.specs.declared.status.Status.{Status}
use Rattle.cu_command.specs.declared.status.Status.TheVariants.{NoTasks}
use Rattle.cu_op.specs.PlanView.{PlanView}
use Rattle.cu_work.specs.declared.part.Part.{Part}
use Rattle.cu_top.proofs.DriveLemmas.{PlanLaws}
use Rattle.cu_top.proofs.PartsLemmas.{no_part, no_part_of, no_part_within, not_parted, not_parted_within, own_number, part_told, tasks_inner, parted_done, parted_ended, parted_unreported, parted_within_done, parted_within_ended, parted_within_unreported}
use Rattle.cu_top.proofs.PlanLemmas.{meant}
use Rattle.cu_top.proofs.ReopenLemmas.{opens, record_in, reopened}
use Rattle.cu_top.specs.Parts.{PartWithin, WasParted, inner_part, part_fault_answer, part_line}
use Rattle.cu_top.specs.Prepare.{out_metadata}
use Rattle.cu_top.specs.Record.{record_text}
use Rattle.cu_top.specs.Run.{scene, case, plan_in}
use Rattle.cu_top.specs.Words.{part_numbers}
use Rattle.cu_top.proofs.parts.store_part.Goals as goal

pub returns-in-Err-clause-answer : goal.returns-in-Err-clause-answer
returns-in-Err-clause-answer g c = λ source next.
    let out = stream (g.W.Sink.written c.args.out.now) (g.W.Sink.faults c.args.out.now) in
    not_parted (case c.args.options.now c.args.text.now (scene source out (g.D.PutStore.shown c.args.depot.now)) (scene next out (g.D.PutStore.shown c.reopen.new.depot)))
    (part_numbers c.args.numbers.now) c.in-Err.status (c.in-Err.ensures.refused source next out out)

pub returns-in-Err-clause-calls : goal.returns-in-Err-clause-calls
returns-in-Err-clause-calls g c = λ source next sink after.
    not_parted_within (case c.args.options.now c.args.text.now (scene source sink (g.D.PutStore.shown c.args.depot.now)) (scene next after (g.D.PutStore.shown c.reopen.new.depot)))
    (part_numbers c.args.numbers.now) c.in-Err.status (c.in-Err.ensures.refused_calls source next sink after)

pub returns-in_default-clause-answer : goal.returns-in_default-clause-answer
returns-in_default-clause-answer g c = λ source next.
    let begin = g.D.PutStore.shown c.args.depot.now in
    let start = g.D.PutStore.shown c.reopen.new.depot in
    let now = g.D.PutStore.shown c.reopen.new.depot in
    let options = c.args.options.now in
    let out = stream (g.W.Sink.written c.args.out.now) (g.W.Sink.faults c.args.out.now) in
    let after = out in
    let run = case options c.args.text.now (scene source out begin) (scene next after now) in
    let given = part_numbers c.args.numbers.now in
    let ready = c.in-Ok.ready in
    let job = ready.job in
    let found = c.in-Ok.ensures.found in
    let sound = c.merged_plan_law.ensures.sound job.expr job.types job.inputs.items options found.planned in
    let laws : PlanLaws run job = record {
      sound = sound;
      needs = λ j below.
          let most = c.merged_plan_law.ensures.needs job.expr job.types job.inputs.items options j found.planned below in
          let memory = c.merged_plan_law.ensures.memory job.expr job.types job.inputs.items options in
          omega (arith, most, memory);
      names = λ differ. c.merged_plan_law.ensures.names job.expr job.types job.inputs.items options (record_text options job) (out_metadata job) found.planned differ;
      left = c.left_law.ensures;
      meant = meant run job found.planned c.merged_plan_law.ensures.inputs c.merged_plan_law.ensures.output c.merged_plan_law.ensures.equal c.complete_law.ensures.elements;
    } in
    let back = reopened run job start found laws in
    let same = c.in-Ok.ensures.ready.plan_is in
    let none = no_part_of ready.plan (plan_in run job) (part_numbers c.inner_numbers-inner.result) given same c.inner_numbers-inner.ensures c.in_default.ensures in
    let tasks = c.tasks_at-tasks.ensures ∙ tasks_inner ready.plan (plan_in run job) (part_numbers c.inner_numbers-inner.result) given same c.inner_numbers-inner.ensures in
    subst (λ (n : ℕ). WasParted run given (NoTasks given.op n)) (sym tasks) (no_part run job given found.spared back none)

pub returns-in_default-clause-calls : goal.returns-in_default-clause-calls
returns-in_default-clause-calls g c = λ source next sink after.
    let begin = g.D.PutStore.shown c.args.depot.now in
    let start = g.D.PutStore.shown c.reopen.new.depot in
    let now = g.D.PutStore.shown c.reopen.new.depot in
    let options = c.args.options.now in
    let run = case options c.args.text.now (scene source sink begin) (scene next after now) in
    let given = part_numbers c.args.numbers.now in
    let ready = c.in-Ok.ready in
    let job = ready.job in
    let found = c.in-Ok.ensures.found in
    let sound = c.merged_plan_law.ensures.sound job.expr job.types job.inputs.items options found.planned in
    let laws : PlanLaws run job = record {
      sound = sound;
      needs = λ j below.
          let most = c.merged_plan_law.ensures.needs job.expr job.types job.inputs.items options j found.planned below in
          let memory = c.merged_plan_law.ensures.memory job.expr job.types job.inputs.items options in
          omega (arith, most, memory);
      names = λ differ. c.merged_plan_law.ensures.names job.expr job.types job.inputs.items options (record_text options job) (out_metadata job) found.planned differ;
      left = c.left_law.ensures;
      meant = meant run job found.planned c.merged_plan_law.ensures.inputs c.merged_plan_law.ensures.output c.merged_plan_law.ensures.equal c.complete_law.ensures.elements;
    } in
    no_part_within run job given c.args.numbers.now.op c.tasks_at-tasks.result (reopened run job start found laws) c.reopen.ensures.calls

pub returns-in-Ok-report_part-clause-answer : goal.returns-in-Ok-report_part-clause-answer
returns-in-Ok-report_part-clause-answer g c = λ source next.
    let begin = g.D.PutStore.shown c.args.depot.now in
    let start = g.D.PutStore.shown c.reopen.new.depot in
    let now = g.D.PutStore.shown c.run_part.new.depot in
    let options = c.args.options.now in
    let out = stream (g.W.Sink.written c.args.out.now) (g.W.Sink.faults c.args.out.now) in
    let after = stream (g.W.Sink.written c.report_part.new.out) (g.W.Sink.faults c.report_part.new.out) in
    let run = case options c.args.text.now (scene source out begin) (scene next after now) in
    let given = part_numbers c.args.numbers.now in
    let ready = c.in-Ok.ready in
    let job = ready.job in
    let found = c.in-Ok.ensures.found in
    let sound = c.merged_plan_law.ensures.sound job.expr job.types job.inputs.items options found.planned in
    let laws : PlanLaws run job = record {
      sound = sound;
      needs = λ j below.
          let most = c.merged_plan_law.ensures.needs job.expr job.types job.inputs.items options j found.planned below in
          let memory = c.merged_plan_law.ensures.memory job.expr job.types job.inputs.items options in
          omega (arith, most, memory);
      names = λ differ. c.merged_plan_law.ensures.names job.expr job.types job.inputs.items options (record_text options job) (out_metadata job) found.planned differ;
      left = c.left_law.ensures;
      meant = meant run job found.planned c.merged_plan_law.ensures.inputs c.merged_plan_law.ensures.output c.merged_plan_law.ensures.equal c.complete_law.ensures.elements;
    } in
    let spared = found.spared in
    let back = reopened run job start found laws in
    let opened = opens run job start found c.requires.left in
    let known = record_in run job start found c.requires.left in
    let q = inner_part (plan_in run job) given in
    let q_is : c.in-Some.part ≡ q =
    c.in-Some.ensures.0 ∙ c.inner_numbers-inner.ensures ∙ ap (λ (p : PlanView). inner_part p given) c.in-Ok.ensures.ready.plan_is in
    let told = part_told ready.plan (plan_in run job) c.in-Some.part q (options.retries + 1) start now (Ok c.in-Ok-run_part.counts) c.in-Ok.ensures.ready.plan_is q_is c.in-Some.ensures.1
    c.in-Ok-run_part.ensures.end c.run_part.ensures.step c.run_part.ensures.calls in
    parted_done run job laws start spared back opened known given (Ok c.in-Ok-run_part.counts) told c.in-Ok-run_part.counts refl
    (subst (λ (p : PlanView). WroteFront out.told after.told (part_line p q c.in-Ok-run_part.counts) (length (part_line p q c.in-Ok-run_part.counts))) c.in-Ok.ensures.ready.plan_is
    (subst (λ (x : Part). WroteFront out.told after.told (part_line ready.plan x c.in-Ok-run_part.counts) (length (part_line ready.plan x c.in-Ok-run_part.counts))) q_is
    c.in-Ok-report_part.ensures.all))

pub returns-in-Ok-run_part-clause-answer : goal.returns-in-Ok-run_part-clause-answer
returns-in-Ok-run_part-clause-answer g c = λ source next.
    let begin = g.D.PutStore.shown c.args.depot.now in
    let start = g.D.PutStore.shown c.reopen.new.depot in
    let now = g.D.PutStore.shown c.run_part.new.depot in
    let options = c.args.options.now in
    let out = stream (g.W.Sink.written c.args.out.now) (g.W.Sink.faults c.args.out.now) in
    let after = stream (g.W.Sink.written c.report_part.new.out) (g.W.Sink.faults c.report_part.new.out) in
    let run = case options c.args.text.now (scene source out begin) (scene next after now) in
    let given = part_numbers c.args.numbers.now in
    let ready = c.in-Ok.ready in
    let job = ready.job in
    let found = c.in-Ok.ensures.found in
    let sound = c.merged_plan_law.ensures.sound job.expr job.types job.inputs.items options found.planned in
    let laws : PlanLaws run job = record {
      sound = sound;
      needs = λ j below.
          let most = c.merged_plan_law.ensures.needs job.expr job.types job.inputs.items options j found.planned below in
          let memory = c.merged_plan_law.ensures.memory job.expr job.types job.inputs.items options in
          omega (arith, most, memory);
      names = λ differ. c.merged_plan_law.ensures.names job.expr job.types job.inputs.items options (record_text options job) (out_metadata job) found.planned differ;
      left = c.left_law.ensures;
      meant = meant run job found.planned c.merged_plan_law.ensures.inputs c.merged_plan_law.ensures.output c.merged_plan_law.ensures.equal c.complete_law.ensures.elements;
    } in
    let spared = found.spared in
    let back = reopened run job start found laws in
    let opened = opens run job start found c.requires.left in
    let known = record_in run job start found c.requires.left in
    let q = inner_part (plan_in run job) given in
    let q_is : c.in-Some.part ≡ q =
    c.in-Some.ensures.0 ∙ c.inner_numbers-inner.ensures ∙ ap (λ (p : PlanView). inner_part p given) c.in-Ok.ensures.ready.plan_is in
    let told = part_told ready.plan (plan_in run job) c.in-Some.part q (options.retries + 1) start now (Ok c.in-Ok-run_part.counts) c.in-Ok.ensures.ready.plan_is q_is c.in-Some.ensures.1
    c.in-Ok-run_part.ensures.end c.run_part.ensures.step c.run_part.ensures.calls in
    parted_unreported run job laws start spared back opened known given (Ok c.in-Ok-run_part.counts) told c.in-Ok-run_part.counts refl c.in-Err-report_part.ensures.cause
    (subst (λ (p : PlanView). (n : ℕ) × (n ≤ length (part_line p q c.in-Ok-run_part.counts)) × WroteFront out.told after.told (part_line p q c.in-Ok-run_part.counts) n) c.in-Ok.ensures.ready.plan_is
    (subst (λ (x : Part). (n : ℕ) × (n ≤ length (part_line ready.plan x c.in-Ok-run_part.counts)) × WroteFront out.told after.told (part_line ready.plan x c.in-Ok-run_part.counts) n) q_is
    c.in-Err-report_part.ensures.front))

pub returns-clause-answer : goal.returns-clause-answer
returns-clause-answer g c = λ source next.
    let begin = g.D.PutStore.shown c.args.depot.now in
    let start = g.D.PutStore.shown c.reopen.new.depot in
    let now = g.D.PutStore.shown c.run_part.new.depot in
    let options = c.args.options.now in
    let out = stream (g.W.Sink.written c.args.out.now) (g.W.Sink.faults c.args.out.now) in
    let after = out in
    let run = case options c.args.text.now (scene source out begin) (scene next after now) in
    let given = part_numbers c.args.numbers.now in
    let ready = c.in-Ok.ready in
    let job = ready.job in
    let found = c.in-Ok.ensures.found in
    let sound = c.merged_plan_law.ensures.sound job.expr job.types job.inputs.items options found.planned in
    let laws : PlanLaws run job = record {
      sound = sound;
      needs = λ j below.
          let most = c.merged_plan_law.ensures.needs job.expr job.types job.inputs.items options j found.planned below in
          let memory = c.merged_plan_law.ensures.memory job.expr job.types job.inputs.items options in
          omega (arith, most, memory);
      names = λ differ. c.merged_plan_law.ensures.names job.expr job.types job.inputs.items options (record_text options job) (out_metadata job) found.planned differ;
      left = c.left_law.ensures;
      meant = meant run job found.planned c.merged_plan_law.ensures.inputs c.merged_plan_law.ensures.output c.merged_plan_law.ensures.equal c.complete_law.ensures.elements;
    } in
    let spared = found.spared in
    let back = reopened run job start found laws in
    let opened = opens run job start found c.requires.left in
    let known = record_in run job start found c.requires.left in
    let q = inner_part (plan_in run job) given in
    let q_is : c.in-Some.part ≡ q =
    c.in-Some.ensures.0 ∙ c.inner_numbers-inner.ensures ∙ ap (λ (p : PlanView). inner_part p given) c.in-Ok.ensures.ready.plan_is in
    let told = part_told ready.plan (plan_in run job) c.in-Some.part q (options.retries + 1) start now (Err c.in-Err-run_part.fault) c.in-Ok.ensures.ready.plan_is q_is c.in-Some.ensures.1
    c.in-Err-run_part.ensures.end c.run_part.ensures.step c.run_part.ensures.calls in
    let number : c.listed_number.result ≡ given.op = c.listed_number.ensures ∙ own_number ready.plan (plan_in run job) c.in-Some.part given c.in-Ok.ensures.ready.plan_is q_is c.in-Some.ensures.1 in
    subst (λ (s : Status). WasParted run given s) (sym (c.part_fault_answer.ensures ∙ ap (λ (k : ℕ). part_fault_answer k c.in-Err-run_part.fault) number))
    (parted_ended run job laws start spared back opened known given (Err c.in-Err-run_part.fault) told c.in-Err-run_part.fault refl)

pub returns-in-Ok-report_part-clause-calls : goal.returns-in-Ok-report_part-clause-calls
returns-in-Ok-report_part-clause-calls g c = λ source next sink after.
    let begin = g.D.PutStore.shown c.args.depot.now in
    let start = g.D.PutStore.shown c.reopen.new.depot in
    let now = g.D.PutStore.shown c.run_part.new.depot in
    let options = c.args.options.now in
    let run = case options c.args.text.now (scene source sink begin) (scene next after now) in
    let given = part_numbers c.args.numbers.now in
    let ready = c.in-Ok.ready in
    let job = ready.job in
    let found = c.in-Ok.ensures.found in
    let sound = c.merged_plan_law.ensures.sound job.expr job.types job.inputs.items options found.planned in
    let laws : PlanLaws run job = record {
      sound = sound;
      needs = λ j below.
          let most = c.merged_plan_law.ensures.needs job.expr job.types job.inputs.items options j found.planned below in
          let memory = c.merged_plan_law.ensures.memory job.expr job.types job.inputs.items options in
          omega (arith, most, memory);
      names = λ differ. c.merged_plan_law.ensures.names job.expr job.types job.inputs.items options (record_text options job) (out_metadata job) found.planned differ;
      left = c.left_law.ensures;
      meant = meant run job found.planned c.merged_plan_law.ensures.inputs c.merged_plan_law.ensures.output c.merged_plan_law.ensures.equal c.complete_law.ensures.elements;
    } in
    let spared = found.spared in
    let back = reopened run job start found laws in
    let opened = opens run job start found c.requires.left in
    let known = record_in run job start found c.requires.left in
    let q = inner_part (plan_in run job) given in
    let q_is : c.in-Some.part ≡ q =
    c.in-Some.ensures.0 ∙ c.inner_numbers-inner.ensures ∙ ap (λ (p : PlanView). inner_part p given) c.in-Ok.ensures.ready.plan_is in
    let told = part_told ready.plan (plan_in run job) c.in-Some.part q (options.retries + 1) start now (Ok c.in-Ok-run_part.counts) c.in-Ok.ensures.ready.plan_is q_is c.in-Some.ensures.1
    c.in-Ok-run_part.ensures.end c.run_part.ensures.step c.run_part.ensures.calls in
    parted_within_done run job laws start spared back opened known given (Ok c.in-Ok-run_part.counts) told c.reopen.ensures.calls

pub returns-in-Ok-run_part-clause-calls : goal.returns-in-Ok-run_part-clause-calls
returns-in-Ok-run_part-clause-calls g c = λ source next sink after.
    let begin = g.D.PutStore.shown c.args.depot.now in
    let start = g.D.PutStore.shown c.reopen.new.depot in
    let now = g.D.PutStore.shown c.run_part.new.depot in
    let options = c.args.options.now in
    let run = case options c.args.text.now (scene source sink begin) (scene next after now) in
    let given = part_numbers c.args.numbers.now in
    let ready = c.in-Ok.ready in
    let job = ready.job in
    let found = c.in-Ok.ensures.found in
    let sound = c.merged_plan_law.ensures.sound job.expr job.types job.inputs.items options found.planned in
    let laws : PlanLaws run job = record {
      sound = sound;
      needs = λ j below.
          let most = c.merged_plan_law.ensures.needs job.expr job.types job.inputs.items options j found.planned below in
          let memory = c.merged_plan_law.ensures.memory job.expr job.types job.inputs.items options in
          omega (arith, most, memory);
      names = λ differ. c.merged_plan_law.ensures.names job.expr job.types job.inputs.items options (record_text options job) (out_metadata job) found.planned differ;
      left = c.left_law.ensures;
      meant = meant run job found.planned c.merged_plan_law.ensures.inputs c.merged_plan_law.ensures.output c.merged_plan_law.ensures.equal c.complete_law.ensures.elements;
    } in
    let spared = found.spared in
    let back = reopened run job start found laws in
    let opened = opens run job start found c.requires.left in
    let known = record_in run job start found c.requires.left in
    let q = inner_part (plan_in run job) given in
    let q_is : c.in-Some.part ≡ q =
    c.in-Some.ensures.0 ∙ c.inner_numbers-inner.ensures ∙ ap (λ (p : PlanView). inner_part p given) c.in-Ok.ensures.ready.plan_is in
    let told = part_told ready.plan (plan_in run job) c.in-Some.part q (options.retries + 1) start now (Ok c.in-Ok-run_part.counts) c.in-Ok.ensures.ready.plan_is q_is c.in-Some.ensures.1
    c.in-Ok-run_part.ensures.end c.run_part.ensures.step c.run_part.ensures.calls in
    parted_within_unreported run job laws start spared back opened known given (Ok c.in-Ok-run_part.counts) told c.reopen.ensures.calls

pub returns-clause-calls : goal.returns-clause-calls
returns-clause-calls g c = λ source next sink after.
    let begin = g.D.PutStore.shown c.args.depot.now in
    let start = g.D.PutStore.shown c.reopen.new.depot in
    let now = g.D.PutStore.shown c.run_part.new.depot in
    let options = c.args.options.now in
    let run = case options c.args.text.now (scene source sink begin) (scene next after now) in
    let given = part_numbers c.args.numbers.now in
    let ready = c.in-Ok.ready in
    let job = ready.job in
    let found = c.in-Ok.ensures.found in
    let sound = c.merged_plan_law.ensures.sound job.expr job.types job.inputs.items options found.planned in
    let laws : PlanLaws run job = record {
      sound = sound;
      needs = λ j below.
          let most = c.merged_plan_law.ensures.needs job.expr job.types job.inputs.items options j found.planned below in
          let memory = c.merged_plan_law.ensures.memory job.expr job.types job.inputs.items options in
          omega (arith, most, memory);
      names = λ differ. c.merged_plan_law.ensures.names job.expr job.types job.inputs.items options (record_text options job) (out_metadata job) found.planned differ;
      left = c.left_law.ensures;
      meant = meant run job found.planned c.merged_plan_law.ensures.inputs c.merged_plan_law.ensures.output c.merged_plan_law.ensures.equal c.complete_law.ensures.elements;
    } in
    let spared = found.spared in
    let back = reopened run job start found laws in
    let opened = opens run job start found c.requires.left in
    let known = record_in run job start found c.requires.left in
    let q = inner_part (plan_in run job) given in
    let q_is : c.in-Some.part ≡ q =
    c.in-Some.ensures.0 ∙ c.inner_numbers-inner.ensures ∙ ap (λ (p : PlanView). inner_part p given) c.in-Ok.ensures.ready.plan_is in
    let told = part_told ready.plan (plan_in run job) c.in-Some.part q (options.retries + 1) start now (Err c.in-Err-run_part.fault) c.in-Ok.ensures.ready.plan_is q_is c.in-Some.ensures.1
    c.in-Err-run_part.ensures.end c.run_part.ensures.step c.run_part.ensures.calls in
    let number : c.listed_number.result ≡ given.op = c.listed_number.ensures ∙ own_number ready.plan (plan_in run job) c.in-Some.part given c.in-Ok.ensures.ready.plan_is q_is c.in-Some.ensures.1 in
    subst (λ (s : Status). PartWithin run given s) (sym (c.part_fault_answer.ensures ∙ ap (λ (k : ℕ). part_fault_answer k c.in-Err-run_part.fault) number))
    (parted_within_ended run job laws start spared back opened known given (Err c.in-Err-run_part.fault) told c.reopen.ensures.calls c.in-Err-run_part.fault)

use Rattle.std.proofs.Common.{◌+◌, ◌*◌, ◌≤◌, ℕ, List, Ok, Err, length, subst, sym, arith}
use Rattle.cu_command.specs.Seen.{stream}
use Rattle.cu_command.specs.Streams.{WroteFront}
use Rattle.cu_command.specs.declared.status.Status.{Status}
use Rattle.cu_op.specs.PlanView.{PlanView}
use Rattle.cu_work.specs.Removal.{AreRemoved, RemovalIn, removed_keys}
use Rattle.cu_store.specs.Steps.{Steps}
use Rattle.cu_top.proofs.DriveLemmas.{PlanLaws}
use Rattle.cu_top.proofs.DropLemmas.{drop_done, drop_unreported, drop_ended, drop_keys, first_keys, not_dropped}
use Rattle.cu_top.proofs.PlanLemmas.{meant}
use Rattle.cu_top.proofs.ReopenLemmas.{reopened}
use Rattle.cu_top.specs.Drop.{removal_line, Dropped}
use Rattle.cu_top.specs.Prepare.{out_metadata}
use Rattle.cu_top.specs.Record.{record_text}
use Rattle.cu_top.specs.Run.{scene, case}
use Rattle.cu_top.proofs.CallLimits.{drop_refused, drop_done_within, drop_unreported_within, drop_ended_within}
use Rattle.cu_top.specs.Calls.{DropWithin}
use Rattle.cu_top.proofs.drop.drop_plan.Goals as goal

pub returns-in-Err-clause-answer : goal.returns-in-Err-clause-answer
returns-in-Err-clause-answer g c = λ source next.
    let out = stream (g.W.Sink.written c.args.out.now) (g.W.Sink.faults c.args.out.now) in
    not_dropped (case c.args.options.now c.args.text.now (scene source out (g.D.Depot.shown c.args.depot.now)) (scene next out (g.D.Depot.shown c.reopen.new.depot))) c.in-Err.status
    (c.in-Err.ensures.refused source next out out)

pub returns-in-Ok-report_removal-clause-answer : goal.returns-in-Ok-report_removal-clause-answer
returns-in-Ok-report_removal-clause-answer g c = λ source next.
    let begin = g.D.Depot.shown c.args.depot.now in
    let start = g.D.Depot.shown c.reopen.new.depot in
    let now = g.D.Depot.shown c.remove_plan.new.depot in
    let options = c.args.options.now in
    let out = stream (g.W.Sink.written c.args.out.now) (g.W.Sink.faults c.args.out.now) in
    let after = stream (g.W.Sink.written c.report_removal.new.out) (g.W.Sink.faults c.report_removal.new.out) in
    let run = case options c.args.text.now (scene source out begin) (scene next after now) in
    let ready = c.in-Ok.ready in
    let job = ready.job in
    let found = c.in-Ok.ensures.found in
    let sound = c.merged_plan_law.ensures.sound job.expr job.types job.inputs.items options found.planned in
    let laws : PlanLaws run job = record {
      sound = sound;
      needs = λ j below.
          let most = c.merged_plan_law.ensures.needs job.expr job.types job.inputs.items options j found.planned below in
          let memory = c.merged_plan_law.ensures.memory job.expr job.types job.inputs.items options in
          omega (arith, most, memory);
      names = λ differ. c.merged_plan_law.ensures.names job.expr job.types job.inputs.items options (record_text options job) (out_metadata job) found.planned differ;
      left = c.left_law.ensures;
      meant = meant run job found.planned c.merged_plan_law.ensures.inputs c.merged_plan_law.ensures.output c.merged_plan_law.ensures.equal c.complete_law.ensures.elements;
    } in
    let back = reopened run job start found laws in
    let keys = drop_keys run job ready.plan c.text_keys-keys.result.record c.text_keys-keys.result.metadata c.in-Ok.ensures.ready.plan_is c.text_keys-keys.ensures.record c.text_keys-keys.ensures.metadata in
    drop_done run job back start found.spared c.commands_law.ensures.kept (options.retries + 1)
    (subst (λ (ks : List (List ℕ)). AreRemoved (options.retries + 1) ks start now (Ok tt)) keys c.in-Ok-remove_plan.ensures.removed)
    (subst (λ (p : PlanView). WroteFront out.told after.told (removal_line p) (length (removal_line p))) c.in-Ok.ensures.ready.plan_is c.in-Ok-report_removal.ensures.all)

pub returns-in-Ok-remove_plan-clause-answer : goal.returns-in-Ok-remove_plan-clause-answer
returns-in-Ok-remove_plan-clause-answer g c = λ source next.
    let begin = g.D.Depot.shown c.args.depot.now in
    let start = g.D.Depot.shown c.reopen.new.depot in
    let now = g.D.Depot.shown c.remove_plan.new.depot in
    let options = c.args.options.now in
    let out = stream (g.W.Sink.written c.args.out.now) (g.W.Sink.faults c.args.out.now) in
    let after = stream (g.W.Sink.written c.report_removal.new.out) (g.W.Sink.faults c.report_removal.new.out) in
    let run = case options c.args.text.now (scene source out begin) (scene next after now) in
    let ready = c.in-Ok.ready in
    let job = ready.job in
    let found = c.in-Ok.ensures.found in
    let sound = c.merged_plan_law.ensures.sound job.expr job.types job.inputs.items options found.planned in
    let laws : PlanLaws run job = record {
      sound = sound;
      needs = λ j below.
          let most = c.merged_plan_law.ensures.needs job.expr job.types job.inputs.items options j found.planned below in
          let memory = c.merged_plan_law.ensures.memory job.expr job.types job.inputs.items options in
          omega (arith, most, memory);
      names = λ differ. c.merged_plan_law.ensures.names job.expr job.types job.inputs.items options (record_text options job) (out_metadata job) found.planned differ;
      left = c.left_law.ensures;
      meant = meant run job found.planned c.merged_plan_law.ensures.inputs c.merged_plan_law.ensures.output c.merged_plan_law.ensures.equal c.complete_law.ensures.elements;
    } in
    let back = reopened run job start found laws in
    let keys = drop_keys run job ready.plan c.text_keys-keys.result.record c.text_keys-keys.result.metadata c.in-Ok.ensures.ready.plan_is c.text_keys-keys.ensures.record c.text_keys-keys.ensures.metadata in
    drop_unreported run job back start found.spared c.commands_law.ensures.kept (options.retries + 1)
    (subst (λ (ks : List (List ℕ)). AreRemoved (options.retries + 1) ks start now (Ok tt)) keys c.in-Ok-remove_plan.ensures.removed) c.in-Err-report_removal.ensures.cause
    (subst (λ (p : PlanView). (n : ℕ) × (n ≤ length (removal_line p)) × WroteFront out.told after.told (removal_line p) n) c.in-Ok.ensures.ready.plan_is c.in-Err-report_removal.ensures.front)

pub returns-clause-answer : goal.returns-clause-answer
returns-clause-answer g c = λ source next.
    let begin = g.D.Depot.shown c.args.depot.now in
    let start = g.D.Depot.shown c.reopen.new.depot in
    let now = g.D.Depot.shown c.remove_plan.new.depot in
    let options = c.args.options.now in
    let out = stream (g.W.Sink.written c.args.out.now) (g.W.Sink.faults c.args.out.now) in
    let after = out in
    let run = case options c.args.text.now (scene source out begin) (scene next after now) in
    let ready = c.in-Ok.ready in
    let job = ready.job in
    let found = c.in-Ok.ensures.found in
    let sound = c.merged_plan_law.ensures.sound job.expr job.types job.inputs.items options found.planned in
    let laws : PlanLaws run job = record {
      sound = sound;
      needs = λ j below.
          let most = c.merged_plan_law.ensures.needs job.expr job.types job.inputs.items options j found.planned below in
          let memory = c.merged_plan_law.ensures.memory job.expr job.types job.inputs.items options in
          omega (arith, most, memory);
      names = λ differ. c.merged_plan_law.ensures.names job.expr job.types job.inputs.items options (record_text options job) (out_metadata job) found.planned differ;
      left = c.left_law.ensures;
      meant = meant run job found.planned c.merged_plan_law.ensures.inputs c.merged_plan_law.ensures.output c.merged_plan_law.ensures.equal c.complete_law.ensures.elements;
    } in
    let back = reopened run job start found laws in
    let keys = drop_keys run job ready.plan c.text_keys-keys.result.record c.text_keys-keys.result.metadata c.in-Ok.ensures.ready.plan_is c.text_keys-keys.ensures.record c.text_keys-keys.ensures.metadata in
    let most = (options.retries + 1) * length (removed_keys ready.plan c.text_keys-keys.result.record c.text_keys-keys.result.metadata) in
    let firsts = first_keys run job ready.plan c.text_keys-keys.result.metadata c.in-Ok.ensures.ready.plan_is c.text_keys-keys.ensures.metadata in
    subst (λ (s : Status). Dropped run s) (sym c.remove_answer.ensures)
    (drop_ended run job back start found.spared c.commands_law.ensures.kept c.in-Err-remove_plan.fault 0 most
    (subst (λ (ks : List (List ℕ)). AreRemoved (options.retries + 1) ks start now (Err c.in-Err-remove_plan.fault)) keys c.in-Err-remove_plan.ensures.removed)
    (subst (λ (ks : List (List ℕ)). Steps (RemovalIn ks) 0 most start now) firsts c.in-Err-remove_plan.ensures.«record»))

pub returns-in-Err-clause-calls : goal.returns-in-Err-clause-calls
returns-in-Err-clause-calls g c = λ source next sink after.
    drop_refused (case c.args.options.now c.args.text.now (scene source sink (g.D.Depot.shown c.args.depot.now)) (scene next after (g.D.Depot.shown c.reopen.new.depot))) c.in-Err.status
    (c.in-Err.ensures.refused_calls source next sink after)

pub returns-in-Ok-report_removal-clause-calls : goal.returns-in-Ok-report_removal-clause-calls
returns-in-Ok-report_removal-clause-calls g c = λ source next sink after.
    let run = case c.args.options.now c.args.text.now (scene source sink (g.D.Depot.shown c.args.depot.now)) (scene next after (g.D.Depot.shown c.remove_plan.new.depot)) in
    let found = c.in-Ok.ensures.found in
    drop_done_within run c.in-Ok.ready.job found.accepted found.planned (g.D.Depot.shown c.reopen.new.depot) c.reopen.ensures.calls c.in-Ok.ready.plan c.text_keys-keys.result.«record» c.text_keys-keys.result.metadata c.in-Ok.ensures.ready.plan_is
    c.in-Ok-remove_plan.ensures.removed.step.calls.1

pub returns-in-Ok-remove_plan-clause-calls : goal.returns-in-Ok-remove_plan-clause-calls
returns-in-Ok-remove_plan-clause-calls g c = λ source next sink after.
    let run = case c.args.options.now c.args.text.now (scene source sink (g.D.Depot.shown c.args.depot.now)) (scene next after (g.D.Depot.shown c.remove_plan.new.depot)) in
    let found = c.in-Ok.ensures.found in
    drop_unreported_within run c.in-Ok.ready.job found.accepted found.planned (g.D.Depot.shown c.reopen.new.depot) c.reopen.ensures.calls c.in-Ok.ready.plan c.text_keys-keys.result.«record» c.text_keys-keys.result.metadata c.in-Ok.ensures.ready.plan_is
    c.in-Ok-remove_plan.ensures.removed.step.calls.1

pub returns-clause-calls : goal.returns-clause-calls
returns-clause-calls g c = λ source next sink after.
    let run = case c.args.options.now c.args.text.now (scene source sink (g.D.Depot.shown c.args.depot.now)) (scene next after (g.D.Depot.shown c.remove_plan.new.depot)) in
    let found = c.in-Ok.ensures.found in
    subst (DropWithin run) (sym c.remove_answer.ensures)
    (drop_ended_within run c.in-Ok.ready.job found.accepted found.planned (g.D.Depot.shown c.reopen.new.depot) c.reopen.ensures.calls c.in-Ok.ready.plan c.text_keys-keys.result.«record» c.text_keys-keys.result.metadata c.in-Ok.ensures.ready.plan_is
    c.in-Err-remove_plan.ensures.removed.step.calls.1 c.in-Err-remove_plan.fault)

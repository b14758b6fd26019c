use Rattle.std.proofs.Common.{◌≡◌, ◌∙◌, ◌+◌, List, Bool, None, ap, subst, sym, arith, Result, IfErr}
use Rattle.cu_command.specs.Seen.{stream}
use Rattle.cu_command.specs.declared.status.Status.{Status}
use Rattle.cu_op.specs.PlanView.{PlanView}
use Rattle.cu_run_law.specs.Pieces.{text_at}
use Rattle.cu_table.specs.Table.{TableView}
use Rattle.cu_work.specs.World.{IsFound}
use Rattle.cu_top.proofs.DriveLemmas.{PlanLaws, HistoryLaws, apart_run, apart_inputs}
use Rattle.cu_top.proofs.PlanLemmas.{meant}
use Rattle.cu_top.proofs.RunLemmas.{run_ended, open_cleared, stopped_of}
use Rattle.cu_top.specs.Driven.{WasDriven, drive_case}
use Rattle.cu_top.specs.Prepare.{job_plan, out_metadata}
use Rattle.cu_top.specs.Quiet.{run_of_job}
use Rattle.cu_top.specs.Record.{record_text}
use Rattle.cu_top.specs.Run.{scene, case, Ended, IsStop, job_run}
use Rattle.cu_top.specs.declared.report.RunCounts.{RunCounts}
use Rattle.cu_work.specs.Shared.{none_done}
use Rattle.cu_work.specs.declared.run.HeldTexts.TheVariants.{Neither}
use Rattle.cu_top.proofs.run.store_plan.Goals as goal

pub drive_plan-requires-clause-apart : goal.drive_plan-requires-clause-apart
drive_plan-requires-clause-apart g c κs within =
    let (text, old, cleared, calm) = c.requires.quiet in
    let start = g.D.PutStore.shown c.args.depot.now in
    let options = c.args.options.now in
    let out = stream None 0 in
    let run = case options text (scene out out old) (scene out out start) in
    let job = c.args.ready.now.job in
    let sound = c.merged_plan_law.ensures.sound job.expr job.types job.inputs.items options c.requires.planned in
    let laws : PlanLaws run job = record {
      sound = sound;
      needs = λ j below.
          let most = c.merged_plan_law.ensures.needs job.expr job.types job.inputs.items options j c.requires.planned below in
          let memory = c.merged_plan_law.ensures.memory job.expr job.types job.inputs.items options in
          omega (arith, most, memory);
      names = λ differ. c.merged_plan_law.ensures.names job.expr job.types job.inputs.items options (record_text options job) (out_metadata job) c.requires.planned differ;
      left = c.left_law.ensures;
      meant = meant run job c.requires.planned c.merged_plan_law.ensures.inputs c.merged_plan_law.ensures.output c.merged_plan_law.ensures.equal c.complete_law.ensures.elements;
    } in
    apart_run run job laws cleared.own

pub drive_plan-requires-clause-inputs : goal.drive_plan-requires-clause-inputs
drive_plan-requires-clause-inputs g c κs within =
    let (text, old, cleared, calm) = c.requires.quiet in
    let start = g.D.PutStore.shown c.args.depot.now in
    let options = c.args.options.now in
    let out = stream None 0 in
    let run = case options text (scene out out old) (scene out out start) in
    let job = c.args.ready.now.job in
    let sound = c.merged_plan_law.ensures.sound job.expr job.types job.inputs.items options c.requires.planned in
    let laws : PlanLaws run job = record {
      sound = sound;
      needs = λ j below.
          let most = c.merged_plan_law.ensures.needs job.expr job.types job.inputs.items options j c.requires.planned below in
          let memory = c.merged_plan_law.ensures.memory job.expr job.types job.inputs.items options in
          omega (arith, most, memory);
      names = λ differ. c.merged_plan_law.ensures.names job.expr job.types job.inputs.items options (record_text options job) (out_metadata job) c.requires.planned differ;
      left = c.left_law.ensures;
      meant = meant run job c.requires.planned c.merged_plan_law.ensures.inputs c.merged_plan_law.ensures.output c.merged_plan_law.ensures.equal c.complete_law.ensures.elements;
    } in
    apart_inputs run job laws cleared.own

pub drive_plan-requires-clause-open : goal.drive_plan-requires-clause-open
drive_plan-requires-clause-open g c κs within =
    let (text, old, cleared, calm) = c.requires.quiet in
    let start = g.D.PutStore.shown c.args.depot.now in
    let options = c.args.options.now in
    let out = stream None 0 in
    let run = case options text (scene out out old) (scene out out start) in
    let job = c.args.ready.now.job in
    let sound = c.merged_plan_law.ensures.sound job.expr job.types job.inputs.items options c.requires.planned in
    let laws : PlanLaws run job = record {
      sound = sound;
      needs = λ j below.
          let most = c.merged_plan_law.ensures.needs job.expr job.types job.inputs.items options j c.requires.planned below in
          let memory = c.merged_plan_law.ensures.memory job.expr job.types job.inputs.items options in
          omega (arith, most, memory);
      names = λ differ. c.merged_plan_law.ensures.names job.expr job.types job.inputs.items options (record_text options job) (out_metadata job) c.requires.planned differ;
      left = c.left_law.ensures;
      meant = meant run job c.requires.planned c.merged_plan_law.ensures.inputs c.merged_plan_law.ensures.output c.merged_plan_law.ensures.equal c.complete_law.ensures.elements;
    } in
    open_cleared run job laws start cleared calm

pub drive_plan-requires-clause-found : goal.drive_plan-requires-clause-found
drive_plan-requires-clause-found g c κs within = λ held told.
    let done = ap (λ (t : TableView). t.done) c.in-Ok-make.ensures.memory.table ∙ c.deref.ensures.value in
    subst (λ (d : List Bool). IsFound (job_plan c.args.options.now c.args.ready.now.job) held d) (sym done)
    (subst (λ (p : PlanView). IsFound p held c.in-Ok.done.items) c.requires.ready.plan_is (c.in-Ok.ensures.found held))

pub returns : goal.returns
returns g c = record {
  ended = λ text old source next sink after before cleared once.
      let start = g.D.PutStore.shown c.args.depot.now in
      let now = g.D.PutStore.shown c.drive_plan.new.depot in
      let lack = g.D.SharedStore.yards_lack c.drive_plan.new.depot in
      let options = c.args.options.now in
      let run = case options text (scene source sink old) (scene next after now) in
      let job = c.args.ready.now.job in
      let sound = c.merged_plan_law.ensures.sound job.expr job.types job.inputs.items options c.requires.planned in
      let laws : PlanLaws run job = record {
        sound = sound;
        needs = λ j below.
            let most = c.merged_plan_law.ensures.needs job.expr job.types job.inputs.items options j c.requires.planned below in
            let memory = c.merged_plan_law.ensures.memory job.expr job.types job.inputs.items options in
            omega (arith, most, memory);
        names = λ differ. c.merged_plan_law.ensures.names job.expr job.types job.inputs.items options (record_text options job) (out_metadata job) c.requires.planned differ;
        left = c.left_law.ensures;
        meant = meant run job c.requires.planned c.merged_plan_law.ensures.inputs c.merged_plan_law.ensures.output c.merged_plan_law.ensures.equal c.complete_law.ensures.elements;
      } in
      let histories : HistoryLaws = record {
        task = c.broken_law.ensures.task;
        exactly = λ s done history m op task legal is ended. (c.broken_law.ensures.exactly s done history m op task legal is).0 ended;
        undone = λ s done history m op task legal ended. (c.broken_law.ensures.undone s done history m op task legal ended).0;
      } in
      let none : c.in-Ok-make.memory.table.done ≡ none_done (job_run run job).plan =
      ap (λ (t : TableView). t.done) c.in-Ok-make.ensures.memory.table ∙ c.deref.ensures.value ∙ c.in-Ok.ensures.none ∙ ap none_done c.requires.ready.plan_is in
      let (result, driven, answer) = subst (λ (done : List Bool). WasDriven (drive_case options (job_run run job) Neither done lack (start, now)) c.drive_plan.result) none c.drive_plan.ensures.driven in
      subst (λ (r : Result RunCounts Status). Ended lack run job (before + 3) r) (sym answer) (run_ended run job laws start cleared lack histories c.count_law.ensures.fresh before once result driven);
  stopped =
      let run = run_of_job c.args.options.now c.args.ready.now.job in
      let (result, driven, answer) = c.drive_plan.ensures.driven in
      subst (λ (r : Result RunCounts Status). IfErr r IsStop) (sym answer) (stopped_of (text_at run 0).0 run.plan result);
  calls = c.drive_plan.ensures.calls;
  starts = c.drive_plan.ensures.starts;
  stopped_calls = c.drive_plan.ensures.stopped_calls;
}

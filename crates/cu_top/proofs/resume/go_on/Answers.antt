use Rattle.std.proofs.Common.{ℕ, ◌+◌, None, subst, sym, arith, Result, length}
use Rattle.cu_op.specs.PlanView.{PlanView}
use Rattle.cu_store.specs.Steps.{OnceEach}
use Rattle.cu_store.proofs.Once.{once_then}
use Rattle.cu_work.specs.Order.{plan_keys}
use Rattle.cu_command.specs.Seen.{stream}
use Rattle.cu_command.specs.declared.status.Status.{Status}
use Rattle.cu_command.proofs.SeenLemmas.{stepped_then}
use Rattle.cu_top.proofs.DriveLemmas.{PlanLaws, HistoryLaws, apart_run, apart_inputs, open_start}
use Rattle.cu_command.specs.declared.status.Status.TheVariants.{Done}
use Rattle.cu_load.proofs.AskLemmas.{if_err}
use Rattle.cu_top.proofs.CallLimits.{if_ok, rest_driven, rest_starts, rest_stopped}
use Rattle.cu_top.proofs.PlanLemmas.{meant}
use Rattle.cu_top.proofs.ReopenLemmas.{ResumeLaws, opens, reopened, record_in, rest_refused, resume_ended, names_later}
use Rattle.cu_top.specs.Prepare.{job_plan, keys_of, out_metadata}
use Rattle.cu_top.specs.Record.{record_text}
use Rattle.cu_top.specs.Resume.{ResumeEnded}
use Rattle.cu_top.specs.Run.{scene, case, plan_in}
use Rattle.cu_top.specs.declared.report.RunCounts.{RunCounts}
use Rattle.cu_top.proofs.resume.go_on.Goals as goal

pub find_rest-requires-clause-known : goal.find_rest-requires-clause-known
find_rest-requires-clause-known g c =
    let (text, old, found, premise) = c.requires.left in
    let out = stream None 0 in
    record_in (case c.args.options.now text (scene out out old) (scene out out old)) c.args.ready.now.job (g.D.PutStore.shown c.args.depot.now) found premise

pub returns-in-Err : goal.returns-in-Err
returns-in-Err g c = record {
  ended = λ text old source next sink after before found premise asked.
      let options = c.args.options.now in
      let run = case options text (scene source sink old) (scene next after (g.D.PutStore.shown c.find_rest.new.depot)) in
      let job = c.args.ready.now.job in
      let laws : PlanLaws run job = record {
        sound = c.merged_plan_law.ensures.sound job.expr job.types job.inputs.items options found.planned;
        needs = λ j below.
            let most = c.merged_plan_law.ensures.needs job.expr job.types job.inputs.items options j found.planned below in
            let memory = c.merged_plan_law.ensures.memory job.expr job.types job.inputs.items options in
            omega (arith, most, memory);
        names = λ differ. c.merged_plan_law.ensures.names job.expr job.types job.inputs.items options (record_text options job) (out_metadata job) found.planned differ;
        left = c.left_law.ensures;
        meant = meant run job found.planned c.merged_plan_law.ensures.inputs c.merged_plan_law.ensures.output c.merged_plan_law.ensures.equal c.complete_law.ensures.elements;
      } in
      rest_refused run job (g.D.SharedStore.yards_lack c.find_rest.new.depot) (g.D.PutStore.shown c.args.depot.now) c.in-Err.status
      (reopened run job (g.D.PutStore.shown c.args.depot.now) found laws) found.spared c.find_rest.ensures.step c.in-Err.ensures.fault;
  calls = tt;
  starts = tt;
  stopped_calls = rest_stopped c.args.options.now c.args.ready.now.job c.args.ready.now.plan (keys_of c.args.options.now c.args.ready.now.job) (g.D.PutStore.shown c.args.depot.now)
      (g.D.PutStore.shown c.find_rest.new.depot) c.requires.ready.plan_is c.find_rest.ensures.calls c.in-Err.status c.in-Err.ensures.fault;
}

pub drive_plan-requires-clause-apart : goal.drive_plan-requires-clause-apart
drive_plan-requires-clause-apart g c κs within =
    let (text, old, found, premise) = c.requires.left in
    let start = g.D.PutStore.shown c.args.depot.now in
    let now = g.D.PutStore.shown c.find_rest.new.depot in
    let options = c.args.options.now in
    let out = stream None 0 in
    let run = case options text (scene out out old) (scene out out now) in
    let job = c.args.ready.now.job in
    let sound = c.merged_plan_law.ensures.sound job.expr job.types job.inputs.items options found.planned in
    let laws : PlanLaws run job = record {
      sound = sound;
      needs = λ j below.
          let most = c.merged_plan_law.ensures.needs job.expr job.types job.inputs.items options j found.planned below in
          let memory = c.merged_plan_law.ensures.memory job.expr job.types job.inputs.items options in
          omega (arith, most, memory);
      names = λ differ. c.merged_plan_law.ensures.names job.expr job.types job.inputs.items options (record_text options job) (out_metadata job) found.planned differ;
      left = c.left_law.ensures;
      meant = meant run job found.planned c.merged_plan_law.ensures.inputs c.merged_plan_law.ensures.output c.merged_plan_law.ensures.equal c.complete_law.ensures.elements;
    } in
    apart_run run job laws found.own

pub drive_plan-requires-clause-inputs : goal.drive_plan-requires-clause-inputs
drive_plan-requires-clause-inputs g c κs within =
    let (text, old, found, premise) = c.requires.left in
    let start = g.D.PutStore.shown c.args.depot.now in
    let now = g.D.PutStore.shown c.find_rest.new.depot in
    let options = c.args.options.now in
    let out = stream None 0 in
    let run = case options text (scene out out old) (scene out out now) in
    let job = c.args.ready.now.job in
    let sound = c.merged_plan_law.ensures.sound job.expr job.types job.inputs.items options found.planned in
    let laws : PlanLaws run job = record {
      sound = sound;
      needs = λ j below.
          let most = c.merged_plan_law.ensures.needs job.expr job.types job.inputs.items options j found.planned below in
          let memory = c.merged_plan_law.ensures.memory job.expr job.types job.inputs.items options in
          omega (arith, most, memory);
      names = λ differ. c.merged_plan_law.ensures.names job.expr job.types job.inputs.items options (record_text options job) (out_metadata job) found.planned differ;
      left = c.left_law.ensures;
      meant = meant run job found.planned c.merged_plan_law.ensures.inputs c.merged_plan_law.ensures.output c.merged_plan_law.ensures.equal c.complete_law.ensures.elements;
    } in
    apart_inputs run job laws found.own

pub drive_plan-requires-clause-open : goal.drive_plan-requires-clause-open
drive_plan-requires-clause-open g c κs within =
    let (text, old, found, premise) = c.requires.left in
    let start = g.D.PutStore.shown c.args.depot.now in
    let now = g.D.PutStore.shown c.find_rest.new.depot in
    let options = c.args.options.now in
    let out = stream None 0 in
    let run = case options text (scene out out old) (scene out out now) in
    let job = c.args.ready.now.job in
    let sound = c.merged_plan_law.ensures.sound job.expr job.types job.inputs.items options found.planned in
    let laws : PlanLaws run job = record {
      sound = sound;
      needs = λ j below.
          let most = c.merged_plan_law.ensures.needs job.expr job.types job.inputs.items options j found.planned below in
          let memory = c.merged_plan_law.ensures.memory job.expr job.types job.inputs.items options in
          omega (arith, most, memory);
      names = λ differ. c.merged_plan_law.ensures.names job.expr job.types job.inputs.items options (record_text options job) (out_metadata job) found.planned differ;
      left = c.left_law.ensures;
      meant = meant run job found.planned c.merged_plan_law.ensures.inputs c.merged_plan_law.ensures.output c.merged_plan_law.ensures.equal c.complete_law.ensures.elements;
    } in
    open_start run job laws now (stepped_then found.spared c.find_rest.ensures.step) (opens run job start found premise)

pub returns : goal.returns
returns g c = record {
  ended = λ text old source next sink after before found premise asked.
      let start = g.D.PutStore.shown c.args.depot.now in
      let now = g.D.PutStore.shown c.find_rest.new.depot in
      let new = g.D.PutStore.shown c.drive_plan.new.depot in
      let lack = g.D.SharedStore.yards_lack c.drive_plan.new.depot in
      let options = c.args.options.now in
      let run = case options text (scene source sink old) (scene next after new) in
      let job = c.args.ready.now.job in
      let sound = c.merged_plan_law.ensures.sound job.expr job.types job.inputs.items options found.planned in
      let laws : PlanLaws run job = record {
        sound = sound;
        needs = λ j below.
            let most = c.merged_plan_law.ensures.needs job.expr job.types job.inputs.items options j found.planned below in
            let memory = c.merged_plan_law.ensures.memory job.expr job.types job.inputs.items options in
            omega (arith, most, memory);
        names = λ differ. c.merged_plan_law.ensures.names job.expr job.types job.inputs.items options (record_text options job) (out_metadata job) found.planned differ;
        left = c.left_law.ensures;
        meant = meant run job found.planned c.merged_plan_law.ensures.inputs c.merged_plan_law.ensures.output c.merged_plan_law.ensures.equal c.complete_law.ensures.elements;
      } in
      let histories : HistoryLaws = record {
        task = c.broken_law.ensures.task;
        exactly = λ s done history m op task legal is ended. (c.broken_law.ensures.exactly s done history m op task legal is).0 ended;
        undone = λ s done history m op task legal ended. (c.broken_law.ensures.undone s done history m op task legal ended).0;
      } in
      let goes : ResumeLaws = record {
        stays = c.resume_law.ensures.stays;
        opened = c.resume_law.ensures.opened;
        unstarted = c.resume_law.ensures.unstarted;
        remains = c.done_law.ensures.stays;
        undone = λ s done history m op task legal ended. (c.broken_law.ensures.undone s done history m op task legal ended).1;
      } in
      let spared = stepped_then found.spared c.find_rest.ensures.step in
      let done = c.in-Ok.rest.memory.table.done in
      let back = reopened run job start found laws in
      let (result, driven, answer) = c.drive_plan.ensures.driven in
      let once = once_then before (1 + length (plan_keys (job_plan options job) (length (job_plan options job).ops))) old start now asked
      (subst (λ (p : PlanView). OnceEach (1 + length (plan_keys p (length p.ops))) start now) c.requires.ready.plan_is c.find_rest.ensures.once) in
      subst (λ (keys : ℕ). ResumeEnded lack run job keys c.drive_plan.result) (omega arith)
      (subst (λ (r : Result RunCounts Status). ResumeEnded lack run job (before + (1 + length (plan_keys (job_plan options job) (length (job_plan options job).ops))) + 2) r) (sym answer)
      (resume_ended run job laws now spared back (opens run job start found premise) c.in-Ok.rest.held c.in-Ok.ensures.has done lack goes histories
      (before + (1 + length (plan_keys (job_plan options job) (length (job_plan options job).ops)))) once c.in-Ok.ensures.texts c.in-Ok.ensures.found
      (names_later (plan_in run job) old start done found.spared c.in-Ok.ensures.named) result driven));
  calls = if_ok c.drive_plan.result
      (λ counts. rest_driven c.args.options.now c.args.ready.now.job c.args.ready.now.plan (g.D.PutStore.shown c.args.depot.now) (g.D.PutStore.shown c.find_rest.new.depot) (g.D.PutStore.shown c.drive_plan.new.depot)
      c.requires.ready.plan_is c.find_rest.ensures.calls c.in-Ok.rest.held c.in-Ok.ensures.has Done) c.drive_plan.ensures.calls;
  starts = if_ok c.drive_plan.result
      (λ counts. rest_starts c.args.options.now c.args.ready.now.job c.args.ready.now.plan counts (g.D.PutStore.shown c.args.depot.now) (g.D.PutStore.shown c.find_rest.new.depot)
      (g.D.PutStore.shown c.drive_plan.new.depot) c.requires.ready.plan_is c.find_rest.ensures.calls c.in-Ok.rest.held c.in-Ok.ensures.has) c.drive_plan.ensures.starts;
  stopped_calls = if_err c.drive_plan.result
      (rest_driven c.args.options.now c.args.ready.now.job c.args.ready.now.plan (g.D.PutStore.shown c.args.depot.now) (g.D.PutStore.shown c.find_rest.new.depot) (g.D.PutStore.shown c.drive_plan.new.depot)
      c.requires.ready.plan_is c.find_rest.ensures.calls c.in-Ok.rest.held c.in-Ok.ensures.has) c.drive_plan.ensures.stopped_calls;
}

use Rattle.std.proofs.Common.{◌≡◌, ◌∙◌, ap, subst, sym}
use Rattle.cu_op.specs.PlanView.{PlanView}
use Rattle.cu_run_law.specs.Pieces.{PlanRun, KeysApart, InputsApart}
use Rattle.cu_store.specs.Steps.{Shown}
use Rattle.cu_table.specs.Table.{TableView}
use Rattle.cu_work.specs.Run.{run_of as work_run}
use Rattle.cu_work.specs.Shared.{IsOpen, opened_table}
use Rattle.cu_work.specs.declared.options.RunOptions.{RunOptions}
use Rattle.cu_work.specs.declared.run.Texts.{Texts}
use Rattle.cu_top.proofs.DriveCalls.{RunMakes, any_ok, drive_all, drive_starts, drive_stopped}
use Rattle.cu_top.proofs.DriveLemmas.{RunTold, all_told, of_ops, same_run, texts_held}
use Rattle.cu_top.specs.Driven.{AreHeld, WasDriven, drive_case, run_options}
use Rattle.cu_top.proofs.drive.drive_plan.Goals as goal

pub run_plan-ended-requires-clause-apart : goal.run_plan-ended-requires-clause-apart
run_plan-ended-requires-clause-apart g c κs within =
    let options = c.args.options.now in
    let job = c.args.ready.now.job in
    let texts : Texts = record { record_key = c.text_keys-keys.result.record; «record» = c.deref.result; metadata_key = c.text_keys-keys.result.metadata; metadata = c.deref-2.result } in
    let same = same_run options job c.args.ready.now.plan texts c.requires.ready.plan_is c.text_keys-keys.ensures.record (rw c.deref.ensures.value c.requires.ready.record_is) c.text_keys-keys.ensures.metadata
    (rw c.deref-2.ensures.value c.requires.ready.metadata_is) in
    subst KeysApart (sym same) c.requires.apart

pub run_plan-ended-requires-clause-inputs : goal.run_plan-ended-requires-clause-inputs
run_plan-ended-requires-clause-inputs g c κs within =
    let options = c.args.options.now in
    let job = c.args.ready.now.job in
    let texts : Texts = record { record_key = c.text_keys-keys.result.record; «record» = c.deref.result; metadata_key = c.text_keys-keys.result.metadata; metadata = c.deref-2.result } in
    let same = same_run options job c.args.ready.now.plan texts c.requires.ready.plan_is c.text_keys-keys.ensures.record (rw c.deref.ensures.value c.requires.ready.record_is) c.text_keys-keys.ensures.metadata
    (rw c.deref-2.ensures.value c.requires.ready.metadata_is) in
    subst InputsApart (sym same) c.requires.inputs

pub run_plan-ended-requires-clause-open : goal.run_plan-ended-requires-clause-open
run_plan-ended-requires-clause-open g c κs within =
    let options = c.args.options.now in
    let job = c.args.ready.now.job in
    let texts : Texts = record { record_key = c.text_keys-keys.result.record; «record» = c.deref.result; metadata_key = c.text_keys-keys.result.metadata; metadata = c.deref-2.result } in
    let same = same_run options job c.args.ready.now.plan texts c.requires.ready.plan_is c.text_keys-keys.ensures.record (rw c.deref.ensures.value c.requires.ready.record_is) c.text_keys-keys.ensures.metadata
    (rw c.deref-2.ensures.value c.requires.ready.metadata_is) in
    subst (λ (r : PlanRun). IsOpen r (g.D.PutStore.shown c.args.depot.now)) (sym same) c.requires.open

pub run_plan-ended-requires-clause-held : goal.run_plan-ended-requires-clause-held
run_plan-ended-requires-clause-held g c κs within =
    let options = c.args.options.now in
    let job = c.args.ready.now.job in
    let texts : Texts = record { record_key = c.text_keys-keys.result.record; «record» = c.deref.result; metadata_key = c.text_keys-keys.result.metadata; metadata = c.deref-2.result } in
    let same = same_run options job c.args.ready.now.plan texts c.requires.ready.plan_is c.text_keys-keys.ensures.record (rw c.deref.ensures.value c.requires.ready.record_is) c.text_keys-keys.ensures.metadata
    (rw c.deref-2.ensures.value c.requires.ready.metadata_is) in
    texts_held c.args.held c.args.ready.now.plan texts (g.D.PutStore.shown c.args.depot.now).held (subst (λ (r : PlanRun). AreHeld c.args.held r (g.D.PutStore.shown c.args.depot.now).held) (sym same) c.requires.held)

pub drive_answer-requires : goal.drive_answer-requires
drive_answer-requires g c =
    of_ops c.broken_law.ensures.task c.args.ready.now.plan c.args.memory.table (g.D.PutStore.shown c.args.depot.now) (g.D.PutStore.shown c.run_plan-ended.new.depot) c.run_plan-ended.result
    (ap (λ (t : TableView). t.settings.plan) c.requires.memory.table ∙ sym c.requires.ready.plan_is) c.run_plan-ended.ensures.driven

pub returns-clause-driven : goal.returns-clause-driven
returns-clause-driven g c =
    let options = c.args.options.now in
    let job = c.args.ready.now.job in
    let texts : Texts = record { record_key = c.text_keys-keys.result.record; «record» = c.deref.result; metadata_key = c.text_keys-keys.result.metadata; metadata = c.deref-2.result } in
    let same = same_run options job c.args.ready.now.plan texts c.requires.ready.plan_is c.text_keys-keys.ensures.record (rw c.deref.ensures.value c.requires.ready.record_is) c.text_keys-keys.ensures.metadata
    (rw c.deref-2.ensures.value c.requires.ready.metadata_is) in
    let p = c.args.ready.now.plan in
    let done = c.args.memory.table.done in
    let how = c.run_options-how.result in
    let lack = g.D.SharedStore.yards_lack c.run_plan-ended.new.depot in
    let shown : Shown × Shown = (g.D.PutStore.shown c.args.depot.now, g.D.PutStore.shown c.run_plan-ended.new.depot) in
    let result = c.run_plan-ended.result in
    let driven = drive_case options (work_run p texts) c.args.held done lack shown in
    let opened : c.args.memory.table ≡ opened_table p (run_options options) done =
    c.requires.memory.table ∙ ap (λ (q : PlanView). opened_table q (run_options options) done) (sym c.requires.ready.plan_is) in
    let told : RunTold how c.args.memory.table texts driven result = record {
      step = c.run_plan-ended.ensures.step;
      texts = c.run_plan-ended.ensures.texts;
      first = c.run_plan-ended.ensures.«record»;
      unstored = c.run_plan-ended.ensures.unstored;
      refused = c.run_plan-ended.ensures.refused;
      cause = c.run_plan-ended.ensures.cause;
      driven = c.run_plan-ended.ensures.driven;
      workers = c.run_plan-ended.ensures.workers;
      counts = c.run_plan-ended.ensures.counts;
      once = c.run_plan-ended.ensures.once;
      done = c.run_plan-ended.ensures.done;
      complete = c.run_plan-ended.ensures.complete;
      bad = c.run_plan-ended.ensures.bad;
      input = c.run_plan-ended.ensures.input;
      lacked = c.run_plan-ended.ensures.lacked;
    } in
    let so = subst (λ (h : RunOptions). RunTold h (opened_table p (run_options options) done) texts driven result) c.run_options-how.ensures
    (subst (λ (t : TableView). RunTold how t texts driven result) opened told) in
    let was : WasDriven driven c.drive_answer.result = (result, all_told options p texts c.args.held done lack shown result so, c.drive_answer.ensures) in
    subst (λ (r : PlanRun). WasDriven (drive_case options r c.args.held done lack shown) c.drive_answer.result) same was

pub returns-clause-calls : goal.returns-clause-calls
returns-clause-calls g c =
    let o = c.args.options.now in
    let job = c.args.ready.now.job in
    let p = c.args.ready.now.plan in
    let old = g.D.PutStore.shown c.args.depot.now in
    let new = g.D.PutStore.shown c.run_plan-ended.new.depot in
    let made : RunMakes c.run_options-how.result p c.args.held old new c.run_plan-ended.result = record { begun = c.run_plan-ended.ensures.begun; all = c.run_plan-ended.ensures.calls; starts = c.run_plan-ended.ensures.tries } in
    any_ok c.drive_answer.result _ (drive_all o job c.args.held old new c.run_options-how.result p c.run_plan-ended.result c.run_options-how.ensures c.requires.ready.plan_is made)

pub returns-clause-stopped_calls : goal.returns-clause-stopped_calls
returns-clause-stopped_calls g c =
    let o = c.args.options.now in
    let job = c.args.ready.now.job in
    let p = c.args.ready.now.plan in
    let old = g.D.PutStore.shown c.args.depot.now in
    let new = g.D.PutStore.shown c.run_plan-ended.new.depot in
    let made : RunMakes c.run_options-how.result p c.args.held old new c.run_plan-ended.result = record { begun = c.run_plan-ended.ensures.begun; all = c.run_plan-ended.ensures.calls; starts = c.run_plan-ended.ensures.tries } in
    drive_stopped o job c.args.held old new c.run_options-how.result p _ c.run_plan-ended.result c.drive_answer.result c.run_options-how.ensures c.requires.ready.plan_is c.drive_answer.ensures made

pub returns-clause-starts : goal.returns-clause-starts
returns-clause-starts g c =
    let o = c.args.options.now in
    let job = c.args.ready.now.job in
    let p = c.args.ready.now.plan in
    let old = g.D.PutStore.shown c.args.depot.now in
    let new = g.D.PutStore.shown c.run_plan-ended.new.depot in
    let made : RunMakes c.run_options-how.result p c.args.held old new c.run_plan-ended.result = record { begun = c.run_plan-ended.ensures.begun; all = c.run_plan-ended.ensures.calls; starts = c.run_plan-ended.ensures.tries } in
    drive_starts o job c.args.held old new c.run_options-how.result p _ c.run_plan-ended.result c.drive_answer.result c.run_options-how.ensures c.requires.ready.plan_is c.drive_answer.ensures made

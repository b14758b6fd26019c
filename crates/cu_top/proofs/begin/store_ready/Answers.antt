use Rattle.std.proofs.Common.{◌≡◌, ◌∙◌, ◌+◌, Ok, Err, refl, subst, sym, arith}
use Rattle.cu_command.specs.declared.status.Status.{Status}
use Rattle.cu_work.specs.declared.run.Texts.{Texts}
use Rattle.cu_top.proofs.BeginLemmas.{begun_stored, begun_unput, texts_told, texts_stop}
use Rattle.cu_top.proofs.DriveLemmas.{PlanLaws, same_run}
use Rattle.cu_top.proofs.PlanLemmas.{meant}
use Rattle.cu_top.specs.Begin.{IsTextsAnswer, TextsEnded}
use Rattle.cu_top.specs.Prepare.{out_metadata}
use Rattle.cu_top.specs.Record.{record_text}
use Rattle.cu_top.specs.Run.{scene, case, job_run}
use Rattle.cu_top.proofs.begin.store_ready.Goals as goal

pub returns-in-Ok-clause-ended : goal.returns-in-Ok-clause-ended
returns-in-Ok-clause-ended g c = λ text old source next sink after cleared.
    let start = g.D.PutStore.shown c.args.depot.now in
    let now = g.D.PutStore.shown c.store_texts.new.depot in
    let options = c.args.options.now in
    let ready = c.args.ready.now in
    let job = ready.job in
    let run = case options text (scene source sink old) (scene next after now) in
    let sound = c.merged_plan_law.ensures.sound job.expr job.types job.inputs.items options c.requires.planned in
    let laws : PlanLaws run job = record {
      sound = sound;
      needs = λ j below.
          let most = c.merged_plan_law.ensures.needs job.expr job.types job.inputs.items options j c.requires.planned below in
          let memory = c.merged_plan_law.ensures.memory job.expr job.types job.inputs.items options in
          omega (arith, most, memory);
      names = λ differ. c.merged_plan_law.ensures.names job.expr job.types job.inputs.items options (record_text options job) (out_metadata job) c.requires.planned differ;
      left = c.left_law.ensures;
      meant = meant run job c.requires.planned c.merged_plan_law.ensures.inputs c.merged_plan_law.ensures.output c.merged_plan_law.ensures.equal c.complete_law.ensures.elements;
    } in
    let texts : Texts = record { record_key = c.text_keys-keys.result.record; «record» = c.deref.result; metadata_key = c.text_keys-keys.result.metadata; metadata = c.deref-2.result } in
    let same = same_run options job ready.plan texts c.requires.ready.plan_is c.text_keys-keys.ensures.record (c.deref.ensures.value ∙ c.requires.ready.record_is) c.text_keys-keys.ensures.metadata
    (c.deref-2.ensures.value ∙ c.requires.ready.metadata_is) in
    let told = texts_told ready.plan texts (job_run run job) (options.retries + 1) start now (Ok tt) same c.store_texts.ensures.step c.store_texts.ensures.own c.in-Ok.ensures.stored c.in-Ok.ensures.unstored
    c.in-Ok.ensures.cause in
    begun_stored run job laws start cleared c.requires.options.retries (Ok tt) told refl

pub returns-in-Err-clause-ended : goal.returns-in-Err-clause-ended
returns-in-Err-clause-ended g c = λ text old source next sink after cleared.
    let start = g.D.PutStore.shown c.args.depot.now in
    let now = g.D.PutStore.shown c.store_texts.new.depot in
    let options = c.args.options.now in
    let ready = c.args.ready.now in
    let job = ready.job in
    let run = case options text (scene source sink old) (scene next after now) in
    let sound = c.merged_plan_law.ensures.sound job.expr job.types job.inputs.items options c.requires.planned in
    let laws : PlanLaws run job = record {
      sound = sound;
      needs = λ j below.
          let most = c.merged_plan_law.ensures.needs job.expr job.types job.inputs.items options j c.requires.planned below in
          let memory = c.merged_plan_law.ensures.memory job.expr job.types job.inputs.items options in
          omega (arith, most, memory);
      names = λ differ. c.merged_plan_law.ensures.names job.expr job.types job.inputs.items options (record_text options job) (out_metadata job) c.requires.planned differ;
      left = c.left_law.ensures;
      meant = meant run job c.requires.planned c.merged_plan_law.ensures.inputs c.merged_plan_law.ensures.output c.merged_plan_law.ensures.equal c.complete_law.ensures.elements;
    } in
    let texts : Texts = record { record_key = c.text_keys-keys.result.record; «record» = c.deref.result; metadata_key = c.text_keys-keys.result.metadata; metadata = c.deref-2.result } in
    let same = same_run options job ready.plan texts c.requires.ready.plan_is c.text_keys-keys.ensures.record (c.deref.ensures.value ∙ c.requires.ready.record_is) c.text_keys-keys.ensures.metadata
    (c.deref-2.ensures.value ∙ c.requires.ready.metadata_is) in
    let told = texts_told ready.plan texts (job_run run job) (options.retries + 1) start now (Err c.in-Err.fault) same c.store_texts.ensures.step c.store_texts.ensures.own c.in-Err.ensures.stored c.in-Err.ensures.unstored
    c.in-Err.ensures.cause in
    subst (λ (s : Status). TextsEnded run job (Err s)) (sym c.text_answer.ensures)
    (begun_unput run job laws start cleared c.requires.options.retries (Err c.in-Err.fault) told c.in-Err.fault refl)

pub returns-in-Err-clause-stopped : goal.returns-in-Err-clause-stopped
returns-in-Err-clause-stopped g c = subst IsTextsAnswer (sym c.text_answer.ensures) (texts_stop c.in-Err.fault)

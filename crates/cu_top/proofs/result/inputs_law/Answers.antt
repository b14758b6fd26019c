use Rattle.cu_command.proofs.SeenLemmas.{stepped_then}
use Rattle.cu_top.proofs.KeptLemmas.{KeyLaws, begin_leaves, drop_leaves, part_leaves, resume_leaves, run_leaves, still_held, still_settled}
use Rattle.cu_top.proofs.KeptResult.{went_on}
use Rattle.cu_top.proofs.ResultLemmas.{TextLaws}
use Rattle.cu_top.proofs.result.inputs_law.Goals as goal

pub returns : goal.returns
returns c =
    let texts : TextLaws = record {
      back = c.meta_law.ensures.read_back;
      accepted = c.meta_law.ensures.accepted;
      zarray = c.v2_law.ensures.form;
      form = c.form_law.ensures;
    } in
    let laws : KeyLaws = record {
      form = c.form_law.ensures;
      sound = c.merged_plan_law.ensures.sound;
      names = c.merged_plan_law.ensures.names;
      others = c.names_law.ensures.others;
    } in
    record {
      runs = λ lack o old new text status answered has. run_leaves laws o old new text has lack status answered.answers;
      begins = λ o old new text status answered has. begin_leaves laws o old new text has status answered.answers;
      parts = λ o q old new text status answered has. part_leaves laws o old new text has q status answered.answers;
      resumes = λ lack o old new text status answered has. resume_leaves laws o old new text has lack status answered.answers;
      drops = λ o old new text status answered has. drop_leaves laws o old new text has status answered.answers;
      together = λ text a b k first second. stepped_then first second;
      held = λ text key a b entry now leaves settled told told_now input. still_held text a b leaves settled entry now told told_now key input;
      settled = λ text a b leaves settled. still_settled text a b leaves settled;
      resumed = λ lack o old new text first entry now leaves settled told has told_now answered.
          went_on texts lack o old new text first entry now leaves settled told has told_now answered;
    }

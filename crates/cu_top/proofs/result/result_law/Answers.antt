use Rattle.cu_top.proofs.ResultLemmas.{TextLaws, check_result, resume_result, run_result}
use Rattle.cu_top.proofs.result.result_law.Goals as goal

pub returns : goal.returns
returns c =
    let laws : TextLaws = record {
      back = c.meta_law.ensures.read_back;
      accepted = c.meta_law.ensures.accepted;
      zarray = c.v2_law.ensures.form;
      form = c.form_law.ensures;
    } in
    record { run = run_result laws; resume = resume_result laws; check = check_result laws }

use Rattle.cu_top.proofs.LawLemmas.{run_is_command, begin_is_command, part_is_command, resume_is_command, drop_is_command, spared_command}
use Rattle.cu_top.proofs.laws.list_law.Goals as goal

pub returns : goal.returns
returns c = record {
  runs = λ lack k status ran. run_is_command k lack status ran;
  begins = λ k status was. begin_is_command k status was;
  parts = λ k q status was. part_is_command k q status was;
  resumes = λ lack k status was. resume_is_command k lack status was;
  drops = λ k status was. drop_is_command k status was;
  spares = λ r k spared. spared_command r k spared;
  all = c.commands_law.ensures.all;
}

use Rattle.cu_top.proofs.AnsweredLemmas.{begin_answers, part_answers, run_answers, resume_answers, drop_answers, plan_answers, load_answers, check_answers, print_answers, demo_answers}
use Rattle.cu_top.proofs.ResultTold.{at_done, either}
use Rattle.cu_top.proofs.ToldLemmas.{answer_to, words_refused}
use Rattle.cu_top.specs.Answered.{CheckAnswered, ResumeAnswered, RunAnswered}
use Rattle.cu_top.specs.Words.{run, resume, drop, plan, load, check, print, demo, begin, part}
use Rattle.cu_top.proofs.call.top.Goals as goal

pub returns : goal.returns
returns g c = record {
  unknown = c.carry.ensures.unknown;
  words = words_refused c.carry.ensures;
  computed = λ o text entry now asked start told is. either
      (λ this. c.result_law.ensures.run _ o _ _ text entry now
      (at_done (RunAnswered _ o _ _) is (run_answers (answer_to c.carry.ensures (run o) this)))
      start told)
      (λ this. c.result_law.ensures.resume _ o _ _ text entry now
      (at_done (ResumeAnswered _ o _ _) is (resume_answers (answer_to c.carry.ensures (resume o) this)))
      start told)
      asked;
  checked = λ retries text entry asked start is. c.result_law.ensures.check retries _ _ text entry
      (at_done (CheckAnswered retries _ _) is (check_answers (answer_to c.carry.ensures (check retries) asked)))
      start;
  run = λ o is. run_answers (answer_to c.carry.ensures (run o) is);
  resume = λ o is. resume_answers (answer_to c.carry.ensures (resume o) is);
  drop = λ o is. drop_answers (answer_to c.carry.ensures (drop o) is);
  plan = λ o is. plan_answers (answer_to c.carry.ensures (plan o) is);
  load = λ retries is. load_answers (answer_to c.carry.ensures (load retries) is);
  check = λ retries is. check_answers (answer_to c.carry.ensures (check retries) is);
  print = λ name retries is. print_answers (answer_to c.carry.ensures (print name retries) is);
  begin = λ o is. begin_answers (answer_to c.carry.ensures (begin o) is);
  part = λ o q is. part_answers (answer_to c.carry.ensures (part o q) is);
  demo = λ size o is. demo_answers (answer_to c.carry.ensures (demo size o) is);
}

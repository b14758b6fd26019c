use Rattle.cu_run_law.proofs.Reading.{all_held, elements_held, elements_made, out_stored}
use Rattle.cu_run_law.proofs.laws.complete_law.Goals as goal

pub returns : goal.returns
returns c = record {
  done = all_held;
  elements = λ r env shown a idx left. elements_held c.range_law.ensures.values r env shown a idx left;
  made = λ r env shown a idx left. elements_made c.range_law.ensures.values r env shown a idx left;
  out = out_stored;
}

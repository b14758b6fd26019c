use Rattle.cu_run_law.proofs.Alike.{values_alike, chunks_alike}
use Rattle.cu_run_law.proofs.laws.alike_law.Goals as goal

pub returns : goal.returns
returns c = record {
  values = λ p env other a idx sound agree. values_alike p env other sound agree a idx;
  chunks = λ p env other c sound agree. chunks_alike p env other sound agree c;
}

use Rattle.cu_store.proofs.Steps.{steps_then}
use Rattle.cu_run_law.proofs.Keeping.{left_kept, piece_stays, begun_since, left_alone, change_alone}
use Rattle.cu_run_law.proofs.laws.begun_law.Goals as goal

pub returns : goal.returns
returns c = record {
  kept = λ r env l m old new left step. left_kept r env old left l m new step;
  stays = λ r env l m old new q left step. piece_stays r env old left l m new step q;
  together = λ r env l m n k a b d first second. steps_then first second;
  since = λ r env l m old new left step. begun_since r env old left l m new step;
  alone = left_alone;
  wider = change_alone;
}

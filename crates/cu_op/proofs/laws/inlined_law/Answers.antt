use Rattle.cu_op.proofs.Fetched.{alike_inlined, fetched_ready, inlined_rule, inlined_values}
use Rattle.cu_op.proofs.Values.{inlined_kept}
use Rattle.cu_op.proofs.laws.inlined_law.Goals as goal

pub returns : goal.returns
returns c = record {
  stored = λ p at a idx s stored. inlined_kept p at a idx s stored;
  made = λ p at a k idx s. inlined_rule p s at a k idx;
  values = λ p env a idx s. inlined_values p s env a idx;
  alike = λ p k task array a coord idx i at other s. alike_inlined p s at other k task array a coord idx i;
  ready = λ p k task env held s. fetched_ready p s k task env held;
}

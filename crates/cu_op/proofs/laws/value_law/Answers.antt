use Rattle.cu_op.proofs.Values.{value_solves, rule_reads}
use Rattle.cu_op.proofs.laws.value_law.Goals as goal

pub returns : goal.returns
returns c = record {
  solves = value_solves;
  reads = rule_reads;
}

use Rattle.cu_op.proofs.Depths.{ordered}
use Rattle.cu_op.proofs.Projections.{inner_projection, same_projection}
use Rattle.cu_op.proofs.laws.projection_law.Goals as goal

pub returns : goal.returns
returns c = record {
  alike = λ p q k arrays ops. same_projection p q arrays ops k;
  inner = inner_projection;
  ordered = ordered;
}

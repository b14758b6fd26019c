use Rattle.cu_need.proofs.TypedNodes.{typed_within}
use Rattle.cu_need.proofs.laws.typed_law.Goals as goal

pub returns : goal.returns
returns c = λ e infos arrays typed. record {
  arrays = arrays;
  nodes = λ k node at. typed_within infos (λ n. c.info_law.ensures.kept infos n arrays) e.out k node.form (typed k node at);
}

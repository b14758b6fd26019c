use Rattle.cu_tree.proofs.Orders.{of_reduction, of_product}
use Rattle.cu_tree.proofs.laws.merges_law.Goals as goal

pub returns-clause-reduction : goal.returns-clause-reduction
returns-clause-reduction c = of_reduction

pub returns-clause-product : goal.returns-clause-product
returns-clause-product c = of_product

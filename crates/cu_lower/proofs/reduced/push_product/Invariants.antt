use Rattle.std.proofs.Common.{◌≡◌, ◌++◌, drop}
use Rattle.cu_lower_reduce.specs.Products.{product_steps}
use Rattle.cu_lower.proofs.reduced.push_product.Given as goal

abbrev pub invariant-loop-at : goal.invariant-loop-at
invariant-loop-at l = l.steps.items ++ drop l.at (product_steps l.s l.x) ≡ l.initial.steps.items ++ product_steps l.s l.x

use Rattle.std.proofs.Common.{ℕ, sym, ◌∙◌, ap, subst}
use Rattle.cu_lower_reduce.specs.Steps.{HasInfo}
use Rattle.cu_lower_reduce.specs.Products.{product_steps}
use Rattle.cu_lower_reduce.proofs.Lasts.{last_is}
use Rattle.cu_lower_reduce.proofs.Outlined.{product_comes}
use Rattle.cu_lower_reduce.proofs.Multiplied.{product_holds, product_last, product_number}
use Rattle.cu_lower_reduce.proofs.ProductValues.{product_value}
use Rattle.cu_lower_reduce.proofs.laws.product_law.Goals as goal

pub returns-clause-steps : goal.returns-clause-steps
returns-clause-steps c = product_holds

pub returns-clause-last : goal.returns-clause-last
returns-clause-last c = λ arrays s x o. subst (λ (a : ℕ). HasInfo arrays a x.made) (last_is s.first (product_steps s x) (product_number s x)) (product_last arrays s x o)

pub returns-clause-sizes : goal.returns-clause-sizes
returns-clause-sizes c = product_comes

pub returns-clause-value : goal.returns-clause-value
returns-clause-value c =
    λ arrays at s x k h l r o solve idx b.
    ap (λ (a : ℕ). at a idx) (sym (last_is s.first (product_steps s x) (product_number s x))) ∙ product_value arrays at s x k h l r o solve idx b

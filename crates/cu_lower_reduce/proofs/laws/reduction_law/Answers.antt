use Rattle.std.proofs.Common.{ℕ, sym, ◌∙◌, ap, subst}
use Rattle.cu_lower_reduce.specs.Steps.{HasInfo}
use Rattle.cu_lower_reduce.specs.Reductions.{reduction_steps}
use Rattle.cu_lower_reduce.proofs.Outlined.{reduction_comes}
use Rattle.cu_lower_reduce.proofs.Folds.{reduction_holds, reduction_last, reduction_number}
use Rattle.cu_lower_reduce.proofs.KindValues.{reduction_value}
use Rattle.cu_lower_reduce.proofs.Lasts.{last_is}
use Rattle.cu_lower_reduce.proofs.laws.reduction_law.Goals as goal

pub returns-clause-steps : goal.returns-clause-steps
returns-clause-steps c = reduction_holds

pub returns-clause-last : goal.returns-clause-last
returns-clause-last c = λ arrays s x o. subst (λ (a : ℕ). HasInfo arrays a x.made) (last_is s.first (reduction_steps s x) (reduction_number s x)) (reduction_last arrays s x o)

pub returns-clause-sizes : goal.returns-clause-sizes
returns-clause-sizes c = reduction_comes

pub returns-clause-value : goal.returns-clause-value
returns-clause-value c =
    λ arrays at s x k h i o solve ranges idx b.
    ap (λ (a : ℕ). at a idx) (sym (last_is s.first (reduction_steps s x) (reduction_number s x))) ∙ reduction_value arrays at s x k h i o solve ranges idx b

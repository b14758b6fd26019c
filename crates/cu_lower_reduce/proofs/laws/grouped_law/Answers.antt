use Rattle.std.proofs.Common.{ℕ, sym, ◌∙◌, ap, subst}
use Rattle.cu_lower_reduce.specs.Steps.{HasInfo}
use Rattle.cu_lower_reduce.specs.Grouped.{grouped_steps}
use Rattle.cu_lower_reduce.proofs.Lasts.{last_is}
use Rattle.cu_lower_reduce.proofs.Outlined.{grouped_comes}
use Rattle.cu_lower_reduce.proofs.GroupSteps.{grouped_holds, grouped_last, grouped_number}
use Rattle.cu_lower_reduce.proofs.GroupValues.{grouped_value}
use Rattle.cu_lower_reduce.proofs.laws.grouped_law.Goals as goal

pub returns-clause-steps : goal.returns-clause-steps
returns-clause-steps c = grouped_holds

pub returns-clause-last : goal.returns-clause-last
returns-clause-last c = λ arrays s x o. subst (λ (a : ℕ). HasInfo arrays a x.made) (last_is s.first (grouped_steps s x) (grouped_number s x)) (grouped_last arrays s x o)

pub returns-clause-sizes : goal.returns-clause-sizes
returns-clause-sizes c = grouped_comes

pub returns-clause-value : goal.returns-clause-value
returns-clause-value c =
    λ arrays at s x k h l r o solve ranges idx b.
    ap (λ (a : ℕ). at a idx) (sym (last_is s.first (grouped_steps s x) (grouped_number s x))) ∙ grouped_value arrays at s x k h l r o solve ranges idx b

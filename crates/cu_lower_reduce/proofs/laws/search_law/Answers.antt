use Rattle.std.proofs.Common.{ℕ, sym, ◌∙◌, ap, subst}
use Rattle.cu_lower_reduce.specs.Steps.{HasInfo}
use Rattle.cu_lower_reduce.specs.Searches.{search_steps}
use Rattle.cu_lower_reduce.proofs.Lasts.{last_is}
use Rattle.cu_lower_reduce.proofs.Searching.{search_holds, search_last, search_number}
use Rattle.cu_lower_reduce.proofs.Outlined.{search_comes}
use Rattle.cu_lower_reduce.proofs.SearchValues.{search_value}
use Rattle.cu_lower_reduce.proofs.laws.search_law.Goals as goal

pub returns-clause-steps : goal.returns-clause-steps
returns-clause-steps c = search_holds

pub returns-clause-last : goal.returns-clause-last
returns-clause-last c = λ arrays s x o. subst (λ (a : ℕ). HasInfo arrays a x.made) (last_is s.first (search_steps s x) (search_number s x)) (search_last arrays s x o)

pub returns-clause-sizes : goal.returns-clause-sizes
returns-clause-sizes c = search_comes

pub returns-clause-value : goal.returns-clause-value
returns-clause-value c =
    λ arrays at s x k h i o solve idx b.
    ap (λ (a : ℕ). at a idx) (sym (last_is s.first (search_steps s x) (search_number s x))) ∙ search_value arrays at s x k h i o solve idx b

-- Truth values as numbers.
use Rattle.std.proofs.Common.{◌≡◌, refl, sym, ap, ◌∙◌, true, false}
use Rattle.std.specs.Prelude.{Bool as Test}
use Rattle.cu_num.specs.Wrap.{wrapped}
use Rattle.cu_num.specs.Scalar.{truth_number}
use Rattle.cu_num.specs.declared.types.Dtype.{Dtype}
use Rattle.cu_num.specs.declared.types.Dtype.TheVariants.{Bool}

truth_bool : (b : Test) → truth_number b ≡ wrapped Bool (truth_number b)
unfolding wrapped
truth_bool true = refl
truth_bool false = refl

pub truth_wrapped : (acc : Dtype) (b : Test) → acc ≡ Bool → truth_number b ≡ wrapped acc (truth_number b)
truth_wrapped acc b e = truth_bool b ∙ ap (λ t. wrapped t (truth_number b)) (sym e)

use Rattle.std.proofs.Common.{◌≡◌, ◌∙◌, ◌||◌, ◌&&◌, ap, sym, subst, rules}
use Rattle.std.specs.Int.{w128}
use Rattle.std.proofs.lemmas.Int.{to_z-of_z}
use Rattle.cu_num.specs.Scalar.{truth_number, is_nonzero}
use Rattle.cu_num.specs.Wrap.{wrapped}
use Rattle.cu_num.specs.declared.types.Dtype.TheVariants.{Bool}
use Rattle.cu_num.specs.declared.folds.FoldKind.{FoldKind}
use Rattle.cu_reduce.specs.Kinds.{Accumulates, combined}
use Rattle.cu_take.proofs.Truths.{truth_wrapped}
use Rattle.cu_take.proofs.steps.joined.Goals as goal

pub returns-in-Any : goal.returns-in-Any
returns-in-Any c =
    let acc = c.args.acc in
    let P : FoldKind → Type 0 = λ k. Accumulates k c.args.from acc in
    let is : acc ≡ Bool = subst P c.in-Any.is c.requires.types in
    to_z-of_z w128 c.either.result (search rules) ∙ c.either.ensures
    ∙ (λ i. truth_number (is_nonzero (to_z-of_z w128 c.args.x c.ranges.x i) || is_nonzero (to_z-of_z w128 c.args.y c.ranges.y i)))
    ∙ truth_wrapped acc (is_nonzero c.args.x || is_nonzero c.args.y) is ∙ ap (λ k. wrapped acc (combined k c.args.x c.args.y)) (sym c.in-Any.is)

pub returns-in-All : goal.returns-in-All
returns-in-All c =
    let acc = c.args.acc in
    let P : FoldKind → Type 0 = λ k. Accumulates k c.args.from acc in
    let is : acc ≡ Bool = subst P c.in-All.is c.requires.types in
    to_z-of_z w128 c.both.result (search rules) ∙ c.both.ensures
    ∙ (λ i. truth_number (is_nonzero (to_z-of_z w128 c.args.x c.ranges.x i) && is_nonzero (to_z-of_z w128 c.args.y c.ranges.y i)))
    ∙ truth_wrapped acc (is_nonzero c.args.x && is_nonzero c.args.y) is ∙ ap (λ k. wrapped acc (combined k c.args.x c.args.y)) (sym c.in-All.is)

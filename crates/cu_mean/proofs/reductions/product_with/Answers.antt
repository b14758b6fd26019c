use Rattle.std.proofs.Common.{ap, ◌∙◌}
use Rattle.std.specs.Int.{w128}
use Rattle.std.proofs.lemmas.Int.{to_z-of_z}
use Rattle.cu_num.specs.Scalar.{op2}
use Rattle.cu_num.specs.Wrap.{wrapped}
use Rattle.cu_num.specs.declared.functions.Fn2.TheVariants.{Multiply}
use Rattle.cu_mean.proofs.Steps.{product_step}
use Rattle.cu_mean.proofs.reductions.product_with.Goals as goal

pub returns : goal.returns
returns c s e =
    let a = to_z-of_z w128 c.wrap-x.result (record { sfits = c.wrap-x.type_inv }) ∙ c.wrap-x.ensures.value ∙ ap (wrapped c.args.t) (to_z-of_z w128 c.args.x c.ranges.x) in
    let b = to_z-of_z w128 c.wrap-rest.result (record { sfits = c.wrap-rest.type_inv }) ∙ c.wrap-rest.ensures.value ∙ ap (wrapped c.args.t) (to_z-of_z w128 c.args.kept c.ranges.kept) in
    to_z-of_z w128 c.scalar2.result (record { sfits = c.scalar2.type_inv })
    ∙ c.scalar2.ensures.value
    ∙ (λ i. op2 Multiply c.args.t (a i) (b i))
    ∙ product_step c.args.t c.args.x c.args.kept c.args.kept s e

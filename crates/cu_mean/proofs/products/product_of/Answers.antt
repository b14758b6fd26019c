use Rattle.std.proofs.Common.{ap, ◌∙◌, sym}
use Rattle.std.specs.Int.{w128}
use Rattle.std.proofs.lemmas.Int.{to_z-of_z}
use Rattle.cu_num.specs.Scalar.{op2}
use Rattle.cu_num.specs.Wrap.{wrapped}
use Rattle.cu_num.specs.declared.functions.Fn2.TheVariants.{Multiply}
use Rattle.cu_num.proofs.Wrapped.{wrapped-mul}
use Rattle.cu_mean.proofs.products.product_of.Goals as goal

pub returns : goal.returns
returns c =
    let a = to_z-of_z w128 c.wrap-first.result (record { sfits = c.wrap-first.type_inv }) ∙ c.wrap-first.ensures.value ∙ ap (wrapped c.args.t) (to_z-of_z w128 c.args.x c.ranges.x) in
    let b = to_z-of_z w128 c.wrap-second.result (record { sfits = c.wrap-second.type_inv }) ∙ c.wrap-second.ensures.value ∙ ap (wrapped c.args.t) (to_z-of_z w128 c.args.y c.ranges.y) in
    to_z-of_z w128 c.scalar2.result (record { sfits = c.scalar2.type_inv })
    ∙ c.scalar2.ensures.value
    ∙ (λ i. op2 Multiply c.args.t (a i) (b i))
    ∙ sym (wrapped-mul c.args.t c.args.x c.args.y)

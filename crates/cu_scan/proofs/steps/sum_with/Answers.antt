use Rattle.std.proofs.Common.{◌≡◌, ◌∙◌, ◌+ℤ◌, ap, rules, to_z, of_z}
use Rattle.std.specs.Int.{w128}
use Rattle.std.proofs.lemmas.Int.{to_z-of_z}
use Rattle.cu_num.specs.Element.{element_at}
use Rattle.cu_num.specs.Wrap.{wrapped}
use Rattle.cu_num.specs.declared.layout.Endian.TheVariants.{Little}
use Rattle.cu_num.specs.declared.folds.FoldKind.TheVariants.{Sum}
use Rattle.cu_reduce.proofs.Folding.{wrapped_second}
use Rattle.cu_scan.proofs.steps.sum_with.Goals as goal

pub returns-clause-value : goal.returns-clause-value
returns-clause-value c =
    let acc = c.args.acc in
    let y = element_at Little c.args.t c.args.input.now c.args.place in
    let next : to_z w128 (of_z w128 c.wrap.result) ≡ wrapped acc y =
    to_z-of_z w128 c.wrap.result (search rules) ∙ c.wrap.ensures.value
    ∙ ap (wrapped acc) (to_z-of_z w128 c.load.result (search rules) ∙ c.load.ensures.value) in
    to_z-of_z w128 c.combine.result (search rules) ∙ c.combine.ensures.value
    ∙ (λ i. wrapped acc (to_z-of_z w128 c.args.sum c.ranges.sum i +ℤ next i))
    ∙ wrapped_second Sum acc acc c.args.sum y c.requires.acc tt tt

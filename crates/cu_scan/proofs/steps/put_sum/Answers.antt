use Rattle.std.proofs.Common.{◌≡◌, ◌∙◌, ◌+ℤ◌, ap, rules, to_z, of_z}
use Rattle.std.specs.Int.{w128}
use Rattle.std.proofs.lemmas.Int.{to_z-of_z}
use Rattle.cu_num.specs.Element.{element_at, bytes_at, element_bytes}
use Rattle.cu_num.specs.Wrap.{wrapped}
use Rattle.cu_num.specs.declared.layout.Endian.TheVariants.{Little}
use Rattle.cu_num.proofs.ElementBytes.{bytes_at-written_at_same, bytes_at-written_at_other, length-element_bytes}
use Rattle.cu_scan.proofs.Buffers.{bytes_wrapped}
use Rattle.cu_scan.proofs.steps.put_sum.Goals as goal

pub returns-clause-number : goal.returns-clause-number
returns-clause-number c =
    let acc = c.args.acc in
    let y = element_at Little c.args.t c.args.input.now c.args.place in
    let next = to_z w128 (of_z w128 c.sum_with-next.result) in
    let is : next ≡ wrapped acc (c.args.sum +ℤ y) =
    to_z-of_z w128 c.sum_with-next.result (search rules) ∙ c.sum_with-next.ensures.value
    ∙ (λ i. wrapped acc (to_z-of_z w128 c.args.sum c.ranges.sum i +ℤ y)) in
    ap (λ all. bytes_at acc all c.args.q) c.save.ensures
    ∙ bytes_at-written_at_same acc c.args.out.now (element_bytes Little acc next) c.args.q
    (length-element_bytes Little acc next) c.requires.out
    ∙ bytes_wrapped acc next (c.args.sum +ℤ y) is

pub returns-clause-others : goal.returns-clause-others
returns-clause-others c p apart =
    let acc = c.args.acc in
    let next = to_z w128 (of_z w128 c.sum_with-next.result) in
    ap (λ all. bytes_at acc all p) c.save.ensures
    ∙ bytes_at-written_at_other acc c.args.out.now
    (element_bytes Little acc next) c.args.q p apart
    (length-element_bytes Little acc next) c.requires.out

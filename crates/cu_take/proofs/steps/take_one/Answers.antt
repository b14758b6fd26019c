use Rattle.std.proofs.Common.{ap, ◌∙◌, rules, to_z, of_z}
use Rattle.std.specs.Int.{w128}
use Rattle.std.proofs.lemmas.Int.{to_z-of_z}
use Rattle.cu_num.specs.Element.{element_at, bytes_at, element_bytes}
use Rattle.cu_num.specs.Wrap.{wrapped}
use Rattle.cu_num.specs.declared.layout.Endian.TheVariants.{Little}
use Rattle.cu_num.proofs.ElementBytes.{bytes_at-written_at_other, length-element_bytes, InRange-element_at}
use Rattle.cu_take.proofs.Taking.{taken_element}
use Rattle.cu_take.proofs.Taking.{takes_one}
use Rattle.cu_take.proofs.steps.take_one.Goals as goal

pub returns-clause-takes : goal.returns-clause-takes
returns-clause-takes c =
    let kind = c.args.kind in
    let acc = c.args.acc in
    let y = element_at Little c.args.from c.args.input.now c.args.place in
    let own = to_z w128 (of_z w128 c.load-own.result) in
    let next = to_z w128 (of_z w128 c.wrap-next.result) in
    let total = to_z w128 (of_z w128 c.joined.result) in
    takes_one kind c.args.from acc c.args.out.now c.save.new.bytes c.args.q y own next total c.requires.types
    (taken_element kind c.args.from acc y c.requires.types (InRange-element_at Little c.args.from c.args.input.now c.args.place))
    c.requires.out (to_z-of_z w128 c.load-own.result (search rules) ∙ c.load-own.ensures.value)
    (to_z-of_z w128 c.wrap-next.result (search rules) ∙ c.wrap-next.ensures.value ∙ ap (wrapped acc) (to_z-of_z w128 c.load.result (search rules) ∙ c.load.ensures.value))
    (to_z-of_z w128 c.joined.result (search rules) ∙ c.joined.ensures) c.save.ensures

pub returns-clause-others : goal.returns-clause-others
returns-clause-others c p apart =
    let total = to_z w128 (of_z w128 c.joined.result) in
    let own = element_bytes Little c.args.acc total in
    ap (λ all. bytes_at c.args.acc all p) c.save.ensures
    ∙ bytes_at-written_at_other c.args.acc c.args.out.now own c.args.q p apart (length-element_bytes Little c.args.acc total) c.requires.out

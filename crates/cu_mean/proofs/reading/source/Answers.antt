use Rattle.std.proofs.Common.{◌∙◌}
use Rattle.std.specs.Int.{w128}
use Rattle.std.proofs.lemmas.Int.{to_z-of_z}
use Rattle.cu_form.specs.declared.args.Arg.{Arg}
use Rattle.cu_mean.specs.Reading.{elements_in}
use Rattle.cu_mean.proofs.Sources.{source_past, source_is}
use Rattle.cu_mean.proofs.reading.source.Goals as goal

pub returns-then-number-args : goal.returns-then-number-args
returns-then-number-args c = source_past (elements_in c.args.plains.now) c.args.args.now c.args.number c.args.idx.now c.if-number-args.true

pub returns-in-Node : goal.returns-in-Node
returns-in-Node c =
    to_z-of_z w128 c.element.result (record { sfits = c.element.type_inv })
    ∙ c.element.ensures.value
    ∙ source_is (elements_in c.args.plains.now) c.args.args.now c.args.number c.args.idx.now (Arg.Node 0) (Arg.Node c.in-Node.node) c.if-number-args.false c.in-Node.is

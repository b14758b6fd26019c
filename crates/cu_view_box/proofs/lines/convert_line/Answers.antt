use Rattle.std.proofs.Common.{◌+◌, ◌*◌, ◌++◌, take, drop, ap, ◌∙◌, arith}
use Rattle.std.proofs.lemmas.Int.{to_z-of_z}
use Rattle.std.specs.Int.{w128}
use Rattle.cu_num.specs.Dtype.{size_of}
use Rattle.cu_num.specs.Element.{element_at, element_bytes}
use Rattle.cu_num.specs.declared.layout.Endian.TheVariants.{Little}
use Rattle.cu_view_box.proofs.Lined.{lined_converted}
use Rattle.cu_view_box.proofs.lines.convert_line.Goals as goal

pub loop-j-preserved : goal.loop-j-preserved
loop-j-preserved c =
    let t = c.args.target.now.dtype in
    let at = c.place_on-at.result in
    lined_converted c.args.source.now c.args.target.now c.args.count c.loop-j.j c.place_on-at.result c.load-number.result c.args.bytes.now c.args.output.now c.loop-j.output c.save.new.bytes
    c.requires.target_fits c.requires.one_each (omega arith) c.place_on-at.ensures
    (c.load-number.ensures.value ∙ ap (λ p. element_at Little c.args.source.now.dtype c.args.bytes.now p) c.place_on.ensures)
    (c.save.ensures
    ∙ ap (λ x. take (at * size_of t) c.loop-j.output ++ element_bytes Little t x ++ drop (at * size_of t + size_of t) c.loop-j.output)
    (to_z-of_z w128 c.load-number.result (record { sfits = c.load-number.type_inv })))
    c.loop-j.invariant

use Rattle.std.proofs.Common.{List, ℕ, ℤ, ap, sym, ◌∙◌}
use Rattle.std.specs.Int.{w128}
use Rattle.std.proofs.lemmas.Int.{to_z-of_z}
use Rattle.cu_num.specs.Element.{bytes_at, element_bytes}
use Rattle.cu_num.specs.declared.layout.Endian.TheVariants.{Little}
use Rattle.cu_num.proofs.ElementBytes.{written_at, bytes_at-written_at_same, bytes_at-written_at_other, length-element_bytes}
use Rattle.cu_view_box.specs.Block.{buffer_place}
use Rattle.cu_view.proofs.OneByOne.{place_apart}
use Rattle.cu_view.proofs.elements.put.Goals as goal

pub returns-clause-here : goal.returns-clause-here
returns-clause-here c =
    let number = to_z-of_z w128 c.args.number c.ranges.number in
    ap (λ (b : List ℕ). bytes_at c.args.block.now.dtype b (buffer_place c.args.block.now c.args.idx.now)) (c.save.ensures ∙ ap (λ (z : ℤ). written_at c.args.block.now.dtype c.args.output.now c.place_of-at.result (element_bytes Little c.args.block.now.dtype z)) number)
    ∙ ap (bytes_at c.args.block.now.dtype (written_at c.args.block.now.dtype c.args.output.now c.place_of-at.result (element_bytes Little c.args.block.now.dtype c.args.number))) (sym c.place_of-at.ensures.place)
    ∙ bytes_at-written_at_same c.args.block.now.dtype c.args.output.now (element_bytes Little c.args.block.now.dtype c.args.number) c.place_of-at.result (length-element_bytes Little c.args.block.now.dtype c.args.number) c.place_of-at.ensures.fits

pub returns-clause-others : goal.returns-clause-others
returns-clause-others c other within apart =
    let far = place_apart c.args.block.now c.args.output.now c.args.idx.now other c.requires.block c.requires.within within apart in
    let number = to_z-of_z w128 c.args.number c.ranges.number in
    ap (λ (b : List ℕ). bytes_at c.args.block.now.dtype b (buffer_place c.args.block.now other)) (c.save.ensures ∙ ap (λ (z : ℤ). written_at c.args.block.now.dtype c.args.output.now c.place_of-at.result (element_bytes Little c.args.block.now.dtype z)) number)
    ∙ bytes_at-written_at_other c.args.block.now.dtype c.args.output.now (element_bytes Little c.args.block.now.dtype c.args.number) c.place_of-at.result (buffer_place c.args.block.now other) (λ e. far (e ∙ c.place_of-at.ensures.place))
    (length-element_bytes Little c.args.block.now.dtype c.args.number) c.place_of-at.ensures.fits

use Rattle.std.proofs.Common.{◌∙◌, sym, refl}
use Rattle.cu_grid.proofs.Covers.{bounds_of}
use Rattle.cu_view_box.proofs.Drawn.{part_of_run, box_drawn, box_kept, part_one}
use Rattle.cu_view_box.proofs.drawing.draw_stretch.Goals as goal

pub common-part-requires-clause-lo_rank : goal.common-part-requires-clause-lo_rank
common-part-requires-clause-lo_rank c =
    let b = bounds_of c.args.drawing.now.source.now c.args.drawing.now.from.now.region.lo c.args.drawing.now.from.now.region.hi c.requires.from_region in
    b.lo_rank ∙ sym c.requires.lo_rank

pub common-part-requires-clause-hi_rank : goal.common-part-requires-clause-hi_rank
common-part-requires-clause-hi_rank c =
    let b = bounds_of c.args.drawing.now.source.now c.args.drawing.now.from.now.region.lo c.args.drawing.now.from.now.region.hi c.requires.from_region in
    b.hi_rank ∙ sym c.requires.lo_rank

pub returns-then-is_empty-clause-drawn : goal.returns-then-is_empty-clause-drawn
returns-then-is_empty-clause-drawn c =
    box_drawn c.args.drawing.now.source.now c.args.drawing.now.from.now c.args.drawing.now.to.now c.args.run c.args.first c.args.stretch.now.end c.args.stretch.now.region c.common-part.result
    c.requires.exactly c.common-part.ensures.exact c.requires.low c.requires.high c.requires.run.inside c.args.drawing.now.bytes.now c.args.output.now
    (λ idx w. absurd (c.if-is_empty.ensures.none idx w))

pub returns-then-is_empty-clause-others : goal.returns-then-is_empty-clause-others
returns-then-is_empty-clause-others c = λ q off. refl

pub draw_box-requires-clause-part : goal.draw_box-requires-clause-part
draw_box-requires-clause-part c =
    part_of_run c.args.drawing.now.source.now c.args.drawing.now.from.now c.args.drawing.now.to.now c.args.run c.args.first c.args.stretch.now.end c.args.stretch.now.region c.common-part.result
    c.requires.exactly c.common-part.ensures.exact c.requires.low c.requires.high c.requires.run.inside

pub draw_number-requires-clause-part : goal.draw_number-requires-clause-part
draw_number-requires-clause-part c =
    part_of_run c.args.drawing.now.source.now c.args.drawing.now.from.now c.args.drawing.now.to.now c.args.run c.args.first c.args.stretch.now.end c.args.stretch.now.region c.common-part.result
    c.requires.exactly c.common-part.ensures.exact c.requires.low c.requires.high c.requires.run.inside

pub draw_number-requires-clause-one : goal.draw_number-requires-clause-one
draw_number-requires-clause-one c =
    part_one c.args.drawing.now.source.now c.args.drawing.now.from.now c.args.drawing.now.to.now c.args.run c.args.first c.args.stretch.now.end c.args.stretch.now.region c.common-part.result
    c.requires.exactly c.common-part.ensures.exact c.requires.low c.requires.high c.requires.run.inside (c.requires.one c.if-same.false) c.if-is_empty.ensures.some

pub returns-then-same-clause-drawn : goal.returns-then-same-clause-drawn
returns-then-same-clause-drawn c =
    box_drawn c.args.drawing.now.source.now c.args.drawing.now.from.now c.args.drawing.now.to.now c.args.run c.args.first c.args.stretch.now.end c.args.stretch.now.region c.common-part.result
    c.requires.exactly c.common-part.ensures.exact c.requires.low c.requires.high c.requires.run.inside c.args.drawing.now.bytes.now c.draw_box.new.output c.draw_box.ensures.drawn

pub returns-then-same-clause-others : goal.returns-then-same-clause-others
returns-then-same-clause-others c =
    box_kept c.args.drawing.now.source.now c.args.drawing.now.from.now c.args.drawing.now.to.now c.args.run c.args.first c.args.stretch.now.end c.args.stretch.now.region c.common-part.result
    c.requires.exactly c.common-part.ensures.exact c.requires.low c.requires.high c.requires.run.inside c.args.output.now c.draw_box.new.output c.draw_box.ensures.others

pub returns-else-same-clause-drawn : goal.returns-else-same-clause-drawn
returns-else-same-clause-drawn c =
    box_drawn c.args.drawing.now.source.now c.args.drawing.now.from.now c.args.drawing.now.to.now c.args.run c.args.first c.args.stretch.now.end c.args.stretch.now.region c.common-part.result
    c.requires.exactly c.common-part.ensures.exact c.requires.low c.requires.high c.requires.run.inside c.args.drawing.now.bytes.now c.draw_number.new.output c.draw_number.ensures.drawn

pub returns-else-same-clause-others : goal.returns-else-same-clause-others
returns-else-same-clause-others c =
    box_kept c.args.drawing.now.source.now c.args.drawing.now.from.now c.args.drawing.now.to.now c.args.run c.args.first c.args.stretch.now.end c.args.stretch.now.region c.common-part.result
    c.requires.exactly c.common-part.ensures.exact c.requires.low c.requires.high c.requires.run.inside c.args.output.now c.draw_number.new.output c.draw_number.ensures.others

pub draw_box-requires-clause-spelled : goal.draw_box-requires-clause-spelled
draw_box-requires-clause-spelled c = c.requires.spelled (c.requires.same c.if-same.true)

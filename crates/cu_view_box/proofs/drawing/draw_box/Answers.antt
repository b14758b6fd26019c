use Rattle.std.proofs.Common.{sym, subst}
use Rattle.cu_num.specs.Element.{IsSize}
use Rattle.cu_num.proofs.Bytes.{IsSize-size_of}
use Rattle.cu_view_box.proofs.Drawn.{box_places, box_each, box_moved, box_others}
use Rattle.cu_view_box.proofs.drawing.draw_box.Goals as goal

pub block_place-requires-clause-within : goal.block_place-requires-clause-within
block_place-requires-clause-within c = c.requires.part.of_block c.args.part.now.lo c.requires.some

pub copy_strided-requires-clause-size : goal.copy_strided-requires-clause-size
copy_strided-requires-clause-size c = subst IsSize (sym c.size-size.ensures) (IsSize-size_of c.args.drawing.now.to.now.dtype)

pub copy_strided-requires-clause-places : goal.copy_strided-requires-clause-places
copy_strided-requires-clause-places c =
    box_places c.args.drawing.now.source.now c.args.drawing.now.from.now c.args.drawing.now.to.now c.args.drawing.now.bytes.now c.args.output.now c.args.run c.args.part.now
    c.write_box_axes.new.axes c.block_place.result c.run_place.result c.size-size.result
    c.requires.from_block c.requires.run c.requires.same c.size-size.ensures c.requires.some c.requires.part c.write_box_axes.ensures.rank c.write_box_axes.ensures.axes
    c.block_place.ensures c.run_place.ensures

pub copy_strided-requires-clause-each : goal.copy_strided-requires-clause-each
copy_strided-requires-clause-each c =
    box_each c.args.drawing.now.source.now c.args.drawing.now.from.now c.args.drawing.now.to.now c.args.drawing.now.bytes.now c.args.output.now c.args.run c.args.part.now
    c.write_box_axes.new.axes c.block_place.result c.run_place.result c.size-size.result
    c.requires.from_block c.requires.run c.requires.same c.size-size.ensures c.requires.some c.requires.part c.write_box_axes.ensures.rank c.write_box_axes.ensures.axes
    c.block_place.ensures c.run_place.ensures

pub returns-clause-drawn : goal.returns-clause-drawn
returns-clause-drawn c =
    box_moved c.args.drawing.now.source.now c.args.drawing.now.from.now c.args.drawing.now.to.now c.args.drawing.now.bytes.now c.args.output.now c.args.run c.args.part.now
    c.write_box_axes.new.axes c.block_place.result c.run_place.result c.size-size.result
    c.requires.from_block c.requires.run c.requires.same c.size-size.ensures c.requires.some c.requires.part c.write_box_axes.ensures.rank c.write_box_axes.ensures.axes
    c.block_place.ensures c.run_place.ensures c.copy_strided.new.target c.copy_strided.ensures c.requires.spelled

pub returns-clause-others : goal.returns-clause-others
returns-clause-others c =
    box_others c.args.drawing.now.source.now c.args.drawing.now.from.now c.args.drawing.now.to.now c.args.drawing.now.bytes.now c.args.output.now c.args.run c.args.part.now
    c.write_box_axes.new.axes c.block_place.result c.run_place.result c.size-size.result
    c.requires.from_block c.requires.run c.requires.same c.size-size.ensures c.requires.some c.requires.part c.write_box_axes.ensures.rank c.write_box_axes.ensures.axes
    c.block_place.ensures c.run_place.ensures c.copy_strided.new.target c.copy_strided.ensures

use Rattle.std.proofs.Common.{sym, subst}
use Rattle.cu_num.specs.Element.{IsSize}
use Rattle.cu_num.proofs.Bytes.{IsSize-size_of}
use Rattle.cu_view_box.proofs.Strided.{move_places, move_each, moved_along, kept_along}
use Rattle.cu_view_box.proofs.along.copy_along.Goals as goal

pub copy_strided-requires-clause-size : goal.copy_strided-requires-clause-size
copy_strided-requires-clause-size c = subst IsSize (sym c.size-size.ensures) (IsSize-size_of c.args.copying.now.to.now.dtype)

pub copy_strided-requires-clause-places : goal.copy_strided-requires-clause-places
copy_strided-requires-clause-places c =
    move_places c.args.copying.now.piece.now c.args.part.now c.args.copying.now.from.now c.args.copying.now.to.now c.args.copying.now.bytes.now c.args.output.now
    c.write_axes.new.axes c.source_place.result c.block_place.result c.size-size.result
    c.requires.moves c.requires.from_block c.requires.to_block c.requires.same c.size-size.ensures c.write_axes.ensures.rank c.write_axes.ensures.axes
    c.source_place.ensures c.block_place.ensures

pub copy_strided-requires-clause-each : goal.copy_strided-requires-clause-each
copy_strided-requires-clause-each c =
    move_each c.args.copying.now.piece.now c.args.part.now c.args.copying.now.from.now c.args.copying.now.to.now c.args.copying.now.bytes.now c.args.output.now
    c.write_axes.new.axes c.source_place.result c.block_place.result c.size-size.result
    c.requires.moves c.requires.from_block c.requires.to_block c.requires.same c.size-size.ensures c.write_axes.ensures.rank c.write_axes.ensures.axes
    c.source_place.ensures c.block_place.ensures

pub returns-clause-moved : goal.returns-clause-moved
returns-clause-moved c =
    moved_along c.args.copying.now.piece.now c.args.part.now c.args.copying.now.from.now c.args.copying.now.to.now c.args.copying.now.bytes.now c.args.output.now
    c.write_axes.new.axes c.source_place.result c.block_place.result c.size-size.result
    c.requires.moves c.requires.from_block c.requires.to_block c.requires.same c.size-size.ensures c.write_axes.ensures.rank c.write_axes.ensures.axes
    c.source_place.ensures c.block_place.ensures c.copy_strided.new.target c.copy_strided.ensures c.requires.spelled

pub returns-clause-others : goal.returns-clause-others
returns-clause-others c =
    kept_along c.args.copying.now.piece.now c.args.part.now c.args.copying.now.from.now c.args.copying.now.to.now c.args.copying.now.bytes.now c.args.output.now
    c.write_axes.new.axes c.source_place.result c.block_place.result c.size-size.result
    c.requires.moves c.requires.from_block c.requires.to_block c.requires.same c.size-size.ensures c.write_axes.ensures.rank c.write_axes.ensures.axes
    c.source_place.ensures c.block_place.ensures c.copy_strided.new.target c.copy_strided.ensures

use Rattle.cu_view_box.proofs.Rows.{second_within, source_fits, target_fits, target_one, row_moved, row_kept}
use Rattle.cu_view_box.proofs.copy.copy_row.Goals as goal

pub source_place-requires-2-clause-of_piece : goal.source_place-requires-2-clause-of_piece
source_place-requires-2-clause-of_piece c =
    c.requires.moves.of_piece c.second_of_row-next.result (second_within c.args.part.now c.args.axis c.length_of_row-count.result c.requires.moves.some c.requires.row c.length_of_row-count.ensures c.second_of_row-next.result c.second_of_row-next.ensures)

pub source_place-requires-2-clause-of_source : goal.source_place-requires-2-clause-of_source
source_place-requires-2-clause-of_source c =
    c.requires.moves.of_source c.second_of_row-next.result (second_within c.args.part.now c.args.axis c.length_of_row-count.result c.requires.moves.some c.requires.row c.length_of_row-count.ensures c.second_of_row-next.result c.second_of_row-next.ensures)

pub block_place-requires-2-clause-within : goal.block_place-requires-2-clause-within
block_place-requires-2-clause-within c =
    c.requires.moves.of_result c.second_of_row-next.result (second_within c.args.part.now c.args.axis c.length_of_row-count.result c.requires.moves.some c.requires.row c.length_of_row-count.ensures c.second_of_row-next.result c.second_of_row-next.ensures)

pub convert_line-requires-clause-source_fits : goal.convert_line-requires-clause-source_fits
convert_line-requires-clause-source_fits c =
    source_fits c.args.piece.now c.args.part.now c.args.axis c.length_of_row-count.result c.args.from.now c.args.to.now c.args.bytes.now c.args.output.now
    c.source_place.result c.source_place-2.result c.block_place.result c.block_place-2.result c.second_of_row-next.result
    c.requires.row c.length_of_row-count.ensures c.requires.moves c.requires.from_block c.requires.to_block c.second_of_row-next.ensures
    c.source_place.ensures c.source_place-2.ensures c.block_place.ensures c.block_place-2.ensures

pub convert_line-requires-clause-target_fits : goal.convert_line-requires-clause-target_fits
convert_line-requires-clause-target_fits c =
    target_fits c.args.piece.now c.args.part.now c.args.axis c.length_of_row-count.result c.args.from.now c.args.to.now c.args.bytes.now c.args.output.now
    c.source_place.result c.source_place-2.result c.block_place.result c.block_place-2.result c.second_of_row-next.result
    c.requires.row c.length_of_row-count.ensures c.requires.moves c.requires.from_block c.requires.to_block c.second_of_row-next.ensures
    c.source_place.ensures c.source_place-2.ensures c.block_place.ensures c.block_place-2.ensures

pub convert_line-requires-clause-one_each : goal.convert_line-requires-clause-one_each
convert_line-requires-clause-one_each c =
    target_one c.args.piece.now c.args.part.now c.args.axis c.length_of_row-count.result c.args.from.now c.args.to.now c.args.bytes.now c.args.output.now
    c.source_place.result c.source_place-2.result c.block_place.result c.block_place-2.result c.second_of_row-next.result
    c.requires.row c.length_of_row-count.ensures c.requires.moves c.requires.from_block c.requires.to_block c.second_of_row-next.ensures
    c.source_place.ensures c.source_place-2.ensures c.block_place.ensures c.block_place-2.ensures

pub returns-clause-moved : goal.returns-clause-moved
returns-clause-moved c =
    row_moved c.args.piece.now c.args.part.now c.args.axis c.length_of_row-count.result c.args.from.now c.args.to.now c.args.bytes.now c.args.output.now
    c.source_place.result c.source_place-2.result c.block_place.result c.block_place-2.result c.second_of_row-next.result
    c.requires.row c.length_of_row-count.ensures c.requires.moves c.requires.from_block c.requires.to_block c.second_of_row-next.ensures
    c.source_place.ensures c.source_place-2.ensures c.block_place.ensures c.block_place-2.ensures c.convert_line.new.output c.convert_line.ensures.moved

pub returns-clause-others : goal.returns-clause-others
returns-clause-others c =
    row_kept c.args.piece.now c.args.part.now c.args.axis c.length_of_row-count.result c.args.from.now c.args.to.now c.args.bytes.now c.args.output.now
    c.source_place.result c.source_place-2.result c.block_place.result c.block_place-2.result c.second_of_row-next.result
    c.requires.row c.length_of_row-count.ensures c.requires.moves c.requires.from_block c.requires.to_block c.second_of_row-next.ensures
    c.source_place.ensures c.source_place-2.ensures c.block_place.ensures c.block_place-2.ensures c.convert_line.new.output c.convert_line.ensures.others

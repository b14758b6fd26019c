use Rattle.std.proofs.Common.{◌+◌, subst}
use Rattle.cu_pairs.specs.Columns.{HasPlacesBeside}
use Rattle.cu_pairs.proofs.BlockParts.{part_counted, part_beside}
use Rattle.cu_pairs.proofs.blocks.part_of.Goals as goal

pub returns-in-Some-clause-part : goal.returns-in-Some-clause-part
returns-in-Some-clause-part c =
    let rows = c.args.rows in
    part_counted c.args.t rows.width rows.bytes.now rows.first c.in-Some.first rows.places.now c.args.from c.args.count c.size-size.result c.in-Some.is c.size-size.ensures c.requires.bytes

pub returns-in-None-clause-part : goal.returns-in-None-clause-part
returns-in-None-clause-part c =
    let rows = c.args.rows in
    let beside = subst (λ f. HasPlacesBeside f rows.places.now (c.args.from + c.args.count)) c.in-None.is c.requires.places in
    part_beside c.args.t rows.width rows.bytes.now rows.first rows.places.now c.args.from c.args.count c.size-size.result c.in-None.is c.size-size.ensures c.requires.bytes beside

use Rattle.std.proofs.Common.{set, length}
use Rattle.cu_num.specs.Dtype.{size_of}
use Rattle.cu_shape.specs.Index.{product}
use Rattle.cu_pairs.proofs.Sizes.{no_index, none_left, some_left}
use Rattle.cu_scan.proofs.RegionSums.{some_of, carry_sizes, carry_width, carry_rows, carry_room, carry_given, carry_sums}
use Rattle.cu_scan.proofs.regions.carry_region.Goals as goal

pub returns-then-is_empty : goal.returns-then-is_empty
returns-then-is_empty c idx inside =
    absurd (no_index c.args.acc (set c.args.dims.now c.args.axis 1) idx
    (length c.args.out.now) c.requires.out
    (none_left (length c.args.out.now) c.is_empty.result c.is_empty.ensures c.if-is_empty.true) inside)

pub carry_by_type-requires-clause-inner : goal.carry_by_type-requires-clause-inner
carry_by_type-requires-clause-inner c =
    let dims = c.args.dims.now in
    let some = some_of (product (set dims c.args.axis 1)) (size_of c.args.acc)
    (length c.args.out.now) c.requires.out (some_left
    (length c.args.out.now) c.is_empty.result c.is_empty.ensures c.if-is_empty.false) in
    let sized = carry_sizes dims c.put.new.self c.args.axis c.width_behind.result c.blocks_before.result c.at.result c.put.ensures c.requires.axis c.width_behind.ensures c.blocks_before.ensures c.at.ensures some in
    carry_width dims c.args.axis c.width_behind.result c.blocks_before.result c.at.result sized

pub carry_by_type-requires-clause-sums : goal.carry_by_type-requires-clause-sums
carry_by_type-requires-clause-sums c =
    let dims = c.args.dims.now in
    let some = some_of (product (set dims c.args.axis 1)) (size_of c.args.acc)
    (length c.args.out.now) c.requires.out (some_left
    (length c.args.out.now) c.is_empty.result c.is_empty.ensures c.if-is_empty.false) in
    let sized = carry_sizes dims c.put.new.self c.args.axis c.width_behind.result c.blocks_before.result c.at.result c.put.ensures c.requires.axis c.width_behind.ensures c.blocks_before.ensures c.at.ensures some in
    carry_rows dims c.args.axis c.width_behind.result c.blocks_before.result c.at.result
    (size_of c.args.acc) (length c.args.sums.now) sized c.requires.sums

pub carry_by_type-requires-clause-above : goal.carry_by_type-requires-clause-above
carry_by_type-requires-clause-above c =
    let dims = c.args.dims.now in
    let some = some_of (product (set dims c.args.axis 1)) (size_of c.args.acc)
    (length c.args.out.now) c.requires.out (some_left
    (length c.args.out.now) c.is_empty.result c.is_empty.ensures c.if-is_empty.false) in
    let sized = carry_sizes dims c.put.new.self c.args.axis c.width_behind.result c.blocks_before.result c.at.result c.put.ensures c.requires.axis c.width_behind.ensures c.blocks_before.ensures c.at.ensures some in
    carry_given c.args.acc dims c.args.axis c.width_behind.result c.blocks_before.result c.at.result c.args.above.now sized c.requires.above

pub carry_by_type-requires-clause-out : goal.carry_by_type-requires-clause-out
carry_by_type-requires-clause-out c =
    let dims = c.args.dims.now in
    let some = some_of (product (set dims c.args.axis 1)) (size_of c.args.acc)
    (length c.args.out.now) c.requires.out (some_left
    (length c.args.out.now) c.is_empty.result c.is_empty.ensures c.if-is_empty.false) in
    let sized = carry_sizes dims c.put.new.self c.args.axis c.width_behind.result c.blocks_before.result c.at.result c.put.ensures c.requires.axis c.width_behind.ensures c.blocks_before.ensures c.at.ensures some in
    carry_room dims c.args.axis c.width_behind.result c.blocks_before.result c.at.result
    (size_of c.args.acc) (length c.args.out.now) sized c.requires.out

pub returns : goal.returns
returns c =
    let dims = c.args.dims.now in
    let some = some_of (product (set dims c.args.axis 1)) (size_of c.args.acc)
    (length c.args.out.now) c.requires.out (some_left
    (length c.args.out.now) c.is_empty.result c.is_empty.ensures c.if-is_empty.false) in
    let sized = carry_sizes dims c.put.new.self c.args.axis c.width_behind.result c.blocks_before.result c.at.result c.put.ensures c.requires.axis c.width_behind.ensures c.blocks_before.ensures c.at.ensures some in
    carry_sums c.args.acc dims c.args.axis c.width_behind.result c.blocks_before.result c.at.result c.args.sums.now c.args.above.now c.carry_by_type.new.out sized c.carry_by_type.ensures

use Rattle.std.proofs.Common.{length}
use Rattle.cu_num.specs.Dtype.{size_of}
use Rattle.cu_shape.specs.Index.{product}
use Rattle.cu_pairs.proofs.Sizes.{HasSizes, no_index, sizes_positive, sizes_of_rows, none_left, some_left}
use Rattle.cu_scan.proofs.RegionSums.{some_of, scan_given, region_sums}
use Rattle.cu_scan.proofs.regions.scan_region.Goals as goal

pub returns-then-is_empty : goal.returns-then-is_empty
returns-then-is_empty c idx inside =
    absurd (no_index c.args.acc c.args.dims.now idx (length c.args.out.now) c.requires.out
    (none_left (length c.args.out.now) c.is_empty.result c.is_empty.ensures c.if-is_empty.true) inside)

pub scan_by_type-requires-clause-rows : goal.scan_by_type-requires-clause-rows
scan_by_type-requires-clause-rows c =
    let sized : HasSizes c.args.dims.now c.args.axis c.width_behind.result c.blocks_before.result c.at.result = record {
      below = c.requires.axis;
      behind = c.width_behind.ensures;
      before = c.blocks_before.ensures;
      own = c.at.ensures;
      some = some_of (product c.args.dims.now) (size_of c.args.acc)
          (length c.args.out.now) c.requires.out (some_left
          (length c.args.out.now) c.is_empty.result c.is_empty.ensures c.if-is_empty.false);
    } in
    (sizes_positive c.args.dims.now c.args.axis c.width_behind.result c.blocks_before.result c.at.result sized).1

pub scan_by_type-requires-clause-inner : goal.scan_by_type-requires-clause-inner
scan_by_type-requires-clause-inner c =
    let sized : HasSizes c.args.dims.now c.args.axis c.width_behind.result c.blocks_before.result c.at.result = record {
      below = c.requires.axis;
      behind = c.width_behind.ensures;
      before = c.blocks_before.ensures;
      own = c.at.ensures;
      some = some_of (product c.args.dims.now) (size_of c.args.acc)
          (length c.args.out.now) c.requires.out (some_left
          (length c.args.out.now) c.is_empty.result c.is_empty.ensures c.if-is_empty.false);
    } in
    (sizes_positive c.args.dims.now c.args.axis c.width_behind.result c.blocks_before.result c.at.result sized).0

pub scan_by_type-requires-clause-input : goal.scan_by_type-requires-clause-input
scan_by_type-requires-clause-input c =
    let sized : HasSizes c.args.dims.now c.args.axis c.width_behind.result c.blocks_before.result c.at.result = record {
      below = c.requires.axis;
      behind = c.width_behind.ensures;
      before = c.blocks_before.ensures;
      own = c.at.ensures;
      some = some_of (product c.args.dims.now) (size_of c.args.acc)
          (length c.args.out.now) c.requires.out (some_left
          (length c.args.out.now) c.is_empty.result c.is_empty.ensures c.if-is_empty.false);
    } in
    sizes_of_rows c.args.dims.now c.args.axis c.width_behind.result c.blocks_before.result c.at.result (size_of c.args.t) (length c.args.input.now) sized c.requires.input

pub scan_by_type-requires-clause-carry : goal.scan_by_type-requires-clause-carry
scan_by_type-requires-clause-carry c =
    let sized : HasSizes c.args.dims.now c.args.axis c.width_behind.result c.blocks_before.result c.at.result = record {
      below = c.requires.axis;
      behind = c.width_behind.ensures;
      before = c.blocks_before.ensures;
      own = c.at.ensures;
      some = some_of (product c.args.dims.now) (size_of c.args.acc)
          (length c.args.out.now) c.requires.out (some_left
          (length c.args.out.now) c.is_empty.result c.is_empty.ensures c.if-is_empty.false);
    } in
    scan_given c.args.acc c.args.dims.now c.args.axis c.width_behind.result c.blocks_before.result c.at.result c.args.carry.now sized c.requires.carry

pub scan_by_type-requires-clause-out : goal.scan_by_type-requires-clause-out
scan_by_type-requires-clause-out c =
    let sized : HasSizes c.args.dims.now c.args.axis c.width_behind.result c.blocks_before.result c.at.result = record {
      below = c.requires.axis;
      behind = c.width_behind.ensures;
      before = c.blocks_before.ensures;
      own = c.at.ensures;
      some = some_of (product c.args.dims.now) (size_of c.args.acc)
          (length c.args.out.now) c.requires.out (some_left
          (length c.args.out.now) c.is_empty.result c.is_empty.ensures c.if-is_empty.false);
    } in
    sizes_of_rows c.args.dims.now c.args.axis c.width_behind.result c.blocks_before.result c.at.result (size_of c.args.acc) (length c.args.out.now) sized c.requires.out

pub returns : goal.returns
returns c =
    let sized : HasSizes c.args.dims.now c.args.axis c.width_behind.result c.blocks_before.result c.at.result = record {
      below = c.requires.axis;
      behind = c.width_behind.ensures;
      before = c.blocks_before.ensures;
      own = c.at.ensures;
      some = some_of (product c.args.dims.now) (size_of c.args.acc)
          (length c.args.out.now) c.requires.out (some_left
          (length c.args.out.now) c.is_empty.result c.is_empty.ensures c.if-is_empty.false);
    } in
    region_sums c.args.t c.args.acc c.args.dims.now c.args.axis c.width_behind.result c.blocks_before.result c.at.result c.args.input.now c.args.carry.now c.scan_by_type.new.out sized c.scan_by_type.ensures

use Rattle.std.proofs.Common.{length, Some}
use Rattle.cu_num.specs.Dtype.{size_of}
use Rattle.cu_reduce.specs.Groups.{group_counts}
use Rattle.cu_pairs.specs.Elements.{sought_groups}
use Rattle.cu_pairs.proofs.Sizes.{HasSizes, some_elements, no_index, sizes_positive, sizes_of_rows, sizes_of_results, none_left, some_left}
use Rattle.cu_pairs.proofs.Told.{beside_told}
use Rattle.cu_pairs.proofs.pairs.pair_merge.Goals as goal

pub returns-then-is_empty : goal.returns-then-is_empty
returns-then-is_empty c idx best inside e =
    absurd (no_index c.args.t (group_counts (sought_groups (Some c.args.axis) c.args.dims.now) c.args.dims.now) idx (length c.args.values.now) c.requires.values
    (none_left (length c.args.values.now) c.is_empty.result c.is_empty.ensures c.if-is_empty.true) inside)

pub width_behind-requires-clause-some : goal.width_behind-requires-clause-some
width_behind-requires-clause-some c =
    some_elements c.args.axis c.args.dims.now (size_of c.args.t) (length c.args.values.now) c.requires.axis c.requires.elements c.requires.values
    (some_left (length c.args.values.now) c.is_empty.result c.is_empty.ensures c.if-is_empty.false)

pub blocks_before-number-requires-clause-some : goal.blocks_before-number-requires-clause-some
blocks_before-number-requires-clause-some c =
    some_elements c.args.axis c.args.dims.now (size_of c.args.t) (length c.args.values.now) c.requires.axis c.requires.elements c.requires.values
    (some_left (length c.args.values.now) c.is_empty.result c.is_empty.ensures c.if-is_empty.false)

pub best_of_blocks-requires-clause-width : goal.best_of_blocks-requires-clause-width
best_of_blocks-requires-clause-width c =
    let sized : HasSizes c.args.dims.now c.args.axis c.width_behind.result c.blocks_before-number.result c.at.result = record {
      below = c.requires.axis;
      behind = c.width_behind.ensures;
      before = c.blocks_before-number.ensures;
      own = c.at.ensures;
      some = some_elements c.args.axis c.args.dims.now (size_of c.args.t) (length c.args.values.now) c.requires.axis c.requires.elements c.requires.values
          (some_left (length c.args.values.now) c.is_empty.result c.is_empty.ensures c.if-is_empty.false);
    } in
    (sizes_positive c.args.dims.now c.args.axis c.width_behind.result c.blocks_before-number.result c.at.result sized).0

pub best_of_blocks-requires-clause-count : goal.best_of_blocks-requires-clause-count
best_of_blocks-requires-clause-count c =
    let sized : HasSizes c.args.dims.now c.args.axis c.width_behind.result c.blocks_before-number.result c.at.result = record {
      below = c.requires.axis;
      behind = c.width_behind.ensures;
      before = c.blocks_before-number.ensures;
      own = c.at.ensures;
      some = some_elements c.args.axis c.args.dims.now (size_of c.args.t) (length c.args.values.now) c.requires.axis c.requires.elements c.requires.values
          (some_left (length c.args.values.now) c.is_empty.result c.is_empty.ensures c.if-is_empty.false);
    } in
    (sizes_positive c.args.dims.now c.args.axis c.width_behind.result c.blocks_before-number.result c.at.result sized).1

pub best_of_blocks-requires-clause-rows : goal.best_of_blocks-requires-clause-rows
best_of_blocks-requires-clause-rows c =
    let sized : HasSizes c.args.dims.now c.args.axis c.width_behind.result c.blocks_before-number.result c.at.result = record {
      below = c.requires.axis;
      behind = c.width_behind.ensures;
      before = c.blocks_before-number.ensures;
      own = c.at.ensures;
      some = some_elements c.args.axis c.args.dims.now (size_of c.args.t) (length c.args.values.now) c.requires.axis c.requires.elements c.requires.values
          (some_left (length c.args.values.now) c.is_empty.result c.is_empty.ensures c.if-is_empty.false);
    } in
    record {
      bytes = sizes_of_rows c.args.dims.now c.args.axis c.width_behind.result c.blocks_before-number.result c.at.result (size_of c.args.t) (length c.args.values_from.now) sized c.requires.values_from;
      places = sizes_of_rows c.args.dims.now c.args.axis c.width_behind.result c.blocks_before-number.result c.at.result 8 (length c.args.places_from.now) sized c.requires.places_from;
    }

pub best_of_blocks-requires-clause-values : goal.best_of_blocks-requires-clause-values
best_of_blocks-requires-clause-values c =
    let sized : HasSizes c.args.dims.now c.args.axis c.width_behind.result c.blocks_before-number.result c.at.result = record {
      below = c.requires.axis;
      behind = c.width_behind.ensures;
      before = c.blocks_before-number.ensures;
      own = c.at.ensures;
      some = some_elements c.args.axis c.args.dims.now (size_of c.args.t) (length c.args.values.now) c.requires.axis c.requires.elements c.requires.values
          (some_left (length c.args.values.now) c.is_empty.result c.is_empty.ensures c.if-is_empty.false);
    } in
    sizes_of_results c.args.dims.now c.args.axis c.width_behind.result c.blocks_before-number.result c.at.result (size_of c.args.t) (length c.args.values.now) sized c.requires.values

pub best_of_blocks-requires-clause-places : goal.best_of_blocks-requires-clause-places
best_of_blocks-requires-clause-places c =
    let sized : HasSizes c.args.dims.now c.args.axis c.width_behind.result c.blocks_before-number.result c.at.result = record {
      below = c.requires.axis;
      behind = c.width_behind.ensures;
      before = c.blocks_before-number.ensures;
      own = c.at.ensures;
      some = some_elements c.args.axis c.args.dims.now (size_of c.args.t) (length c.args.values.now) c.requires.axis c.requires.elements c.requires.values
          (some_left (length c.args.values.now) c.is_empty.result c.is_empty.ensures c.if-is_empty.false);
    } in
    sizes_of_results c.args.dims.now c.args.axis c.width_behind.result c.blocks_before-number.result c.at.result 8 (length c.args.places.now) sized c.requires.places

pub returns : goal.returns
returns c =
    let sized : HasSizes c.args.dims.now c.args.axis c.width_behind.result c.blocks_before-number.result c.at.result = record {
      below = c.requires.axis;
      behind = c.width_behind.ensures;
      before = c.blocks_before-number.ensures;
      own = c.at.ensures;
      some = some_elements c.args.axis c.args.dims.now (size_of c.args.t) (length c.args.values.now) c.requires.axis c.requires.elements c.requires.values
          (some_left (length c.args.values.now) c.is_empty.result c.is_empty.ensures c.if-is_empty.false);
    } in
    beside_told c.args.least c.args.t c.args.values_from.now c.args.places_from.now c.args.dims.now c.args.axis c.width_behind.result c.blocks_before-number.result c.at.result c.best_of_blocks.new.values c.best_of_blocks.new.places sized c.best_of_blocks.ensures

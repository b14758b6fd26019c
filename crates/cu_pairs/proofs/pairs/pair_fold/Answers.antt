use Rattle.std.proofs.Common.{◌*◌, length, sym, ap, ◌∙◌, subst, arith}
use Rattle.cu_num.specs.Dtype.{size_of}
use Rattle.cu_shape.specs.Index.{product}
use Rattle.cu_reduce.specs.Groups.{group_counts, HasElements}
use Rattle.cu_pairs.specs.Elements.{sought_groups, area, IsAxis}
use Rattle.cu_pairs.proofs.Sizes.{HasSizes, some_elements, elements_all, no_index, sizes_positive, sizes_of_rows, sizes_of_results, none_left, some_left}
use Rattle.cu_pairs.proofs.Told.{counted_told, whole_told, IsTold}
use Rattle.cu_pairs.proofs.WholeGroups.{counts_all}
use Rattle.cu_pairs.proofs.pairs.pair_fold.Goals as goal

pub returns-then-is_empty : goal.returns-then-is_empty
returns-then-is_empty c idx best inside e =
    absurd (no_index c.args.t (group_counts (sought_groups c.args.axis c.args.dims.now) c.args.dims.now) idx (length c.args.values.now) c.requires.values
    (none_left (length c.args.values.now) c.is_empty.result c.is_empty.ensures c.if-is_empty.true) inside)

pub best_of_all-requires-clause-some : goal.best_of_all-requires-clause-some
best_of_all-requires-clause-some c = elements_all c.args.dims.now (subst (λ a. HasElements (sought_groups a c.args.dims.now) c.args.dims.now) c.in-None.is c.requires.elements)

pub best_of_all-requires-clause-values : goal.best_of_all-requires-clause-values
best_of_all-requires-clause-values c =
    let dims = c.args.dims.now in
    let elements = subst (λ a. HasElements (sought_groups a dims) dims) c.in-None.is c.requires.elements in
    c.requires.values ∙ ap (λ a. product (group_counts (sought_groups a dims) dims) * size_of c.args.t) c.in-None.is ∙ ap (λ p. p * size_of c.args.t) (counts_all 0 dims elements) ∙ omega arith

pub best_of_all-requires-clause-places : goal.best_of_all-requires-clause-places
best_of_all-requires-clause-places c =
    let dims = c.args.dims.now in
    let elements = subst (λ a. HasElements (sought_groups a dims) dims) c.in-None.is c.requires.elements in
    c.requires.places ∙ ap (λ a. product (group_counts (sought_groups a dims) dims) * 8) c.in-None.is ∙ ap (λ p. p * 8) (counts_all 0 dims elements)

pub width_behind-requires-clause-some : goal.width_behind-requires-clause-some
width_behind-requires-clause-some c =
    let dims = c.args.dims.now in
    let axis = c.in-Some.axis in
    let below = subst (λ a. IsAxis a dims) c.in-Some.is c.requires.axis in
    let elements = subst (λ a. HasElements (sought_groups a dims) dims) c.in-Some.is c.requires.elements in
    let values = c.requires.values ∙ ap (λ a. product (group_counts (sought_groups a dims) dims) * size_of c.args.t) c.in-Some.is in
    let some = some_elements axis dims (size_of c.args.t) (length c.args.values.now) below elements values
    (some_left (length c.args.values.now) c.is_empty.result c.is_empty.ensures c.if-is_empty.false) in
    some

pub blocks_before-number-requires-clause-some : goal.blocks_before-number-requires-clause-some
blocks_before-number-requires-clause-some c =
    let dims = c.args.dims.now in
    let axis = c.in-Some.axis in
    let below = subst (λ a. IsAxis a dims) c.in-Some.is c.requires.axis in
    let elements = subst (λ a. HasElements (sought_groups a dims) dims) c.in-Some.is c.requires.elements in
    let values = c.requires.values ∙ ap (λ a. product (group_counts (sought_groups a dims) dims) * size_of c.args.t) c.in-Some.is in
    let some = some_elements axis dims (size_of c.args.t) (length c.args.values.now) below elements values
    (some_left (length c.args.values.now) c.is_empty.result c.is_empty.ensures c.if-is_empty.false) in
    some

pub best_along-requires-clause-width : goal.best_along-requires-clause-width
best_along-requires-clause-width c =
    let dims = c.args.dims.now in
    let axis = c.in-Some.axis in
    let below = subst (λ a. IsAxis a dims) c.in-Some.is c.requires.axis in
    let elements = subst (λ a. HasElements (sought_groups a dims) dims) c.in-Some.is c.requires.elements in
    let values = c.requires.values ∙ ap (λ a. product (group_counts (sought_groups a dims) dims) * size_of c.args.t) c.in-Some.is in
    let some = some_elements axis dims (size_of c.args.t) (length c.args.values.now) below elements values
    (some_left (length c.args.values.now) c.is_empty.result c.is_empty.ensures c.if-is_empty.false) in
    let sized : HasSizes dims axis c.width_behind.result c.blocks_before-number.result c.at.result = record {
      below = below;
      behind = c.width_behind.ensures;
      before = c.blocks_before-number.ensures;
      own = c.at.ensures;
      some = some;
    } in
    (sizes_positive dims axis c.width_behind.result c.blocks_before-number.result c.at.result sized).0

pub best_along-requires-clause-count : goal.best_along-requires-clause-count
best_along-requires-clause-count c =
    let dims = c.args.dims.now in
    let axis = c.in-Some.axis in
    let below = subst (λ a. IsAxis a dims) c.in-Some.is c.requires.axis in
    let elements = subst (λ a. HasElements (sought_groups a dims) dims) c.in-Some.is c.requires.elements in
    let values = c.requires.values ∙ ap (λ a. product (group_counts (sought_groups a dims) dims) * size_of c.args.t) c.in-Some.is in
    let some = some_elements axis dims (size_of c.args.t) (length c.args.values.now) below elements values
    (some_left (length c.args.values.now) c.is_empty.result c.is_empty.ensures c.if-is_empty.false) in
    let sized : HasSizes dims axis c.width_behind.result c.blocks_before-number.result c.at.result = record {
      below = below;
      behind = c.width_behind.ensures;
      before = c.blocks_before-number.ensures;
      own = c.at.ensures;
      some = some;
    } in
    (sizes_positive dims axis c.width_behind.result c.blocks_before-number.result c.at.result sized).1

pub best_along-requires-clause-rows : goal.best_along-requires-clause-rows
best_along-requires-clause-rows c =
    let dims = c.args.dims.now in
    let axis = c.in-Some.axis in
    let below = subst (λ a. IsAxis a dims) c.in-Some.is c.requires.axis in
    let elements = subst (λ a. HasElements (sought_groups a dims) dims) c.in-Some.is c.requires.elements in
    let values = c.requires.values ∙ ap (λ a. product (group_counts (sought_groups a dims) dims) * size_of c.args.t) c.in-Some.is in
    let some = some_elements axis dims (size_of c.args.t) (length c.args.values.now) below elements values
    (some_left (length c.args.values.now) c.is_empty.result c.is_empty.ensures c.if-is_empty.false) in
    let sized : HasSizes dims axis c.width_behind.result c.blocks_before-number.result c.at.result = record {
      below = below;
      behind = c.width_behind.ensures;
      before = c.blocks_before-number.ensures;
      own = c.at.ensures;
      some = some;
    } in
    record { bytes = sizes_of_rows dims axis c.width_behind.result c.blocks_before-number.result c.at.result (size_of c.args.t) (length c.args.input.now) sized c.requires.input; places = tt }

pub best_along-requires-clause-values : goal.best_along-requires-clause-values
best_along-requires-clause-values c =
    let dims = c.args.dims.now in
    let axis = c.in-Some.axis in
    let below = subst (λ a. IsAxis a dims) c.in-Some.is c.requires.axis in
    let elements = subst (λ a. HasElements (sought_groups a dims) dims) c.in-Some.is c.requires.elements in
    let values = c.requires.values ∙ ap (λ a. product (group_counts (sought_groups a dims) dims) * size_of c.args.t) c.in-Some.is in
    let some = some_elements axis dims (size_of c.args.t) (length c.args.values.now) below elements values
    (some_left (length c.args.values.now) c.is_empty.result c.is_empty.ensures c.if-is_empty.false) in
    let sized : HasSizes dims axis c.width_behind.result c.blocks_before-number.result c.at.result = record {
      below = below;
      behind = c.width_behind.ensures;
      before = c.blocks_before-number.ensures;
      own = c.at.ensures;
      some = some;
    } in
    sizes_of_results dims axis c.width_behind.result c.blocks_before-number.result c.at.result (size_of c.args.t) (length c.args.values.now) sized values

pub best_along-requires-clause-places : goal.best_along-requires-clause-places
best_along-requires-clause-places c =
    let dims = c.args.dims.now in
    let axis = c.in-Some.axis in
    let below = subst (λ a. IsAxis a dims) c.in-Some.is c.requires.axis in
    let elements = subst (λ a. HasElements (sought_groups a dims) dims) c.in-Some.is c.requires.elements in
    let values = c.requires.values ∙ ap (λ a. product (group_counts (sought_groups a dims) dims) * size_of c.args.t) c.in-Some.is in
    let some = some_elements axis dims (size_of c.args.t) (length c.args.values.now) below elements values
    (some_left (length c.args.values.now) c.is_empty.result c.is_empty.ensures c.if-is_empty.false) in
    let sized : HasSizes dims axis c.width_behind.result c.blocks_before-number.result c.at.result = record {
      below = below;
      behind = c.width_behind.ensures;
      before = c.blocks_before-number.ensures;
      own = c.at.ensures;
      some = some;
    } in
    sizes_of_results dims axis c.width_behind.result c.blocks_before-number.result c.at.result 8 (length c.args.places.now) sized (c.requires.places ∙ ap (λ a. product (group_counts (sought_groups a dims) dims) * 8) c.in-Some.is)

pub returns-in-None : goal.returns-in-None
returns-in-None c =
    let dims = c.args.dims.now in
    let elements = subst (λ a. HasElements (sought_groups a dims) dims) c.in-None.is c.requires.elements in
    let best = c.best_of_all.ensures in
    subst (λ a. IsTold c.args.least c.args.t c.args.input.now (area c.args.shape.now c.args.lo.now dims a) c.best_of_all.new.values c.best_of_all.new.places) (sym c.in-None.is)
    (whole_told c.args.least c.args.t c.args.input.now c.args.shape.now c.args.lo.now dims c.best_of_all.new.values c.best_of_all.new.places best.0 elements best.1 best.2)

pub returns-in-Some : goal.returns-in-Some
returns-in-Some c =
    let dims = c.args.dims.now in
    let axis = c.in-Some.axis in
    let below = subst (λ a. IsAxis a dims) c.in-Some.is c.requires.axis in
    let elements = subst (λ a. HasElements (sought_groups a dims) dims) c.in-Some.is c.requires.elements in
    let values = c.requires.values ∙ ap (λ a. product (group_counts (sought_groups a dims) dims) * size_of c.args.t) c.in-Some.is in
    let some = some_elements axis dims (size_of c.args.t) (length c.args.values.now) below elements values
    (some_left (length c.args.values.now) c.is_empty.result c.is_empty.ensures c.if-is_empty.false) in
    let sized : HasSizes dims axis c.width_behind.result c.blocks_before-number.result c.at.result = record {
      below = below;
      behind = c.width_behind.ensures;
      before = c.blocks_before-number.ensures;
      own = c.at.ensures;
      some = some;
    } in
    subst (λ a. IsTold c.args.least c.args.t c.args.input.now (area c.args.shape.now c.args.lo.now dims a) c.best_along.new.values c.best_along.new.places) (sym c.in-Some.is)
    (counted_told c.args.least c.args.t c.args.input.now c.args.input.now c.args.shape.now c.args.lo.now dims axis c.at-first.result c.width_behind.result c.blocks_before-number.result c.at.result
    c.best_along.new.values c.best_along.new.places sized c.requires.ranks c.at-first.ensures c.best_along.ensures)

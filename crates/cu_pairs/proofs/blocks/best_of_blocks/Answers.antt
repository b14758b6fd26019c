use Rattle.std.proofs.Common.{◌≡◌, ◌≤◌, ◌+◌, ◌*◌, ℕ, length, refl, ◌∙◌, subst, arith}
use Rattle.std.proofs.Math.Nat.{mul-le-mul_right}
use Rattle.cu_num.specs.Dtype.{size_of}
use Rattle.cu_num.specs.declared.types.Dtype.TheVariants.{Int64}
use Rattle.cu_pairs.proofs.Parts.{size_positive}
use Rattle.cu_pairs.proofs.BlockParts.{block_reaches, block_end, block_written, block_length, factor_below}
use Rattle.cu_pairs.proofs.BlockSteps.{blocks_more}
use Rattle.cu_pairs.specs.Columns.{table}
use Rattle.cu_pairs.specs.Blocks.{sizes, HasBestsAlong}
use Rattle.cu_pairs.proofs.blocks.best_of_blocks.Goals as goal

pub overflow_mul-block : goal.overflow_mul-block
overflow_mul-block c =
    let rows = c.args.rows in
    let block = c.loop-block.block in
    let count = c.args.blocks.rows in
    let reach = block_reaches block c.args.blocks.number count rows.width (size_of c.args.t) (length rows.bytes.now) c.loop-block-test.true c.requires.rows.bytes in
    let each = factor_below (block * count * rows.width + count * rows.width) (size_of c.args.t) (length rows.bytes.now) (size_positive c.args.t) reach in
    let own = factor_below (block * count) rows.width (length rows.bytes.now) c.requires.width (omega arith) in
    omega arith

pub overflow_mul-block-in-loop-block : goal.overflow_mul-block-in-loop-block
overflow_mul-block-in-loop-block c =
    let rows = c.args.rows in
    let block = c.loop-block.block in
    let count = c.args.blocks.rows in
    let reach = block_reaches block c.args.blocks.number count rows.width (size_of c.args.t) (length rows.bytes.now) c.loop-block-test.true c.requires.rows.bytes in
    let each = factor_below (block * count * rows.width + count * rows.width) (size_of c.args.t) (length rows.bytes.now) (size_positive c.args.t) reach in
    omega arith

pub overflow_mul-count : goal.overflow_mul-count
overflow_mul-count c =
    let rows = c.args.rows in
    let block = c.loop-block.block in
    let count = c.args.blocks.rows in
    let reach = block_reaches block c.args.blocks.number count rows.width (size_of c.args.t) (length rows.bytes.now) c.loop-block-test.true c.requires.rows.bytes in
    let each = factor_below (block * count * rows.width + count * rows.width) (size_of c.args.t) (length rows.bytes.now) (size_positive c.args.t) reach in
    omega arith

pub part_of-part-requires-clause-bytes : goal.part_of-part-requires-clause-bytes
part_of-part-requires-clause-bytes c =
    block_reaches c.loop-block.block c.args.blocks.number c.args.blocks.rows c.args.rows.width (size_of c.args.t) _ c.loop-block-test.true c.requires.rows.bytes

pub overflow_mul-own_values-in-loop-block : goal.overflow_mul-own_values-in-loop-block
overflow_mul-own_values-in-loop-block c =
    let end = block_end c.loop-block.block c.args.blocks.number c.args.rows.width c.size-size.result (size_of c.args.t) (length c.args.values.now) c.loop-block-test.true c.size-size.ensures c.requires.values in
    omega arith

pub slice_bounds-own_values-end : goal.slice_bounds-own_values-end
slice_bounds-own_values-end c =
    block_end c.loop-block.block c.args.blocks.number c.args.rows.width c.size-size.result (size_of c.args.t) (length c.loop-block.values) c.loop-block-test.true c.size-size.ensures (c.loop-block.invariant.values_length ∙ c.requires.values)

pub overflow_mul-from : goal.overflow_mul-from
overflow_mul-from c =
    let end = block_end c.loop-block.block c.args.blocks.number c.args.rows.width 8 8 (length c.args.places.now) c.loop-block-test.true refl c.requires.places in
    omega arith

pub overflow_add-end : goal.overflow_add-end
overflow_add-end c =
    let end = block_end c.loop-block.block c.args.blocks.number c.args.rows.width 8 8 (length c.args.places.now) c.loop-block-test.true refl c.requires.places in
    omega arith

pub overflow_mul-own_places : goal.overflow_mul-own_places
overflow_mul-own_places c =
    let end = block_end c.loop-block.block c.args.blocks.number c.args.rows.width 8 8 (length c.args.places.now) c.loop-block-test.true refl c.requires.places in
    omega arith

pub overflow_mul-own_places-in-loop-block : goal.overflow_mul-own_places-in-loop-block
overflow_mul-own_places-in-loop-block c =
    let end = block_end c.loop-block.block c.args.blocks.number c.args.rows.width 8 8 (length c.args.places.now) c.loop-block-test.true refl c.requires.places in
    omega arith

pub slice_bounds-own_places-end : goal.slice_bounds-own_places-end
slice_bounds-own_places-end c = block_end c.loop-block.block c.args.blocks.number c.args.rows.width 8 8 (length c.loop-block.places) c.loop-block-test.true refl (c.loop-block.invariant.places_length ∙ c.requires.places)

pub overflow_mul-own_values : goal.overflow_mul-own_values
overflow_mul-own_values c =
    let begins = mul-le-mul_right c.size-size.result (let less : c.loop-block.block * c.args.rows.width ≤ c.loop-block.block * c.args.rows.width + c.args.rows.width = omega arith in less) in
    let end = block_end c.loop-block.block c.args.blocks.number c.args.rows.width c.size-size.result (size_of c.args.t) (length c.loop-block.values) c.loop-block-test.true c.size-size.ensures (c.loop-block.invariant.values_length ∙ c.requires.values) in
    omega arith

pub slice_bounds-own_values-start : goal.slice_bounds-own_values-start
slice_bounds-own_values-start c = mul-le-mul_right c.size-size.result (let less : c.loop-block.block * c.args.rows.width ≤ c.loop-block.block * c.args.rows.width + c.args.rows.width = omega arith in less)

pub columns_of_type-requires-clause-values : goal.columns_of_type-requires-clause-values
columns_of_type-requires-clause-values c =
    rw c.part_of-part.ensures.width (block_length c.loop-block.block c.args.rows.width c.size-size.result (size_of c.args.t) c.loop-block.values c.size-size.ensures
    (block_end c.loop-block.block c.args.blocks.number c.args.rows.width c.size-size.result (size_of c.args.t) (length c.loop-block.values) c.loop-block-test.true c.size-size.ensures (c.loop-block.invariant.values_length ∙ c.requires.values)))

pub columns_of_type-requires-clause-places : goal.columns_of_type-requires-clause-places
columns_of_type-requires-clause-places c =
    rw c.part_of-part.ensures.width (block_length c.loop-block.block c.args.rows.width 8 8 c.loop-block.places refl (block_end c.loop-block.block c.args.blocks.number c.args.rows.width 8 8 (length c.loop-block.places) c.loop-block-test.true refl (c.loop-block.invariant.places_length ∙ c.requires.places)))

pub loop-block-preserved : goal.loop-block-preserved
loop-block-preserved c =
    let t = c.args.t in
    let rows = c.args.rows in
    let block = c.loop-block.block in
    let count = c.args.blocks.rows in
    let width = rows.width in
    let own = size_of t in
    let size = c.size-size.result in
    let values = c.loop-block.values in
    let places = c.loop-block.places in
    let new_values = c.columns_of_type.new.values in
    let new_places = c.columns_of_type.new.places in
    let part = c.part_of-part.result in
    let end = block_end block c.args.blocks.number width size own (length values) c.loop-block-test.true c.size-size.ensures (c.loop-block.invariant.values_length ∙ c.requires.values) in
    let places_end = block_end block c.args.blocks.number width 8 8 (length places) c.loop-block-test.true refl (c.loop-block.invariant.places_length ∙ c.requires.places) in
    let v = block_written t block width size values new_values c.size-size.ensures (c.columns_of_type.auto.values ∙ block_length block width size own values c.size-size.ensures end) end in
    let p = block_written Int64 block width 8 places new_places refl (c.columns_of_type.auto.places ∙ block_length block width 8 8 places refl places_end) places_end in
    record {
      values_length = v.long ∙ c.loop-block.invariant.values_length;
      places_length = p.long ∙ c.loop-block.invariant.places_length;
      done = blocks_more c.args.least t width rows.bytes.now rows.first rows.places.now part.width part.bytes.now part.first part.places.now block count
          c.part_of-part.ensures.part c.part_of-part.ensures.width c.requires.count values places new_values new_places _ _
          c.columns_of_type.ensures v p c.loop-block.invariant.done;
    }

pub returns : goal.returns
returns c =
    let rows = c.args.rows in
    let all : c.loop-block.block ≡ c.args.blocks.number = omega (arith, c.loop-block-test.false, c.loop-block.auto.block-end) in
    subst (λ (n : ℕ). HasBestsAlong c.args.least (table c.args.t rows.width rows.bytes.now rows.first rows.places.now) (sizes n c.args.blocks.rows) c.loop-block.values c.loop-block.places) all
    c.loop-block.invariant.done

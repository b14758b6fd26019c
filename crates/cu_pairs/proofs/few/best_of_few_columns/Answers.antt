use Rattle.std.proofs.Common.{◌≡◌, ◌≢◌, ◌≤◌, ◌+◌, ◌*◌, ℕ, length, ap, ◌∙◌, below_more, arith}
use Rattle.std.proofs.lemmas.Int.{ints}
use Rattle.std.proofs.Math.Nat.{mul-le-mul_right}
use Rattle.cu_num.specs.Dtype.{size_of}
use Rattle.cu_num.specs.Element.{bytes_at}
use Rattle.cu_num.specs.declared.types.Dtype.TheVariants.{Int64}
use Rattle.cu_num.specs.declared.layout.Endian.TheVariants.{Little}
use Rattle.cu_num.proofs.ElementBytes.{bytes_at-written_at_same, bytes_at-written_at_other, length-written_at, length-element_bytes}
use Rattle.cu_pairs.specs.Columns.{table}
use Rattle.cu_pairs.proofs.Parts.{kept, element_room}
use Rattle.cu_pairs.proofs.ColumnSteps.{same_column}
use Rattle.cu_pairs.proofs.FewColumns.{column_done, column_fits, column_small}
use Rattle.cu_pairs.proofs.few.best_of_few_columns.Goals as goal

pub overflow_mul-at : goal.overflow_mul-at
overflow_mul-at c =
    let small = column_small c.args.t c.args.rows.width c.loop-column.column c.first_best_of_column-at.result c.args.count (length c.args.rows.bytes.now) c.loop-column-test.true c.first_best_of_column-at.ensures.within c.requires.rows.bytes in
    let number = small.1 in
    omega arith

pub overflow_add-at : goal.overflow_add-at
overflow_add-at c =
    let small = column_small c.args.t c.args.rows.width c.loop-column.column c.first_best_of_column-at.result c.args.count (length c.args.rows.bytes.now) c.loop-column-test.true c.first_best_of_column-at.ensures.within c.requires.rows.bytes in
    let number = small.1 in
    omega arith

pub load-requires : goal.load-requires
load-requires c = column_fits c.args.t c.args.rows.width c.loop-column.column c.first_best_of_column-at.result c.args.count (length c.args.rows.bytes.now) c.loop-column-test.true c.first_best_of_column-at.ensures.within c.requires.rows.bytes

pub save-requires : goal.save-requires
save-requires c = element_room (size_of c.args.t) c.loop-column.column c.args.rows.width (length c.loop-column.values) c.loop-column-test.true (c.loop-column.invariant.values_length ∙ c.requires.values)

pub save-requires-in-loop-column : goal.save-requires-in-loop-column
save-requires-in-loop-column c = element_room 8 c.loop-column.column c.args.rows.width (length c.loop-column.places) c.loop-column-test.true (c.loop-column.invariant.places_length ∙ c.requires.places)

pub loop-column-preserved : goal.loop-column-preserved
loop-column-preserved c =
    let t = c.args.t in
    let rows = c.args.rows in
    let r = table t rows.width rows.bytes.now rows.first rows.places.now in
    let k = c.loop-column.column in
    let at = c.first_best_of_column-at.result in
    let values = c.loop-column.values in
    let places = c.loop-column.places in
    let below : k + 1 ≤ rows.width = omega (arith, c.loop-column-test.true) in
    let far : (k + 1) * size_of t ≤ rows.width * size_of t = mul-le-mul_right (size_of t) below in
    let room : k * size_of t + size_of t ≤ length values = omega (arith, c.loop-column.invariant.values_length, c.requires.values) in
    let places_room : k * 8 + 8 ≤ length places = omega (arith, c.loop-column.invariant.places_length, c.requires.places) in
    let written = c.save.ensures in
    let places_written = c.save-in-loop-column.ensures in
    let read = kept c.load.result (record { sfits = c.load.type_inv }) ∙ c.load.ensures.value in
    let v = ap (λ all. bytes_at t all k) written ∙ bytes_at-written_at_same t values _ k (length-element_bytes Little t _) room in
    let p = ap (λ all. bytes_at Int64 all k) places_written ∙ bytes_at-written_at_same Int64 places _ k (length-element_bytes Little Int64 _) places_room in
    let other : (j : ℕ) → j ≢ k → (bytes_at t c.save.new.bytes j ≡ bytes_at t values j) × (bytes_at Int64 c.save-in-loop-column.new.bytes j ≡ bytes_at Int64 places j) = λ j apart. (
      ap (λ all. bytes_at t all j) written ∙ bytes_at-written_at_other t values _ k j apart (length-element_bytes Little t _) room,
      ap (λ all. bytes_at Int64 all j) places_written ∙ bytes_at-written_at_other Int64 places _ k j apart (length-element_bytes Little Int64 _) places_room,
    ) in
    record {
      values_length = ap length written ∙ (length-written_at Little t values k _ room ∙ c.loop-column.invariant.values_length);
      places_length = ap length places_written ∙ (length-written_at Little Int64 places k _ places_room ∙ c.loop-column.invariant.places_length);
      done = below_more _ _
          (λ j b. let same = other j (omega arith) in same_column c.args.least r c.args.count j values places c.save.new.bytes c.save-in-loop-column.new.bytes same.0 same.1 (c.loop-column.invariant.done j b))
          (column_done c.args.least t rows.width rows.bytes.now rows.first rows.places.now c.args.first c.args.count k at _ _ c.save.new.bytes c.save-in-loop-column.new.bytes c.requires.counted
          c.first_best_of_column-at.ensures read (omega (arith, ints, c.from.ensures)) v p);
    }

pub returns : goal.returns
returns c = record { column = λ k b. c.loop-column.invariant.done k (omega arith) }

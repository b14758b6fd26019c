use Rattle.std.proofs.Common.{◌≡◌, ◌≢◌, ℕ, ◌+◌, ◌*◌, ◌<◌, ◌≤◌, length, refl, sym, ap, ◌∙◌, subst, arith, below_more, ◌==◌, if◌then◌else◌}
use Rattle.std.proofs.Math.Nat.{mul-le-mul_right}
use Rattle.cu_num.specs.Dtype.{size_of}
use Rattle.cu_num.specs.Element.{element_at, bytes_at}
use Rattle.cu_num.specs.declared.types.Dtype.TheVariants.{Int64}
use Rattle.cu_num.specs.declared.layout.Endian.TheVariants.{Little}
use Rattle.cu_num.proofs.ElementBytes.{bytes_at-written_at_same, bytes_at-written_at_other, length-written_at, length-element_bytes}
use Rattle.cu_reduce.specs.Numbers.{HasNumber}
use Rattle.cu_pairs.specs.Elements.{found}
use Rattle.cu_pairs.specs.Columns.{table, found_in, is_taken, HasBest}
use Rattle.cu_pairs.proofs.FewColumns.{column_fits, column_small}
use Rattle.cu_pairs.proofs.Parts.{kept, kept_twice, element_room}
use Rattle.cu_pairs.proofs.ColumnSteps.{first_row, later_row, same_column, chosen_number}
use Rattle.cu_pairs.proofs.columns.take_row.Goals as goal
use Rattle.cu_pairs.proofs.columns.take_row.Goals.{then-row-eq0, else-row-eq0}

pub loop-k-init : goal.loop-k-init
loop-k-init c = record {
  values_length = refl;
  places_length = refl;
  done = λ k b. absurd (omega arith);
  left = λ k a b. c.requires.before.column k b;
}

pub overflow_mul-at : goal.overflow_mul-at
overflow_mul-at c =
    let small = column_small c.args.t c.args.rows.width c.loop-k.k c.args.row (c.args.row + 1) (length c.args.rows.bytes.now) c.loop-k-test.true (omega arith) c.requires.rows.bytes in
    let number = small.1 in
    omega arith

pub overflow_add-at : goal.overflow_add-at
overflow_add-at c =
    let small = column_small c.args.t c.args.rows.width c.loop-k.k c.args.row (c.args.row + 1) (length c.args.rows.bytes.now) c.loop-k-test.true (omega arith) c.requires.rows.bytes in
    let number = small.1 in
    omega arith

pub load-requires : goal.load-requires
load-requires c = column_fits c.args.t c.args.rows.width c.loop-k.k c.args.row (c.args.row + 1) (length c.args.rows.bytes.now) c.loop-k-test.true (omega arith) c.requires.rows.bytes

pub load-requires-in-loop-k : goal.load-requires-in-loop-k
load-requires-in-loop-k c = element_room (size_of c.args.t) c.loop-k.k c.args.rows.width (length c.loop-k.values) c.loop-k-test.true (c.loop-k.invariant.values_length ∙ c.requires.values)

pub load-requires-in-loop-k-2 : goal.load-requires-in-loop-k-2
load-requires-in-loop-k-2 c = element_room 8 c.loop-k.k c.args.rows.width (length c.loop-k.places) c.loop-k-test.true (c.loop-k.invariant.places_length ∙ c.requires.places)

pub save-requires : goal.save-requires
save-requires c = element_room (size_of c.args.t) c.loop-k.k c.args.rows.width (length c.loop-k.values) c.loop-k-test.true (c.loop-k.invariant.values_length ∙ c.requires.values)

pub save-requires-in-loop-k : goal.save-requires-in-loop-k
save-requires-in-loop-k c = element_room 8 c.loop-k.k c.args.rows.width (length c.loop-k.places) c.loop-k-test.true (c.loop-k.invariant.places_length ∙ c.requires.places)

pub loop-k-preserved : goal.loop-k-preserved
loop-k-preserved c =
    let t = c.args.t in
    let rows = c.args.rows in
    let row = c.args.row in
    let r = table t rows.width rows.bytes.now rows.first rows.places.now in
    let k = c.loop-k.k in
    let values = c.loop-k.values in
    let places = c.loop-k.places in
    let choice = c.if-row-eq0.choice in
    let below : k < rows.width = c.loop-k-test.true in
    let far : (k + 1) * size_of t ≤ rows.width * size_of t = mul-le-mul_right (size_of t) (let l : k + 1 ≤ rows.width = omega arith in l) in
    let room : k * size_of t + size_of t ≤ length values = omega (arith, c.loop-k.invariant.values_length, c.requires.values) in
    let places_room : k * 8 + 8 ≤ length places = omega (arith, c.loop-k.invariant.places_length, c.requires.places) in
    let read_twice = kept_twice c.load.result (record { sfits = c.load.type_inv }) ∙ c.load.ensures.value in
    let read = kept c.load.result (record { sfits = c.load.type_inv }) ∙ c.load.ensures.value in
    let place_read_twice = kept_twice c.place_of.result (record { sfits = c.place_of.type_inv }) ∙ c.place_of.ensures in
    let place_read = kept c.place_of.result (record { sfits = c.place_of.type_inv }) ∙ c.place_of.ensures in
    let best_read_twice = kept_twice c.load-in-loop-k.result (record { sfits = c.load-in-loop-k.type_inv }) ∙ c.load-in-loop-k.ensures.value in
    let best_read = kept c.load-in-loop-k.result (record { sfits = c.load-in-loop-k.type_inv }) ∙ c.load-in-loop-k.ensures.value in
    let best_place_read_twice = kept_twice c.load-in-loop-k-2.result (record { sfits = c.load-in-loop-k-2.type_inv }) ∙ c.load-in-loop-k-2.ensures.value in
    let best_place_read = kept c.load-in-loop-k-2.result (record { sfits = c.load-in-loop-k-2.type_inv }) ∙ c.load-in-loop-k-2.ensures.value in
    let written = c.save.ensures in
    let places_written = c.save-in-loop-k.ensures in
    let value : HasNumber t c.save.new.bytes k (if choice then (found_in r k row).value else element_at Little t values k) =
    chosen_number t c.save.new.bytes k _ (found_in r k row).value (element_at Little t values k) _ _ choice read_twice best_read_twice
    (kept c.chosen.result (record { sfits = c.chosen.type_inv }) ∙ c.chosen.ensures)
    (ap (λ all. bytes_at t all k) written ∙ bytes_at-written_at_same t values _ k (length-element_bytes Little t _) room) in
    let place : HasNumber Int64 c.save-in-loop-k.new.bytes k (if choice then (found_in r k row).place else element_at Little Int64 places k) =
    chosen_number Int64 c.save-in-loop-k.new.bytes k _ (found_in r k row).place (element_at Little Int64 places k) _ _ choice place_read_twice best_place_read_twice
    (kept c.chosen-in-loop-k.result (record { sfits = c.chosen-in-loop-k.type_inv }) ∙ c.chosen-in-loop-k.ensures)
    (ap (λ all. bytes_at Int64 all k) places_written ∙ bytes_at-written_at_same Int64 places _ k (length-element_bytes Little Int64 _) places_room) in
    let old = c.loop-k.invariant.left k (omega arith) below in
    let own : HasBest c.args.least r (row + 1) c.save.new.bytes c.save-in-loop-k.new.bytes k = elim c.if-row-eq0.branch [
      | then-row-eq0 w ↦ first_row c.args.least r row k c.save.new.bytes c.save-in-loop-k.new.bytes w.if-row-eq0.true (
        subst (λ b. HasNumber t c.save.new.bytes k (if b then (found_in r k row).value else element_at Little t values k)) (w.choice-is ∙ ap (λ n. n == 0) w.if-row-eq0.true) value,
        subst (λ b. HasNumber Int64 c.save-in-loop-k.new.bytes k (if b then (found_in r k row).place else element_at Little Int64 places k)) (w.choice-is ∙ ap (λ n. n == 0) w.if-row-eq0.true) place,
      )
      | else-row-eq0 w ↦ later_row c.args.least r row k values places c.save.new.bytes c.save-in-loop-k.new.bytes choice (omega (arith, w.if-row-eq0.false)) old
          (sym (w.choice-is ∙ w.is_taken-choice.ensures ∙ (λ i. is_taken c.args.least rows.first (found (read i) (place_read i)) (found (best_read i) (best_place_read i))))) value place
    ] in
    let other : (j : ℕ) → j ≢ k → (bytes_at t c.save.new.bytes j ≡ bytes_at t values j) × (bytes_at Int64 c.save-in-loop-k.new.bytes j ≡ bytes_at Int64 places j) = λ j apart. (
      ap (λ all. bytes_at t all j) written ∙ bytes_at-written_at_other t values _ k j apart (length-element_bytes Little t _) room,
      ap (λ all. bytes_at Int64 all j) places_written ∙ bytes_at-written_at_other Int64 places _ k j apart (length-element_bytes Little Int64 _) places_room,
    ) in
    record {
      values_length = ap length written ∙ (length-written_at Little t values k _ room ∙ c.loop-k.invariant.values_length);
      places_length = ap length places_written ∙ (length-written_at Little Int64 places k _ places_room ∙ c.loop-k.invariant.places_length);
      done = below_more _ _
          (λ j b. let same = other j (omega arith) in same_column c.args.least r (row + 1) j values places c.save.new.bytes c.save-in-loop-k.new.bytes same.0 same.1 (c.loop-k.invariant.done j b))
          own;
      left = λ j a b. let same = other j (omega arith) in same_column c.args.least r row j values places c.save.new.bytes c.save-in-loop-k.new.bytes same.0 same.1 (c.loop-k.invariant.left j (omega arith) b);
    }

pub returns : goal.returns
returns c = record { column = λ k b. c.loop-k.invariant.done k (omega arith) }

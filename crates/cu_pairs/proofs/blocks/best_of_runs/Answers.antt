use Rattle.std.proofs.Common.{◌≡◌, ◌≢◌, ◌+◌, ◌*◌, ◌≤◌, ℕ, length, sym, ap, ◌∙◌, subst, arith}
use Rattle.std.proofs.lemmas.Int.{ints}
use Rattle.std.proofs.Math.Nat.{mul-le-mul_right}
use Rattle.cu_num.specs.Dtype.{size_of}
use Rattle.cu_num.specs.Element.{bytes_at}
use Rattle.cu_num.specs.declared.types.Dtype.TheVariants.{Int64}
use Rattle.cu_num.specs.declared.layout.Endian.TheVariants.{Little}
use Rattle.cu_num.proofs.ElementBytes.{bytes_at-written_at_same, bytes_at-written_at_other, length-written_at, length-element_bytes}
use Rattle.cu_pairs.proofs.Parts.{kept, size_positive, element_room}
use Rattle.cu_pairs.proofs.BlockParts.{block_reaches, run_within}
use Rattle.cu_pairs.proofs.RunSteps.{runs_more}
use Rattle.cu_pairs.specs.Columns.{table}
use Rattle.cu_pairs.specs.Blocks.{sizes, HasBestsAlong}
use Rattle.cu_pairs.proofs.blocks.best_of_runs.Goals as goal

pub overflow_mul-from : goal.overflow_mul-from
overflow_mul-from c =
    let rows = c.args.rows in
    let run = run_within c.loop-block.block c.args.blocks.number c.args.blocks.rows rows.width (size_of c.args.t) c.size-size.result (length rows.bytes.now) c.loop-block-test.true c.requires.width c.size-size.ensures
    (size_positive c.args.t) c.requires.rows.bytes in
    let small = run.small in omega arith

pub overflow_mul-run : goal.overflow_mul-run
overflow_mul-run c =
    let rows = c.args.rows in
    let run = run_within c.loop-block.block c.args.blocks.number c.args.blocks.rows rows.width (size_of c.args.t) c.size-size.result (length rows.bytes.now) c.loop-block-test.true c.requires.width c.size-size.ensures
    (size_positive c.args.t) c.requires.rows.bytes in
    let begins = run.begins in let ends = run.ends in omega arith

pub overflow_add-run : goal.overflow_add-run
overflow_add-run c =
    let rows = c.args.rows in
    let run = run_within c.loop-block.block c.args.blocks.number c.args.blocks.rows rows.width (size_of c.args.t) c.size-size.result (length rows.bytes.now) c.loop-block-test.true c.requires.width c.size-size.ensures
    (size_positive c.args.t) c.requires.rows.bytes in
    let small = run.small in omega arith

pub overflow_mul-run-in-loop-block : goal.overflow_mul-run-in-loop-block
overflow_mul-run-in-loop-block c =
    let rows = c.args.rows in
    let run = run_within c.loop-block.block c.args.blocks.number c.args.blocks.rows rows.width (size_of c.args.t) c.size-size.result (length rows.bytes.now) c.loop-block-test.true c.requires.width c.size-size.ensures
    (size_positive c.args.t) c.requires.rows.bytes in
    let ends = run.ends in omega arith

pub slice_bounds-run-start : goal.slice_bounds-run-start
slice_bounds-run-start c =
    let rows = c.args.rows in
    let run = run_within c.loop-block.block c.args.blocks.number c.args.blocks.rows rows.width (size_of c.args.t) c.size-size.result (length rows.bytes.now) c.loop-block-test.true c.requires.width c.size-size.ensures
    (size_positive c.args.t) c.requires.rows.bytes in
    run.begins

pub slice_bounds-run-end : goal.slice_bounds-run-end
slice_bounds-run-end c =
    let rows = c.args.rows in
    let run = run_within c.loop-block.block c.args.blocks.number c.args.blocks.rows rows.width (size_of c.args.t) c.size-size.result (length rows.bytes.now) c.loop-block-test.true c.requires.width c.size-size.ensures
    (size_positive c.args.t) c.requires.rows.bytes in
    run.ends

pub save-requires : goal.save-requires
save-requires c = element_room (size_of c.args.t) c.loop-block.block c.args.blocks.number (length c.loop-block.values) c.loop-block-test.true (c.loop-block.invariant.values_length ∙ c.requires.values)

pub save-requires-in-loop-block : goal.save-requires-in-loop-block
save-requires-in-loop-block c = element_room 8 c.loop-block.block c.args.blocks.number (length c.loop-block.places) c.loop-block-test.true (c.loop-block.invariant.places_length ∙ c.requires.places)

pub loop-block-preserved : goal.loop-block-preserved
loop-block-preserved c =
    let t = c.args.t in
    let rows = c.args.rows in
    let block = c.loop-block.block in
    let count = c.args.blocks.rows in
    let values = c.loop-block.values in
    let places = c.loop-block.places in
    let below : block + 1 ≤ c.args.blocks.number = omega (arith, c.loop-block-test.true) in
    let far : (block + 1) * size_of t ≤ c.args.blocks.number * size_of t = mul-le-mul_right (size_of t) below in
    let room : block * size_of t + size_of t ≤ length values = omega (arith, c.loop-block.invariant.values_length, c.requires.values) in
    let places_room : block * 8 + 8 ≤ length places = omega (arith, c.loop-block.invariant.places_length, c.requires.places) in
    let written = c.save.ensures in
    let places_written = c.save-in-loop-block.ensures in
    let read = kept c.load.result (record { sfits = c.load.type_inv }) ∙ c.load.ensures.value in
    let end = block_reaches block c.args.blocks.number count rows.width (size_of t) (length rows.bytes.now) c.loop-block-test.true c.requires.rows.bytes in
    let one : (block * count + count) * size_of t ≡ (block * count * rows.width + count * rows.width) * size_of t =
    (let each : (block * count + count) * size_of t ≡ (block * count * 1 + count * 1) * size_of t = omega arith in each) ∙ ap (λ w. (block * count * w + count * w) * size_of t) (sym c.requires.width) in
    let v = ap (λ all. bytes_at t all block) written ∙ bytes_at-written_at_same t values _ block (length-element_bytes Little t _) room in
    let p = ap (λ all. bytes_at Int64 all block) places_written ∙ bytes_at-written_at_same Int64 places _ block (length-element_bytes Little Int64 _) places_room in
    record {
      values_length = ap length written ∙ (length-written_at Little t values block _ room ∙ c.loop-block.invariant.values_length);
      places_length = ap length places_written ∙ (length-written_at Little Int64 places block _ places_room ∙ c.loop-block.invariant.places_length);
      done = runs_more c.args.least t rows.width rows.bytes.now rows.first rows.places.now c.args.first block count c.size-size.result c.first_best_of_type-at.result _ _ values places c.save.new.bytes c.save-in-loop-block.new.bytes
          c.requires.width c.requires.first c.size-size.ensures (omega arith) c.first_best_of_type-at.ensures read (omega (arith, ints, c.from.ensures)) v p
          (λ b less. let apart : b ≢ block = omega arith in (
            ap (λ all. bytes_at t all b) written ∙ bytes_at-written_at_other t values _ block b apart (length-element_bytes Little t _) room,
            ap (λ all. bytes_at Int64 all b) places_written ∙ bytes_at-written_at_other Int64 places _ block b apart (length-element_bytes Little Int64 _) places_room,
          ))
          c.loop-block.invariant.done;
    }

pub returns : goal.returns
returns c =
    let rows = c.args.rows in
    let all : c.loop-block.block ≡ c.args.blocks.number = omega (arith, c.loop-block-test.false, c.loop-block.auto.block-end) in
    subst (λ (n : ℕ). HasBestsAlong c.args.least (table c.args.t rows.width rows.bytes.now rows.first rows.places.now) (sizes n c.args.blocks.rows) c.loop-block.values c.loop-block.places) all
    c.loop-block.invariant.done

use Rattle.std.proofs.Common.{◌≡◌, ◌<◌, ◌≤◌, ◌+◌, ◌-◌, ◌*◌, min, length, ◌∙◌, arith, ℕ, Option, ℤ}
use Rattle.cu_kern.specs.Steps.{value_by_place}
use Rattle.cu_kern.proofs.Parts.{element_room}
use Rattle.cu_kern.proofs.Pieces.{part_within, part_length, values_from}
use Rattle.cu_kern.proofs.run.run_blocks.Goals as goal

-- the part lies in the result
inside : (c : goal.After-min-count) → (c.loop-block.block * 64 * c.size-size.result ≤ (c.loop-block.block * 64 + c.min-count.result) * c.size-size.result) × ((c.loop-block.block * 64 + c.min-count.result) * c.size-size.result ≤ length c.loop-block.out)
inside c =
    let all = c.args.range.count in
    let begun : c.loop-block.block * 64 < all = omega (arith, c.div_ceil-block-end.ensures) in
    part_within c.args.t (c.loop-block.block * 64) c.min-count.result all c.size-size.result (length c.loop-block.out) c.size-size.ensures (omega (arith, c.min-count.ensures, begun)) (c.loop-block.invariant.out_length ∙ c.requires.out)

pub overflow_mul-part : goal.overflow_mul-part
overflow_mul-part c = omega (arith, inside c)

pub overflow_mul-part-in-loop-block : goal.overflow_mul-part-in-loop-block
overflow_mul-part-in-loop-block c = omega (arith, inside c)

pub slice_bounds-part-count : goal.slice_bounds-part-count
slice_bounds-part-count c = omega (arith, inside c)

pub slice_bounds-part-start : goal.slice_bounds-part-start
slice_bounds-part-start c = omega (arith, inside c)

pub slice_bounds-part-end : goal.slice_bounds-part-end
slice_bounds-part-end c = omega (arith, inside c)

pub run_block-requires-clause-whole : goal.run_block-requires-clause-whole
run_block-requires-clause-whole c =
    let count = c.min-count.result in
    let all = c.args.range.count in
    let begun : c.loop-block.block * 64 < all = omega (arith, c.div_ceil-block-end.ensures) in
    let within : c.loop-block.block * 64 + count ≤ all = omega (arith, c.min-count.ensures, begun) in
    (count, (part_length c.args.t c.loop-block.out (c.loop-block.block * 64) count all c.size-size.result c.size-size.ensures within (c.loop-block.invariant.out_length ∙ c.requires.out)).1, omega (arith, c.min-count.ensures), omega (arith, within))

pub loop-block-preserved : goal.loop-block-preserved
loop-block-preserved c =
    let t = c.args.t in
    let inputs = c.args.inputs in
    let block = c.loop-block.block in
    let size = c.size-size.result in
    let count = c.min-count.result in
    let all = c.args.range.count in
    let from = c.args.range.from in
    let out = c.loop-block.out in
    let new = c.run_block.new.out in
    let least : count ≡ min (all - block * 64) 64 = c.min-count.ensures in
    let begun : block * 64 < all = omega (arith, c.div_ceil-block-end.ensures) in
    let within : block * 64 + count ≤ all = omega (arith, least, begun) in
    let whole = c.loop-block.invariant.out_length ∙ c.requires.out in
    let long = c.run_block.auto.out ∙ (part_length t out (block * 64) count all size c.size-size.ensures within whole).1 in
    let value : ℕ → Option ℤ = value_by_place c.args.code.now inputs.lays.now inputs.ins.now inputs.dims.now in
    let more = values_from t out new from (block * 64) count all size value c.size-size.ensures within whole c.run_block.auto.out
    (λ k b. c.loop-block.invariant.values k (omega (arith, b)) (omega (arith, b, begun))) (λ j b. c.run_block.ensures j (element_room t j count (length new) long b)) in
    record {
      out_length = more.0 ∙ c.loop-block.invariant.out_length;
      words_length = c.run_block.auto.words ∙ c.loop-block.invariant.words_length;
      values = λ k b inside. more.1 k (omega (arith, least, b, inside));
    }

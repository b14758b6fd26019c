use Rattle.std.proofs.Common.{◌≡◌, ◌≤◌, ◌+◌, ◌*◌, ap, ◌∙◌, sym, subst, arith, length, Some, ℕ, ℤ}
use Rattle.cu_num.specs.Dtype.{size_of}
use Rattle.cu_num.specs.declared.layout.Endian.TheVariants.{Little}
use Rattle.cu_num.proofs.ElementBytes.{InRange-element_at}
use Rattle.cu_shape.specs.Index.{index_at}
use Rattle.cu_kern.specs.Lays.{lay_element}
use Rattle.cu_kern.specs.Strips.{strip, HasPlaces}
use Rattle.cu_kern.proofs.Parts.{element_room}
use Rattle.cu_kern.proofs.Pieces.{part_within, part_length, part_count, values_more, copied_value}
use Rattle.cu_kern.proofs.fills.pieces_of_region.Goals as goal

-- the part lies in the result
inside : (c : goal.After-strip_from-strip) → (c.loop-done.done * c.size-size.result ≤ (c.loop-done.done + c.min-count.result) * c.size-size.result) × ((c.loop-done.done + c.min-count.result) * c.size-size.result ≤ length c.loop-done.out)
inside c = part_within c.args.region.lay.now.dtype c.loop-done.done c.min-count.result c.args.range.count c.size-size.result (length c.loop-done.out) c.size-size.ensures (omega (arith, c.min-count.ensures, c.loop-done-test.true)) (c.loop-done.invariant.out_length ∙ c.requires.room)

pub overflow_mul-part : goal.overflow_mul-part
overflow_mul-part c = omega (arith, inside c)

pub overflow_mul-part-in-loop-done : goal.overflow_mul-part-in-loop-done
overflow_mul-part-in-loop-done c = omega (arith, inside c)

pub slice_bounds-part-count : goal.slice_bounds-part-count
slice_bounds-part-count c = omega (arith, inside c)

pub slice_bounds-part-start : goal.slice_bounds-part-start
slice_bounds-part-start c = omega (arith, inside c)

pub slice_bounds-part-end : goal.slice_bounds-part-end
slice_bounds-part-end c = omega (arith, inside c)

pub call_strips-requires-clause-arguments : goal.call_strips-requires-clause-arguments
call_strips-requires-clause-arguments c =
    let t = c.args.region.lay.now.dtype in
    let n = part_count t c.loop-done.out c.loop-done.done c.min-count.result c.args.range.count c.size-size.result c.size-size.ensures (omega (arith, c.min-count.ensures)) (c.loop-done.invariant.out_length ∙ c.requires.room) in
    let P : ℕ → Type 0 = λ m. HasPlaces t (strip c.strip_from-strip.result.bytes.now c.strip_from-strip.result.step) m in
    let places = subst P (sym n) c.strip_from-strip.ensures.places in
    record { first = places; second = places; third = places }

pub loop-done-preserved : goal.loop-done-preserved
loop-done-preserved c =
    let t = c.args.region.lay.now.dtype in
    let all = c.args.range.count in
    let done = c.loop-done.done in
    let size = c.size-size.result in
    let count = c.min-count.result in
    let out = c.loop-done.out in
    let new = c.call_strips.new.out in
    let whole : length out ≡ all * size_of t = c.loop-done.invariant.out_length ∙ c.requires.room in
    let within : done + count ≤ all = omega (arith, c.min-count.ensures, c.loop-done-test.true) in
    let long = c.call_strips.auto.out ∙ (part_length t out done count all size c.size-size.ensures within whole).1 in
    let read : ℕ → ℤ = λ p. lay_element c.args.region.lay.now c.args.region.ins.now (index_at c.args.dims.now p) in
    let more = values_more t out new done count all size (λ k. Some (read (c.args.range.from + k))) c.size-size.ensures within whole c.call_strips.auto.out c.loop-done.invariant.values
    (λ j b.
    let place : c.args.range.from + done + j ≡ c.args.range.from + (done + j) = omega arith in
    copied_value t new j _ (read (c.args.range.from + (done + j))) (InRange-element_at Little t _ _) (c.strip_from-strip.ensures.elements j b ∙ ap read place) (c.call_strips.ensures j (element_room t j count (length new) long b))) in
    record { within = within; out_length = more.0 ∙ c.loop-done.invariant.out_length; values = more.1 }

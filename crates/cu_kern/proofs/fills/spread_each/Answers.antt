use Rattle.std.proofs.Common.{◌≡◌, ◌≤◌, ◌<◌, ◌+◌, ◌*◌, ◌/◌, ◌%◌, ap, ◌∙◌, sym, subst, arith, length, Some, ℕ, ℤ}
use Rattle.cu_num.specs.Dtype.{size_of, InRange}
use Rattle.cu_num.specs.declared.types.Dtype.{Dtype}
use Rattle.cu_num.specs.declared.layout.Endian.TheVariants.{Little}
use Rattle.cu_num.proofs.ElementBytes.{InRange-element_at}
use Rattle.cu_shape.specs.Index.{index_at}
use Rattle.cu_kern.specs.Lays.{lay_element}
use Rattle.cu_kern.specs.Strips.{strip, strip_element, HasPlaces}
use Rattle.cu_kern.proofs.Parts.{element_room}
use Rattle.cu_kern.proofs.Pieces.{part_within, part_length, part_count, values_more, copied_value}
use Rattle.cu_kern.proofs.ReadPlaces.{read_below}
use Rattle.cu_kern.proofs.Spreads.{spread_is_run, next_run}
use Rattle.cu_kern.proofs.fills.spread_each.Goals as goal

pub strip_at-strip-requires-clause-pace : goal.strip_at-strip-requires-clause-pace
strip_at-strip-requires-clause-pace c = spread_is_run c.args.region.lay.now.dims c.args.dims.now c.args.run c.requires.spread c.requires.some

pub strip_at-strip-requires-clause-below : goal.strip_at-strip-requires-clause-below
strip_at-strip-requires-clause-below c =
    let p = c.args.range.from + c.loop-done.done in
    let within = c.requires.within in
    let test = c.loop-done-test.true in
    let low = read_below c.args.region.lay.now.dims c.args.dims.now p c.requires.region.fits.broadcasts (omega arith) in
    let at = c.loop-done.invariant.at_run test in
    let read = c.requires.spread p (omega arith) in
    omega (arith, low, at, read)

-- the part lies in the result
inside : (c : goal.After-strip_at-strip) → (c.loop-done.done * c.size-size.result ≤ (c.loop-done.done + c.min-count.result) * c.size-size.result) × ((c.loop-done.done + c.min-count.result) * c.size-size.result ≤ length c.loop-done.out)
inside c = part_within c.args.t c.loop-done.done c.min-count.result c.args.range.count c.size-size.result (length c.loop-done.out) c.size-size.ensures (omega (arith, c.min-count.ensures, c.loop-done-test.true)) (c.loop-done.invariant.out_length ∙ c.requires.room)

pub overflow_mul-part : goal.overflow_mul-part
overflow_mul-part c = omega (arith, inside c)

pub overflow_mul-part-in-loop-done : goal.overflow_mul-part-in-loop-done
overflow_mul-part-in-loop-done c = omega (arith, inside c)

pub slice_bounds-part-count : goal.slice_bounds-part-count
slice_bounds-part-count c = omega (arith, inside c)

pub slice_bounds-part-start : goal.slice_bounds-part-start
slice_bounds-part-start c = omega (arith, inside c)

pub slice_bounds-part-end : goal.slice_bounds-part-end
slice_bounds-part-end c = omega (arith, inside c)

pub one_each-requires-clause-arguments : goal.one_each-requires-clause-arguments
one_each-requires-clause-arguments c =
    let t = c.args.t in
    let n = part_count t c.loop-done.out c.loop-done.done c.min-count.result c.args.range.count c.size-size.result c.size-size.ensures (omega (arith, c.min-count.ensures)) (c.loop-done.invariant.out_length ∙ c.requires.room) in
    let P : ℕ → Type 0 = λ m. HasPlaces t (strip c.strip_at-strip.result.bytes.now c.strip_at-strip.result.step) m in
    let Q : Dtype → Type 0 = λ d. HasPlaces d (strip c.strip_at-strip.result.bytes.now c.strip_at-strip.result.step) c.min-count.result in
    let places = subst P (sym n) (subst Q c.requires.region.dtype c.strip_at-strip.ensures.places) in
    record { first = places; second = places; third = places }

pub loop-done-preserved : goal.loop-done-preserved
loop-done-preserved c =
    let t = c.args.t in
    let lay = c.args.region.lay.now in
    let all = c.args.range.count in
    let done = c.loop-done.done in
    let size = c.size-size.result in
    let count = c.min-count.result in
    let out = c.loop-done.out in
    let new = c.one_each.new.out in
    let strip = strip c.strip_at-strip.result.bytes.now c.strip_at-strip.result.step in
    let whole : length out ≡ all * size_of t = c.loop-done.invariant.out_length ∙ c.requires.room in
    let within : done + count ≤ all = omega (arith, c.min-count.ensures, c.loop-done-test.true) in
    let long = c.one_each.auto.out ∙ (part_length t out done count all size c.size-size.ensures within whole).1 in
    let read : ℕ → ℤ = λ p. lay_element lay c.args.region.ins.now (index_at c.args.dims.now p) in
    let more = values_more t out new done count all size (λ k. Some (read (c.args.range.from + k))) c.size-size.ensures within whole c.one_each.auto.out c.loop-done.invariant.values
    (λ j b.
    let place : c.args.range.from + done + j ≡ c.args.range.from + (done + j) = omega arith in
    let P : Dtype → Type 0 = λ d. InRange d (read (c.args.range.from + (done + j))) in
    let range : InRange t (read (c.args.range.from + (done + j))) = subst P c.requires.region.dtype (InRange-element_at Little lay.dtype _ _) in
    let is : strip_element t strip j ≡ read (c.args.range.from + (done + j)) = ap (λ d. strip_element d strip j) (sym c.requires.region.dtype) ∙ c.strip_at-strip.ensures.elements j b ∙ ap read place in
    copied_value t new j _ (read (c.args.range.from + (done + j))) range is (c.one_each.ensures j (element_room t j count (length new) long b))) in
    let next = next_run (c.args.range.from + done) c.loop-done.left c.args.run c.requires.some (c.loop-done.invariant.in_run c.loop-done-test.true) in
    let full : done + count < all → count ≡ c.loop-done.left = λ less. omega (arith, c.min-count.ensures, less) in
    let sum : done + count < all → c.args.range.from + done + c.loop-done.left ≡ c.args.range.from + (done + count) = λ less. omega (arith, full less) in
    record {
      within = within;
      out_length = more.0 ∙ c.loop-done.invariant.out_length;
      at_run = λ less. ap (λ q. q + 1) (c.loop-done.invariant.at_run c.loop-done-test.true) ∙ sym next.0 ∙ ap (λ q. q / c.args.run) (sum less);
      in_run = λ less. ap (λ q. q % c.args.run + c.args.run) (sym (sum less)) ∙ ap (λ q. q + c.args.run) next.1 ∙ omega arith;
      values = more.1;
    }

use Rattle.std.proofs.Common.{◌+◌, ◌*◌, ◌≤◌, ◌++◌, ℕ, length, take, drop, sym, ap, ◌∙◌, subst}
use Rattle.std.proofs.lemmas.Int.{to_z-of_z}
use Rattle.std.specs.Int.{w128}
use Rattle.cu_num.specs.Dtype.{size_of}
use Rattle.cu_num.specs.Element.{element_at, element_bytes}
use Rattle.cu_num.specs.declared.layout.Endian.TheVariants.{Little}
use Rattle.cu_num.proofs.ElementBytes.{length-element_bytes}
use Rattle.cu_shape.specs.Index.{place_of}
use Rattle.cu_view_box.proofs.Drawn.{number_drawn, number_kept}
use Rattle.cu_view_box.proofs.Rows.{place_fits}
use Rattle.cu_view_box.proofs.drawing.draw_number.Goals as goal

pub block_place-read-requires-clause-within : goal.block_place-read-requires-clause-within
block_place-read-requires-clause-within c = c.requires.part.of_block c.args.part.now.lo c.requires.some

pub load-number-requires : goal.load-number-requires
load-number-requires c =
    let from = c.args.drawing.now.from.now in
    subst (λ (p : ℕ). p * size_of from.dtype + size_of from.dtype ≤ length c.args.drawing.now.bytes.now) (sym c.block_place-read.ensures)
    (place_fits from c.args.drawing.now.bytes.now c.args.part.now.lo c.requires.from_block (c.requires.part.of_block c.args.part.now.lo c.requires.some))

pub run_place-at-requires-clause-inside : goal.run_place-at-requires-clause-inside
run_place-at-requires-clause-inside c = c.requires.part.inside c.args.part.now.lo c.requires.some

pub run_place-at-requires-clause-low : goal.run_place-at-requires-clause-low
run_place-at-requires-clause-low c = c.requires.part.low c.args.part.now.lo c.requires.some

pub run_place-at-requires-clause-high : goal.run_place-at-requires-clause-high
run_place-at-requires-clause-high c = c.requires.part.high c.args.part.now.lo c.requires.some

pub save-requires : goal.save-requires
save-requires c =
    let to = c.args.drawing.now.to.now in
    let part = c.args.part.now in
    let source = c.args.drawing.now.source.now in
    subst (λ (p : ℕ). p * size_of to.dtype + size_of to.dtype ≤ length c.args.output.now) (sym c.run_place-at.ensures)
    (c.requires.run.fits (place_of source part.lo) (c.requires.part.low part.lo c.requires.some) (c.requires.part.high part.lo c.requires.some))

pub returns-clause-drawn : goal.returns-clause-drawn
returns-clause-drawn c =
    let t = c.args.drawing.now.to.now.dtype in
    let at = c.run_place-at.result in
    let to = c.args.drawing.now.to.now in
    let part = c.args.part.now in
    let source = c.args.drawing.now.source.now in
    number_drawn c.args.drawing.now.source.now c.args.drawing.now.from.now c.args.drawing.now.to.now c.args.drawing.now.bytes.now c.args.output.now c.save.new.bytes
    (element_bytes Little t (element_at Little c.args.drawing.now.from.now.dtype c.args.drawing.now.bytes.now c.block_place-read.result))
    c.args.run c.args.part.now c.run_place-at.result c.requires.one c.run_place-at.ensures
    (subst (λ (p : ℕ). p * size_of to.dtype + size_of to.dtype ≤ length c.args.output.now) (sym c.run_place-at.ensures)
    (c.requires.run.fits (place_of source part.lo) (c.requires.part.low part.lo c.requires.some) (c.requires.part.high part.lo c.requires.some)))
    (length-element_bytes Little t (element_at Little c.args.drawing.now.from.now.dtype c.args.drawing.now.bytes.now c.block_place-read.result))
    (ap (λ p. element_bytes Little t (element_at Little c.args.drawing.now.from.now.dtype c.args.drawing.now.bytes.now p)) c.block_place-read.ensures)
    (c.save.ensures
    ∙ ap (λ x. take (at * size_of t) c.args.output.now ++ element_bytes Little t x ++ drop (at * size_of t + size_of t) c.args.output.now)
    (to_z-of_z w128 c.load-number.result (record { sfits = c.load-number.type_inv }) ∙ c.load-number.ensures.value))

pub returns-clause-others : goal.returns-clause-others
returns-clause-others c =
    let t = c.args.drawing.now.to.now.dtype in
    let at = c.run_place-at.result in
    let to = c.args.drawing.now.to.now in
    let part = c.args.part.now in
    let source = c.args.drawing.now.source.now in
    number_kept c.args.drawing.now.source.now c.args.drawing.now.to.now c.args.output.now c.save.new.bytes
    (element_bytes Little t c.load-number.result)
    c.args.run c.args.part.now c.run_place-at.result c.requires.some c.run_place-at.ensures
    (subst (λ (p : ℕ). p * size_of to.dtype + size_of to.dtype ≤ length c.args.output.now) (sym c.run_place-at.ensures)
    (c.requires.run.fits (place_of source part.lo) (c.requires.part.low part.lo c.requires.some) (c.requires.part.high part.lo c.requires.some)))
    (length-element_bytes Little t c.load-number.result)
    (c.save.ensures
    ∙ ap (λ x. take (at * size_of t) c.args.output.now ++ element_bytes Little t x ++ drop (at * size_of t + size_of t) c.args.output.now)
    (to_z-of_z w128 c.load-number.result (record { sfits = c.load-number.type_inv })))

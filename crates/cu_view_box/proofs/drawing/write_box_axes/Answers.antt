use Rattle.std.proofs.Common.{ℕ, List, ◌∙◌, arith}
use Rattle.std.proofs.lemmas.List.{length-set}
use Rattle.cu_shape.specs.Index.{place_of}
use Rattle.cu_view_box.specs.Block.{buffer_place}
use Rattle.cu_view_box.specs.Drawn.{place_in_run}
use Rattle.cu_view_box.proofs.Strided.{next_within, axis_of_part, axis_from, axes_more}
use Rattle.cu_view_box.proofs.drawing.write_box_axes.Goals as goal

pub loop-axis-init : goal.loop-axis-init
loop-axis-init c = record { long = c.requires.rank; made = λ k d b. absurd (omega arith) }

pub block_place-read-requires-clause-within : goal.block_place-read-requires-clause-within
block_place-read-requires-clause-within c =
    c.requires.part.of_block c.second_of_row-next.result
    (next_within c.args.part.now c.loop-axis.axis c.length_of_row-count.result c.second_of_row-next.result c.requires.some c.length_of_row-count.ensures c.second_of_row-next.ensures)

pub run_place-written-requires-clause-inside : goal.run_place-written-requires-clause-inside
run_place-written-requires-clause-inside c =
    c.requires.part.inside c.second_of_row-next.result
    (next_within c.args.part.now c.loop-axis.axis c.length_of_row-count.result c.second_of_row-next.result c.requires.some c.length_of_row-count.ensures c.second_of_row-next.ensures)

pub run_place-written-requires-clause-low : goal.run_place-written-requires-clause-low
run_place-written-requires-clause-low c =
    c.requires.part.low c.second_of_row-next.result
    (next_within c.args.part.now c.loop-axis.axis c.length_of_row-count.result c.second_of_row-next.result c.requires.some c.length_of_row-count.ensures c.second_of_row-next.ensures)

pub run_place-written-requires-clause-high : goal.run_place-written-requires-clause-high
run_place-written-requires-clause-high c =
    c.requires.part.high c.second_of_row-next.result
    (next_within c.args.part.now c.loop-axis.axis c.length_of_row-count.result c.second_of_row-next.result c.requires.some c.length_of_row-count.ensures c.second_of_row-next.ensures)

pub loop-axis-preserved : goal.loop-axis-preserved
loop-axis-preserved c =
    let f : List ℕ → ℕ = λ idx. buffer_place c.args.drawing.now.from.now idx in
    let g : List ℕ → ℕ = λ idx. place_in_run c.args.run (place_of c.args.drawing.now.source.now idx) in
    let long = c.loop-axis.invariant.long in
    let axis = axis_from c.length_of_row-count.result c.stride_to.result c.stride_to-in-loop-axis.result in
    record {
      long = length-set c.loop-axis.axes c.loop-axis.axis axis ∙ long;
      made = axes_more f g c.args.part.now c.loop-axis.axes c.loop-axis.axis axis (omega arith)
          (axis_of_part f g c.args.part.now c.loop-axis.axis c.length_of_row-count.result c.args.start.from c.args.start.to
          c.block_place-read.result c.run_place-written.result c.second_of_row-next.result c.stride_to.result c.stride_to-in-loop-axis.result
          c.length_of_row-count.ensures c.requires.start_from c.requires.start_to c.second_of_row-next.ensures c.block_place-read.ensures c.run_place-written.ensures
          c.stride_to.ensures c.stride_to-in-loop-axis.ensures)
          c.loop-axis.invariant.made;
    }

pub returns-clause-axes : goal.returns-clause-axes
returns-clause-axes c = λ k d b. c.loop-axis.invariant.made k d (omega arith)

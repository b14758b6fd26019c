use Rattle.cu_view_box.proofs.Drawn.{run_in, part_drawn, part_left}
use Rattle.cu_view_box.proofs.gathering.gather_run.Goals as goal

pub draw_run-requires-clause-run : goal.draw_run-requires-clause-run
draw_run-requires-clause-run c =
    run_in c.args.drawing.now.source.now c.args.shape.now c.args.part.now c.args.drawing.now.from.now c.args.drawing.now.to.now c.args.drawing.now.bytes.now c.args.output.now c.run_of-run.result
    c.requires.part c.requires.to_block c.requires.reshape.same c.run_of-run.ensures

pub returns-clause-drawn : goal.returns-clause-drawn
returns-clause-drawn c =
    part_drawn c.args.drawing.now.source.now c.args.shape.now c.args.part.now c.args.drawing.now.from.now c.args.drawing.now.to.now c.args.drawing.now.bytes.now c.args.output.now c.run_of-run.result
    c.requires.part c.requires.to_block c.requires.reshape.same c.run_of-run.ensures c.draw_run.new.output c.draw_run.ensures.drawn

pub returns-clause-others : goal.returns-clause-others
returns-clause-others c =
    part_left c.args.drawing.now.source.now c.args.shape.now c.args.part.now c.args.drawing.now.from.now c.args.drawing.now.to.now c.args.drawing.now.bytes.now c.args.output.now c.run_of-run.result
    c.requires.part c.requires.to_block c.requires.reshape.same c.run_of-run.ensures c.draw_run.new.output c.draw_run.ensures.others

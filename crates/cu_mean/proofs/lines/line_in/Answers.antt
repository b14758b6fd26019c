use Rattle.cu_mean.proofs.Evenly.{plain_evenly}
use Rattle.cu_mean.proofs.lines.line_in.Goals as goal

pub returns : goal.returns
returns c =
    plain_evenly c.args.plain.now c.dims-dims.result.now c.args.start.now c.args.sizes.now c.cells.result.now c.in_ok-span.span c.cells.ensures.plain c.dims-dims.ensures c.cells.ensures.cells c.in_ok-span.ensures

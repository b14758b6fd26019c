use Rattle.std.proofs.Common.{◌≡◌, ◌==◌, false, get_or, ◌∙◌, arith}
use Rattle.std.specs.Prelude.{◌&&◌}
use Rattle.cu_typing.proofs.ReducedSizes.{emptied_step}
use Rattle.cu_typing.proofs.reduction.is_empty_along.Goals as goal

pub loop-axis-preserved : goal.loop-axis-preserved
loop-axis-preserved c =
    let size = c.at.ensures in
    let test = c.is_emptied.ensures in
    let no = c.if-is_emptied.false in
    let other : (get_or c.args.marks.now c.loop-axis.axis false && get_or c.args.dims.now c.loop-axis.axis 0 == 0) ≡ false = cc in
    emptied_step c.args.dims.now c.args.marks.now c.loop-axis.axis (omega arith) (omega arith) other ∙ c.loop-axis.invariant

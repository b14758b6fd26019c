use Rattle.std.proofs.Common.{arith}
use Rattle.cu_task.proofs.StraightReads.{on_true_then, shift_reads}
use Rattle.cu_task.proofs.straight.reads_from_on.Goals as goal

pub returns : goal.returns
returns c =
    on_true_then c.is_shift.result
    (shift_reads c.args.piece.now c.deref.result.now c.args.out.now c.at-lo.result c.at-hi.result c.at-base.result c.at-end.result c.saturating_sub.result c.args.first c.args.axis c.deref.ensures.0 c.requires.ways
    c.at-lo.ensures c.at-hi.ensures c.at-base.ensures c.at-end.ensures (omega arith) (omega arith) (omega arith))
    c.is_shift.ensures

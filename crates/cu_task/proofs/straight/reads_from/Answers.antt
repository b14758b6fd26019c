use Rattle.std.proofs.Common.{ℕ, below_more, subst, rules, arith}
use Rattle.cu_task.specs.Straight.{ReadsFromOn}
use Rattle.cu_task.proofs.StraightReads.{on_true_holds, reads_from}
use Rattle.cu_task.proofs.straight.reads_from.Goals as goal

pub loop-axis-preserved : goal.loop-axis-preserved
loop-axis-preserved c =
    below_more _ _ c.loop-axis.invariant
    (subst (λ (n : ℕ). ReadsFromOn c.args.piece.now c.args.out.now n c.loop-axis.axis) c.at.ensures (on_true_holds c.reads_from_on.result (search rules) c.reads_from_on.ensures))

pub returns : goal.returns
returns c =
    reads_from c.args.piece.now c.args.out.now c.args.part.now c.rank-rank.result c.requires c.rank-rank.ensures.rank (omega arith) (λ k b. c.loop-axis.invariant k (omega arith))

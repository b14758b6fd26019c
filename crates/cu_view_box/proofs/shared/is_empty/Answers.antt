use Rattle.std.proofs.Common.{arith}
use Rattle.cu_view_box.proofs.Boxes.{no_index, first_index}
use Rattle.cu_view_box.proofs.shared.is_empty.Goals as goal

pub returns-then-at-clause-none : goal.returns-then-at-clause-none
returns-then-at-clause-none c = no_index c.args.region.now.lo c.args.region.now.hi c.loop-axis.axis (omega arith) (omega arith)

pub returns-clause-some : goal.returns-clause-some
returns-clause-some c = first_index c.args.region.now.lo c.args.region.now.hi c.loop-axis.axis (omega arith) c.requires.rank c.loop-axis.invariant

use Rattle.std.proofs.Common.{length}
use Rattle.cu_tree.proofs.outline.+push_carries.Given as goal

abbrev pub decreases-push_carries : goal.decreases-push_carries
decreases-push_carries l = length l.rounds.now

use Rattle.cu_table.proofs.Needs.{TellsBefore}
use Rattle.cu_table.proofs.sources.+sources_of.Given as goal

abbrev pub decreases-sources_of : goal.decreases-sources_of
decreases-sources_of l = l.task.now.op

abbrev pub invariant-loop-place : goal.invariant-loop-place
invariant-loop-place l = TellsBefore l.task l.undone l.place l.found

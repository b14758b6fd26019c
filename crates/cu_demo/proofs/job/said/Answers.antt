use Rattle.std.proofs.Common.{subst, List, ℕ}
use Rattle.cu_command.specs.Job.{IsUnread}
use Rattle.cu_demo.proofs.Computed.{only_expression, only_memory}
use Rattle.cu_demo.proofs.job.said.Goals as goal

pub memory_fault-requires : goal.memory_fault-requires
memory_fault-requires c = only_memory c.in-Err.fault (subst (λ (t : List ℕ). IsUnread t c.in-Err.fault) c.text.ensures c.in-Err.ensures.fault)

pub returns-in-Ok-clause-expr : goal.returns-in-Ok-clause-expr
returns-in-Ok-clause-expr c = only_expression c.in-Ok.said.expr (rw c.text.ensures at c.in-Ok.ensures.said)

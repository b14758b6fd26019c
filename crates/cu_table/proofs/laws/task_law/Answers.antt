use Rattle.cu_table.proofs.Tallies.{starts_of_task, failures_of_task, done_of_task}
use Rattle.cu_table.proofs.laws.task_law.Goals as goal

pub returns-clause-starts : goal.returns-clause-starts
returns-clause-starts c = starts_of_task

pub returns-clause-failures : goal.returns-clause-failures
returns-clause-failures c = failures_of_task

pub returns-clause-done : goal.returns-clause-done
returns-clause-done c = done_of_task

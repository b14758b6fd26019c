use Rattle.cu_table.proofs.Doing.{done_exact, started_ready}
use Rattle.cu_table.proofs.Own.{step_running}
use Rattle.cu_table.proofs.laws.step_law.Goals as goal

pub returns-clause-done : goal.returns-clause-done
returns-clause-done c = done_exact

pub returns-clause-ready : goal.returns-clause-ready
returns-clause-ready c = started_ready

pub returns-clause-running : goal.returns-clause-running
returns-clause-running c = step_running

use Rattle.cu_table.proofs.Own.{own_running, own_rests, own_runs}
use Rattle.cu_table.proofs.laws.own_law.Goals as goal

pub returns-clause-running : goal.returns-clause-running
returns-clause-running c = own_running

pub returns-clause-rests : goal.returns-clause-rests
returns-clause-rests c = own_rests

pub returns-clause-runs : goal.returns-clause-runs
returns-clause-runs c = own_runs

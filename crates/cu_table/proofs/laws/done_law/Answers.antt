use Rattle.cu_table.proofs.Doing.{stays_run, never_again}
use Rattle.cu_table.proofs.Whole.{one_of_done, none_runs}
use Rattle.cu_table.proofs.laws.done_law.Goals as goal

pub returns-clause-stays : goal.returns-clause-stays
returns-clause-stays c = stays_run

pub returns-clause-never_again : goal.returns-clause-never_again
returns-clause-never_again c = never_again

pub returns-clause-one : goal.returns-clause-one
returns-clause-one c = one_of_done

pub returns-clause-none : goal.returns-clause-none
returns-clause-none c = none_runs

use Rattle.cu_command.proofs.SeenLemmas.{stepped}
use Rattle.cu_top.proofs.demo.read_result.Goals as goal

pub returns-in-Ok-Absent-clause-step : goal.returns-in-Ok-Absent-clause-step
returns-in-Ok-Absent-clause-step g c = stepped c.get_tries.ensures.step

pub returns-in-Err-Failed-clause-step : goal.returns-in-Err-Failed-clause-step
returns-in-Err-Failed-clause-step g c = stepped c.get_tries.ensures.step

pub returns-in-Err-NoMemory-clause-step : goal.returns-in-Err-NoMemory-clause-step
returns-in-Err-NoMemory-clause-step g c = stepped c.get_tries.ensures.step

pub returns-then-got-ne-RESULT_BYTES-clause-step : goal.returns-then-got-ne-RESULT_BYTES-clause-step
returns-then-got-ne-RESULT_BYTES-clause-step g c = stepped c.get_tries.ensures.step

pub returns-clause-step : goal.returns-clause-step
returns-clause-step g c = stepped c.get_tries.ensures.step

use Rattle.cu_table.proofs.Keeping.{history_few, run_more, run_front}
use Rattle.cu_table.specs.Machine.{opening}
use Rattle.cu_table.proofs.laws.history_law.Goals as goal

pub returns-clause-few : goal.returns-clause-few
returns-clause-few c = history_few

pub returns-clause-more : goal.returns-clause-more
returns-clause-more c = λ s done history m new e replay step. (replay.0, run_more s (opening done) history m e new replay.1 step)

pub returns-clause-front : goal.returns-clause-front
returns-clause-front c = λ s done front rest new replay. let (m, one, two) = run_front s (opening done) front rest new replay.1 in (m, (replay.0, one), two)

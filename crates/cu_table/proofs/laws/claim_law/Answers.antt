use Rattle.cu_table.proofs.Claims.{run_exact, idle_exact, finished_exact, broken_exact, halted_exact}
use Rattle.cu_table.proofs.laws.claim_law.Goals as goal

pub returns-clause-run : goal.returns-clause-run
returns-clause-run c = λ old worker answer new replays is. run_exact old worker new answer is

pub returns-clause-idle : goal.returns-clause-idle
returns-clause-idle c = λ old worker answer new replays is. idle_exact old worker new answer is

pub returns-clause-finished : goal.returns-clause-finished
returns-clause-finished c = λ old worker answer new replays is. finished_exact old worker new answer replays is

pub returns-clause-broken : goal.returns-clause-broken
returns-clause-broken c = λ old worker answer new op task replays is. broken_exact old worker new answer op task is

pub returns-clause-halted : goal.returns-clause-halted
returns-clause-halted c = λ old worker answer new fault replays is. halted_exact old worker new answer fault is

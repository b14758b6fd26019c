use Rattle.std.proofs.Common.{◌∙◌, sym}
use Rattle.cu_table.proofs.Tallies.{failures_of_task, broken_is, broken_where, none_done}
use Rattle.cu_table.proofs.laws.broken_law.Goals as goal

pub returns-clause-exactly : goal.returns-clause-exactly
returns-clause-exactly c = λ s done history m op task replays is. (
  λ ended. sym (failures_of_task s done history m op task replays is) ∙ (broken_is s done history m op task replays ended).failures,
  λ count. broken_where s done history m op task replays is (failures_of_task s done history m op task replays is ∙ count),
)

pub returns-clause-task : goal.returns-clause-task
returns-clause-task c = λ s done history m op task replays ended. (broken_is s done history m op task replays ended).listed

pub returns-clause-undone : goal.returns-clause-undone
returns-clause-undone c = λ s done history m op task replays ended. none_done s done history m op task replays ended

use Rattle.cu_reduce.proofs.Folding.{fold_append, fold_append_wrapped, fold_turned, taken_fold, running_append, running_fold, running_unit}
use Rattle.cu_reduce.proofs.laws.fold_law.Goals as goal

pub returns-clause-concatenation : goal.returns-clause-concatenation
returns-clause-concatenation c = fold_append

pub returns-clause-wrap : goal.returns-clause-wrap
returns-clause-wrap c = fold_append_wrapped

pub returns-clause-turned : goal.returns-clause-turned
returns-clause-turned c = fold_turned

pub returns-clause-taken : goal.returns-clause-taken
returns-clause-taken c = taken_fold

pub returns-clause-more : goal.returns-clause-more
returns-clause-more c = running_append

pub returns-clause-running : goal.returns-clause-running
returns-clause-running c = running_fold

pub returns-clause-whole : goal.returns-clause-whole
returns-clause-whole c = running_unit

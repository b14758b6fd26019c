use Rattle.cu_need.proofs.Staged.{all_staged}
use Rattle.cu_need.proofs.laws.copies_law.Goals as goal

pub returns-clause-staged : goal.returns-clause-staged
returns-clause-staged c = all_staged

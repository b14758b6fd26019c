use Rattle.cu_lower_view.proofs.Pulls.{view_pull}
use Rattle.cu_lower_view.proofs.laws.pull_law.Goals as goal

pub returns : goal.returns
returns c = view_pull

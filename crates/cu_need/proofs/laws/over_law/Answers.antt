use Rattle.cu_need.proofs.FirstLive.{over_none, over_found}
use Rattle.cu_need.proofs.laws.over_law.Goals as goal

pub returns : goal.returns
returns c = record { none = over_none; found = over_found }

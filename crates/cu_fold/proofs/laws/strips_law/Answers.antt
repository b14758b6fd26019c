use Rattle.cu_fold.proofs.StripsTaken.{whole_folded}
use Rattle.cu_fold.proofs.laws.strips_law.Goals as goal

pub returns : goal.returns
returns c fold at out a enough has idx inside = whole_folded fold at out a enough has idx inside

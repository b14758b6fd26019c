use Rattle.cu_origin.proofs.OriginsInside.{inside_sources}
use Rattle.cu_origin.proofs.laws.origins_inside.Goals as goal

pub returns : goal.returns
returns c = inside_sources

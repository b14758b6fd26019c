use Rattle.cu_run_law.proofs.Keeping.{left_at_first}
use Rattle.cu_run_law.proofs.laws.left_law.Goals as goal

pub returns : goal.returns
returns c = λ r shown held sound apart told free quiet. left_at_first r shown held sound apart told (c.range_law.ensures.stored r.plan.arrays held sound.arrays) free quiet

use Rattle.cu_need.proofs.AlignedNeed.{aligned_exactly, aligned_need}
use Rattle.cu_need.proofs.laws.aligned_law.Goals as goal

pub returns : goal.returns
returns c = record { chunk = aligned_exactly; need = λ reserved split_every out k infos op args h. aligned_need reserved _ _ _ h }

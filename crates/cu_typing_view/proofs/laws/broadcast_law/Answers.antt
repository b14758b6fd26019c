use Rattle.cu_typing_view.proofs.Stretched.{stretched_exactly}
use Rattle.cu_typing_view.proofs.laws.broadcast_law.Goals as goal

pub returns : goal.returns
returns c a shape = stretched_exactly a shape

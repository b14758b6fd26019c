use Rattle.cu_typing.proofs.Passed.{passed}
use Rattle.cu_typing.proofs.laws.elementwise_law.Goals as goal

pub returns : goal.returns
returns c op args i h = passed op args i h

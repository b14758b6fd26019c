use Rattle.cu_typing.proofs.PassedTogether.{product_passed}
use Rattle.cu_typing.proofs.laws.matmul_law.Goals as goal

pub returns : goal.returns
returns c l r i h = product_passed l r i h

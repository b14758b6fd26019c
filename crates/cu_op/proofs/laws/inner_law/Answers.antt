use Rattle.cu_op.proofs.Fetched.{walk_chunk}
use Rattle.cu_op.proofs.Fetching.{inner_fetched, walk_fetched}
use Rattle.cu_op.proofs.laws.inner_law.Goals as goal

pub returns : goal.returns
returns c = record {
  chunk = λ p k task w s. walk_chunk p s k task w;
  fetched = λ p k task j region w d s h t. inner_fetched p s k task j region w d h;
  read = λ p k task w d s h t. walk_fetched p s k task w d;
}

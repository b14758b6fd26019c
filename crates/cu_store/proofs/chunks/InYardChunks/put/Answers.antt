use Rattle.std.proofs.Common.{rules}
use Rattle.cu_store.proofs.Specs.{made_is_served}
use Rattle.cu_store.proofs.chunks.InYardChunks.put.Goals as goal

pub returns-clause-got : goal.returns-clause-got
returns-clause-got g c = search (rules, made_is_served)

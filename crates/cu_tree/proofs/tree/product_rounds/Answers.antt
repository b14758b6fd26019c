use Rattle.std.proofs.Common.{arith}
use Rattle.cu_tree.proofs.Falls.{one_fits}
use Rattle.cu_tree.proofs.tree.product_rounds.Goals as goal

pub push_rounds-requires-clause-room : goal.push_rounds-requires-clause-room
push_rounds-requires-clause-room c = let f = one_fits c.args.split_every c.rank.result c.inner_count.result c.requires.groups c.inner_count.ensures.few in rw (c.new-rounds.ensures) (omega (arith, f))

pub returns-clause-few : goal.returns-clause-few
returns-clause-few c = let f = one_fits c.args.split_every c.rank.result c.inner_count.result c.requires.groups c.inner_count.ensures.few in rw (c.push_rounds.ensures, c.new-rounds.ensures) f

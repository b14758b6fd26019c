use Rattle.cu_table.proofs.Chains.{empty_lists}
use Rattle.cu_table.proofs.watch.Watchers.make.Goals as goal

pub returns-clause-empty : goal.returns-clause-empty
returns-clause-empty c = empty_lists _ c.in-Ok.heads.items c.args.things (c.in-Ok.ensures.items_if_clones_equal (λ y e. e))

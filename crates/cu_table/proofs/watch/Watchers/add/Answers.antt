use Rattle.std.proofs.Common.{arith}
use Rattle.cu_table.proofs.Chains.{count_at, lists_more, within_more}
use Rattle.cu_table.proofs.watch.Watchers.add.Goals as goal

pub overflow_add-head : goal.overflow_add-head
overflow_add-head c =
    let n = count_at _ _ _ c.self.view_is c.args.thing c.requires.thing c.index-head.result.now c.index-head.ensures in
    let f = c.requires.few in
    omega (arith, n, f)

pub invariant_of-self : goal.invariant_of-self
invariant_of-self c =
    within_more _ _ _ c.self.view_is c.args.thing c.requires.thing c.index-head.result.now c.index-head.ensures c.args.task c.requires.task c.requires.apart c.self.invariant

pub returns-clause-lists : goal.returns-clause-lists
returns-clause-lists c =
    lists_more _ _ _ c.self.view_is c.args.thing c.requires.thing c.index-head.result.now c.index-head.ensures c.args.task c.requires.task c.requires.apart

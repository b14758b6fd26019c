use Rattle.std.proofs.Common.{arith}
use Rattle.cu_table.proofs.Chains.{first_in, lists_less, list_less, within_less, first_small}
use Rattle.cu_table.proofs.watch.Watchers.take.Goals as goal

pub index-requires : goal.index-requires
index-requires c =
    let a = first_in _ _ _ c.self.view_is c.args.thing c.requires c.index-head.result.now c.index-head.ensures c.if-head-eq0.false c.self.invariant in
    let n = c.self.inside.nexts.ok.0 in
    omega (arith, a, n)

pub invariant_of-self : goal.invariant_of-self
invariant_of-self c =
    within_less _ _ _ c.self.view_is c.args.thing c.requires c.index-head.result.now c.index-head.ensures c.if-head-eq0.false c.self.invariant c.index.result.now c.index.ensures

pub returns-clause-task : goal.returns-clause-task
returns-clause-task c =
    list_less _ _ _ c.self.view_is c.args.thing c.requires c.index-head.result.now c.index-head.ensures c.if-head-eq0.false c.self.invariant c.index.result.now c.index.ensures

pub returns-clause-lists : goal.returns-clause-lists
returns-clause-lists c =
    lists_less _ _ _ c.self.view_is c.args.thing c.requires c.index-head.result.now c.index-head.ensures c.if-head-eq0.false c.self.invariant c.index.result.now c.index.ensures

pub returns-clause-within : goal.returns-clause-within
returns-clause-within c =
    first_small _ _ _ c.self.view_is c.args.thing c.requires c.index-head.result.now c.index-head.ensures c.if-head-eq0.false c.self.invariant

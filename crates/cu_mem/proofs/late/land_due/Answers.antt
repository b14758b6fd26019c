use Rattle.std.proofs.Common.{◌≡◌, ◌∙◌, arith}
use Rattle.std.proofs.lemmas.Grind.{common_steps}
use Rattle.cu_mem.specs.Entries.{held_in}
use Rattle.cu_mem.proofs.LateLemmas.{landed, landed-lands_on, waiting_each, waiting_each-waiting}
use Rattle.cu_mem.proofs.late.land_due.Goals as goal

pub returns-clause-landed : goal.returns-clause-landed
returns-clause-landed c = λ key.
    let here : held_in c.loop-i.slots.items key ≡ landed c.args.late.now.items key (held_in c.args.slots.now.items key) = grind (arith, common_steps, c.loop-i.invariant.landed key) in
    here ∙ landed-lands_on c.args.late.now.items key (held_in c.args.slots.now.items key)

pub returns-clause-waiting : goal.returns-clause-waiting
returns-clause-waiting c =
    let each : c.loop-i.late.items ≡ waiting_each c.args.late.now.items = grind (arith, common_steps) in
    each ∙ waiting_each-waiting c.args.late.now.items

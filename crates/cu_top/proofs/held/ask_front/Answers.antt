use Rattle.std.proofs.Common.{rules, refl, ◌+◌}
use Rattle.cu_top.proofs.HeldLemmas.{found_equal, found_fault}
use Rattle.cu_top.proofs.held.ask_front.Goals as goal

pub returns-in-Ok-Held-clause-equal : goal.returns-in-Ok-Held-clause-equal
returns-in-Ok-Held-clause-equal g c =
    found_equal c.args.key.now c.args.text.now c.get_tries.new.buf c.in-Ok-Held.count (search rules) (g.D.PutStore.shown c.get_tries.new.depot).held c.compare_record.result (search rules) (search rules)

pub returns-in-Ok-Held-clause-fault : goal.returns-in-Ok-Held-clause-fault
returns-in-Ok-Held-clause-fault g c =
    found_fault c.args.key.now c.args.text.now c.get_tries.new.buf c.in-Ok-Held.count (search rules) (c.args.retries + 1) (g.D.PutStore.shown c.get_tries.new.depot).held
    (g.D.PutStore.shown c.args.depot.now, g.D.PutStore.shown c.get_tries.new.depot) c.compare_record.result refl (search rules) (search rules)

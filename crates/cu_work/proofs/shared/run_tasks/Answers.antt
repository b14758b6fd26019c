use Rattle.std.proofs.Common.{ap}
use Rattle.cu_table.specs.Table.{TableView}
use Rattle.cu_work.proofs.Counted.{CountLaws, counted_at_end}
use Rattle.cu_work.proofs.shared.run_tasks.Goals as goal

pub returns-clause-counts : goal.returns-clause-counts
returns-clause-counts g c =
    let l = c.count_law.ensures in
    let laws : CountLaws = record { least = l.least; none = l.none; whole = l.whole } in
    counted_at_end laws c.args.memory.table (ap (λ (t : TableView). t.state) c.requires.memory.table) c.run_promised.result (g.D.PutStore.shown c.args.depot.now) (g.D.PutStore.shown c.run_promised.new.depot)
    c.run_promised.ensures.driven

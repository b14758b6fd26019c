-- The promise has the values of the plan's chunks.
use Rattle.cu_work.specs.Shared.{promised_writes}
use Rattle.cu_work.proofs.shared.run_tasks.Given as goal

abbrev pub ghosts-run_promised : goal.ghosts-run_promised
ghosts-run_promised g a = record { map = promised_writes a.plan.now (g.D.PutStore.shown a.depot.now).held }

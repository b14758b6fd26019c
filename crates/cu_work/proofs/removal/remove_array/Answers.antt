use Rattle.std.proofs.Common.{[], ◌∷◌, ◌+◌, length}
use Rattle.cu_work.specs.Order.{plan_keys}
use Rattle.cu_work.proofs.Removing.{removed_then, removed_ended}
use Rattle.cu_work.proofs.removal.remove_array.Goals as goal

pub returns-in-Ok : goal.returns-in-Ok
returns-in-Ok g c =
    removed_then (c.args.retries + 1) (c.args.metadata_key.now ∷ []) (plan_keys c.args.plan.now (length c.args.plan.now.ops)) (g.D.Depot.shown c.args.depot.now) (g.D.Depot.shown c.remove_key.new.depot)
    (g.D.Depot.shown c.remove_chunks.new.depot) c.in-Ok.ensures.removed c.remove_chunks.result c.remove_chunks.ensures

pub returns-in-Err : goal.returns-in-Err
returns-in-Err g c =
    removed_ended (c.args.retries + 1) (c.args.metadata_key.now ∷ []) (plan_keys c.args.plan.now (length c.args.plan.now.ops)) (g.D.Depot.shown c.args.depot.now) (g.D.Depot.shown c.remove_key.new.depot)
    c.in-Err.fault c.in-Err.ensures.removed

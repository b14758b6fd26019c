use Rattle.std.proofs.Common.{[], ◌∷◌, ◌+◌}
use Rattle.cu_work.specs.Removal.{keys_before_record}
use Rattle.cu_work.proofs.Removing.{removed_then, removed_ended, record_untouched, record_after}
use Rattle.cu_work.proofs.removal.remove_plan.Goals as goal

pub returns-in-Ok-clause-removed : goal.returns-in-Ok-clause-removed
returns-in-Ok-clause-removed g c =
    removed_then (c.args.retries + 1) (keys_before_record c.args.plan.now c.args.metadata_key.now) (c.args.record_key.now ∷ []) (g.D.Depot.shown c.args.depot.now)
    (g.D.Depot.shown c.remove_array.new.depot) (g.D.Depot.shown c.remove_key.new.depot) c.in-Ok.ensures c.remove_key.result c.remove_key.ensures.removed

pub returns-in-Ok-clause-record : goal.returns-in-Ok-clause-record
returns-in-Ok-clause-record g c =
    record_after (c.args.retries + 1) c.args.plan.now c.args.record_key.now c.args.metadata_key.now (g.D.Depot.shown c.args.depot.now) (g.D.Depot.shown c.remove_array.new.depot)
    (g.D.Depot.shown c.remove_key.new.depot) c.remove_key.result c.in-Ok.ensures c.remove_key.ensures.kept

pub returns-in-Err-clause-removed : goal.returns-in-Err-clause-removed
returns-in-Err-clause-removed g c =
    removed_ended (c.args.retries + 1) (keys_before_record c.args.plan.now c.args.metadata_key.now) (c.args.record_key.now ∷ []) (g.D.Depot.shown c.args.depot.now)
    (g.D.Depot.shown c.remove_array.new.depot) c.in-Err.fault c.in-Err.ensures

pub returns-in-Err-clause-record : goal.returns-in-Err-clause-record
returns-in-Err-clause-record g c =
    record_untouched (c.args.retries + 1) c.args.plan.now c.args.record_key.now c.args.metadata_key.now (g.D.Depot.shown c.args.depot.now) (g.D.Depot.shown c.remove_array.new.depot)
    (g.D.Depot.shown c.remove_array.new.depot) c.in-Err.fault c.in-Err.ensures

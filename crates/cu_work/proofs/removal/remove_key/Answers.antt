use Rattle.std.proofs.Common.{◌+◌}
use Rattle.cu_store.specs.declared.faults.DepotFault.TheVariants as depot
use Rattle.cu_work.proofs.EndedCalls.{caused_as}
use Rattle.cu_work.proofs.Removing.{removed_key, failed_key, lacked_key, kept_step}
use Rattle.cu_work.proofs.removal.remove_key.Goals as goal

pub returns-in-Ok-clause-removed : goal.returns-in-Ok-clause-removed
returns-in-Ok-clause-removed g c =
    removed_key (c.args.retries + 1) (g.D.Depot.shown c.args.depot.now) (g.D.Depot.shown c.remove_tries.new.depot) c.args.key.now c.remove_tries.ensures.step c.remove_tries.ensures.once c.in-Ok.ensures.gone

pub returns-in-Err-Failed-clause-removed : goal.returns-in-Err-Failed-clause-removed
returns-in-Err-Failed-clause-removed g c =
    failed_key (c.args.retries + 1) (g.D.Depot.shown c.args.depot.now) (g.D.Depot.shown c.remove_tries.new.depot) c.args.key.now c.remove_tries.ensures.step c.remove_tries.ensures.once c.in-Err-Failed.ensures.refused
    (caused_as (Unit {0}) (c.args.retries + 1) (g.D.Depot.shown c.args.depot.now) (g.D.Depot.shown c.remove_tries.new.depot) c.in-Err-Failed.field-0 depot.Failed c.in-Err-Failed.field-0-is
    c.in-Err-Failed.ensures.cause)

pub returns-in-Err-Failed-clause-kept : goal.returns-in-Err-Failed-clause-kept
returns-in-Err-Failed-clause-kept g c =
    kept_step (c.args.retries + 1) (g.D.Depot.shown c.args.depot.now) (g.D.Depot.shown c.remove_tries.new.depot) c.args.key.now c.remove_tries.ensures.step c.remove_tries.ensures.once c.in-Err-Failed.ensures.refused

pub returns-in-Err-NoMemory-clause-removed : goal.returns-in-Err-NoMemory-clause-removed
returns-in-Err-NoMemory-clause-removed g c =
    lacked_key (c.args.retries + 1) (g.D.Depot.shown c.args.depot.now) (g.D.Depot.shown c.remove_tries.new.depot) c.args.key.now c.remove_tries.ensures.step c.remove_tries.ensures.once c.in-Err-NoMemory.ensures.refused
    (caused_as (Unit {0}) (c.args.retries + 1) (g.D.Depot.shown c.args.depot.now) (g.D.Depot.shown c.remove_tries.new.depot) c.in-Err-NoMemory.field-0 depot.NoMemory c.in-Err-NoMemory.field-0-is
    c.in-Err-NoMemory.ensures.cause)

pub returns-in-Err-NoMemory-clause-kept : goal.returns-in-Err-NoMemory-clause-kept
returns-in-Err-NoMemory-clause-kept g c =
    kept_step (c.args.retries + 1) (g.D.Depot.shown c.args.depot.now) (g.D.Depot.shown c.remove_tries.new.depot) c.args.key.now c.remove_tries.ensures.step c.remove_tries.ensures.once c.in-Err-NoMemory.ensures.refused

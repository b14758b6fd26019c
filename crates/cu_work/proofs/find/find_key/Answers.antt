use Rattle.std.proofs.Common.{◌+◌, Bool}
use Rattle.cu_store.specs.declared.faults.DepotFault.TheVariants as depot
use Rattle.cu_work.specs.Ends.{NoneOf}
use Rattle.cu_work.proofs.EndedCalls.{ends_one, caused_as}
use Rattle.cu_work.proofs.Searching.{asked_key}
use Rattle.cu_work.proofs.find.find_key.Goals as goal

pub returns-in-Ok-clause-asked : goal.returns-in-Ok-clause-asked
returns-in-Ok-clause-asked g c =
    asked_key (c.args.retries + 1) (g.D.PutStore.shown c.args.depot.now) (g.D.PutStore.shown c.has_tries.new.depot) c.args.key.now c.in-Ok.held c.has_tries.ensures.step c.has_tries.ensures.once c.in-Ok.ensures.answer

pub returns-in-Err-Failed-clause-cause : goal.returns-in-Err-Failed-clause-cause
returns-in-Err-Failed-clause-cause g c =
    ends_one NoneOf (c.args.retries + 1) c.args.key.now depot.Failed (g.D.PutStore.shown c.args.depot.now) (g.D.PutStore.shown c.has_tries.new.depot) c.has_tries.ensures.step c.has_tries.ensures.once
    (caused_as Bool (c.args.retries + 1) (g.D.PutStore.shown c.args.depot.now) (g.D.PutStore.shown c.has_tries.new.depot) c.in-Err-Failed.field-0 depot.Failed c.in-Err-Failed.field-0-is c.in-Err-Failed.ensures.cause)

pub returns-in-Err-NoMemory-clause-cause : goal.returns-in-Err-NoMemory-clause-cause
returns-in-Err-NoMemory-clause-cause g c = (
  c.args.key.now,
  ends_one NoneOf (c.args.retries + 1) c.args.key.now depot.NoMemory (g.D.PutStore.shown c.args.depot.now) (g.D.PutStore.shown c.has_tries.new.depot) c.has_tries.ensures.step c.has_tries.ensures.once
      (caused_as Bool (c.args.retries + 1) (g.D.PutStore.shown c.args.depot.now) (g.D.PutStore.shown c.has_tries.new.depot) c.in-Err-NoMemory.field-0 depot.NoMemory c.in-Err-NoMemory.field-0-is c.in-Err-NoMemory.ensures.cause),
)

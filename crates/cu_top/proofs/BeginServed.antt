-- A run that is begun where the way is free: each other answer has a cause that isn't there.
use Rattle.std.proofs.Common.{◌≡◌, ℕ, ◌+◌, List, Some, arith}
use Rattle.cu_store.specs.Held.{Contents}
use Rattle.cu_command.specs.Job.{IsJob, IsTypable, StoodStill}
use Rattle.cu_command.specs.declared.job.Job.{Job}
use Rattle.cu_command.specs.declared.status.Status.{Status}
use Rattle.cu_command.specs.declared.status.Status.TheVariants.{Done, Exists, ReadFault, WriteFault}
use Rattle.cu_command.specs.declared.status.Status.TheVariants.{DepotFailed, NoMemory}
use Rattle.cu_lower.specs.declared.options.Options.{Options}
use Rattle.cu_top.proofs.Completeness.{never_refused, none_rose, not_in_way, of_that_text}
use Rattle.cu_top.specs.Answered.{NothingFailed}
use Rattle.cu_top.specs.Begin.{BeginTells, WasBegun}
use Rattle.cu_top.specs.Complete.{IsBeginnable, IsServed, IsWayFree}
use Rattle.cu_top.specs.Run.{Scene, RunCase, case}

module _ (c : RunCase) (entry : Contents) (told : c.old.depot.held ≡ Some entry)
    (typable : IsTypable c.old.depot c.text)
    (depot : StoodStill c.old.depot.faults c.new.depot.faults)
    (sink : StoodStill c.old.sink.faults c.new.sink.faults)
    (way : (job : Job) → IsJob c.old.depot c.text job
    → IsWayFree c.options job entry c.old.depot) where
  served_begin : (status : Status) → WasBegun c status → IsServed status
  served_begin Done was = tt
  served_begin NoMemory was = tt
  served_begin WriteFault was =
      none_rose 1 c.old.sink.faults c.new.sink.faults (omega arith) sink was.0
  served_begin (DepotFailed key) was =
      none_rose (c.options.retries + 1) c.old.depot.faults c.new.depot.faults (omega arith) depot
      was.0
  served_begin (Exists key) (spared, (job, accepted, (planned, (first, blocked, own)))) =
      not_in_way c entry told typable depot sink job (way job accepted) key spared first.0 blocked
  served_begin status was =
      absurd (never_refused c entry told typable depot sink (λ job is. (way job is).planned) status
      was)

module _ (options : Options) (left : List ℕ) (entry : Contents) (old new : Scene)
    (told_left : old.source.told ≡ Some left) (told : old.depot.held ≡ Some entry)
    (premise : IsBeginnable options left entry old.depot) (still : NothingFailed old new) where
  -- Where all is accepted and no count of faults rises, the run is begun, or memory is wanted.
  pub begin_served : (status : Status) → BeginTells options old new status → IsServed status
  begin_served ReadFault tells =
      none_rose 1 old.source.faults new.source.faults (omega arith) still.source tells.0
  begin_served NoMemory tells = tt
  begin_served status tells =
      served_begin (case options left old new) entry told premise.typable still.depot still.sink
      premise.way status
      (of_that_text options left old new told_left premise.typable (λ c. WasBegun c status) tells)

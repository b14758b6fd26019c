-- What each command of a plan is to the depot.
use Rattle.std.proofs.Common.{inl, inr, Bool, ℕ, arith}
use Rattle.cu_store.specs.Steps.{Shown}
use Rattle.cu_store.proofs.Steps.{steps_wider}
use Rattle.cu_run_law.specs.Left.{RunChange}
use Rattle.cu_run_law.specs.Pieces.{PlanRun}
use Rattle.cu_run_law.proofs.Keeping.{change_alone}
use Rattle.cu_work.specs.declared.part.Part.{Part}
use Rattle.cu_work.specs.Commands.{CommandChange, IsCommand}
use Rattle.cu_command.specs.Seen.{Stepped}
use Rattle.cu_command.proofs.SeenLemmas.{stepped, stepped_wider, stepped_none}
use Rattle.cu_command.specs.declared.job.Job.{Job}
use Rattle.cu_command.specs.declared.status.Status.{Status}
use Rattle.cu_command.specs.declared.status.Status.TheVariants.{Done, BadExpr, BadType, OverMemory, OverLimit, BadMeta, NoArray, Exists}
use Rattle.cu_command.specs.declared.status.Status.TheVariants.{TaskFailed, WriteFault, BadChunk, OtherPlan, NoPlan, DepotFailed, NoTasks, NotReady, NoMemory}
use Rattle.cu_top.proofs.DropLemmas.{removal_within}
use Rattle.cu_top.proofs.PartsLemmas.{parts_run}
use Rattle.cu_top.specs.Begin.{WasBegun}
use Rattle.cu_top.specs.Drop.{IsDropping, Dropped}
use Rattle.cu_top.specs.Held.{IsNotReopened}
use Rattle.cu_top.specs.Laws.{IsOfPlan}
use Rattle.cu_top.specs.Parts.{IsPartRun, WasParted, inner_part}
use Rattle.cu_top.specs.Resume.{IsResumed, WasResumed}
use Rattle.cu_top.specs.Run.{RunCase, job_run, plan_in, IsSpared, IsStarted, WasRefused, Ran}

of_step : (r : PlanRun) (old new : Shown) → Stepped (CommandChange r old) old new → IsCommand r old new
of_step r old new step = (0, step.calls, step.step)

pub spared_command : (r : PlanRun) (c : RunCase) → IsSpared c → IsCommand r c.old.depot c.new.depot
spared_command r c spared = of_step r c.old.depot c.new.depot (stepped_none spared)

module _ (c : RunCase) where
  put_command : (job : Job) → Stepped (RunChange (job_run c job) c.old.depot) c.old.depot c.new.depot → IsCommand (job_run c job) c.old.depot c.new.depot
  put_command job step = of_step (job_run c job) c.old.depot c.new.depot (stepped_wider (λ key value change. inl change) step)

  started_command : (job : Job) → IsStarted c job → IsOfPlan c
  started_command job started =
      inr (job, started.accepted, (started.planned, (started.own, put_command job started.step)))

  resumed_command : (job : Job) → IsResumed c job → IsOfPlan c
  resumed_command job resumed =
      let again = resumed.reopened in
      inr (job, again.accepted, (again.planned, (again.own, put_command job resumed.step)))

  dropped_command : (job : Job) → IsDropping c job → IsOfPlan c
  dropped_command job dropping =
      let again = dropping.reopened in
      let removed = stepped_wider (removal_within c job again.sound c.old.depot) dropping.step in
      let command = of_step (job_run c job) c.old.depot c.new.depot removed in
      inr (job, again.accepted, (again.planned, (again.own, command)))

  refused_command : (status : Status) → WasRefused c status → IsOfPlan c
  refused_command (BadExpr code node) why = inl why.0
  refused_command (BadType code node) why = inl why.0
  refused_command (OverMemory node need allowed) why = inl why.0
  refused_command (OverLimit which count) why = inl why.0
  refused_command (BadMeta name code) why = inl why.0
  refused_command (NoArray name) why = inl why.0
  refused_command status why = absurd why

  pub run_is_command : (lack : Bool) (status : Status) → Ran lack c status → IsOfPlan c
  run_is_command lack Done (job, started, rest) = started_command job started
  run_is_command lack WriteFault (rose, (job, started, rest)) = started_command job started
  run_is_command lack (TaskFailed op task) (rose, (job, started, rest)) = started_command job started
  run_is_command lack (BadChunk key got want) (job, started, rest) = started_command job started
  run_is_command lack (DepotFailed key) (rose, inl unread) = inl unread.0
  run_is_command lack (DepotFailed key) (rose, inr (inl unasked)) = inl unasked.0
  run_is_command lack (DepotFailed key) (rose, inr (inr (job, started, rest))) = started_command job started
  run_is_command lack (Exists key) blocked = inl blocked.0
  run_is_command lack NoMemory (inl spared) = inl spared
  run_is_command lack NoMemory (inr (job, started, rest)) = started_command job started
  run_is_command lack status why = refused_command status why

  unopened_command : (status : Status) → IsNotReopened c status → IsOfPlan c
  unopened_command (OtherPlan place) why = inl why.0
  unopened_command NoPlan why = inl why.0
  unopened_command (DepotFailed key) (rose, inl unread) = inl unread.0
  unopened_command (DepotFailed key) (rose, inr unasked) = inl unasked.0
  unopened_command NoMemory why = inl why
  unopened_command status why = refused_command status why

  pub resume_is_command : (lack : Bool) (status : Status) → WasResumed lack c status → IsOfPlan c
  resume_is_command lack Done (job, resumed, rest) = resumed_command job resumed
  resume_is_command lack WriteFault (rose, (job, resumed, rest)) = resumed_command job resumed
  resume_is_command lack (TaskFailed op task) (rose, (job, resumed, rest)) = resumed_command job resumed
  resume_is_command lack (BadChunk key got want) (job, resumed, rest) = resumed_command job resumed
  resume_is_command lack (DepotFailed key) (inl why) = unopened_command (DepotFailed key) why
  resume_is_command lack (DepotFailed key) (inr (rose, inl unasked)) = inl unasked.0
  resume_is_command lack (DepotFailed key) (inr (rose, inr (job, resumed, rest))) = resumed_command job resumed
  resume_is_command lack NoMemory (inl spared) = inl spared
  resume_is_command lack NoMemory (inr (job, resumed, rest)) = resumed_command job resumed
  resume_is_command lack NoPlan why = inl why.0
  resume_is_command lack status why = unopened_command status why

  pub drop_is_command : (status : Status) → Dropped c status → IsOfPlan c
  drop_is_command Done (job, dropping, rest) = dropped_command job dropping
  drop_is_command WriteFault (rose, (job, dropping, rest)) = dropped_command job dropping
  drop_is_command (DepotFailed key) (inl why) = unopened_command (DepotFailed key) why
  drop_is_command (DepotFailed key) (inr (rose, (job, dropping, rest))) = dropped_command job dropping
  drop_is_command NoMemory (inl spared) = inl spared
  drop_is_command NoMemory (inr (job, dropping, rest)) = dropped_command job dropping
  drop_is_command status why = unopened_command status why

  pub begin_is_command : (status : Status) → WasBegun c status → IsOfPlan c
  begin_is_command Done (job, begun, rest) = started_command job begun.started
  begin_is_command WriteFault (rose, (job, begun, rest)) = started_command job begun.started
  begin_is_command (DepotFailed key) (rose, inl unread) = inl unread.0
  begin_is_command (DepotFailed key) (rose, inr (inl unasked)) = inl unasked.0
  begin_is_command (DepotFailed key) (rose, inr (inr (job, begun, rest))) = started_command job begun.started
  begin_is_command (Exists key) blocked = inl blocked.0
  begin_is_command NoMemory (inl spared) = inl spared
  begin_is_command NoMemory (inr (job, begun, rest)) = started_command job begun.started
  begin_is_command status why = refused_command status why

  parted_command : (q : Part) (job : Job) → IsPartRun c job q → IsOfPlan c
  parted_command q job parted =
      let step = parted.step in
      let again = parted.reopened in
      let puts = steps_wider (parts_run (job_run c job).plan again.sound q parted.part c.old.depot)
      (omega arith) (omega arith) step.step in
      let command = put_command job
      (stepped (change_alone (job_run c job) c.old.depot 0 step.calls c.old.depot c.new.depot puts)) in
      inr (job, again.accepted, (again.planned, (again.own, command)))

  module _ (q : Part) where
    pub part_is_command : (status : Status) → WasParted c q status → IsOfPlan c
    part_is_command Done (job, parted, rest) = parted_command (inner_part (plan_in c job) q) job parted
    part_is_command WriteFault (rose, (job, parted, rest)) = parted_command (inner_part (plan_in c job) q) job parted
    part_is_command (NoTasks op tasks) (spared, rest) = inl spared
    part_is_command (NotReady op task) (spared, rest) = inl spared
    part_is_command (TaskFailed op task) (job, parted, rest) = parted_command (inner_part (plan_in c job) q) job parted
    part_is_command (BadChunk key got want) (job, parted, rest) = parted_command (inner_part (plan_in c job) q) job parted
    part_is_command (DepotFailed key) (inl unasked) = unopened_command (DepotFailed key) unasked
    part_is_command (DepotFailed key) (inr (spared, rest)) = inl spared
    part_is_command NoMemory (inl spared) = inl spared
    part_is_command NoMemory (inr (job, parted, rest)) = parted_command (inner_part (plan_in c job) q) job parted
    part_is_command status why = unopened_command status why

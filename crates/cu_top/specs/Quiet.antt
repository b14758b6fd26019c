-- What a run wants of what is late when it begins. This project's own rule.
use Rattle.std.specs.Prelude.{ℕ, List, Option, Some, None}
use Rattle.cu_store.specs.Held.{Contents, Write}
use Rattle.cu_store.specs.Steps.{Shown}
use Rattle.cu_op.specs.Value.{stored_inputs}
use Rattle.cu_lower.specs.Premises.{expression_run as plan_run}
use Rattle.cu_lower.specs.declared.options.Options.{Options}
use Rattle.cu_run_law.specs.Left.{IsQuiet}
use Rattle.cu_run_law.specs.Pieces.{PlanRun}
use Rattle.cu_command.specs.Job.{IsJob}
use Rattle.cu_command.specs.declared.job.Job.{Job}
use Rattle.cu_top.specs.Prepare.{job_plan, out_metadata, HasPlan}
use Rattle.cu_top.specs.Record.{record_text}

-- the plan of a job and its two texts, the record and the output's metadata
abbrev pub run_of_job : Options → Job → PlanRun
run_of_job options job = plan_run job.expr (job_plan options job) (record_text options job) (out_metadata job)

-- where the contents are told, no put that is late carries another value of the plan, or another content of a chunk of an input
abbrev pub IsCalmFor : PlanRun → Option Contents → List Write → Type 0
IsCalmFor r None late = Unit {0}
IsCalmFor r (Some held) late = IsQuiet r (stored_inputs r.plan.arrays held) held late

-- the same for the job of a text, where it has a plan
abbrev pub IsCalm : Options → List ℕ → Shown → Type 0
IsCalm options text old = (job : Job) → IsJob old text job → HasPlan options job → IsCalmFor (run_of_job options job) old.held old.late

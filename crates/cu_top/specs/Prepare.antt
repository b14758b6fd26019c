-- The plan of a job, why a job has none, and what its plan stores. This project's own rules.
use Rattle.std.specs.Prelude.{◌≡◌, ◌<◌, ◌≤◌, Bool, false, List, ◌∷◌, ℕ, length, bytes_eq, Some}
use Rattle.std.specs.List.{list_any}
use Rattle.cu_form.specs.Expression.{Expression}
use Rattle.cu_form.specs.declared.form.Form.{Form}
use Rattle.cu_lower.specs.Parts.{made_layout}
use Rattle.cu_lower.specs.Premises.{IsLowerable}
use Rattle.cu_lower.specs.declared.options.Options.{Options}
use Rattle.cu_name.specs.Keys.{record_key_of}
use Rattle.cu_node.specs.Info.{info_at}
use Rattle.cu_op.specs.Layout.{layout_view}
use Rattle.cu_op.specs.PlanView.{PlanView, operation_at}
use Rattle.cu_op.specs.Projection.{projection}
use Rattle.cu_op.specs.declared.layout.Layout.{Layout}
use Rattle.cu_plan.specs.Plan.{merged_plan_of}
use Rattle.cu_plan.specs.Refusal.{refusal_of}
use Rattle.cu_plan.specs.declared.fault.PlanFault.{PlanFault}
use Rattle.cu_plan.specs.declared.fault.PlanFault.TheVariants as fault
use Rattle.cu_zarr.specs.Key.{metadata_key_of, zarray_key_of}
use Rattle.cu_zarr.specs.Metadata.{metadata_text}
use Rattle.cu_work.specs.Order.{plan_keys}
use Rattle.cu_command.specs.declared.job.Job.{Job}
use Rattle.cu_command.specs.declared.status.Status.{Status}
use Rattle.cu_command.specs.declared.status.Status.TheVariants.{OverMemory, OverLimit, NoMemory}

-- ---- the plan

-- The plan of a job's expression, in which maps are merged. A reader may leave this name closed: what
-- is to be relied on of the plan is `IsPlanOf`, by `plan_of_law`. Only the texts that `plan` and
-- `begin` print depend on the rule by which it is made.
abbrev pub job_plan : Options → Job → PlanView
job_plan options job = merged_plan_of job.expr job.types job.inputs.items options

-- the keys of the plan: its record's, the output's metadata's, and those of its chunks
abbrev pub keys_of : Options → Job → List (List ℕ)
keys_of options job = record_key_of job.expr.store_as ∷ metadata_key_of job.expr.store_as ∷ plan_keys (job_plan options job) (length (job_plan options job).ops)

-- The keys that a run asks for, in this order. Metadata of version 2 of the output, which the plan doesn't store, is among them, so that no
-- array of version 2 is hidden.
abbrev pub asked_keys : Options → Job → List (List ℕ)
asked_keys options job =
    record_key_of job.expr.store_as ∷ metadata_key_of job.expr.store_as ∷ zarray_key_of job.expr.store_as
    ∷ plan_keys (job_plan options job) (length (job_plan options job).ops)

-- the layout of the output: the type, shape and chunk shape of the stored node
abbrev pub out_layout : Job → Layout
out_layout job = made_layout (info_at job.types job.expr.out)

-- the text that is written as the output's metadata
abbrev pub out_metadata : Job → List ℕ
out_metadata job = metadata_text (layout_view (out_layout job))

-- ---- why there is none

-- 5 and 6: the first live node that needs more than is allowed; and, where none does, the first limit of a plan that is exceeded
abbrev pub IsUnplanned : Options → Job → Status → Type 0
IsUnplanned options job (OverMemory node need allowed) = refusal_of options job.expr job.types ≡ Some (fault.OverMemory node need allowed)
IsUnplanned options job (OverLimit which count) = refusal_of options job.expr job.types ≡ Some (fault.OverLimit which count)
IsUnplanned options job status = ⊥

-- what a command answers where the plan was refused
abbrev pub unplanned_status : PlanFault → Status
unplanned_status (fault.OverMemory node need allowed) = OverMemory node need allowed
unplanned_status (fault.OverLimit which count) = OverLimit which count
unplanned_status fault.NoMemory = NoMemory

-- the job's expression has a plan
abbrev pub HasPlan : Options → Job → Type 0
HasPlan options job = IsLowerable job.expr job.types job.inputs.items options

-- ---- the output's name

-- a node of this form reads the array with this name
abbrev pub reads_array : List ℕ → Form → Bool
reads_array name (Form.Input used) = bytes_eq used name
reads_array name form = false

-- a node of the expression, live or not, reads the array that has the output's name
abbrev pub is_own_input : Expression → Bool
is_own_input e = list_any (λ node. reads_array e.store_as node.form) e.nodes

-- none does
abbrev pub HasNoOwnInput : Expression → Type 0
HasNoOwnInput e = is_own_input e ≡ false

-- ---- what tasks are lent

-- what each operation of the plan was projected to need is its projection, and at most what is allowed
abbrev pub IsLentWithin : PlanView → Type 0
IsLentWithin p = (k : ℕ) → k < length p.ops
    → ((operation_at p.ops k).projected ≡ projection p k) × ((operation_at p.ops k).projected ≤ p.allowed)

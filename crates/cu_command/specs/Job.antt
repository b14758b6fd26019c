-- A job: an expression over stored arrays that has types, and why a text is none.
use Rattle.std.specs.Prelude.{◌≡◌, ℕ, ◌<◌, List, [], All, Some, string_bytes, Result, Ok, Err}
use Rattle.cu_expr.specs.Typing.{typed}
use Rattle.cu_expr.specs.declared.inputs.InputInfo.{InputInfo}
use Rattle.cu_form.specs.Expression.{Expression}
use Rattle.cu_node.specs.declared.info.NodeInfo.{NodeInfo}
use Rattle.cu_read.specs.Read.{compact_of, expression_of}
use Rattle.cu_read.specs.declared.faults.ReadFault.{ReadFault}
use Rattle.cu_store.specs.Faults.{last_count}
use Rattle.cu_store.specs.Held.{Contents}
use Rattle.cu_store.specs.Steps.{Shown}
use Rattle.cu_command.specs.Inputs.{names_in, names_of, AreCalmAt, IsReadAt, IsInputFault}
use Rattle.cu_command.specs.Stored.{StoresLayout}
use Rattle.cu_command.specs.declared.job.Job.{Job}
use Rattle.cu_command.specs.declared.job.JobFault.{JobFault}
use Rattle.cu_command.specs.declared.job.JobFault.TheVariants as fault
use Rattle.cu_command.specs.declared.status.Status.{Status}
use Rattle.cu_command.specs.declared.status.Status.TheVariants as status

-- what a command answers for a fault
abbrev pub status_of : JobFault → Status
status_of (fault.Expression code node) = status.BadExpr code node
status_of (fault.DepotFailed key) = status.DepotFailed key
status_of (fault.NoArray name) = status.NoArray name
status_of (fault.BadMeta name code) = status.BadMeta name code
status_of (fault.Typing code node) = status.BadType code node
status_of fault.NoMemory = status.NoMemory

-- why a text isn't read, and why an expression over these inputs isn't typed; want of memory has no reason
abbrev pub IsUnread : List ℕ → JobFault → Type 0
IsUnread text (fault.Expression code node) = expression_of text ≡ Err (record { code = code; node = node })
IsUnread text fault.NoMemory = Unit {0}
IsUnread text other = ⊥

abbrev pub IsUntyped : List InputInfo → Expression → JobFault → Type 0
IsUntyped inputs e (fault.Typing code node) = (place : ℕ) × (typed inputs e ≡ Err (record { code = code; node = node; place = place }))
IsUntyped inputs e fault.NoMemory = Unit {0}
IsUntyped inputs e other = ⊥

-- the names that the expression of a text uses; a text of none uses none
abbrev pub names_or_none : Result Expression ReadFault → List (List ℕ)
names_or_none (Ok e) = names_in e
names_or_none (Err f) = []

abbrev pub names_said : List ℕ → List (List ℕ)
names_said text = names_or_none (expression_of text)

-- The job of a text: its expression, the text written compactly, one input for each name, and the types of the nodes.
pub record IsJob (entry : Shown) (text : List ℕ) (job : Job) : Type 0 where
  pub said : expression_of text ≡ Ok job.expr
  pub compact : compact_of text ≡ Some (string_bytes job.compact)
  pub names : names_of job.inputs.items ≡ names_in job.expr
  pub inputs : All (IsReadAt entry) job.inputs.items
  pub types : typed job.inputs.items job.expr ≡ Ok job.types

-- The text's expression has no types over the metadata that was read; the first fault.
pub record IsIllTyped (entry : Shown) (text : List ℕ) (code node : ℕ) : Type 0 where
  pub expr : Expression
  pub said : expression_of text ≡ Ok expr
  pub inputs : List InputInfo
  pub names : names_of inputs ≡ names_in expr
  pub read : All (IsReadAt entry) inputs
  pub place : ℕ
  pub fault : typed inputs expr ≡ Err (record { code = code; node = node; place = place })

-- why a text gives no job
abbrev pub IsJobFault : ℕ → List ℕ → Shown → Shown → JobFault → Type 0
IsJobFault tries text entry now (fault.Expression code node) = expression_of text ≡ Err (record { code = code; node = node })
IsJobFault tries text entry now (fault.Typing code node) = IsIllTyped entry text code node
IsJobFault tries text entry now other = IsInputFault tries (names_said text) entry now other

-- ---- when a text has a job

-- the count didn't rise, and doesn't stand at its last value
abbrev pub StoodStill : ℕ → ℕ → Type 0
StoodStill before after = (after ≡ before) × (before < last_count)

-- The text says an expression, each of its names has metadata that is held and accepted and of which no other is late, and over
-- these the expression has types.
pub record IsTypable (entry : Shown) (text : List ℕ) : Type 0 where
  pub contents : Contents
  pub told : entry.held ≡ Some contents
  pub expr : Expression
  pub said : expression_of text ≡ Ok expr
  pub inputs : List InputInfo
  pub names : names_of inputs ≡ names_in expr
  pub held : All (λ i. StoresLayout entry.held i.name i.layout) inputs
  pub calm : All (λ i. AreCalmAt entry i.name) inputs
  pub types : List NodeInfo
  pub accepted : typed inputs expr ≡ Ok types

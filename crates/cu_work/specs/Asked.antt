-- What is asked for before a part's first task is started, and which of its tasks are chosen. This
-- project's own rules.
use Rattle.std.specs.Prelude.{◌≡◌, ◌⊎◌, ℕ, ◌+◌, ◌*◌, ◌<◌, ◌≤◌, ◌||◌, Bool, true, false, List, [], ◌∷◌, length, slice_index_or, bytes_eq, All, Contains, Some, None, Result, Ok, Err}
use Rattle.cu_store.specs.Faults.{Rose}
use Rattle.cu_store.specs.Held.{Contents, IsHeldIn}
use Rattle.cu_store.specs.Steps.{Shown, NoChange, Steps}
use Rattle.cu_op.specs.PlanView.{PlanView}
use Rattle.cu_op.specs.Schedule.{op_of}
use Rattle.cu_op.specs.Walks.{written_chunks}
use Rattle.cu_work.specs.Calls.{sum_of_first}
use Rattle.cu_work.specs.Order.{task_keys}
use Rattle.cu_work.specs.World.{IsStored}
use Rattle.cu_work.specs.declared.find.FindFault.{FindFault}
use Rattle.cu_work.specs.declared.find.FindFault.TheVariants as find
use Rattle.cu_work.specs.Part.{IsInPart, IsMadeInput, HasInputs, LacksChunk, LacksInput}
use Rattle.cu_work.specs.declared.part.Part.{Part}
use Rattle.cu_work.specs.declared.part.PartFault.{PartFault}
use Rattle.cu_work.specs.declared.part.PartFault.TheVariants.{Failed, NotReady, NoMemory}

-- the tasks of a part are looked at, with so many calls for a key, from a first moment on
pub record Asking : Type 0 where
  pub plan : PlanView
  pub part : Part
  pub tries : ℕ
  pub start : Shown

abbrev pub asking_of : PlanView → Part → ℕ → Shown → Asking
asking_of p q tries start = record { plan = p; part = q; tries = tries; start = start }

-- ---- the keys

-- how many chunks the first n tasks of the part write
abbrev pub own_chunks : PlanView → Part → ℕ → ℕ
own_chunks p q n = sum_of_first (λ i. length (written_chunks p.arrays (op_of p q.op) (q.from + i))) n

-- a made chunk that a task of the part reads which lacked a chunk at first
abbrev pub IsSoughtInput : Asking → List ℕ → Type 0
IsSoughtInput s key = (task : ℕ) × IsInPart s.part task × LacksChunk s.plan s.part.op task s.start
    × IsMadeInput s.plan s.part.op task key

-- no two of the keys are the same
abbrev pub AllDiffer : List (List ℕ) → Type 0
AllDiffer [] = Unit {0}
AllDiffer (k ∷ ks) = (Contains ks k → ⊥) × AllDiffer ks

-- So many keys of chunks that tasks write were asked for, and besides these inputs, each key at most
-- `tries` times.
pub record HasAsked (s : Asking) (own : ℕ) (now : Shown) : Type 0 where
  pub inputs : List (List ℕ)
  pub differ : AllDiffer inputs
  pub sought : All (IsSoughtInput s) inputs
  pub step : Steps NoChange 0 (s.tries * (own + length inputs)) s.start now

-- ---- the tasks

-- the list says of task number i of the part that it is to be started, or that it isn't
abbrev pub IsChosenAt : List Bool → ℕ → Type 0
IsChosenAt chosen i = slice_index_or chosen i false ≡ true

abbrev pub IsPassedAt : List Bool → ℕ → Type 0
IsPassedAt chosen i = slice_index_or chosen i true ≡ false

-- The first tasks of the part, from a first moment to a second: one is chosen only if a chunk that it
-- writes was absent, and only if each made chunk that it reads is held; one is passed only if all
-- chunks that it writes are held.
pub record AreChosen (p : PlanView) (q : Part) (shown : Shown × Shown) (chosen : List Bool) : Type 0 where
  pub lacking : (i : ℕ) → IsChosenAt chosen i → LacksChunk p q.op (q.from + i) shown.0
  pub ready : (i : ℕ) → IsChosenAt chosen i → HasInputs p q.op (q.from + i) shown.1.held
  pub stored : (i : ℕ) (now : Contents) → IsPassedAt chosen i → shown.1.held ≡ Some now → IsStored p now q.op (q.from + i)

-- a task before this one has what it needs, where contents are told: all its chunks, or all its inputs
abbrev pub AreReadyBefore : PlanView → Part → ℕ → Shown → Type 0
AreReadyBefore p q task shown = (other : ℕ) (held : Contents) → q.from ≤ other → other < task → shown.held ≡ Some held
    → IsStored p held q.op other ⊎ HasInputs p q.op other (Some held)

-- Why no task was started: all calls for a key failed; a task that lacked a chunk lacked an input, the
-- first that did; or memory was wanting.
abbrev pub IsUnstarted : Asking → Shown → PartFault → Type 0
IsUnstarted s now (Failed key) = Rose s.tries s.start.faults now.faults
    × (((task : ℕ) × IsInPart s.part task × Contains (task_keys s.plan s.part.op task) key) ⊎ IsSoughtInput s key)
IsUnstarted s now (NotReady task) = IsInPart s.part task × LacksChunk s.plan s.part.op task s.start
    × LacksInput s.plan s.part.op task s.start × AreReadyBefore s.plan s.part task now
IsUnstarted s now NoMemory = Unit {0}
IsUnstarted s now fault = ⊥

-- ---- on the way

abbrev pub has_key : List (List ℕ) → List ℕ → Bool
has_key [] key = false
has_key (k ∷ ks) key = has_key ks key || bytes_eq k key

-- The same, where at least one call was made for each of the chunks that tasks write, the inputs are
-- told by a test, and each of them is held.
pub record IsAsking (s : Asking) (own : ℕ) (known : List ℕ → Bool) (now : Shown) : Type 0 where
  pub inputs : List (List ℕ)
  pub same : (key : List ℕ) → known key ≡ has_key inputs key
  pub differ : AllDiffer inputs
  pub sought : All (IsSoughtInput s) inputs
  pub step : Steps NoChange own (s.tries * (own + length inputs)) s.start now
  pub held : All (IsHeldIn now.held) inputs

-- asking goes on where the answer is yes, and has ended else
abbrev pub AskedOn : {E : Type 0} → Asking → ℕ → (List ℕ → Bool) → Shown → Result Bool E → Type 0
AskedOn s own known now (Ok true) = IsAsking s own known now
AskedOn s own known now (Ok false) = HasAsked s own now
AskedOn s own known now (Err e) = HasAsked s own now

-- the same where it goes on by either answer
abbrev pub KeptOn : {E : Type 0} → Asking → ℕ → (List ℕ → Bool) → Shown → Result Bool E → Type 0
KeptOn s own known now (Ok b) = IsAsking s own known now
KeptOn s own known now (Err e) = HasAsked s own now

-- the task is chosen, or all its chunks are held
abbrev pub IsChoice : PlanView → ℕ → ℕ → Shown → Shown → Bool → Type 0
IsChoice p k task start now true = LacksChunk p k task start × HasInputs p k task now.held
IsChoice p k task start now false = (held : Contents) → now.held ≡ Some held → IsStored p held k task

-- what is answered where asking ended so
abbrev pub look_up_fault : FindFault → PartFault
look_up_fault (find.Failed key) = Failed key
look_up_fault find.NoMemory = NoMemory

-- why a task can't be chosen or passed
abbrev pub IsChoiceFault : Asking → ℕ → Shown → PartFault → Type 0
IsChoiceFault s task now (NotReady number) = (number ≡ task) × LacksChunk s.plan s.part.op task s.start
    × LacksInput s.plan s.part.op task s.start
IsChoiceFault s task now fault = IsUnstarted s now fault

-- nothing is held under the key, where contents are told
abbrev pub IsAbsent : List ℕ → Shown → Type 0
IsAbsent key shown = (held : Contents) → shown.held ≡ Some held → held key ≡ None

-- all calls for this key, or for that of a made chunk that the task reads, failed
abbrev pub IsLookUpFault : ℕ → Shown × Shown → (List ℕ → Type 0) → FindFault → Type 0
IsLookUpFault tries shown IsOne (find.Failed key) = IsOne key × Rose tries shown.0.faults shown.1.faults
IsLookUpFault tries shown IsOne find.NoMemory = Unit {0}

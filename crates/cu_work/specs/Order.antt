-- The keys of a plan in the order in which they are asked for (this project's own rule): those of its texts, then those of its chunks by
-- operation, task and chunk; and what asking for keys in an order tells.
use Rattle.std.specs.Prelude.{◌≡◌, ℕ, ◌*◌, zero, suc, IsTrue, List, [], ◌∷◌, ◌++◌, map, length, All, Contains, Some, None, Result, OnOk, IfErr}
use Rattle.cu_store.specs.Faults.{Rose}
use Rattle.cu_store.specs.Held.{Contents, IsHeldIn}
use Rattle.cu_store.specs.Steps.{Shown, NoChange, Steps, OnceEach}
use Rattle.cu_op.specs.Cells.{tasks_of}
use Rattle.cu_op.specs.PlanView.{PlanView}
use Rattle.cu_op.specs.Schedule.{op_of, key_of}
use Rattle.cu_op.specs.Walks.{written_chunks}
use Rattle.cu_work.specs.declared.way.WayFault.{WayFault}
use Rattle.cu_work.specs.declared.way.WayFault.TheVariants.{Held, Failed, NoMemory}

-- the keys of the chunks that a task writes, those of the tasks below n, and those of the operations below n
abbrev pub task_keys : PlanView → ℕ → ℕ → List (List ℕ)
task_keys p k task = map (key_of p.arrays) (written_chunks p.arrays (op_of p k) task)

abbrev pub operation_keys : PlanView → ℕ → ℕ → List (List ℕ)
operation_keys p k zero = []
operation_keys p k (suc n) = operation_keys p k n ++ task_keys p k n

abbrev pub plan_keys : PlanView → ℕ → List (List ℕ)
plan_keys p zero = []
plan_keys p (suc n) = plan_keys p n ++ operation_keys p n (tasks_of p.arrays (op_of p n))

-- ---- asking

-- nothing is held under the key
abbrev pub IsFree : Contents → List ℕ → Type 0
IsFree held key = held key ≡ None

-- a key of the list, before which nothing is held under the others
abbrev pub IsFirst : Contents → List (List ℕ) → List ℕ → Type 0
IsFirst held keys key = (front : List (List ℕ)) × (back : List (List ℕ)) × (keys ≡ front ++ key ∷ back) × All (IsFree held) front

-- a fact of the key at which asking ended
abbrev pub IfAsked : WayFault → (List ℕ → Type 0) → Type 0
IfAsked (Held key) P = P key
IfAsked (Failed key) P = P key
IfAsked NoMemory P = Unit {0}

-- Why asking ended: the key is held, so many calls for it failed, the count risen in each, or the store lacks memory.
abbrev pub IsWayFault : ℕ → Shown → Shown → WayFault → Type 0
IsWayFault tries old new (Held key) = IsHeldIn new.held key
IsWayFault tries old new (Failed key) = Rose tries old.faults new.faults
IsWayFault tries old new NoMemory = IsTrue new.lacks

-- Keys were asked for, each at most `tries` times; beside one call a key there were no more than failed.
-- Where all were free, nothing was held under them at first; else the key at which asking ended is the
-- first of which that isn't known.
pub record IsAsked (tries : ℕ) (old new : Shown) (keys : List (List ℕ)) (result : Result (Unit {0}) WayFault) : Type 0 where
  pub step : Steps NoChange 0 (tries * length keys) old new
  pub once : OnceEach (length keys) old new
  pub free : (held : Contents) → old.held ≡ Some held → OnOk result (All (IsFree held) keys)
  pub first : (held : Contents) → old.held ≡ Some held → IfErr result (λ f. IfAsked f (IsFirst held keys))
  pub listed : IfErr result (λ f. IfAsked f (Contains keys))
  pub cause : IfErr result (IsWayFault tries old new)

-- What a part comes to. This project's own rules.
use Rattle.std.specs.Prelude.{◌≡◌, ◌⊎◌, ℕ, ◌+◌, ◌*◌, ◌-◌, ◌≤◌, Bool, IsTrue, List, length, All, Result, Ok, Err}
use Rattle.cu_store.specs.Faults.{Rose, last_count}
use Rattle.cu_store.specs.Steps.{Shown, NoChange, Steps}
use Rattle.cu_op.specs.Elements.{Elements}
use Rattle.cu_run_law.specs.Left.{IsLeft}
use Rattle.cu_run_law.specs.Pieces.{chunks_alone, HoldsTask}
use Rattle.cu_work.specs.Part.{IsInPart, LacksChunk}
use Rattle.cu_work.specs.Asked.{Asking, AllDiffer, AreChosen, IsChosenAt, IsSoughtInput, IsUnstarted, own_chunks}
use Rattle.cu_work.specs.Tried.{AreTaskStarts, ChosenPut, IsBadOf, chosen_calls, task_id}
use Rattle.cu_work.specs.declared.part.Part.{Part}
use Rattle.cu_work.specs.declared.part.PartCounts.{PartCounts}
use Rattle.cu_work.specs.declared.part.PartFault.{PartFault}
use Rattle.cu_work.specs.declared.part.PartFault.TheVariants.{Broken, BadChunk, NoMemory}

abbrev pub count_of_part : Part → ℕ
count_of_part q = q.to - q.from

-- The tasks of a part were chosen at a moment when all had been asked for, with a call at least for
-- each chunk that they write, and nothing was put yet. From then on nothing but chunks of chosen ones
-- was put, by at most so many calls for each chunk that these read or write.
pub record WereChosen (s : Asking) (now : Shown) : Type 0 where
  pub asked : Shown
  pub first : Steps NoChange (own_chunks s.plan s.part (count_of_part s.part)) last_count s.start asked
  pub chosen : List Bool
  pub whole : length chosen ≡ count_of_part s.part
  pub tasks : AreChosen s.plan s.part (s.start, asked) chosen
  pub later : Steps (ChosenPut s.plan s.part chosen asked) 0
      (s.tries * chosen_calls s.plan s.part chosen (count_of_part s.part)) asked now

-- this task of the part was chosen: it lacked a chunk, and its made inputs were held at that moment
abbrev pub WasChosen : Asking → List Bool → ℕ → Type 0
WasChosen s chosen task = (i : ℕ) × (task ≡ s.part.from + i) × IsChosenAt chosen i

-- From that moment on those that were chosen were run, each once and once more for each failure, and
-- each task of the part holds its chunks.
pub record IsPartDone (s : Asking) (now : Shown) (c : PartCounts) : Type 0 where
  pub choice : WereChosen s now
  pub starts : AreTaskStarts (s.tries - 1) choice.chosen (count_of_part s.part)
      (choice.asked.faults, now.faults) c
  pub held : (env : Elements) (task : ℕ) → IsLeft (chunks_alone s.plan) env s.start → IsInPart s.part task
      → HoldsTask (chunks_alone s.plan) env s.part.op task now

-- Why a part isn't done. All tries of a chosen task failed, the faults counted from the moment of the
-- choice on; or a chunk that a chosen task reads is bad. Where no task was started nothing was put.
abbrev pub IsPartFault : Asking → Shown → PartFault → Type 0
IsPartFault s now (Broken task) = (w : WereChosen s now) × WasChosen s w.chosen task
    × Rose s.tries w.asked.faults now.faults
IsPartFault s now (BadChunk key got want) = (w : WereChosen s now) × (task : ℕ)
    × WasChosen s w.chosen task × IsBadOf s.plan (task_id s.part.op task) (s.start, now) key got want
IsPartFault s now NoMemory = Steps NoChange 0 last_count s.start now ⊎ IsTrue now.lacks
IsPartFault s now fault = IsUnstarted s now fault × Steps NoChange 0 last_count s.start now

abbrev pub IsPartEnd : Asking → Shown → Result PartCounts PartFault → Type 0
IsPartEnd s now (Ok c) = IsPartDone s now c
IsPartEnd s now (Err fault) = IsPartFault s now fault

-- At most so many calls were made for each of these: the keys of the chunks that the tasks write; those
-- of made inputs of tasks that lacked a chunk, each key once; and each chunk that a task reads or
-- writes which was chosen, since it lacked a chunk.
pub record HasCalled (s : Asking) (now : Shown) : Type 0 where
  pub inputs : List (List ℕ)
  pub chosen : List Bool
  pub differ : AllDiffer inputs
  pub sought : All (IsSoughtInput s) inputs
  pub lacking : (i : ℕ) → IsChosenAt chosen i → LacksChunk s.plan s.part.op (s.part.from + i) s.start
  pub calls : now.calls ≤ s.start.calls + s.tries * (own_chunks s.plan s.part (count_of_part s.part) + length inputs
      + chosen_calls s.plan s.part chosen (count_of_part s.part))

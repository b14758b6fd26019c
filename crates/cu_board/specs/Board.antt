-- What the board keeps, and what its calls say. This project's own rules.
use Rattle.std.specs.Prelude.{◌≡◌, ◌≢◌, ℕ, ◌≤◌, true, false, IsTrue, List, ◌++◌, length, Contains, Option, Some, None, Result, Ok, Err}
use Rattle.cu_store.specs.Held.{Contents}
use Rattle.cu_store.specs.Yard.{Known, IsJoined, uncounted}
use Rattle.cu_store.specs.declared.faults.TaskFault.{TaskFault}
use Rattle.cu_store.specs.declared.faults.TaskFault.TheVariants as fault
use Rattle.cu_history.specs.declared.entry.Entry.{Entry}
use Rattle.cu_history.specs.History.{own, has_halt}
use Rattle.cu_op.specs.declared.cells.Cell.{Cell}
use Rattle.cu_op.specs.Arrays.{chunk_room}
use Rattle.cu_op.specs.PlanView.{PlanView}
use Rattle.cu_op.specs.Schedule.{op_of, key_of}
use Rattle.cu_op.specs.Walks.{written_chunks}
use Rattle.cu_op.specs.Within.{fetched_chunks}
use Rattle.cu_run_law.specs.Pieces.{IsInputChunk}
use Rattle.cu_table.specs.declared.claim.Claim.{Claim}
use Rattle.cu_table.specs.declared.claim.Claim.TheVariants.{Run, Halted}
use Rattle.cu_table.specs.declared.state.Ending.{Ending}
use Rattle.cu_table.specs.declared.state.Ending.TheVariants as ending
use Rattle.cu_table.specs.Numbers.{IsTask}
use Rattle.cu_table.specs.Machine.{Machine, IsDone}
use Rattle.cu_table.specs.Own.{left_running}
use Rattle.cu_table.specs.Step.{Replays}
use Rattle.cu_table.specs.Table.{TableView, IsClaim, IsReported, end_of, report_kind, is_late}
use Rattle.cu_lock.specs.declared.view.SeatView.{SeatView}
use Rattle.cu_lock.specs.Rule.{IsPrefix, AllOf}
use Rattle.cu_lock.specs.Views.{informed}

-- ---- what a pass has seen

-- each cell of this task
abbrev pub SeesTask : PlanView → ℕ → ℕ → Known → Type 0
SeesTask p op task k = (c : Cell) → Contains (written_chunks p.arrays (op_of p op) task) c → IsTrue (k.seen (key_of p.arrays c))

-- each cell of each task that is done
abbrev pub SeesDone : PlanView → Machine → Known → Type 0
SeesDone p m k = (op task : ℕ) → IsTask p op task → IsDone p m op task → SeesTask p op task k

-- ---- why a machine was halted

-- the key is only read, it is that of a chunk of an input, and it holds `got` bytes, where `want`, another number, is the
-- bytes of the chunk
pub record IsBadEntry (p : PlanView) (entries : Contents) (key : List ℕ) (got want : ℕ) : Type 0 where
  pub cell : Cell
  pub input : IsInputChunk p.arrays cell
  pub key_is : key ≡ key_of p.arrays cell
  pub want_is : want ≡ chunk_room p.arrays cell.array
  pub other : got ≢ want
  pub bytes : List ℕ
  pub held : entries key ≡ Some bytes
  pub length_is : length bytes ≡ got

-- the key is that of a chunk that a task of the plan fetches, whose bytes are `want` and not `got`
pub record IsReadAmiss (p : PlanView) (key : List ℕ) (got want : ℕ) : Type 0 where
  pub op : ℕ
  pub task : ℕ
  pub is : IsTask p op task
  pub cell : Cell
  pub read : Contains (fetched_chunks p op task) cell
  pub key_is : key ≡ key_of p.arrays cell
  pub want_is : want ≡ chunk_room p.arrays cell.array
  pub other : got ≢ want

-- Why this fault ends a run, as a pass tells it. Of a bad chunk a task fetches it, and where contents are told it is an input's.
abbrev pub IsCauseOf : PlanView → Known → TaskFault → Type 0
IsCauseOf p k (fault.BadChunk key got want) =
    IsReadAmiss p key got want × ((entries : Contents) → k.entries ≡ Some entries → IsBadEntry p entries key got want)
IsCauseOf p k fault.NoMemory = IsTrue k.lacks
IsCauseOf p k fault.Store = Unit {0}

-- the fault that a machine was halted with
abbrev pub halted_fault : Option Ending → Option TaskFault
halted_fault (Some (ending.Halted f)) = Some f
halted_fault end = None

-- ---- what the board keeps

-- the state is the replay of the history, which is legal
abbrev pub IsLegal : TableView → Type 0
IsLegal t = Replays t.settings t.done t.history t.state

-- the table is for the plan, the retries, the setting of backups and the opening list of this one
abbrev pub IsSameJob : TableView → TableView → Type 0
IsSameJob made t = (t.settings ≡ made.settings) × (t.done ≡ made.done)

module _ {Y P : Type 0} (knows : P → Known) (owns : Y → P → Type 0) where
  -- each yard that owns the first pass owns this one
  abbrev pub IsOfFirstYard : P → P → Type 0
  IsOfFirstYard first p = (y : Y) → owns y first → owns y p

  -- The table is for what the board was made for, and its history is legal. The pass is of the first one's yard, and has seen
  -- the cells of each task that is done. It has counted no more calls than the first: what workers call for they count
  -- themselves. The fault that the machine was halted with has its cause.
  pub record IsBoardState (made : TableView) (first : P) (t : TableView) (p : P) : Type 0 where
    pub same : IsSameJob made t
    pub legal : IsLegal t
    pub yard : IsOfFirstYard first p
    pub seen : SeesDone t.settings.plan t.state (knows p)
    pub calls : (knows p).calls ≤ (knows first).calls
    pub cause : (f : TaskFault) → halted_fault t.state.ended ≡ Some f → IsCauseOf t.settings.plan (knows p) f

-- ---- turns of a seat

-- the table records how the worker's copy of this task ended
abbrev pub Reports : TableView → ℕ → ℕ → ℕ → Result (Unit {0}) TaskFault → TableView → Type 0
Reports t worker op task ended u =
    IsReported t (end_of (report_kind (is_late t.settings.plan t.state op task) ended) worker op task) ended u

-- The table has entries of this number more, and the fault of a Halt stays.
pub record IsGrownBy (worker : ℕ) (t u : TableView) : Type 0 where
  pub entries : List Entry
  pub history : u.history ≡ t.history ++ entries
  pub of : AllOf worker entries
  pub fault : has_halt t.history ≡ true → halted_fault t.state.ended ≡ halted_fault u.state.ended

-- the entries of this number leave no task running, or this one
abbrev pub IsResting : ℕ → List Entry → Type 0
IsResting worker history = left_running None (own worker history) ≡ None

abbrev pub IsRunning : ℕ → ℕ → ℕ → List Entry → Type 0
IsRunning worker op task history = left_running None (own worker history) ≡ Some (op, task)

-- The table that a seat found at its turn: its history is legal, begins with what the seat knew, and has no other entry of
-- its number.
pub record IsTurnOf (made : TableView) (old : SeatView) (t : TableView) : Type 0 where
  pub same : IsSameJob made t
  pub legal : IsLegal t
  pub front : IsPrefix old.front t.history
  pub own : own old.number t.history ≡ own old.number old.front

-- ... and the table that it left, whose whole history it knows
pub record IsTableLeft (made : TableView) (old : SeatView) (u : TableView) (new : SeatView) : Type 0 where
  pub same : IsSameJob made u
  pub legal : IsLegal u
  pub knows : new ≡ informed old false u.history (halted_fault u.state.ended)

-- a fact where a task is to be run
abbrev pub OnRun : Claim → Type 0 → Type 0
OnRun (Run op task copy) P = P
OnRun claim P = Unit {0}

-- a fact where none is
abbrev pub UnlessRun : Claim → Type 0 → Type 0
UnlessRun (Run op task copy) P = Unit {0}
UnlessRun claim P = P

-- a fact of the fault that the machine was halted with
abbrev pub OnHalted : Claim → (TaskFault → Type 0) → Type 0
OnHalted (Halted f) P = P f
OnHalted claim P = Unit {0}

-- what a claim tells the caller's pass: of a task to run, the cells of each task that is done; of a halt, its cause
abbrev pub TellsClaim : Claim → TableView → Known → Type 0
TellsClaim claim t k = OnRun claim (SeesDone t.settings.plan t.state k) × OnHalted claim (IsCauseOf t.settings.plan k)

-- a claim of a seat: at its turn the table answered so
pub record IsClaimTurn (made : TableView) (old : SeatView) (claim : Claim) (new : SeatView) (k : Known) : Type 0 where
  pub before : TableView
  pub after : TableView
  pub found : IsTurnOf made old before
  pub answer : IsClaim before old.number claim after
  pub left : IsTableLeft made old after new
  pub told : TellsClaim claim after k

-- a report of a seat: at its turn the table recorded so
pub record IsReportTurn (made : TableView) (old : SeatView) (op task : ℕ) (ended : Result (Unit {0}) TaskFault) (new : SeatView) : Type 0 where
  pub before : TableView
  pub after : TableView
  pub found : IsTurnOf made old before
  pub reported : Reports before old.number op task ended after
  pub left : IsTableLeft made old after new

-- ---- what a report does to passes

-- what it wants of the caller's
abbrev pub MayReport : PlanView → ℕ → ℕ → Result (Unit {0}) TaskFault → Known → Type 0
MayReport p op task (Ok u) k = SeesTask p op task k
MayReport p op task (Err fault.Store) k = Unit {0}
MayReport p op task (Err f) k = IsCauseOf p k f

-- what the board's is then: of Ok it has seen what the caller's has
abbrev pub TakesIn : Result (Unit {0}) TaskFault → Known → Known → Known → Type 0
TakesIn (Ok u) caller old new = IsJoined old (uncounted caller) new
TakesIn (Err f) caller old new = new ≡ old

-- What a worker keeps, what it knows at the end, and all workers of a run. This project's own rules.
use Rattle.std.specs.Prelude.{◌≡◌, ℕ, ◌+◌, ◌<◌, ◌≤◌, min, ◌||◌, true, false, List, length, sum_by, All, Some, slice_index_or, []}
use Rattle.std.specs.List.{list_any}
use Rattle.atomic_table.specs.Seated.{TableId}
use Rattle.cu_store.specs.Faults.{last_count, Rose}
use Rattle.cu_store.specs.Yard.{Served, Known, IsOfOneYard}
use Rattle.cu_store.specs.declared.faults.TaskFault.{TaskFault}
use Rattle.cu_store.specs.declared.faults.TaskFault.TheVariants as fault
use Rattle.cu_history.specs.History.{is_failed, count_kind, own}
use Rattle.cu_op.specs.PlanView.{PlanView}
use Rattle.cu_region.specs.Passes.{IsLaterIn}
use Rattle.cu_table.specs.declared.state.Ending.TheVariants.{Halted}
use Rattle.cu_table.specs.Step.{Replays}
use Rattle.cu_table.specs.Table.{TableView}
use Rattle.cu_lock.specs.declared.view.SeatView.{SeatView}
use Rattle.cu_lock.specs.declared.view.KnownFront.{KnownFront}
use Rattle.cu_board.specs.Board.{IsLegal, IsSameJob, IsResting, IsCauseOf, halted_fault}
use Rattle.cu_board.specs.Views.{SeatAt, IsSeatOf}
use Rattle.cu_work.specs.Alone.{IsDecided, HasSeenDone}
use Rattle.cu_work.specs.Rooms.{rooms_of}
use Rattle.cu_work.specs.Starts.{started_calls}
use Rattle.cu_work.specs.declared.outcome.Outcome.{Outcome}
use Rattle.cu_work.specs.declared.outcome.Outcome.TheVariants.{BadChunk, Lacked}
use Rattle.cu_work.specs.declared.worker.Worker.{Worker}

-- a worker at rest: its pass is the yard's, and its seat is of this board and number and runs nothing
pub record IsWorkerOf {Y P : Type 0} (owns : Y → P → Type 0) (yard : Y) (board : TableId) (number : ℕ) (seat : SeatAt) (pass : P) : Type 0 where
  pub own : owns yard pass
  pub seat_is : IsSeatOf board false seat
  pub number_is : seat.view.number ≡ number
  pub resting : IsResting number seat.view.front

-- the fault of this outcome has its cause, as a pass tells it
abbrev pub IsCausedBy : PlanView → Known → Outcome → Type 0
IsCausedBy p k (BadChunk key got want) = IsCauseOf p k (fault.BadChunk key got want)
IsCausedBy p k Lacked = IsCauseOf p k fault.NoMemory
IsCausedBy p k outcome = Unit {0}

-- The history that a seat knows is legal, from the table that the board was made with, and has ended so.
pub record KnowsEnd (made : TableView) (v : SeatView) (k : Known) (outcome : Outcome) : Type 0 where
  pub table : TableView
  pub same : IsSameJob made table
  pub legal : IsLegal table
  pub front : v.front ≡ table.history
  pub fault : v.fault ≡ halted_fault table.state.ended
  pub decided : IsDecided table.settings.plan table.state outcome
  pub cause : IsCausedBy table.settings.plan k outcome

-- The pass has counted each failure among the entries of its seat's number that the seat knows, and at most the calls of
-- each start among them.
pub record HasCounted (p : PlanView) (v : SeatView) (k : Known) : Type 0 where
  pub faults : min (count_kind is_failed (own v.number v.front)) last_count ≤ k.faults
  pub calls : k.calls ≤ started_calls p (own v.number v.front)

-- ---- all workers, and the root

-- workers of this board and yard, with the seats of 0, 1 and so on
abbrev pub AreWorkersOf : {Y P : Type 0} → (Y → P → Type 0) → Y → TableId → List (Worker Y P) → Type 0
AreWorkersOf {Y} {P} owns yard board ws =
    (i : ℕ) (d : Worker Y P) → i < length ws → IsWorkerOf owns yard board i (slice_index_or ws i d).seat (slice_index_or ws i d).pass

-- ... and these numbers
abbrev pub AreNumbered : {Y P : Type 0} → List (Worker Y P) → Type 0
AreNumbered {Y} {P} ws = (i : ℕ) (d : Worker Y P) → i < length ws → (slice_index_or ws i d).number ≡ i

-- each has counted so
abbrev pub HaveCounted : {Y P : Type 0} → (P → Known) → PlanView → List (Worker Y P) → Type 0
HaveCounted {Y} {P} knows p ws =
    (i : ℕ) (d : Worker Y P) → i < length ws → HasCounted p (slice_index_or ws i d).seat.view (knows (slice_index_or ws i d).pass)

-- each has the memory of the plan's tasks
abbrev pub HaveRooms : {Y P : Type 0} → PlanView → List (Worker Y P) → Type 0
HaveRooms p ws = All (λ w. w.rooms ≡ rooms_of p) ws

-- the root after so many splits, which has joined nobody
pub record IsRootOf (board : TableId) (splits : ℕ) (seat : SeatAt) : Type 0 where
  pub seat_is : IsSeatOf board true seat
  pub number : seat.view.number ≡ splits
  pub joined : seat.view.joined ≡ []

-- a pass that took in these others: what any of them has seen, and all counts, of which none is more than was counted
pub record TookIn (ks : List Known) (old new : Known) : Type 0 where
  pub yard : IsOfOneYard old new
  pub seen : (key : List ℕ) → new.seen key ≡ (old.seen key || list_any (λ k. k.seen key) ks)
  pub faults : min new.faults last_count ≡ min (old.faults + sum_by (λ k. k.faults) ks) last_count
  pub calls : min new.calls last_count ≡ min (old.calls + sum_by (λ k. k.calls) ks) last_count
  pub few : new.calls ≤ old.calls + sum_by (λ k. k.calls) ks

-- what a seat knows of the history
abbrev pub front_of : SeatAt → KnownFront
front_of s = record { number = s.view.number; front = s.view.front; fault = s.view.fault }

-- ---- what one worker or several have come to

-- From one moment to another tasks were run: of the table only the history and the state changed, and no copy runs; the
-- pass has seen each chunk of each task that is done. Its count of faults has risen by each failure at least, and that of
-- calls by those of each start at most. The fault that ended the machine has its cause.
pub record HasWorked (yard : Served) (first now : TableView) (old new : Known) : Type 0 where
  pub settings : now.settings ≡ first.settings
  pub done : now.done ≡ first.done
  pub legal : Replays now.settings now.done now.history now.state
  pub resting : now.state.copies ≡ []
  pub seen : HasSeenDone first.settings.plan now.state new.seen
  pub later : IsLaterIn yard.specs old new
  pub rose : Rose (count_kind is_failed now.history) old.faults new.faults
  pub calls : new.calls ≤ old.calls + started_calls first.settings.plan now.history
  pub cause : (f : TaskFault) → now.state.ended ≡ Some (Halted f) → IsCauseOf first.settings.plan new f

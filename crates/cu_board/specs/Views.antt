-- What contracts see of a board and of a seat.
use Rattle.std.specs.Prelude.{◌≡◌, Bool}
use Rattle.atomic_table.specs.Seated.{TableId}
use Rattle.cu_table.specs.Table.{TableView}
use Rattle.cu_lock.specs.declared.view.SeatView.{SeatView}

-- a seat: which board it is of, and what it knows
pub record SeatAt : Type 0 where
  pub board : TableId
  pub view : SeatView

-- a board: which one, and the table and the pass that it was made with
pub record BoardView (P : Type 0) : Type 0 where
  pub board : TableId
  pub table : TableView
  pub pass : P

-- the seat is of this board, and its root or not
abbrev pub IsSeatOf : TableId → Bool → SeatAt → Type 0
IsSeatOf board root s = (s.board ≡ board) × (s.view.root ≡ root)

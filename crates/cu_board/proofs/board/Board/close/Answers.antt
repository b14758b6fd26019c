use Rattle.std.proofs.Common.{ℕ, ◌<◌, sym, subst}
use Rattle.std.specs.Prelude.{Contains}
use Rattle.cu_lock.specs.Views.{joined_numbers}
use Rattle.cu_board.specs.Views.{SeatAt}
use Rattle.cu_board.proofs.board.Board.close.Goals as goal

pub close-table-requires-clause-all : goal.close-table-requires-clause-all
close-table-requires-clause-all g c = subst (λ (s : SeatAt). (n : ℕ) → n < s.view.number → Contains (joined_numbers s.view) n) (sym c.seat.view_is) c.requires.all

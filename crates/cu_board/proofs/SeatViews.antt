-- What a seat knows after its turn.
use Rattle.std.proofs.Common.{◌≡◌, ℕ, true, false, List, ◌++◌, sym, ap, ◌∙◌, subst}
use Rattle.cu_history.specs.declared.entry.Entry.{Entry}
use Rattle.cu_history.specs.History.{has_halt}
use Rattle.cu_table.specs.Table.{TableView}
use Rattle.cu_lock.specs.declared.view.SeatView.{SeatView}
use Rattle.cu_lock.specs.Rule.{AllOf}
use Rattle.cu_lock.specs.Views.{informed}
use Rattle.cu_board.specs.Board.{halted_fault, IsGrownBy}

-- a table that has grown by entries of the seat's number, at the view that has the turn
pub grows_at : (v : SeatView) (n : ℕ) (t u : TableView) → n ≡ v.number → IsGrownBy n t u → (m : SeatView) → m ≡ informed v true t.history (halted_fault t.state.ended)
    → ((es : List Entry) × (u.history ≡ m.front ++ es) × AllOf m.number es) × (has_halt m.front ≡ true → m.fault ≡ halted_fault u.state.ended)
grows_at v n t u number g m is =
    subst (λ (x : SeatView). ((es : List Entry) × (u.history ≡ x.front ++ es) × AllOf x.number es) × (has_halt x.front ≡ true → x.fault ≡ halted_fault u.state.ended)) (sym is)
    ((g.entries, g.history, subst (λ k. AllOf k g.entries) number g.of), g.fault)

-- the view once the turn was given back
pub knows_after : (v : SeatView) (t u : TableView) (m w : SeatView) → m ≡ informed v true t.history (halted_fault t.state.ended)
    → w ≡ informed m false u.history (halted_fault u.state.ended) → w ≡ informed v false u.history (halted_fault u.state.ended)
knows_after v t u m w is now = now ∙ ap (λ (x : SeatView). informed x false u.history (halted_fault u.state.ended)) is

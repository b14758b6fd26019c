use Rattle.std.proofs.Common.{◌∙◌, sym, ap, List, ℕ, Option, ◌∷◌, Some}
use Rattle.cu_lock.specs.declared.view.SeatView.{SeatView}
use Rattle.atomic_table.specs.Table.{Me, rest}
use Rattle.cu_lock.proofs.turn.Turn.take.Goals as goal

pub exchange-requires : goal.exchange-requires
exchange-requires g c =
    let a = c.await_turn-word.ensures in
    let (x, is, learns) = a.taken in
    let e = ap (λ (m : Me (Option g.row.S.Denot) SeatView). m.1) is in
    (a.seat ∙ c.into_seat-seat.ensures.0 ∙ c.requires.seat.0, (Some x, e ∙ ap (λ (l : List (ℕ × Option g.row.S.Denot)). (0, Some x) ∷ l) (sym (ap rest e))))

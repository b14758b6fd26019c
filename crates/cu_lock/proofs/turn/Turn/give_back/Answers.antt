use Rattle.std.proofs.Common.{◌∙◌, ap, List, ℕ, Option, ◌∷◌, Some, arith}
use Rattle.atomic_table.specs.Table.{Me, rest}
use Rattle.cu_lock.specs.declared.view.SeatView.{SeatView}
use Rattle.cu_lock.proofs.Steps.{frees_turn}
use Rattle.cu_lock.proofs.turn.Turn.give_back.Goals as goal

pub store-requires : goal.store-requires
store-requires g c =
    let e = c.exchange.ensures in
    let sized = c.args.self.now.sized in (
      e.0 ∙ c.requires.seat,
      omega (arith, sized.0),
      frees_turn g.S.HasHistory.history g.S.HasHistory.fault (g.S.HasHistory.invariant c.args.self.now.table.shared.key) _ _ _ c.args.held.seat.me.0 c.args.state _
          (e.3 ∙ ap {B = Me (Option g.row.S.Denot) SeatView} (λ (l : List (ℕ × Option g.row.S.Denot)). (c.args.held.seat.me.0, (0, Some c.args.state) ∷ rest l)) c.requires.out) c.requires.turn.0 c.requires.turn.1 c.requires.grown,
    )

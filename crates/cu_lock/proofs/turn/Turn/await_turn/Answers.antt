use Rattle.std.proofs.Common.{◌∙◌, ap, List, ℕ, Option, arith}
use Rattle.cu_lock.proofs.Steps.{takes_as}
use Rattle.cu_lock.proofs.turn.Turn.await_turn.Goals as goal

pub compare_exchange-found-requires : goal.compare_exchange-found-requires
compare_exchange-found-requires g c =
    let i = c.loop.invariant in
    let sized = c.args.self.now.sized in (
      i.2 ∙ c.requires.seat,
      omega (arith, sized.0),
      takes_as g.S.HasHistory.history g.S.HasHistory.fault (g.S.HasHistory.invariant c.args.self.now.table.shared.key) g.F.Fact.holds c.requires.fact _ _ _ c.args.seat.now.me.0 c.loop.even
          (i.3 ∙ ap (λ (l : List (ℕ × Option g.row.S.Denot)). (c.args.seat.now.me.0, l)) c.requires.empty) c.requires.worker i.4,
    )

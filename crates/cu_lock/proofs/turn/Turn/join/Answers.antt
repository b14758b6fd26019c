use Rattle.std.proofs.Common.{◌∙◌, ap, arith, subst}
use Rattle.cu_lock.specs.Rule.{IsRoot, IsWorker}
use Rattle.cu_lock.specs.Seats.{first_view}
use Rattle.cu_lock.proofs.Steps.{joins_seat}
use Rattle.cu_lock.proofs.turn.Turn.join.Goals as goal

pub join_seat-requires : goal.join_seat-requires
join_seat-requires g c =
    let a = c.into_seat-seat.ensures in
    let b = c.into_seat.ensures in
    let sized = c.args.self.now.sized in (
      a.0 ∙ c.requires.seats.0.0,
      b.0 ∙ c.requires.seats.1.0,
      b.3,
      omega (arith, sized.0),
      joins_seat g.S.HasHistory.history g.S.HasHistory.fault (g.S.HasHistory.invariant c.args.self.now.table.shared.key) _ _ c.into_seat-seat.result.me.0 c.into_seat.result.me.0
          (subst IsRoot (ap first_view a.2) c.requires.kinds.0) (subst IsWorker (ap first_view b.2) c.requires.kinds.1),
    )

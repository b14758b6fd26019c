use Rattle.std.proofs.Common.{◌∙◌, ap, arith, subst}
use Rattle.cu_lock.specs.Rule.{IsRoot}
use Rattle.cu_lock.specs.Seats.{first_view}
use Rattle.cu_lock.proofs.Steps.{splits_root}
use Rattle.cu_lock.proofs.turn.Turn.split.Goals as goal

pub split_seat-other-requires : goal.split_seat-other-requires
split_seat-other-requires g c =
    let a = c.into_seat-seat.ensures in
    let sized = c.args.self.now.sized in (
      a.0 ∙ c.requires.seat.0,
      omega (arith, sized.0),
      splits_root g.S.HasHistory.history g.S.HasHistory.fault (g.S.HasHistory.invariant c.args.self.now.table.shared.key) _ c.into_seat-seat.result.me.0 (subst IsRoot (ap first_view a.2) c.requires.root),
    )

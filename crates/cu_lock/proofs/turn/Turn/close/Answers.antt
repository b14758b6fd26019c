use Rattle.std.proofs.Common.{ap}
use Rattle.cu_lock.specs.Seats.{first_view, seat_view}
use Rattle.cu_lock.proofs.Steps.{comes_back, back_is, some_back}
use Rattle.cu_lock.proofs.turn.Turn.close.Goals as goal

pub unreachable-requires : goal.unreachable-requires
unreachable-requires g c =
    let v = seat_view c.args.root in
    let history = g.S.HasHistory.history in
    let fault = g.S.HasHistory.fault in
    let invariant = g.S.HasHistory.invariant c.args.self.table.shared.key in
    let slot = comes_back history fault invariant _ v _ _ _ c.take-slot.result (ap first_view c.into_seat.ensures.2)
    c.close_with-closed.ensures.values.2 c.requires.root c.requires.all c.take-slot.ensures.value in
    some_back history fault invariant v c.take-slot.result slot c.in-None.is

pub returns-clause-invariant : goal.returns-clause-invariant
returns-clause-invariant g c =
    let v = seat_view c.args.root in
    let history = g.S.HasHistory.history in
    let fault = g.S.HasHistory.fault in
    let invariant = g.S.HasHistory.invariant c.args.self.table.shared.key in
    let slot = comes_back history fault invariant _ v _ _ _ c.take-slot.result (ap first_view c.into_seat.ensures.2)
    c.close_with-closed.ensures.values.2 c.requires.root c.requires.all c.take-slot.ensures.value in
    (back_is history fault invariant v c.take-slot.result c.in-Some.state slot c.in-Some.is).0

pub returns-clause-front : goal.returns-clause-front
returns-clause-front g c =
    let v = seat_view c.args.root in
    let history = g.S.HasHistory.history in
    let fault = g.S.HasHistory.fault in
    let invariant = g.S.HasHistory.invariant c.args.self.table.shared.key in
    let slot = comes_back history fault invariant _ v _ _ _ c.take-slot.result (ap first_view c.into_seat.ensures.2)
    c.close_with-closed.ensures.values.2 c.requires.root c.requires.all c.take-slot.ensures.value in
    (back_is history fault invariant v c.take-slot.result c.in-Some.state slot c.in-Some.is).1

pub returns-clause-joined : goal.returns-clause-joined
returns-clause-joined g c =
    let v = seat_view c.args.root in
    let history = g.S.HasHistory.history in
    let fault = g.S.HasHistory.fault in
    let invariant = g.S.HasHistory.invariant c.args.self.table.shared.key in
    let slot = comes_back history fault invariant _ v _ _ _ c.take-slot.result (ap first_view c.into_seat.ensures.2)
    c.close_with-closed.ensures.values.2 c.requires.root c.requires.all c.take-slot.ensures.value in
    (back_is history fault invariant v c.take-slot.result c.in-Some.state slot c.in-Some.is).2

pub returns-clause-below : goal.returns-clause-below
returns-clause-below g c =
    let v = seat_view c.args.root in
    let history = g.S.HasHistory.history in
    let fault = g.S.HasHistory.fault in
    let invariant = g.S.HasHistory.invariant c.args.self.table.shared.key in
    let slot = comes_back history fault invariant _ v _ _ _ c.take-slot.result (ap first_view c.into_seat.ensures.2)
    c.close_with-closed.ensures.values.2 c.requires.root c.requires.all c.take-slot.ensures.value in
    (back_is history fault invariant v c.take-slot.result c.in-Some.state slot c.in-Some.is).3

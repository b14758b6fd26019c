use Rattle.std.proofs.Common.{◌≡◌, ◌∙◌, sym, ap, subst, ℕ, false}
use Rattle.cu_table.specs.Table.{TableView}
use Rattle.cu_lock.specs.declared.view.SeatView.{SeatView}
use Rattle.cu_lock.specs.Seats.{first_view, seat_view}
use Rattle.cu_board.specs.Board.{IsReportTurn, Reports}
use Rattle.cu_board.specs.Views.{SeatAt, BoardView}
use Rattle.cu_board.proofs.SeatViews.{grows_at, knows_after}
use Rattle.cu_board.proofs.board.Board.report.Goals as goal

pub give_back-badge-requires-clause-grown : goal.give_back-badge-requires-clause-grown
give_back-badge-requires-clause-grown g c =
    let l = c.take-state.ensures.learns in
    let a = c.report_in-wakes.ensures in
    let t = c.take-state.result.0.table in
    let u = c.report_in-wakes.new.state.table in
    let v = seat_view c.replace-badge.result in
    let root : (first_view c.seat.inside.badge.views).root ≡ false = subst (λ (s : SeatAt). s.view.root ≡ false) (sym c.seat.view_is) c.requires.seat.1 in
    let number : c.seat.inside.number ≡ v.number = sym (ap (λ (x : SeatView). x.number) (ap seat_view c.replace-badge.ensures.value) ∙ c.seat.invariant.3 root) in
    let first = c.self.inside.turn.table.shared.key.pass.value in
    let made = c.self.inside.turn.table.shared.key.table.value in
    let m_is = ap (λ x. x.0) c.take-state.ensures.taken in
    let owned = subst (λ (o : BoardView _). g.Y.Yard.owns c.args.yard.now o.pass) (sym c.self.view_is) c.requires.own.0 in
    let grown = grows_at v c.seat.inside.number t u number a.grown c.take-state.result.1.seat.me.0 m_is in
    (a.kept made first owned l.0, grown.0, grown.1)

pub returns-clause-reported : goal.returns-clause-reported
returns-clause-reported g c =
    let l = c.take-state.ensures.learns in
    let a = c.report_in-wakes.ensures in
    let t = c.take-state.result.0.table in
    let u = c.report_in-wakes.new.state.table in
    let v = seat_view c.replace-badge.result in
    let root : (first_view c.seat.inside.badge.views).root ≡ false = subst (λ (s : SeatAt). s.view.root ≡ false) (sym c.seat.view_is) c.requires.seat.1 in
    let number : c.seat.inside.number ≡ v.number = sym (ap (λ (x : SeatView). x.number) (ap seat_view c.replace-badge.ensures.value) ∙ c.seat.invariant.3 root) in
    let first = c.self.inside.turn.table.shared.key.pass.value in
    let made = c.self.inside.turn.table.shared.key.table.value in
    let m_is = ap (λ x. x.0) c.take-state.ensures.taken in
    let owned = subst (λ (o : BoardView _). g.Y.Yard.owns c.args.yard.now o.pass) (sym c.self.view_is) c.requires.own.0 in
    let w = first_view c.give_back-badge.result.0.views in
    let same : v ≡ c.args.seat.now.view = ap seat_view c.replace-badge.ensures.value ∙ ap (λ (s : SeatAt). s.view) c.seat.view_is in
    let of : made ≡ c.args.self.now.table = ap (λ (o : BoardView _). o.table) c.self.view_is in
    let new = a.kept made first owned l.0 in
    let knows = knows_after v t u c.take-state.result.1.seat.me.0 w m_is (ap first_view c.give_back-badge.ensures.1) in
    subst (λ (x : TableView × SeatView). IsReportTurn x.0 x.1 c.args.op c.args.task c.args.ended w) (λ i. (of i, same i)) (record {
      before = t;
      after = u;
      found = record { same = l.0.same; legal = l.0.legal; front = l.1; own = l.2 };
      reported = subst (λ (n : ℕ). Reports t n c.args.op c.args.task c.args.ended u) number a.reported;
      left = record { same = new.same; legal = new.legal; knows = knows };
    })

use Rattle.std.proofs.Common.{◌≡◌, ◌∙◌, sym, ap, subst, ℕ, false}
use Rattle.cu_table.specs.Table.{TableView, IsClaim}
use Rattle.cu_lock.specs.declared.view.SeatView.{SeatView}
use Rattle.cu_lock.specs.Seats.{first_view, seat_view}
use Rattle.cu_board.specs.Board.{IsClaimTurn}
use Rattle.cu_board.specs.Views.{SeatAt, BoardView}
use Rattle.cu_board.proofs.SeatViews.{grows_at, knows_after}
use Rattle.cu_board.proofs.board.Board.claim.Goals as goal

pub give_back-badge-requires-clause-grown : goal.give_back-badge-requires-clause-grown
give_back-badge-requires-clause-grown g c =
    let l = c.take-state.ensures.learns in
    let a = c.claim_in-claim.ensures in
    let t = c.take-state.result.0.table in
    let u = c.claim_in-claim.new.state.table in
    let v = seat_view c.replace-badge.result in
    let root : (first_view c.seat.inside.badge.views).root ≡ false = subst (λ (s : SeatAt). s.view.root ≡ false) (sym c.seat.view_is) c.requires.seat.1 in
    let number : c.seat.inside.number ≡ v.number = sym (ap (λ (x : SeatView). x.number) (ap seat_view c.replace-badge.ensures.value) ∙ c.seat.invariant.3 root) in
    let first = c.self.inside.turn.table.shared.key.pass.value in
    let made = c.self.inside.turn.table.shared.key.table.value in
    let m_is = ap (λ x. x.0) c.take-state.ensures.taken in
    let owned = subst (λ (o : BoardView _). g.Y.Yard.owns c.args.yard.now o.pass) (sym c.self.view_is) c.requires.own.0 in
    let grown = grows_at v c.seat.inside.number t u number a.grown c.take-state.result.1.seat.me.0 m_is in
    ((a.kept made first owned l.0).0, grown.0, grown.1)

pub returns-clause-claimed : goal.returns-clause-claimed
returns-clause-claimed g c =
    let l = c.take-state.ensures.learns in
    let a = c.claim_in-claim.ensures in
    let t = c.take-state.result.0.table in
    let u = c.claim_in-claim.new.state.table in
    let v = seat_view c.replace-badge.result in
    let root : (first_view c.seat.inside.badge.views).root ≡ false = subst (λ (s : SeatAt). s.view.root ≡ false) (sym c.seat.view_is) c.requires.seat.1 in
    let number : c.seat.inside.number ≡ v.number = sym (ap (λ (x : SeatView). x.number) (ap seat_view c.replace-badge.ensures.value) ∙ c.seat.invariant.3 root) in
    let first = c.self.inside.turn.table.shared.key.pass.value in
    let made = c.self.inside.turn.table.shared.key.table.value in
    let m_is = ap (λ x. x.0) c.take-state.ensures.taken in
    let owned = subst (λ (o : BoardView _). g.Y.Yard.owns c.args.yard.now o.pass) (sym c.self.view_is) c.requires.own.0 in
    let w = first_view c.give_back-badge.result.0.views in
    let same : v ≡ c.args.seat.now.view = ap seat_view c.replace-badge.ensures.value ∙ ap (λ (s : SeatAt). s.view) c.seat.view_is in
    let of : made ≡ c.args.self.now.table = ap (λ (o : BoardView _). o.table) c.self.view_is in
    let new = (a.kept made first owned l.0).0 in
    let knows = knows_after v t u c.take-state.result.1.seat.me.0 w m_is (ap first_view c.give_back-badge.ensures.1) in
    subst (λ (x : TableView × SeatView). IsClaimTurn x.0 x.1 c.claim_in-claim.result w (g.Y.Yard.knows c.claim_in-claim.new.pass)) (λ i. (of i, same i)) (record {
      before = t;
      after = u;
      found = record { same = l.0.same; legal = l.0.legal; front = l.1; own = l.2 };
      answer = subst (λ (n : ℕ). IsClaim t n c.claim_in-claim.result u) number a.claimed;
      left = record { same = new.same; legal = new.legal; knows = knows };
      told = (a.kept made first owned l.0).1;
    })

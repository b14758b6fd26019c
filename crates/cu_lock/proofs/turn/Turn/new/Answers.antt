use Rattle.std.proofs.Common.{◌∙◌, sym, ap, List, Option, [], ◌∷◌, ◌++◌, Some, subst}
use Rattle.atomic_table.specs.Table.{opening}
use Rattle.cu_lock.specs.Rule.{IsTurnState}
use Rattle.cu_lock.specs.Views.{first_root}
use Rattle.cu_lock.proofs.Steps.{begins}
use Rattle.cu_lock.proofs.turn.Turn.new.Goals as goal

pub new-requires : goal.new-requires
new-requires g c =
    let is = c.push_reserved.ensures.items ∙ ap (λ l. l ++ Some c.args.state ∷ []) (c.reserve.ensures.items ∙ c.new-slots.ensures.items) in
    subst (λ (l : List (Option g.row.S.Denot)). IsTurnState g.S.HasHistory.history g.S.HasHistory.fault (g.S.HasHistory.invariant c.args.key.now) (opening (0 ∷ []) l first_root)) (sym is)
    (begins g.S.HasHistory.history g.S.HasHistory.fault (g.S.HasHistory.invariant c.args.key.now) c.args.state c.requires.invariant c.requires.empty)

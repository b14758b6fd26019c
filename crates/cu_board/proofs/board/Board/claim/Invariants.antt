use Rattle.cu_board.specs.Board.{IsBoardState}
use Rattle.cu_board.proofs.board.Board.claim.Given as goal

abbrev pub ghosts-take : goal.ghosts-take
ghosts-take g a = record {
  holds = λ x. IsBoardState g.Y.Yard.knows g.Y.Yard.owns a.self.now.table.shared.key.table.value a.self.now.table.shared.key.pass.value
      x.table x.pass;
}

use Rattle.std.proofs.Common.{ℕ, subst}
use Rattle.cu_grid.proofs.Meeting.{within_of}
use Rattle.cu_view.specs.Pieces.{HasAxes}
use Rattle.cu_view.proofs.gathering.gather_piece.Goals as goal

pub copy_shown-requires-clause-axes : goal.copy_shown-requires-clause-axes
copy_shown-requires-clause-axes c =
    let b = c.in-Some.shared in
    let s = (c.in-Some.ensures.exact b.lo).0 c.in-Some.ensures.some in
    let v = within_of c.args.piece.now.region.lo c.args.piece.now.region.hi b.lo s.of_piece in
    subst (λ (n : ℕ). HasAxes c.args.pull.now n) v.lo_rank c.requires.axes

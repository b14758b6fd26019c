use Rattle.std.proofs.Common.{◌≡◌, ◌∙◌, false, sym}
use Rattle.cu_shape.specs.Index.{is_inside}
use Rattle.cu_shape.proofs.Places.{inside_test, outside_rank}
use Rattle.cu_shape.proofs.index.is_inside.Goals as goal

outside : (c : goal.Then-rank) → false ≡ is_inside c.args.dims.now c.args.idx.now
outside c = sym (outside_rank c.args.dims.now c.args.idx.now (λ e. c.if-rank.true (c.rank.ensures.rank ∙ (e ∙ sym c.rank-2.ensures.rank))))

pub returns-then-rank-clause-test : goal.returns-then-rank-clause-test
returns-then-rank-clause-test c = outside c

pub returns-then-rank-clause-inside : goal.returns-then-rank-clause-inside
returns-then-rank-clause-inside c = inside_test false _ _ (outside c)

pub returns-clause-inside : goal.returns-clause-inside
returns-clause-inside c = inside_test c.are_below.result _ _ c.are_below.ensures

use Rattle.std.proofs.Common.{◌≡◌, ◌≤◌, ◌<◌, All, List, ℕ, sym, subst, arith, min, max}
use Rattle.cu_shape.specs.Index.{product}
use Rattle.cu_shape.proofs.Axes.{axis_by_axis_from}
use Rattle.cu_rechunk.specs.Stages.{cut}
use Rattle.cu_rechunk.proofs.Sizes.{cut_kept, product_of_within}
use Rattle.cu_rechunk.proofs.axes.cut.Goals as goal

value : (c : goal.After-loop-axis) → c.loop-axis.sizes ≡ cut c.args.shape.now c.args.chunk.now
value c = axis_by_axis_from (λ c n. min c (max n 1)) c.loop-axis.sizes c.args.chunk.now c.args.shape.now c.loop-axis.invariant.ranks c.requires.ranks
    (λ k h. c.loop-axis.invariant.done k (omega arith))

pub returns-clause-sizes : goal.returns-clause-sizes
returns-clause-sizes c = value c

pub returns-clause-positive : goal.returns-clause-positive
returns-clause-positive c = subst (All (λ n. 0 < n)) (sym (value c)) (cut_kept c.args.shape.now c.args.chunk.now c.requires.ranks c.requires.positive).positive

pub returns-clause-fewer : goal.returns-clause-fewer
returns-clause-fewer c =
    subst (λ (s : List ℕ). product s ≤ product c.args.chunk.now) (sym (value c)) (product_of_within _ _ ((cut_kept c.args.shape.now c.args.chunk.now c.requires.ranks c.requires.positive).chunk))

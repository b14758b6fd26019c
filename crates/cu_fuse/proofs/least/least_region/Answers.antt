use Rattle.std.proofs.Common.{◌≡◌, ◌<◌, ◌≤◌, All, List, ℕ, sym, subst, arith}
use Rattle.cu_shape.specs.Counts.{at_least_one}
use Rattle.cu_shape.specs.Index.{product}
use Rattle.cu_rechunk.proofs.Sizes.{product_of_within}
use Rattle.cu_fuse.specs.Least.{least_region}
use Rattle.cu_fuse.proofs.LeastSizes.{least_from, least_kept}
use Rattle.cu_fuse.proofs.least.least_region.Goals as goal

value : (c : goal.After-loop-axis) → c.loop-axis.sizes ≡ least_region c.args.shape.now c.args.source.now c.args.target.now
value c = least_from c.loop-axis.sizes c.args.shape.now c.args.source.now c.args.target.now c.loop-axis.invariant.ranks c.requires.source_rank c.requires.target_rank
    (λ k h. c.loop-axis.invariant.done k (omega arith))

pub returns-clause-sizes : goal.returns-clause-sizes
returns-clause-sizes c = value c

pub returns-clause-positive : goal.returns-clause-positive
returns-clause-positive c =
    let k = least_kept c.args.shape.now c.args.source.now c.args.target.now c.requires.source_rank c.requires.target_rank c.requires.source_positive c.requires.target_positive in
    subst (All (λ n. 0 < n)) (sym (value c)) k.positive

pub returns-clause-fewer : goal.returns-clause-fewer
returns-clause-fewer c =
    let k = least_kept c.args.shape.now c.args.source.now c.args.target.now c.requires.source_rank c.requires.target_rank c.requires.source_positive c.requires.target_positive in
    subst (λ (s : List ℕ). product s ≤ product (at_least_one c.args.shape.now)) (sym (value c)) (product_of_within _ _ k.within)

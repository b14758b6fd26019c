use Rattle.std.proofs.Common.{◌≡◌, ◌+◌, ◌-◌, ◌*◌, ◌/◌, List, ℕ, get_or, subst, sym, ◌∙◌, ap, arith}
use Rattle.cu_rechunk.specs.Stages.{grown}
use Rattle.cu_rechunk.proofs.Walk.{IsWalk, walk_none, walk_all, walk_positive, walk_more, at_axis}
use Rattle.cu_rechunk.proofs.consolidation.consolidate.Goals as goal

pub loop-axis-init : goal.loop-axis-init
loop-axis-init c = walk_none c.args.room c.args.shape.now c.args.chunk.now c.args.limit.now _ _ c.requires.shape_rank c.requires.limit_rank (omega arith) c.product-elements.ensures (omega arith)

pub returns-clause-sizes : goal.returns-clause-sizes
returns-clause-sizes c = walk_all c.args.room c.args.shape.now c.args.chunk.now c.args.limit.now c.loop-axis.sizes c.loop-axis.axis c.loop-axis.elements (omega arith) c.loop-axis.invariant

pub returns-clause-positive : goal.returns-clause-positive
returns-clause-positive c = walk_positive c.args.room c.args.shape.now c.args.chunk.now c.args.limit.now c.loop-axis.sizes c.loop-axis.axis c.loop-axis.elements (omega arith) c.loop-axis.invariant

pub returns-clause-ranks : goal.returns-clause-ranks
returns-clause-ranks c = c.loop-axis.invariant.ranks

pub nonzero_div-room : goal.nonzero_div-room
nonzero_div-room c =
    let k = c.loop-axis.axis - 1 in
    let t = c.loop-axis-test.true in
    let e : c.loop-axis.axis ≡ k + 1 = omega (arith, t) in
    let w = subst (λ (a : ℕ). IsWalk c.args.room c.args.shape.now c.args.chunk.now c.args.limit.now c.loop-axis.sizes a c.loop-axis.elements) e c.loop-axis.invariant in
    (at_axis c.args.room c.args.shape.now c.args.chunk.now c.args.limit.now c.loop-axis.sizes k c.loop-axis.elements c.at-size.result c.requires.positive (omega arith) w c.at-size.ensures).some

pub overflow_mul-elements : goal.overflow_mul-elements
overflow_mul-elements c =
    let k = c.loop-axis.axis - 1 in
    let t = c.loop-axis-test.true in
    let e : c.loop-axis.axis ≡ k + 1 = omega (arith, t) in
    let w = subst (λ (a : ℕ). IsWalk c.args.room c.args.shape.now c.args.chunk.now c.args.limit.now c.loop-axis.sizes a c.loop-axis.elements) e c.loop-axis.invariant in
    let m = walk_more c.args.room c.args.shape.now c.args.chunk.now c.args.limit.now c.loop-axis.sizes k c.loop-axis.elements c.at-size.result c.grown-wider.result c.requires.positive c.requires.shape_rank c.requires.limit_rank (omega arith) w c.at-size.ensures
    (c.grown-wider.ensures ∙ ap (λ (n : ℕ). grown (c.args.room / (c.loop-axis.elements / c.at-size.result)) n c.at-size.result c.at-in-loop-axis.result) c.at.ensures
    ∙ ap (λ (n : ℕ). grown (c.args.room / (c.loop-axis.elements / c.at-size.result)) (get_or c.args.shape.now k 0) c.at-size.result n) c.at-in-loop-axis.ensures) in
    let fits = m.0 in
    let room = c.ranges.room.fits in
    omega arith

pub loop-axis-preserved : goal.loop-axis-preserved
loop-axis-preserved c =
    let k = c.loop-axis.axis - 1 in
    let t = c.loop-axis-test.true in
    let e : c.loop-axis.axis ≡ k + 1 = omega (arith, t) in
    let w = subst (λ (a : ℕ). IsWalk c.args.room c.args.shape.now c.args.chunk.now c.args.limit.now c.loop-axis.sizes a c.loop-axis.elements) e c.loop-axis.invariant in
    let m = walk_more c.args.room c.args.shape.now c.args.chunk.now c.args.limit.now c.loop-axis.sizes k c.loop-axis.elements c.at-size.result c.grown-wider.result c.requires.positive c.requires.shape_rank c.requires.limit_rank (omega arith) w c.at-size.ensures
    (c.grown-wider.ensures ∙ ap (λ (n : ℕ). grown (c.args.room / (c.loop-axis.elements / c.at-size.result)) n c.at-size.result c.at-in-loop-axis.result) c.at.ensures
    ∙ ap (λ (n : ℕ). grown (c.args.room / (c.loop-axis.elements / c.at-size.result)) (get_or c.args.shape.now k 0) c.at-size.result n) c.at-in-loop-axis.ensures) in
    subst (λ (s : List ℕ). IsWalk c.args.room c.args.shape.now c.args.chunk.now c.args.limit.now s k (c.loop-axis.elements / c.at-size.result * c.grown-wider.result)) (sym c.put.ensures) m.1

use Rattle.cu_op.proofs.InnerRegions.{empty_walk, found_region, walk_first}
use Rattle.cu_op.proofs.MapRegions.{region_lengths}
use Rattle.cu_op.proofs.Plans.{grid_ok}
use Rattle.cu_op.proofs.schedule.inner_region.Goals as goal
use Rattle.cu_op.specs.Arrays.{grid_at}
use Rattle.cu_op.specs.Schedule.{MakesChunk}
use Rattle.cu_shape.specs.Index.{quotients}
use Rattle.std.proofs.Common.{◌≡◌, ℕ, ◌<◌, ◌==◌, List, All, ap, refl, sym, ◌∙◌, subst}
use Rattle.std.specs.List.{list_any}
use Rattle.std.specs.Prelude.{IfSome}

pub sizes-requires : goal.sizes-requires
sizes-requires c =
    let w = c.args.walk.now in
    let n = region_lengths (grid_at c.args.plan.now.arrays w.array).shape w.region.lo w.region.hi c.requires.over.1 in
    n.0 ∙ sym n.1

pub returns-then-has_zero : goal.returns-then-has_zero
returns-then-has_zero c =
    empty_walk c.args.plan.now c.array.ensures.sound c.args.walk.now c.requires.over
    (ap (list_any (λ (n : ℕ). n == 0)) (sym c.sizes.ensures) ∙ sym c.has_zero.ensures.value ∙ c.if-has_zero.true)

pub box_of-coord-requires-clause-ranks : goal.box_of-coord-requires-clause-ranks
box_of-coord-requires-clause-ranks c =
    let w = c.args.walk.now in
    let n = region_lengths (grid_at c.args.plan.now.arrays w.array).shape w.region.lo w.region.hi c.requires.over.1 in
    rw (c.chunk.ensures.value, c.array.ensures.array)
    ((grid_ok c.args.plan.now w.array c.array.ensures.sound c.requires.over.0).ranks ∙ sym n.0)

pub maker-requires : goal.maker-requires
maker-requires c =
    rw (c.box_of-coord.ensures, c.chunk.ensures.value, c.array.ensures.array)
    (walk_first c.args.plan.now c.array.ensures.sound c.args.walk.now c.requires.over c.requires.chunk
    (subst (All (λ n. 0 < n)) c.sizes.ensures c.if-has_zero.ensures.positive))

pub returns : goal.returns
returns c =
    let p = c.args.plan.now in
    let w = c.args.walk.now in
    let first : c.box_of-coord.result ≡ quotients w.region.lo (grid_at p.arrays w.array).chunk =
    rw (c.box_of-coord.ensures, c.chunk.ensures.value, c.array.ensures.array) refl in
    found_region p c.array.ensures.sound w c.requires.over c.requires.chunk
    (subst (All (λ n. 0 < n)) c.sizes.ensures c.if-has_zero.ensures.positive) c.requires.made c.maker.result
    (subst (λ (coord : List ℕ). IfSome c.maker.result (λ by. MakesChunk p by.0 by.1 w.array coord)) first c.maker.ensures.makes)
    c.maker.ensures.input

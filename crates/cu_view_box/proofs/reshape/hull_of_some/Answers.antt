use Rattle.std.proofs.Common.{◌≡◌, ℕ, List, sym, ap, ◌∙◌, subst, arith}
use Rattle.cu_shape.proofs.Places.{inside-length}
use Rattle.cu_shape.specs.Index.{index_at}
use Rattle.cu_grid.proofs.Regions.{inside-at}
use Rattle.cu_view_box.specs.Reshape.{reshaped, IsBetweenUpToDifference}
use Rattle.cu_view_box.proofs.MetRuns.{between_of}
use Rattle.cu_view_box.proofs.Reshapes.{hull_none, hull_more, hull_of_ends, hull_region_of_ends}
use Rattle.cu_view_box.proofs.reshape.hull_of_some.Goals as goal

pub place-requires-clause-inside : goal.place-requires-clause-inside
place-requires-clause-inside c = c.requires.inside c.args.out.now.lo c.requires.some

pub place-requires-2-clause-inside : goal.place-requires-2-clause-inside
place-requires-2-clause-inside c = c.requires.inside c.last_index.result c.last_index.ensures.within

pub first_apart-apart-requires : goal.first_apart-apart-requires
first_apart-apart-requires c =
    inside-length c.args.source.now c.index_of-last.result c.index_of-last.ensures.inside ∙ sym (inside-length c.args.source.now c.index_of-first.result c.index_of-first.ensures.inside)

pub loop-axis-init : goal.loop-axis-init
loop-axis-init c = hull_none c.args.source.now c.index_of-first.result c.index_of-last.result c.first_apart-apart.result

pub at-requires : goal.at-requires
at-requires c = let n = inside-length c.args.source.now c.index_of-first.result c.index_of-first.ensures.inside in omega arith

pub at-requires-in-loop-axis : goal.at-requires-in-loop-axis
at-requires-in-loop-axis c = let n = inside-length c.args.source.now c.index_of-last.result c.index_of-last.ensures.inside in omega arith

pub ends_on-ends-requires : goal.ends_on-ends-requires
ends_on-ends-requires c =
    let i = inside-at c.args.source.now c.index_of-last.result c.loop-axis.axis c.index_of-last.ensures.inside (omega arith) in
    rw (c.at-in-loop-axis.ensures, c.at-size.ensures) i

pub loop-axis-preserved : goal.loop-axis-preserved
loop-axis-preserved c =
    hull_more c.args.source.now c.index_of-first.result c.index_of-last.result c.loop-axis.hull.lo c.loop-axis.hull.hi c.put.new.self c.put-in-loop-axis.new.self
    c.first_apart-apart.result c.loop-axis.axis c.ends_on-ends.result.from c.ends_on-ends.result.to c.at.result c.at-in-loop-axis.result c.at-size.result (omega arith)
    c.put.ensures c.put-in-loop-axis.ensures c.at.ensures c.at-in-loop-axis.ensures c.at-size.ensures c.ends_on-ends.ensures.before c.ends_on-ends.ensures.behind c.loop-axis.invariant

pub returns-clause-region : goal.returns-clause-region
returns-clause-region c =
    hull_region_of_ends c.args.source.now c.args.shape.now c.args.out.now.lo c.args.out.now.hi c.last_index.result c.place.result c.place-2.result c.index_of-first.result c.index_of-last.result
    c.loop-axis.hull.lo c.loop-axis.hull.hi c.first_apart-apart.result c.loop-axis.axis c.requires.some c.last_index.ensures.within c.last_index.ensures.last
    c.place.ensures.place c.place-2.ensures.place c.place-2.ensures.below c.requires.reshape.same c.index_of-first.ensures.index c.index_of-last.ensures.index (omega arith) c.first_apart-apart.ensures.agree c.loop-axis.invariant

pub returns-clause-holds : goal.returns-clause-holds
returns-clause-holds c = λ idx w.
    hull_of_ends c.args.source.now c.args.shape.now c.args.out.now.lo c.args.out.now.hi c.last_index.result c.place.result c.place-2.result c.index_of-first.result c.index_of-last.result
    c.loop-axis.hull.lo c.loop-axis.hull.hi c.first_apart-apart.result c.loop-axis.axis c.requires.some c.last_index.ensures.within c.last_index.ensures.last
    c.place.ensures.place c.place-2.ensures.place c.place-2.ensures.below c.requires.reshape.same c.index_of-first.ensures.index c.index_of-last.ensures.index (omega arith) c.first_apart-apart.ensures.agree c.loop-axis.invariant
    idx w

pub returns-clause-between : goal.returns-clause-between
returns-clause-between c = λ i w.
    let first : c.index_of-first.result ≡ reshaped c.args.source.now c.args.shape.now c.args.out.now.lo = c.index_of-first.ensures.index ∙ ap (index_at c.args.source.now) c.place.ensures.place in
    let last : c.index_of-last.result ≡ reshaped c.args.source.now c.args.shape.now c.last_index.result = c.index_of-last.ensures.index ∙ ap (index_at c.args.source.now) c.place-2.ensures.place in
    let own = between_of c.args.source.now c.index_of-first.result c.index_of-last.result c.loop-axis.hull.lo c.loop-axis.hull.hi i c.first_apart-apart.result c.loop-axis.axis
    (inside-length c.args.source.now c.index_of-first.result c.index_of-first.ensures.inside) (omega arith) c.first_apart-apart.ensures.differ c.loop-axis.invariant w in (
      c.last_index.result,
      c.last_index.ensures.within,
      subst (λ (x : List ℕ). IsBetweenUpToDifference (reshaped c.args.source.now c.args.shape.now c.args.out.now.lo) x i) last
          (subst (λ (x : List ℕ). IsBetweenUpToDifference x c.index_of-last.result i) first own),
    )

use Rattle.std.proofs.Common.{◌≡◌, ◌+◌, ◌-◌, List, ℕ, map, pred, sym, ap, ◌∙◌, subst, arith}
use Rattle.cu_shape.specs.Index.{product, place_of, differences, IsInside}
use Rattle.cu_grid.proofs.Covers.{bounds_of}
use Rattle.cu_task.proofs.Together.{few_in_region, first_inside, last_inside, first_before, together}
use Rattle.cu_task.proofs.reshapes.first_place.Goals as goal

pub sizes-requires : goal.sizes-requires
sizes-requires c =
    let b = bounds_of c.args.shape.now c.args.region.now.lo c.args.region.now.hi c.requires.region in
    b.lo_rank ∙ sym b.hi_rank

pub product-count-requires : goal.product-count-requires
product-count-requires c =
    let few = few_in_region c.args.shape.now c.args.region.now.lo c.args.region.now.hi c.requires.region in
    let same = ap product c.sizes.ensures in
    omega (arith, few, same)

pub place-first-requires-clause-inside : goal.place-first-requires-clause-inside
place-first-requires-clause-inside c =
    let same = ap product c.sizes.ensures in
    first_inside c.args.shape.now c.args.region.now.lo c.args.region.now.hi c.requires.region (omega (arith, same))

pub place-last-requires-clause-inside : goal.place-last-requires-clause-inside
place-last-requires-clause-inside c =
    let same = ap product c.sizes.ensures in
    subst (λ (x : List ℕ). IsInside c.args.shape.now x) (sym c.last.ensures)
    (last_inside c.args.shape.now c.args.region.now.lo c.args.region.now.hi c.requires.region (omega (arith, same)))

pub overflow_sub-last : goal.overflow_sub-last
overflow_sub-last c =
    let same = ap product c.sizes.ensures in
    let order = first_before c.args.shape.now c.args.region.now.lo c.args.region.now.hi c.requires.region (omega (arith, same)) in
    let last = ap (place_of c.args.shape.now) c.last.ensures in
    let from = c.place-first.ensures.place in
    let to = c.place-last.ensures.place in
    omega (arith, order, last, from, to)

pub returns : goal.returns
returns c = λ idx w.
    let same = ap product c.sizes.ensures in
    let last = ap (place_of c.args.shape.now) c.last.ensures in
    let from = c.place-first.ensures.place in
    let to = c.place-last.ensures.place in
    let count = c.product-count.ensures in
    let all = c.if-last-first.false in
    let whole : place_of c.args.shape.now (map pred c.args.region.now.hi) - place_of c.args.shape.now c.args.region.now.lo + 1 ≡ product (differences c.args.region.now.hi c.args.region.now.lo)
    = omega (arith, same, last, from, to, count, all) in
    let at = together c.args.shape.now c.args.region.now.lo c.args.region.now.hi c.requires.region (omega (arith, same)) idx whole w in
    omega (arith, at, from)

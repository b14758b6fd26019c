use Rattle.std.proofs.Common.{◌≡◌, ◌*◌, drop, arith, ap}
use Rattle.std.proofs.lemmas.List.{drop_all}
use Rattle.cu_shape.specs.Index.{product}
use Rattle.cu_pairs.proofs.Sizes.{drop_more_below}
use Rattle.cu_pairs.proofs.pairs.width_behind.Goals as goal

pub overflow_mul-width : goal.overflow_mul-width
overflow_mul-width c = omega (arith, (drop_more_below c.args.dims.now c.loop-behind.behind c.args.axis c.loop-behind.width c.at.result (omega arith) c.requires.some c.requires.small c.loop-behind.invariant c.at.ensures).0)

pub loop-behind-preserved : goal.loop-behind-preserved
loop-behind-preserved c =
    (drop_more_below c.args.dims.now c.loop-behind.behind c.args.axis c.loop-behind.width c.at.result (omega arith) c.requires.some c.requires.small c.loop-behind.invariant c.at.ensures).1

pub returns : goal.returns
returns c =
    let ends = drop_all c.loop-behind.behind c.args.dims.now (omega arith) in
    let last : c.loop-behind.width * product (drop c.loop-behind.behind c.args.dims.now) ≡ c.loop-behind.width * 1 = ap (λ d. c.loop-behind.width * product d) ends in
    let all = c.loop-behind.invariant in
    omega arith

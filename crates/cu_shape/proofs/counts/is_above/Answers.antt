use Rattle.std.proofs.Common.{sym, ◌∙◌, arith}
use Rattle.std.proofs.lemmas.Bool.{lt-ltb}
use Rattle.cu_shape.proofs.Products.{at_least_one-positive, over}
use Rattle.cu_shape.proofs.counts.is_above.Goals as goal

pub returns-then-limit-eq0-clause-value : goal.returns-then-limit-eq0-clause-value
returns-then-limit-eq0-clause-value c = sym (lt-ltb c.args.limit _ (let p = at_least_one-positive c.args.sizes.now in omega arith))

pub returns-then-size-limit-clause-value : goal.returns-then-size-limit-clause-value
returns-then-size-limit-clause-value c =
    let i = c.loop-axis.invariant in
    let e = c.at.ensures in
    let m = c.max-size.ensures in
    sym (lt-ltb c.args.limit _ (over c.args.sizes.now c.loop-axis.axis c.loop-axis.count c.args.limit c.max-size.result (omega arith) i.positive (m ∙ (rw e (omega arith))) c.if-size-limit.true i.whole))

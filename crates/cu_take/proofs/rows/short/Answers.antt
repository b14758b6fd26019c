use Rattle.std.proofs.Common.{sym, subst, arith}
use Rattle.std.specs.Int.{w32, w128}
use Rattle.std.specs.Prelude.{FitsSigned}
use Rattle.std.proofs.lemmas.Int.{ints, to_z-of_z}
use Rattle.cu_take.proofs.RowSteps.{short_range, short_fits}
use Rattle.cu_take.proofs.rows.short.Goals as goal

pub overflow_cast-result : goal.overflow_cast-result
overflow_cast-result c =
    let r = short_range c.args.t c.args.x c.requires.size c.requires.range in
    subst (FitsSigned w32) (sym (to_z-of_z w128 c.args.x c.ranges.x))
    (short_fits c.args.x (omega (arith, ints, r.0)) (omega (arith, ints, r.1)))

pub returns-clause-low : goal.returns-clause-low
returns-clause-low c =
    let r = short_range c.args.t c.args.x c.requires.size c.requires.range in
    omega (arith, ints, r.0, r.1)

pub returns-clause-high : goal.returns-clause-high
returns-clause-high c =
    let r = short_range c.args.t c.args.x c.requires.size c.requires.range in
    omega (arith, ints, r.0, r.1)

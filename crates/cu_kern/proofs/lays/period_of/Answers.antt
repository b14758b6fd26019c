use Rattle.std.proofs.Common.{◌-◌, arith}
use Rattle.cu_kern.proofs.Stretched.{is_period, places_step, places_positive}
use Rattle.cu_kern.proofs.lays.period_of.Goals as goal

pub overflow_mul-period : goal.overflow_mul-period
overflow_mul-period c =
    let s = places_step c.args.dims.now c.loop-axis.axis (c.loop-axis.axis - 1) c.loop-axis.period c.at-period.result (omega arith) c.loop-axis.invariant.within c.loop-axis.invariant.places c.at-period.ensures c.requires.some in
    record { fits = omega (arith, s.1) }

pub loop-axis-preserved : goal.loop-axis-preserved
loop-axis-preserved c = record {
  within = omega arith;
  above = omega arith;
  places = (places_step c.args.dims.now c.loop-axis.axis (c.loop-axis.axis - 1) c.loop-axis.period c.at-period.result (omega arith) c.loop-axis.invariant.within c.loop-axis.invariant.places c.at-period.ensures c.requires.some).0;
}

pub returns-clause-period : goal.returns-clause-period
returns-clause-period c =
    is_period c.args.shape.now c.args.dims.now (c.rank.result - c.rank-2.result) c.loop-axis.axis c.loop-axis.period c.requires.rank (omega arith) (omega arith) c.loop-axis.invariant.places

pub returns-clause-some : goal.returns-clause-some
returns-clause-some c = places_positive c.args.dims.now c.loop-axis.axis c.loop-axis.period c.loop-axis.invariant.within c.loop-axis.invariant.places c.requires.some

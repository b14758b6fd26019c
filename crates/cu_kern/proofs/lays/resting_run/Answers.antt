use Rattle.std.proofs.Common.{◌-◌, arith}
use Rattle.cu_kern.proofs.Stretched.{resting_is_run, places_step, ones_step, places_positive}
use Rattle.cu_kern.proofs.lays.resting_run.Goals as goal

pub overflow_mul-run : goal.overflow_mul-run
overflow_mul-run c =
    let s = places_step c.args.dims.now c.loop-axis.axis (c.loop-axis.axis - 1) c.loop-axis.run c.at-run.result (omega arith) c.loop-axis.invariant.within c.loop-axis.invariant.places c.at-run.ensures c.requires.some in
    record { fits = omega (arith, s.1) }

pub loop-axis-preserved : goal.loop-axis-preserved
loop-axis-preserved c = record {
  within = omega arith;
  ones = ones_step c.args.shape.now (c.rank.result - c.rank-2.result) c.loop-axis.axis (c.loop-axis.axis - 1) (omega arith) c.loop-axis.invariant.ones (c.rests_on.ensures c.if-rests_on.true);
  places = (places_step c.args.dims.now c.loop-axis.axis (c.loop-axis.axis - 1) c.loop-axis.run c.at-run.result (omega arith) c.loop-axis.invariant.within c.loop-axis.invariant.places c.at-run.ensures c.requires.some).0;
}

pub returns-else-rests_on-clause-run : goal.returns-else-rests_on-clause-run
returns-else-rests_on-clause-run c =
    resting_is_run c.args.shape.now c.args.dims.now (c.rank.result - c.rank-2.result) c.loop-axis.axis c.loop-axis.run c.requires.rank (omega arith) c.loop-axis.invariant.within
    c.loop-axis.invariant.ones c.loop-axis.invariant.places c.requires.some

pub returns-else-rests_on-clause-some : goal.returns-else-rests_on-clause-some
returns-else-rests_on-clause-some c = places_positive c.args.dims.now c.loop-axis.axis c.loop-axis.run c.loop-axis.invariant.within c.loop-axis.invariant.places c.requires.some

pub returns-after-loop-axis-clause-run : goal.returns-after-loop-axis-clause-run
returns-after-loop-axis-clause-run c =
    resting_is_run c.args.shape.now c.args.dims.now (c.rank.result - c.rank-2.result) c.loop-axis.axis c.loop-axis.run c.requires.rank (omega arith) c.loop-axis.invariant.within
    c.loop-axis.invariant.ones c.loop-axis.invariant.places c.requires.some

pub returns-after-loop-axis-clause-some : goal.returns-after-loop-axis-clause-some
returns-after-loop-axis-clause-some c = places_positive c.args.dims.now c.loop-axis.axis c.loop-axis.run c.loop-axis.invariant.within c.loop-axis.invariant.places c.requires.some

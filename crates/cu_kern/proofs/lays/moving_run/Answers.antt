use Rattle.std.proofs.Common.{◌+◌, ◌-◌, arith}
use Rattle.cu_kern.proofs.Stretched.{moving_is_run, places_step, alike_step, places_positive}
use Rattle.cu_kern.proofs.lays.moving_run.Goals as goal

pub overflow_mul-run : goal.overflow_mul-run
overflow_mul-run c =
    let s = places_step c.args.dims.now (c.rank.result - c.rank-2.result + c.loop-axis.axis) (c.rank.result - c.rank-2.result + (c.loop-axis.axis - 1)) c.loop-axis.run c.at-run.result (omega arith) (omega arith)
    c.loop-axis.invariant.places c.at-run.ensures c.requires.some in
    record { fits = omega (arith, s.1) }

pub loop-axis-preserved : goal.loop-axis-preserved
loop-axis-preserved c =
    let lead = c.rank.result - c.rank-2.result in
    let k = c.loop-axis.axis - 1 in
    record {
      within = omega arith;
      alike = alike_step c.args.shape.now c.args.dims.now lead c.loop-axis.axis k c.at.result c.at-in-loop-axis.result (omega arith) c.loop-axis.invariant.within (omega arith)
          c.loop-axis.invariant.alike c.at.ensures c.at-in-loop-axis.ensures c.if-at.true;
      places = (places_step c.args.dims.now (lead + c.loop-axis.axis) (lead + k) c.loop-axis.run c.at-run.result (omega arith) (omega arith) c.loop-axis.invariant.places c.at-run.ensures c.requires.some).0;
    }

pub returns-else-at-clause-run : goal.returns-else-at-clause-run
returns-else-at-clause-run c =
    moving_is_run c.args.shape.now c.args.dims.now (c.rank.result - c.rank-2.result) c.loop-axis.axis c.loop-axis.run c.requires.rank (omega arith) c.loop-axis.invariant.within
    c.loop-axis.invariant.alike c.loop-axis.invariant.places c.requires.some

pub returns-else-at-clause-some : goal.returns-else-at-clause-some
returns-else-at-clause-some c = places_positive c.args.dims.now (c.rank.result - c.rank-2.result + c.loop-axis.axis) c.loop-axis.run (omega arith) c.loop-axis.invariant.places c.requires.some

pub returns-after-loop-axis-clause-run : goal.returns-after-loop-axis-clause-run
returns-after-loop-axis-clause-run c =
    moving_is_run c.args.shape.now c.args.dims.now (c.rank.result - c.rank-2.result) c.loop-axis.axis c.loop-axis.run c.requires.rank (omega arith) c.loop-axis.invariant.within
    c.loop-axis.invariant.alike c.loop-axis.invariant.places c.requires.some

pub returns-after-loop-axis-clause-some : goal.returns-after-loop-axis-clause-some
returns-after-loop-axis-clause-some c = places_positive c.args.dims.now (c.rank.result - c.rank-2.result + c.loop-axis.axis) c.loop-axis.run (omega arith) c.loop-axis.invariant.places c.requires.some

use Rattle.std.proofs.Common.{◌-◌, arith}
use Rattle.cu_kern.proofs.Spreads.{spreads_more, spreads_wider, most_places, is_spread}
use Rattle.cu_kern.proofs.lays.spread_of.Goals as goal

pub overflow_mul-own : goal.overflow_mul-own
overflow_mul-own c =
    let k = c.loop-axis.axis - 1 in
    let s = spreads_more c.args.shape.now c.args.dims.now c.loop-axis.axis k c.loop-axis.own c.loop-axis.run c.at-part.result c.at-size.result c.loop-axis.invariant.spreads (omega arith) c.loop-axis.invariant.within
    c.loop-axis.invariant.ranks c.at-part.ensures c.at-size.ensures c.if-part-size.true c.requires.some in
    record { fits = omega (arith, (most_places c.args.shape.now c.args.dims.now k _ _ s (omega arith) c.requires.some).0, c.requires.small) }

pub loop-axis-preserved-then-part-size : goal.loop-axis-preserved-then-part-size
loop-axis-preserved-then-part-size c = record {
  within = omega arith;
  ranks = c.loop-axis.invariant.ranks;
  spreads = spreads_more c.args.shape.now c.args.dims.now c.loop-axis.axis (c.loop-axis.axis - 1) c.loop-axis.own c.loop-axis.run c.at-part.result c.at-size.result c.loop-axis.invariant.spreads (omega arith) c.loop-axis.invariant.within
      c.loop-axis.invariant.ranks c.at-part.ensures c.at-size.ensures c.if-part-size.true c.requires.some;
}

pub overflow_mul-run : goal.overflow_mul-run
overflow_mul-run c =
    let k = c.loop-axis.axis - 1 in
    let s = spreads_wider c.args.shape.now c.args.dims.now c.loop-axis.axis k c.loop-axis.own c.loop-axis.run c.at-part.result c.at-size.result c.loop-axis.invariant.spreads (omega arith) c.loop-axis.invariant.within
    c.loop-axis.invariant.ranks c.at-part.ensures c.at-size.ensures c.if-part-eq1.true c.if-own-eq1.true c.requires.some in
    record { fits = omega (arith, (most_places c.args.shape.now c.args.dims.now k _ _ s (omega arith) c.requires.some).1, c.requires.small) }

pub loop-axis-preserved : goal.loop-axis-preserved
loop-axis-preserved c = record {
  within = omega arith;
  ranks = c.loop-axis.invariant.ranks;
  spreads = spreads_wider c.args.shape.now c.args.dims.now c.loop-axis.axis (c.loop-axis.axis - 1) c.loop-axis.own c.loop-axis.run c.at-part.result c.at-size.result c.loop-axis.invariant.spreads (omega arith) c.loop-axis.invariant.within
      c.loop-axis.invariant.ranks c.at-part.ensures c.at-size.ensures c.if-part-eq1.true c.if-own-eq1.true c.requires.some;
}

pub returns-clause-spread : goal.returns-clause-spread
returns-clause-spread c = is_spread c.args.shape.now c.args.dims.now c.loop-axis.axis c.loop-axis.own c.loop-axis.run c.loop-axis.invariant.spreads (omega arith) c.loop-axis.invariant.ranks

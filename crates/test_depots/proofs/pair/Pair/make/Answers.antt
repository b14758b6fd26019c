use Rattle.test_depots.proofs.Pairs.{filled_pair}
use Rattle.test_depots.proofs.pair.Pair.make.Goals as goal

pub returns : goal.returns
returns c = filled_pair c.in_ok-a.a c.in_ok-b.b c.filled-bytes.result c.args.byte c.ranges.byte.fits c.filled-bytes.ensures c.is.result c.if-is.false c.is.ensures.1

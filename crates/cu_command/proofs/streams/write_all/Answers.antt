use Rattle.std.proofs.Common.{arith}
use Rattle.cu_command.proofs.StreamLemmas.{wrote_more, within_rest}
use Rattle.cu_command.proofs.streams.write_all.Goals as goal

pub loop-preserved : goal.loop-preserved
loop-preserved g c = record {
  wrote = wrote_more _ _ _ _ _ _ c.loop.invariant.wrote c.in-Ok.ensures.appended;
  turns = omega (arith, c.in-Ok.ensures.some);
  bound = within_rest _ _ _ c.loop.invariant.bound c.in-Ok.ensures.bound;
  faults = omega (arith, c.in-Ok.ensures.count);
}

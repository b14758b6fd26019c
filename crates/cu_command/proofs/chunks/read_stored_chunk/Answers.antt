use Rattle.std.proofs.Common.{arith}
use Rattle.cu_command.proofs.ChunkReads.{held_later}
use Rattle.cu_command.proofs.SeenLemmas.{stepped_then}
use Rattle.cu_command.proofs.chunks.read_stored_chunk.Goals as goal

pub returns-in_default-clause-step : goal.returns-in_default-clause-step
returns-in_default-clause-step g c = stepped_then c.loop.invariant.step c.read_once.ensures.step

pub returns-in_default-2-clause-read : goal.returns-in_default-2-clause-read
returns-in_default-2-clause-read g c =
    held_later c.read_once.result c.args.info.now c.args.coord.now c.read_once.new.chunk (g.D.PutStore.shown c.args.depot.now) (g.D.PutStore.shown c.loop.depot) c.loop.invariant.step c.read_once.ensures.read

pub returns-in_default-2-clause-step : goal.returns-in_default-2-clause-step
returns-in_default-2-clause-step g c = stepped_then c.loop.invariant.step c.read_once.ensures.step

pub loop-preserved : goal.loop-preserved
loop-preserved g c =
    let failed = (rw c.in-Err-DepotFailed.field-0-is at c.in-Err-DepotFailed.ensures.cause).1 in
    record {
      step = stepped_then c.loop.invariant.step c.read_once.ensures.step;
      rose = omega (arith, failed);
      calls = omega (arith, c.loop.invariant.calls, c.read_once.ensures.calls);
    }

pub returns-clause-read : goal.returns-clause-read
returns-clause-read g c =
    held_later c.read_once-2.result c.args.info.now c.args.coord.now c.read_once-2.new.chunk (g.D.PutStore.shown c.args.depot.now) (g.D.PutStore.shown c.loop.depot) c.loop.invariant.step c.read_once-2.ensures.read

pub returns-clause-step : goal.returns-clause-step
returns-clause-step g c = stepped_then c.loop.invariant.step c.read_once-2.ensures.step

pub returns-in_default-clause-once : goal.returns-in_default-clause-once
returns-in_default-clause-once g c = omega (arith, c.loop.invariant.calls, c.loop.invariant.rose, c.read_once.ensures.once)

pub returns-in_default-2-clause-once : goal.returns-in_default-2-clause-once
returns-in_default-2-clause-once g c = omega (arith, c.loop.invariant.calls, c.loop.invariant.rose, c.read_once.ensures.once)

pub returns-clause-once : goal.returns-clause-once
returns-clause-once g c = omega (arith, c.loop.invariant.calls, c.loop.invariant.rose, c.read_once-2.ensures.once)

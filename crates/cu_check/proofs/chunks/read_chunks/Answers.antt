use Rattle.std.proofs.Common.{◌+◌, arith}
use Rattle.cu_command.proofs.SeenLemmas.{stepped_same, stepped_then, within_more, within_few}
use Rattle.cu_store.specs.Steps.{NoChange}
use Rattle.cu_store.proofs.Once.{once_then, once_few}
use Rattle.cu_check.specs.Arrays.{input_chunk_count}
use Rattle.cu_check.specs.Chunks.{input_of}
use Rattle.cu_check.proofs.ChunkReads.{none_below, all_below, turn_fault}
use Rattle.cu_check.proofs.chunks.read_chunks.Goals as goal

pub loop-number-init : goal.loop-number-init
loop-number-init g c = record {
  step = stepped_same NoChange (g.D.PutStore.shown c.args.depot.now);
  read = λ entry before. none_below (input_of c.args.info.now) c.args.all.now entry;
  calls = omega arith;
  once = omega arith;
}

pub loop-number-preserved : goal.loop-number-preserved
loop-number-preserved g c = record {
  step = stepped_then c.loop-number.invariant.step c.read_numbered.ensures.step;
  read = λ entry before. c.in-Ok.ensures.read entry (stepped_then before c.loop-number.invariant.step) (c.loop-number.invariant.read entry before);
  calls = within_more c.loop-number.number (c.args.retries + 1) (g.D.PutStore.shown c.args.depot.now) (g.D.PutStore.shown c.loop-number.depot) (g.D.PutStore.shown c.read_numbered.new.depot)
      c.loop-number.invariant.calls c.read_numbered.ensures.calls;
  once = once_then c.loop-number.number 1 (g.D.PutStore.shown c.args.depot.now) (g.D.PutStore.shown c.loop-number.depot) (g.D.PutStore.shown c.read_numbered.new.depot)
      c.loop-number.invariant.once c.read_numbered.ensures.once;
}

pub returns-in-Err-clause-step : goal.returns-in-Err-clause-step
returns-in-Err-clause-step g c = stepped_then c.loop-number.invariant.step c.read_numbered.ensures.step

pub returns-in-Err-clause-cause : goal.returns-in-Err-clause-cause
returns-in-Err-clause-cause g c entry before =
    turn_fault (c.args.retries + 1) c.args.info.now c.loop-number.number c.loop-number.all (g.D.PutStore.shown c.args.depot.now) (g.D.PutStore.shown c.loop-number.depot) (g.D.PutStore.shown c.read_numbered.new.depot) entry c.in-Err.status
    (omega arith) c.loop-number.invariant.step.step.count (c.loop-number.invariant.read entry before) c.in-Err.ensures.cause

pub returns-clause-read : goal.returns-clause-read
returns-clause-read g c entry before =
    all_below (input_of c.args.info.now) c.loop-number.all c.loop-number.number entry c.count-number-end.ensures.kept (omega arith) (c.loop-number.invariant.read entry before)

pub returns-clause-calls : goal.returns-clause-calls
returns-clause-calls g c =
    within_few c.loop-number.number (input_chunk_count (input_of c.args.info.now)) (c.args.retries + 1) (g.D.PutStore.shown c.args.depot.now) (g.D.PutStore.shown c.loop-number.depot) (omega (arith, c.count-number-end.ensures.count))
    c.loop-number.invariant.calls

pub returns-in-Err-clause-calls : goal.returns-in-Err-clause-calls
returns-in-Err-clause-calls g c =
    within_few (c.loop-number.number + 1) (input_chunk_count (input_of c.args.info.now)) (c.args.retries + 1) (g.D.PutStore.shown c.args.depot.now) (g.D.PutStore.shown c.read_numbered.new.depot) (omega (arith, c.count-number-end.ensures.count))
    (within_more c.loop-number.number (c.args.retries + 1) (g.D.PutStore.shown c.args.depot.now) (g.D.PutStore.shown c.loop-number.depot) (g.D.PutStore.shown c.read_numbered.new.depot)
    c.loop-number.invariant.calls c.read_numbered.ensures.calls)

pub returns-clause-once : goal.returns-clause-once
returns-clause-once g c =
    once_few c.loop-number.number (input_chunk_count (input_of c.args.info.now)) (g.D.PutStore.shown c.args.depot.now) (g.D.PutStore.shown c.loop-number.depot) (omega (arith, c.count-number-end.ensures.count))
    c.loop-number.invariant.once

pub returns-in-Err-clause-once : goal.returns-in-Err-clause-once
returns-in-Err-clause-once g c =
    once_few (c.loop-number.number + 1) (input_chunk_count (input_of c.args.info.now)) (g.D.PutStore.shown c.args.depot.now) (g.D.PutStore.shown c.read_numbered.new.depot) (omega (arith, c.count-number-end.ensures.count))
    (once_then c.loop-number.number 1 (g.D.PutStore.shown c.args.depot.now) (g.D.PutStore.shown c.loop-number.depot) (g.D.PutStore.shown c.read_numbered.new.depot)
    c.loop-number.invariant.once c.read_numbered.ensures.once)

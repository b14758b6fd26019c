use Rattle.std.proofs.Common.{◌≡◌, ◌+◌, ◌≤◌, ◌++◌, length, take, ap, ◌∙◌, arith, length-append}
use Rattle.std.proofs.lemmas.List.{length-take-le}
use Rattle.cu_command.proofs.StreamLemmas.{grown, took_more, took_last, within_room}
use Rattle.cu_command.proofs.streams.read_all.Goals as goal

pub loop-preserved : goal.loop-preserved
loop-preserved g c =
    let text = c.loop.text.items in
    let buf = c.read.new.buf in
    let n = c.in-Ok.taken in
    let within : n ≤ length buf = omega (arith, c.read.auto.buf, c.in-Ok.ensures.bound) in
    let new : c.extend_from_slice.new.self.items ≡ text ++ take n buf =
    grown c.extend_from_slice.result c.is_err.result n buf _ text _ c.is_err.ensures.value c.if-is_err.false c.extend_from_slice.ensures.items within in
    let long : length c.extend_from_slice.new.self.items ≡ length text + n = ap length new ∙ length-append text (take n buf) ∙ ap (λ k. length text + k) (length-take-le n buf within) in
    record {
      took = took_more _ _ _ text buf _ n c.loop.invariant.took c.in-Ok.ensures.taken new;
      turns = omega (arith, long);
      bound = omega (arith, long, within_room (length text) c.min-room.result n c.loop.piece (omega arith) (omega arith) c.in-Ok.ensures.bound);
      faults = omega (arith, c.in-Ok.ensures.count);
    }

pub returns-then-taken-eq0 : goal.returns-then-taken-eq0
returns-then-taken-eq0 g c = record {
  text = took_last _ _ _ _ c.read.new.buf c.in-Ok.taken c.loop.invariant.took c.in-Ok.ensures.taken c.if-taken-eq0.true;
  bound = omega arith;
  cause = tt;
  count = omega (arith, c.in-Ok.ensures.count);
}

pub returns-then-is_err : goal.returns-then-is_err
returns-then-is_err g c = record { text = tt; bound = tt; cause = tt; count = omega (arith, c.in-Ok.ensures.count) }

pub returns-in-Err : goal.returns-in-Err
returns-in-Err g c = record { text = tt; bound = tt; cause = omega (arith, c.in-Err.ensures.cause); count = omega (arith, c.in-Err.ensures.count) }

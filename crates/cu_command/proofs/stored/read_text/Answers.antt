use Rattle.std.proofs.Common.{refl, arith}
use Rattle.cu_command.proofs.StoredLemmas.{short_front, long_front, gone_of}
use Rattle.cu_command.proofs.stored.read_text.Goals as goal

pub returns-in-Ok-Held : goal.returns-in-Ok-Held
returns-in-Ok-Held g c = record {
  room = omega (arith, c.get_tries.auto.buf);
  within = omega arith;
  found = short_front _ c.args.key.now c.get_tries.new.buf c.in-Ok-Held.len (rw c.in-Ok-Held.field-0-is at c.in-Ok-Held.ensures.got) (omega (arith, c.get_tries.auto.buf));
  step = c.get_tries.ensures.step;
  once = c.get_tries.ensures.once;
  cause = tt;
}

pub returns-in-Ok-Held-2 : goal.returns-in-Ok-Held-2
returns-in-Ok-Held-2 g c =
    let same = c.get_tries.auto.buf in
    let over = c.if-len.false in
    record {
      room = omega arith;
      within = omega arith;
      found = long_front _ c.args.key.now c.get_tries.new.buf c.in-Ok-Held.len (rw c.in-Ok-Held.field-0-is at c.in-Ok-Held.ensures.got) (omega arith) (omega arith);
      step = c.get_tries.ensures.step;
      once = c.get_tries.ensures.once;
      cause = tt;
    }

pub returns-in-Ok-Absent : goal.returns-in-Ok-Absent
returns-in-Ok-Absent g c = record {
  room = omega (arith, c.get_tries.auto.buf);
  within = tt;
  found = tt;
  step = c.get_tries.ensures.step;
  once = c.get_tries.ensures.once;
  cause = (c.name_of.ensures, gone_of _ c.args.key.now c.get_tries.new.buf (rw c.in-Ok-Absent.field-0-is at c.in-Ok-Absent.ensures.got));
}

pub returns-in-Err-Failed : goal.returns-in-Err-Failed
returns-in-Err-Failed g c = record {
  room = omega (arith, c.get_tries.auto.buf);
  within = tt;
  found = tt;
  step = c.get_tries.ensures.step;
  once = c.get_tries.ensures.once;
  cause = (refl, (rw c.in-Err-Failed.field-0-is at c.in-Err-Failed.ensures.cause).0);
}

pub returns-in-Err-NoMemory : goal.returns-in-Err-NoMemory
returns-in-Err-NoMemory g c = record { room = omega (arith, c.get_tries.auto.buf); within = tt; found = tt; step = c.get_tries.ensures.step; once = c.get_tries.ensures.once; cause = tt }

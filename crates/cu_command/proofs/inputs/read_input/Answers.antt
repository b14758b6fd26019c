use Rattle.std.proofs.Common.{◌+◌, refl, arith}
use Rattle.cu_store.proofs.Steps.{steps_wider}
use Rattle.cu_command.proofs.InputLemmas.{find_status}
use Rattle.cu_command.proofs.inputs.read_input.Goals as goal

pub metadata_fault-requires : goal.metadata_fault-requires
metadata_fault-requires g c =
    find_status (c.args.retries + 1) (g.D.PutStore.shown c.args.depot.now) (g.D.PutStore.shown c.find_layout.new.depot) c.key_of_name.result c.in-Err.status c.in-Err.ensures.cause

pub returns-in-Err : goal.returns-in-Err
returns-in-Err g c = record {
  room = c.in-Err.ensures.room;
  name = tt;
  layout = tt;
  found = tt;
  step = steps_wider (λ key value own. own) (omega arith) (omega arith) c.in-Err.ensures.step;
  once = c.in-Err.ensures.once;
  cause = rw c.metadata_fault.ensures (rw c.key_of_name.ensures.key at c.in-Err.ensures.cause);
}

pub returns-in-Ok : goal.returns-in-Ok
returns-in-Ok g c = record {
  room = c.in-Ok.ensures.room;
  name = refl;
  layout = c.in-Ok.ensures.input;
  found = rw c.key_of_name.ensures.key at c.in-Ok.ensures.found;
  step = steps_wider (λ key value own. own) (omega arith) (omega arith) c.in-Ok.ensures.step;
  once = c.in-Ok.ensures.once;
  cause = tt;
}

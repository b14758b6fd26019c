use Rattle.std.proofs.Common.{◌+◌, ◌*◌, arith}
use Rattle.cu_store.specs.Steps.{NoChange, Steps}
use Rattle.cu_store.proofs.Once.{once_then}
use Rattle.cu_store.proofs.Steps.{steps_then, steps_wider}
use Rattle.cu_command.proofs.StoredLemmas.{found_second, second_faults}
use Rattle.cu_command.proofs.stored.find_layout.Goals as goal

pub returns-in-Err-NoArray : goal.returns-in-Err-NoArray
returns-in-Err-NoArray g c =
    let tries = c.args.retries + 1 in
    let old = g.D.PutStore.shown c.args.depot.now in
    let mid = g.D.PutStore.shown c.read_layout.new.depot in
    let new = g.D.PutStore.shown c.read_layout_of_v2.new.depot in
    let name = c.args.name.now in
    let gone = (rw c.in-Err-NoArray.field-0-is at c.in-Err-NoArray.ensures.cause).1 in
    let both : Steps NoChange 1 (2 * tries) old new =
    steps_wider (λ key value own. own) (omega arith) (omega arith) (steps_then c.in-Err-NoArray.ensures.step c.read_layout_of_v2.ensures.step) in
    record {
      room = c.read_layout_of_v2.ensures.room;
      input = c.read_layout_of_v2.ensures.input;
      found = found_second tries old mid new name gone c.in-Err-NoArray.ensures.step c.read_layout_of_v2.result c.read_layout_of_v2.ensures.found;
      step = both;
      once = once_then 1 1 old mid new c.in-Err-NoArray.ensures.once c.read_layout_of_v2.ensures.once;
      cause = second_faults tries old mid new name gone c.in-Err-NoArray.ensures.step c.read_layout_of_v2.result both c.read_layout_of_v2.ensures.cause;
    }

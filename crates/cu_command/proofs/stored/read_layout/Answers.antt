use Rattle.std.proofs.Common.{ℕ, ◌+◌, List, take, subst}
use Rattle.cu_command.specs.Stored.{HoldsFront}
use Rattle.cu_command.proofs.StoredLemmas.{text_fault, are_inputs, are_held, are_refused}
use Rattle.cu_command.proofs.stored.read_layout.Goals as goal

pub returns-in-Ok-clause-input : goal.returns-in-Ok-clause-input
returns-in-Ok-clause-input g c = are_inputs _ c.layout_in.result c.layout_in.ensures.ok

pub returns-in-Ok-clause-found : goal.returns-in-Ok-clause-found
returns-in-Ok-clause-found g c =
    let held = (g.D.PutStore.shown c.read_text.new.depot).held in
    are_held held _ _ c.layout_in.result
    (subst (λ (k : List ℕ). HoldsFront held k (take c.in-Ok.len c.read_text.new.buf)) c.metadata_key.ensures c.in-Ok.ensures.found)
    c.layout_in.ensures.ok

pub returns-in-Ok-clause-cause : goal.returns-in-Ok-clause-cause
returns-in-Ok-clause-cause g c =
    let new = g.D.PutStore.shown c.read_text.new.depot in
    are_refused (c.args.retries + 1) (g.D.PutStore.shown c.args.depot.now) new c.args.name.now _ c.layout_in.result
    (subst (λ (k : List ℕ). HoldsFront new.held k (take c.in-Ok.len c.read_text.new.buf)) c.metadata_key.ensures c.in-Ok.ensures.found)
    c.layout_in.ensures.refused

pub returns-in-Err : goal.returns-in-Err
returns-in-Err g c =
    let new = g.D.PutStore.shown c.read_text.new.depot in
    record {
      room = c.in-Err.ensures.room;
      input = tt;
      found = tt;
      step = c.in-Err.ensures.step;
      once = c.in-Err.ensures.once;
      cause = text_fault (c.args.retries + 1) (g.D.PutStore.shown c.args.depot.now) new c.args.name.now c.in-Err.status (rw c.metadata_key.ensures at c.in-Err.ensures.cause);
    }

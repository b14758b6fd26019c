use Rattle.std.proofs.Common.{◌≡◌, ◌+◌, ap, ◌∙◌, arith}
use Rattle.cu_store.proofs.Once.{once_then, once_few}
use Rattle.cu_zarr.specs.Key.{metadata_key_of}
use Rattle.cu_command.proofs.SeenLemmas.{stepped, stepped_then, stepped_wider, within_more, within_few}
use Rattle.cu_load.specs.Load.{IsArrayCalm, chunks_in}
use Rattle.cu_load.specs.LoadForm.{given_by}
use Rattle.cu_load.proofs.AskLemmas.{on_ok, always_ok, if_err, both_errs}
use Rattle.cu_load.proofs.StoreLemmas.{chunks_put, metadata_put, values_stay, all_stay, stores_given, metadata_fault}
use Rattle.cu_load.proofs.store.store_array.Goals as goal

pub returns-clause-step : goal.returns-clause-step
returns-clause-step g c =
    let key : c.metadata_key-key.result ≡ metadata_key_of (given_by c.args.form.now).name = c.metadata_key-key.ensures ∙ ap metadata_key_of c.key_of_name-name.ensures.key in
    let before = stepped_wider (chunks_put (given_by c.args.form.now) (chunks_in (given_by c.args.form.now)) (omega arith)) c.in_default.ensures.step in
    let put = stepped_wider (metadata_put (given_by c.args.form.now) c.metadata_key-key.result c.args.metadata.now key c.requires.metadata) (stepped c.put_value.ensures.step) in
    always_ok c.put_value.result (stepped_then before put)

pub returns-clause-failed : goal.returns-clause-failed
returns-clause-failed g c =
    let key : c.metadata_key-key.result ≡ metadata_key_of (given_by c.args.form.now).name = c.metadata_key-key.ensures ∙ ap metadata_key_of c.key_of_name-name.ensures.key in
    let before = stepped_wider (chunks_put (given_by c.args.form.now) (chunks_in (given_by c.args.form.now)) (omega arith)) c.in_default.ensures.step in
    let put = stepped_wider (metadata_put (given_by c.args.form.now) c.metadata_key-key.result c.args.metadata.now key c.requires.metadata) (stepped c.put_value.ensures.step) in
    let chunks = λ (calm : IsArrayCalm (given_by c.args.form.now) (g.D.PutStore.shown c.args.depot.now).late).
    all_stay (given_by c.args.form.now) (g.D.PutStore.shown c.store_chunks.new.depot).held (g.D.PutStore.shown c.put_value.new.depot).held
    (values_stay (given_by c.args.form.now) (g.D.PutStore.shown c.args.depot.now).late (g.D.PutStore.shown c.store_chunks.new.depot).late (g.D.PutStore.shown c.store_chunks.new.depot).held (g.D.PutStore.shown c.put_value.new.depot).held
    c.requires.given calm before.step.late put.step.lands)
    (c.in_default.ensures.stored calm) in
    if_err c.put_value.result (λ status fault.
    metadata_fault _ (given_by c.args.form.now) c.metadata_key-key.result (g.D.PutStore.shown c.args.depot.now) (g.D.PutStore.shown c.store_chunks.new.depot) (g.D.PutStore.shown c.put_value.new.depot) status key c.in_default.ensures.step (stepped_then before put) chunks
    fault.0 fault.1) (both_errs _ _ c.put_value.result c.put_value.ensures.cause c.put_value.ensures.unput)

pub returns-clause-calls : goal.returns-clause-calls
returns-clause-calls g c =
    within_more (chunks_in (given_by c.args.form.now)) (c.args.retries + 1) (g.D.PutStore.shown c.args.depot.now) (g.D.PutStore.shown c.store_chunks.new.depot) (g.D.PutStore.shown c.put_value.new.depot)
    c.store_chunks.ensures.calls c.put_value.ensures.step.calls.1

pub returns-in-Err-clause-calls : goal.returns-in-Err-clause-calls
returns-in-Err-clause-calls g c =
    within_few (chunks_in (given_by c.args.form.now)) (chunks_in (given_by c.args.form.now) + 1) (c.args.retries + 1) (g.D.PutStore.shown c.args.depot.now) (g.D.PutStore.shown c.store_chunks.new.depot) (omega arith)
    c.store_chunks.ensures.calls

pub returns-clause-once : goal.returns-clause-once
returns-clause-once g c =
    once_then (chunks_in (given_by c.args.form.now)) 1 (g.D.PutStore.shown c.args.depot.now) (g.D.PutStore.shown c.store_chunks.new.depot) (g.D.PutStore.shown c.put_value.new.depot)
    c.store_chunks.ensures.once c.put_value.ensures.once

pub returns-in-Err-clause-once : goal.returns-in-Err-clause-once
returns-in-Err-clause-once g c =
    once_few (chunks_in (given_by c.args.form.now)) (chunks_in (given_by c.args.form.now) + 1) (g.D.PutStore.shown c.args.depot.now) (g.D.PutStore.shown c.store_chunks.new.depot) (omega arith)
    c.store_chunks.ensures.once

pub returns-clause-stores : goal.returns-clause-stores
returns-clause-stores g c calm =
    let key : c.metadata_key-key.result ≡ metadata_key_of (given_by c.args.form.now).name = c.metadata_key-key.ensures ∙ ap metadata_key_of c.key_of_name-name.ensures.key in
    let before = stepped_wider (chunks_put (given_by c.args.form.now) (chunks_in (given_by c.args.form.now)) (omega arith)) c.in_default.ensures.step in
    let put = stepped_wider (metadata_put (given_by c.args.form.now) c.metadata_key-key.result c.args.metadata.now key c.requires.metadata) (stepped c.put_value.ensures.step) in
    let chunks = λ (calm : IsArrayCalm (given_by c.args.form.now) (g.D.PutStore.shown c.args.depot.now).late).
    all_stay (given_by c.args.form.now) (g.D.PutStore.shown c.store_chunks.new.depot).held (g.D.PutStore.shown c.put_value.new.depot).held
    (values_stay (given_by c.args.form.now) (g.D.PutStore.shown c.args.depot.now).late (g.D.PutStore.shown c.store_chunks.new.depot).late (g.D.PutStore.shown c.store_chunks.new.depot).held (g.D.PutStore.shown c.put_value.new.depot).held
    c.requires.given calm before.step.late put.step.lands)
    (c.in_default.ensures.stored calm) in
    on_ok c.put_value.result (λ holds. stores_given (given_by c.args.form.now) _ c.requires.given c.shape-shape.ensures.kept (rw (key, c.requires.metadata) at holds) (chunks calm)) c.put_value.ensures.stored

pub returns-clause-metadata : goal.returns-clause-metadata
returns-clause-metadata g c =
    let key : c.metadata_key-key.result ≡ metadata_key_of (given_by c.args.form.now).name = c.metadata_key-key.ensures ∙ ap metadata_key_of c.key_of_name-name.ensures.key in
    on_ok c.put_value.result (λ holds. rw (key, c.requires.metadata) at holds) c.put_value.ensures.stored

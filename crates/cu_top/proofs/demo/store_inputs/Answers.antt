use Rattle.std.proofs.Common.{◌+◌, arith}
use Rattle.cu_store.proofs.Once.{once_then, once_few}
use Rattle.cu_command.proofs.SeenLemmas.{stepped_then}
use Rattle.cu_demo.specs.declared.input.DemoInput.TheVariants.{Rows, Columns}
use Rattle.cu_load.specs.Load.{chunks_in}
use Rattle.cu_load.proofs.AskLemmas.{if_err, on_ok}
use Rattle.cu_top.proofs.DemoInputs.{columns_fault, columns_put, rows_fault, rows_put}
use Rattle.cu_top.proofs.DemoStores.{both_stored, calm_after}
use Rattle.cu_top.specs.Demo.{demo_array}
use Rattle.cu_top.proofs.demo.store_inputs.Goals as goal

pub returns-in-Err-clause-step : goal.returns-in-Err-clause-step
returns-in-Err-clause-step g c = rows_put c.args.size (g.D.PutStore.shown c.args.depot.now) (g.D.PutStore.shown c.store_input.new.depot) c.store_input.ensures.step

pub returns-in-Err-clause-refused : goal.returns-in-Err-clause-refused
returns-in-Err-clause-refused g c =
    rows_fault (c.args.retries + 1) c.args.size (g.D.PutStore.shown c.args.depot.now) (g.D.PutStore.shown c.store_input.new.depot) c.in-Err.status c.in-Err.ensures.refused

pub returns-clause-step : goal.returns-clause-step
returns-clause-step g c =
    stepped_then (rows_put c.args.size (g.D.PutStore.shown c.args.depot.now) (g.D.PutStore.shown c.store_input.new.depot) c.store_input.ensures.step)
    (columns_put c.args.size (g.D.PutStore.shown c.store_input.new.depot) (g.D.PutStore.shown c.store_input-2.new.depot) c.store_input-2.ensures.step)

pub returns-clause-stores : goal.returns-clause-stores
returns-clause-stores g c = λ calm.
    let old = g.D.PutStore.shown c.args.depot.now in
    let mid = g.D.PutStore.shown c.store_input.new.depot in
    let new = g.D.PutStore.shown c.store_input-2.new.depot in
    let later = calm_after c.args.size c.requires.some c.requires.few old mid c.store_input.ensures.step calm in
    on_ok c.store_input-2.result
    (λ columns. both_stored c.args.size c.requires.some c.requires.few mid new c.store_input-2.ensures.step later (c.in_default.ensures.stores calm.0) columns)
    (c.store_input-2.ensures.stores later.1)

pub returns-clause-refused : goal.returns-clause-refused
returns-clause-refused g c =
    let old = g.D.PutStore.shown c.args.depot.now in
    let mid = g.D.PutStore.shown c.store_input.new.depot in
    let new = g.D.PutStore.shown c.store_input-2.new.depot in
    if_err c.store_input-2.result (λ status fault. columns_fault (c.args.retries + 1) c.args.size old mid new status c.store_input.ensures.step.step.count fault) c.store_input-2.ensures.refused

pub returns-in-Err-clause-once : goal.returns-in-Err-clause-once
returns-in-Err-clause-once g c =
    once_few (chunks_in (demo_array Rows c.args.size) + 1) ((chunks_in (demo_array Rows c.args.size) + 1) + (chunks_in (demo_array Columns c.args.size) + 1))
    (g.D.PutStore.shown c.args.depot.now) (g.D.PutStore.shown c.store_input.new.depot) (omega arith) c.store_input.ensures.once

pub returns-clause-once : goal.returns-clause-once
returns-clause-once g c =
    once_then (chunks_in (demo_array Rows c.args.size) + 1) (chunks_in (demo_array Columns c.args.size) + 1)
    (g.D.PutStore.shown c.args.depot.now) (g.D.PutStore.shown c.store_input.new.depot) (g.D.PutStore.shown c.store_input-2.new.depot) c.store_input.ensures.once c.store_input-2.ensures.once

use Rattle.std.proofs.Common.{◌≡◌, ◌+◌, ◌*◌, IfErr, sym, subst}
use Rattle.std.specs.Prelude.{OnOk}
use Rattle.cu_store.specs.Steps.{OnceEach}
use Rattle.cu_command.specs.Seen.{Stepped, WithinCalls}
use Rattle.cu_load.specs.Load.{ArrayPut, IsArrayCalm, StoresGiven, chunks_in}
use Rattle.cu_load.specs.LoadForm.{GivenArray, IsGivenArray, given_by}
use Rattle.cu_load.proofs.AskLemmas.{if_err}
use Rattle.cu_load.specs.declared.load_form.LoadForm.{LoadForm}
use Rattle.cu_top.proofs.DemoInputs.{any_step, demo_given, same_form, store_end}
use Rattle.cu_top.specs.Demo.{IsInputPutEnd, demo_array}
use Rattle.cu_top.proofs.demo.store_input.Goals as goal

pub take_room-requires : goal.take_room-requires
take_room-requires g c =
    let form : LoadForm = record { name = c.demo_name.result; layout = c.demo_layout.result; elements = c.in-Ok.elements } in
    let same : given_by form ≡ demo_array c.args.input c.args.size = same_form form c.args.input c.args.size c.demo_name.ensures.name c.demo_layout.ensures c.in-Ok.ensures in
    subst IsGivenArray (sym same) (demo_given c.args.input c.args.size c.requires.some c.requires.few)

pub store_array-requires-clause-given : goal.store_array-requires-clause-given
store_array-requires-clause-given g c =
    let form : LoadForm = record { name = c.demo_name.result; layout = c.demo_layout.result; elements = c.in-Ok.elements } in
    let same : given_by form ≡ demo_array c.args.input c.args.size = same_form form c.args.input c.args.size c.demo_name.ensures.name c.demo_layout.ensures c.in-Ok.ensures in
    subst IsGivenArray (sym same) (demo_given c.args.input c.args.size c.requires.some c.requires.few)

pub returns-clause-step : goal.returns-clause-step
returns-clause-step g c =
    let form : LoadForm = record { name = c.demo_name.result; layout = c.demo_layout.result; elements = c.in-Ok.elements } in
    let same : given_by form ≡ demo_array c.args.input c.args.size = same_form form c.args.input c.args.size c.demo_name.ensures.name c.demo_layout.ensures c.in-Ok.ensures in
    subst (λ (a : GivenArray). Stepped (ArrayPut a) (g.D.PutStore.shown c.args.depot.now) (g.D.PutStore.shown c.store_array.new.depot)) same
    (any_step (c.args.retries + 1) (given_by form) (g.D.PutStore.shown c.args.depot.now) (g.D.PutStore.shown c.store_array.new.depot) c.store_array.result c.store_array.ensures.step c.store_array.ensures.failed)

pub returns-clause-stores : goal.returns-clause-stores
returns-clause-stores g c = λ calm.
    let form : LoadForm = record { name = c.demo_name.result; layout = c.demo_layout.result; elements = c.in-Ok.elements } in
    let same : given_by form ≡ demo_array c.args.input c.args.size = same_form form c.args.input c.args.size c.demo_name.ensures.name c.demo_layout.ensures c.in-Ok.ensures in
    subst (λ (a : GivenArray). OnOk c.store_array.result (StoresGiven a (g.D.PutStore.shown c.store_array.new.depot).held)) same
    (c.store_array.ensures.stores (subst (λ (a : GivenArray). IsArrayCalm a (g.D.PutStore.shown c.args.depot.now).late) (sym same) calm))

pub returns-clause-refused : goal.returns-clause-refused
returns-clause-refused g c =
    let form : LoadForm = record { name = c.demo_name.result; layout = c.demo_layout.result; elements = c.in-Ok.elements } in
    let same : given_by form ≡ demo_array c.args.input c.args.size = same_form form c.args.input c.args.size c.demo_name.ensures.name c.demo_layout.ensures c.in-Ok.ensures in
    let old = g.D.PutStore.shown c.args.depot.now in
    let new = g.D.PutStore.shown c.store_array.new.depot in
    subst (λ (a : GivenArray). IfErr c.store_array.result (IsInputPutEnd (c.args.retries + 1) a old new)) same
    (if_err c.store_array.result (λ status fault. store_end (c.args.retries + 1) (given_by form) old new status fault) c.store_array.ensures.failed)

pub returns-clause-calls : goal.returns-clause-calls
returns-clause-calls g c =
    let form : LoadForm = record { name = c.demo_name.result; layout = c.demo_layout.result; elements = c.in-Ok.elements } in
    let same : given_by form ≡ demo_array c.args.input c.args.size = same_form form c.args.input c.args.size c.demo_name.ensures.name c.demo_layout.ensures c.in-Ok.ensures in
    subst (λ (a : GivenArray). WithinCalls ((chunks_in a + 1) * (c.args.retries + 1)) (g.D.PutStore.shown c.args.depot.now) (g.D.PutStore.shown c.store_array.new.depot)) same c.store_array.ensures.calls

pub returns-clause-once : goal.returns-clause-once
returns-clause-once g c =
    let form : LoadForm = record { name = c.demo_name.result; layout = c.demo_layout.result; elements = c.in-Ok.elements } in
    let same : given_by form ≡ demo_array c.args.input c.args.size = same_form form c.args.input c.args.size c.demo_name.ensures.name c.demo_layout.ensures c.in-Ok.ensures in
    subst (λ (a : GivenArray). OnceEach (chunks_in a + 1) (g.D.PutStore.shown c.args.depot.now) (g.D.PutStore.shown c.store_array.new.depot)) same c.store_array.ensures.once

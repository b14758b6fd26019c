use Rattle.std.proofs.Common.{◌+◌, ap, subst}
use Rattle.cu_op.specs.declared.layout.Layout.{Layout}
use Rattle.cu_check.specs.Arrays.{form_arrays}
use Rattle.cu_check.specs.Chunks.{IsArrayFault}
use Rattle.cu_check.specs.Plains.{IsReadArray}
use Rattle.cu_check.proofs.InputNodes.{read_input, array_named}
use Rattle.cu_check.proofs.ArrayCalls.{calls_of_one, once_of_one}
use Rattle.cu_check.proofs.Layouts.{named_fits}
use Rattle.cu_check.proofs.inputs.read_node.Goals as goal
use Rattle.cu_expr.specs.Inputs.{layout_named}

pub read_plain-requires-clause-layout : goal.read_plain-requires-clause-layout
read_plain-requires-clause-layout g c = rw c.layout_named.ensures (named_fits c.args.inputs.now c.in-Input.name c.requires.layouts)

pub returns-clause-read : goal.returns-clause-read
returns-clause-read g c entry before step was =
    read_input entry c.args.inputs.now c.args.form.now c.in-Input.name before c.args.arrays.now.items c.push.new.self.items c.in-Ok.plain c.in-Input.is c.in-Ok-push.ensures.items was
    (subst (λ (l : Layout). IsReadArray entry (record { name = c.in-Input.name; layout = l }) c.in-Ok.plain) c.layout_named.ensures (c.in-Ok.ensures.read entry step))

pub returns-in-Err-clause-cause : goal.returns-in-Err-clause-cause
returns-in-Err-clause-cause g c = (
  record { name = c.in-Input.name; layout = layout_named c.args.inputs.now c.in-Input.name },
  ap (form_arrays c.args.inputs.now) c.in-Input.is,
  subst (λ (l : Layout). IsArrayFault (c.args.retries + 1) (g.D.PutStore.shown c.args.depot.now) (g.D.PutStore.shown c.read_plain.new.depot) (record { name = c.in-Input.name; layout = l }) c.in-Err.status) c.layout_named.ensures c.in-Err.ensures.cause,
)

pub returns-in-Err-push-clause-cause : goal.returns-in-Err-push-clause-cause
returns-in-Err-push-clause-cause g c = (
  record { name = c.in-Input.name; layout = layout_named c.args.inputs.now c.in-Input.name },
  ap (form_arrays c.args.inputs.now) c.in-Input.is,
  λ entry before. tt,
)

pub returns-clause-calls : goal.returns-clause-calls
returns-clause-calls g c =
    calls_of_one (c.args.retries + 1) c.args.inputs.now c.args.form.now (array_named c.args.inputs.now c.in-Input.name) (g.D.PutStore.shown c.args.depot.now) (g.D.PutStore.shown c.read_plain.new.depot)
    (ap (form_arrays c.args.inputs.now) c.in-Input.is) (rw c.layout_named.ensures at c.read_plain.ensures.calls)

pub returns-in-Err-clause-calls : goal.returns-in-Err-clause-calls
returns-in-Err-clause-calls g c =
    calls_of_one (c.args.retries + 1) c.args.inputs.now c.args.form.now (array_named c.args.inputs.now c.in-Input.name) (g.D.PutStore.shown c.args.depot.now) (g.D.PutStore.shown c.read_plain.new.depot)
    (ap (form_arrays c.args.inputs.now) c.in-Input.is) (rw c.layout_named.ensures at c.read_plain.ensures.calls)

pub returns-in-Err-push-clause-calls : goal.returns-in-Err-push-clause-calls
returns-in-Err-push-clause-calls g c =
    calls_of_one (c.args.retries + 1) c.args.inputs.now c.args.form.now (array_named c.args.inputs.now c.in-Input.name) (g.D.PutStore.shown c.args.depot.now) (g.D.PutStore.shown c.read_plain.new.depot)
    (ap (form_arrays c.args.inputs.now) c.in-Input.is) (rw c.layout_named.ensures at c.read_plain.ensures.calls)

pub returns-clause-once : goal.returns-clause-once
returns-clause-once g c =
    once_of_one c.args.inputs.now c.args.form.now (array_named c.args.inputs.now c.in-Input.name) (g.D.PutStore.shown c.args.depot.now) (g.D.PutStore.shown c.read_plain.new.depot)
    (ap (form_arrays c.args.inputs.now) c.in-Input.is) (rw c.layout_named.ensures at c.read_plain.ensures.once)

pub returns-in-Err-clause-once : goal.returns-in-Err-clause-once
returns-in-Err-clause-once g c =
    once_of_one c.args.inputs.now c.args.form.now (array_named c.args.inputs.now c.in-Input.name) (g.D.PutStore.shown c.args.depot.now) (g.D.PutStore.shown c.read_plain.new.depot)
    (ap (form_arrays c.args.inputs.now) c.in-Input.is) (rw c.layout_named.ensures at c.read_plain.ensures.once)

pub returns-in-Err-push-clause-once : goal.returns-in-Err-push-clause-once
returns-in-Err-push-clause-once g c =
    once_of_one c.args.inputs.now c.args.form.now (array_named c.args.inputs.now c.in-Input.name) (g.D.PutStore.shown c.args.depot.now) (g.D.PutStore.shown c.read_plain.new.depot)
    (ap (form_arrays c.args.inputs.now) c.in-Input.is) (rw c.layout_named.ensures at c.read_plain.ensures.once)

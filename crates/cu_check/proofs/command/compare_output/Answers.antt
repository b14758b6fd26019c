use Rattle.std.proofs.Common.{◌+◌, List, [], ◌∷◌, ap, sym, ◌∙◌, subst}
use Rattle.cu_expr.specs.declared.inputs.InputInfo.{InputInfo}
use Rattle.cu_mean.specs.Whole.{HoldInputs}
use Rattle.cu_semantics.specs.Argument.{NodeElements}
use Rattle.cu_shape.specs.Index.{product}
use Rattle.cu_store.specs.Steps.{NoChange}
use Rattle.cu_command.proofs.SeenLemmas.{stepped_same, stepped_then}
use Rattle.cu_check.specs.Arrays.{arrays_of_nodes}
use Rattle.cu_check.specs.Check.{IsCompareFault}
use Rattle.cu_check.specs.Plains.{AreReadArrays, IsListFault}
use Rattle.cu_check.proofs.Compared.{whole_inputs, enough, count_of, found_equal, found_unequal, list_fault, output_fault}
use Rattle.cu_check.proofs.ArrayCalls.{calls_of_array, calls_of_more, calls_of_front, once_of_array, once_of_front, once_of_more}
use Rattle.cu_check.proofs.command.compare_output.Goals as goal

pub whole-requires-clause-types : goal.whole-requires-clause-types
whole-requires-clause-types g c = record { inputs = c.args.compared.now.job.inputs.items; types = c.requires.types }

pub whole-requires-clause-inputs : goal.whole-requires-clause-inputs
whole-requires-clause-inputs g c =
    whole_inputs c.args.compared.now.job (g.D.PutStore.shown c.args.depot.now) c.in-Ok.inputs.items c.make.result c.read_nodes.ensures.form c.requires.types
    (subst (λ (inputs : List InputInfo). AreReadArrays (g.D.PutStore.shown c.args.depot.now) (arrays_of_nodes inputs c.args.compared.now.job.expr.nodes) c.in-Ok.inputs.items) c.deref.ensures.value
    (c.in-Ok.ensures.read (g.D.PutStore.shown c.args.depot.now) (stepped_same NoChange (g.D.PutStore.shown c.args.depot.now))))
    c.make.ensures

pub returns-in-Err-clause-cause : goal.returns-in-Err-clause-cause
returns-in-Err-clause-cause g c entry before =
    list_fault (c.args.retries + 1) entry (g.D.PutStore.shown c.args.depot.now) (g.D.PutStore.shown c.read_nodes.new.depot) c.args.compared.now.job c.args.compared.now.output c.in-Err.status
    (subst (λ (inputs : List InputInfo). IsListFault (c.args.retries + 1) entry (g.D.PutStore.shown c.args.depot.now) (g.D.PutStore.shown c.read_nodes.new.depot) (arrays_of_nodes inputs c.args.compared.now.job.expr.nodes) c.in-Err.status)
    c.deref.ensures.value (c.in-Err.ensures.cause entry before))

pub returns-in-Err-read_array-clause-cause : goal.returns-in-Err-read_array-clause-cause
returns-in-Err-read_array-clause-cause g c entry before =
    output_fault (c.args.retries + 1) entry (g.D.PutStore.shown c.args.depot.now) (g.D.PutStore.shown c.read_array.new.depot) c.args.compared.now.job c.args.compared.now.output (g.D.PutStore.shown c.read_nodes.new.depot)
    c.in-Ok.inputs.items c.in-Err-read_array.status c.read_nodes.ensures.step.step.count
    (subst (λ (inputs : List InputInfo). AreReadArrays entry (arrays_of_nodes inputs c.args.compared.now.job.expr.nodes) c.in-Ok.inputs.items) c.deref.ensures.value (c.in-Ok.ensures.read entry before))
    (c.in-Err-read_array.ensures.cause entry (stepped_then before c.read_nodes.ensures.step))

pub returns-in-Err-read_array-clause-step : goal.returns-in-Err-read_array-clause-step
returns-in-Err-read_array-clause-step g c = stepped_then c.read_nodes.ensures.step c.read_array.ensures.step

pub returns-in_default-clause-step : goal.returns-in_default-clause-step
returns-in_default-clause-step g c = stepped_then c.read_nodes.ensures.step c.read_array.ensures.step

pub returns-in-Ok-compare-clause-step : goal.returns-in-Ok-compare-clause-step
returns-in-Ok-compare-clause-step g c = stepped_then c.read_nodes.ensures.step c.read_array.ensures.step

pub returns-clause-step : goal.returns-clause-step
returns-clause-step g c = stepped_then c.read_nodes.ensures.step c.read_array.ensures.step

pub at-plain-requires : goal.at-plain-requires
at-plain-requires g c =
    let job = c.args.compared.now.job in
    let read = subst (λ (inputs : List InputInfo). AreReadArrays (g.D.PutStore.shown c.args.depot.now) (arrays_of_nodes inputs job.expr.nodes) c.in-Ok.inputs.items) c.deref.ensures.value
    (c.in-Ok.ensures.read (g.D.PutStore.shown c.args.depot.now) (stepped_same NoChange (g.D.PutStore.shown c.args.depot.now))) in
    rw c.out.ensures.out (enough job c.out.ensures.form c.requires.types c.in-Ok.inputs.items c.in-Ok-whole.plains
    (λ (env : NodeElements) (h : HoldInputs job.expr job.types env c.in-Ok.inputs.items). c.in-Ok-whole.ensures env (subst (HoldInputs job.expr job.types env) (sym c.make.ensures) h))
    (g.D.PutStore.shown c.args.depot.now) read)

pub compare-requires-clause-count : goal.compare-requires-clause-count
compare-requires-clause-count g c =
    let job = c.args.compared.now.job in
    let read = subst (λ (inputs : List InputInfo). AreReadArrays (g.D.PutStore.shown c.args.depot.now) (arrays_of_nodes inputs job.expr.nodes) c.in-Ok.inputs.items) c.deref.ensures.value
    (c.in-Ok.ensures.read (g.D.PutStore.shown c.args.depot.now) (stepped_same NoChange (g.D.PutStore.shown c.args.depot.now))) in
    let long = count_of job c.args.compared.now.output c.out.ensures.form c.requires.types c.in-Ok.inputs.items c.in-Ok-whole.plains c.at-plain.result.now
    (λ (env : NodeElements) (h : HoldInputs job.expr job.types env c.in-Ok.inputs.items). c.in-Ok-whole.ensures env (subst (HoldInputs job.expr job.types env) (sym c.make.ensures) h))
    (g.D.PutStore.shown c.args.depot.now) read (rw c.out.ensures.out at c.at-plain.ensures) in
    c.element_count.ensures.value ∙ ap product c.requires.node.shape ∙ sym long

pub returns-in-Ok-compare-clause-equal : goal.returns-in-Ok-compare-clause-equal
returns-in-Ok-compare-clause-equal g c entry before =
    let job = c.args.compared.now.job in
    let output = c.args.compared.now.output in
    let read = subst (λ (inputs : List InputInfo). AreReadArrays entry (arrays_of_nodes inputs job.expr.nodes) c.in-Ok.inputs.items) c.deref.ensures.value (c.in-Ok.ensures.read entry before) in
    found_equal job output c.out.ensures.form c.requires.types c.in-Ok.inputs.items c.in-Ok-whole.plains c.at-plain.result.now
    (λ (env : NodeElements) (h : HoldInputs job.expr job.types env c.in-Ok.inputs.items). c.in-Ok-whole.ensures env (subst (HoldInputs job.expr job.types env) (sym c.make.ensures) h))
    entry c.in-Ok-read_array.stored.items c.requires.layout.grid c.requires.node read (rw c.out.ensures.out at c.at-plain.ensures)
    (c.in-Ok-read_array.ensures.read entry (stepped_then before c.read_nodes.ensures.step))
    (rw (c.deref-2.ensures.value, c.element_count.ensures.value, c.requires.node.shape) at c.in-Ok-compare.ensures.same)

pub returns-clause-cause : goal.returns-clause-cause
returns-clause-cause g c entry before =
    let job = c.args.compared.now.job in
    let output = c.args.compared.now.output in
    let read = subst (λ (inputs : List InputInfo). AreReadArrays entry (arrays_of_nodes inputs job.expr.nodes) c.in-Ok.inputs.items) c.deref.ensures.value (c.in-Ok.ensures.read entry before) in
    subst (IsCompareFault (c.args.retries + 1) entry (g.D.PutStore.shown c.args.depot.now) (g.D.PutStore.shown c.read_array.new.depot) c.args.compared.now) (sym c.unequal.ensures)
    (found_unequal job output c.out.ensures.form c.requires.types c.in-Ok.inputs.items c.in-Ok-whole.plains c.at-plain.result.now
    (λ (env : NodeElements) (h : HoldInputs job.expr job.types env c.in-Ok.inputs.items). c.in-Ok-whole.ensures env (subst (HoldInputs job.expr job.types env) (sym c.make.ensures) h))
    (c.args.retries + 1) entry (g.D.PutStore.shown c.args.depot.now) (g.D.PutStore.shown c.read_array.new.depot) c.in-Ok-read_array.stored.items c.in-Err-compare.difference c.requires.layout.grid c.requires.node read
    (rw c.out.ensures.out at c.at-plain.ensures) (c.in-Ok-read_array.ensures.read entry (stepped_then before c.read_nodes.ensures.step))
    (rw c.deref-2.ensures.value at c.in-Err-compare.ensures.differs))

pub returns-in-Err-clause-calls : goal.returns-in-Err-clause-calls
returns-in-Err-clause-calls g c =
    calls_of_front (c.args.retries + 1) (arrays_of_nodes c.args.compared.now.job.inputs.items c.args.compared.now.job.expr.nodes) (c.args.compared.now.output ∷ [])
    (g.D.PutStore.shown c.args.depot.now) (g.D.PutStore.shown c.read_nodes.new.depot) (rw c.deref.ensures.value at c.read_nodes.ensures.calls)

pub returns-in-Err-read_array-clause-calls : goal.returns-in-Err-read_array-clause-calls
returns-in-Err-read_array-clause-calls g c =
    calls_of_more (c.args.retries + 1) (arrays_of_nodes c.args.compared.now.job.inputs.items c.args.compared.now.job.expr.nodes) (c.args.compared.now.output ∷ [])
    (g.D.PutStore.shown c.args.depot.now) (g.D.PutStore.shown c.read_nodes.new.depot) (g.D.PutStore.shown c.read_array.new.depot) (rw c.deref.ensures.value at c.read_nodes.ensures.calls)
    (calls_of_array (c.args.retries + 1) c.args.compared.now.output (g.D.PutStore.shown c.read_nodes.new.depot) (g.D.PutStore.shown c.read_array.new.depot) c.read_array.ensures.calls)

pub returns-in_default-clause-calls : goal.returns-in_default-clause-calls
returns-in_default-clause-calls g c =
    calls_of_more (c.args.retries + 1) (arrays_of_nodes c.args.compared.now.job.inputs.items c.args.compared.now.job.expr.nodes) (c.args.compared.now.output ∷ [])
    (g.D.PutStore.shown c.args.depot.now) (g.D.PutStore.shown c.read_nodes.new.depot) (g.D.PutStore.shown c.read_array.new.depot) (rw c.deref.ensures.value at c.read_nodes.ensures.calls)
    (calls_of_array (c.args.retries + 1) c.args.compared.now.output (g.D.PutStore.shown c.read_nodes.new.depot) (g.D.PutStore.shown c.read_array.new.depot) c.read_array.ensures.calls)

pub returns-in-Ok-compare-clause-calls : goal.returns-in-Ok-compare-clause-calls
returns-in-Ok-compare-clause-calls g c =
    calls_of_more (c.args.retries + 1) (arrays_of_nodes c.args.compared.now.job.inputs.items c.args.compared.now.job.expr.nodes) (c.args.compared.now.output ∷ [])
    (g.D.PutStore.shown c.args.depot.now) (g.D.PutStore.shown c.read_nodes.new.depot) (g.D.PutStore.shown c.read_array.new.depot) (rw c.deref.ensures.value at c.read_nodes.ensures.calls)
    (calls_of_array (c.args.retries + 1) c.args.compared.now.output (g.D.PutStore.shown c.read_nodes.new.depot) (g.D.PutStore.shown c.read_array.new.depot) c.read_array.ensures.calls)

pub returns-clause-calls : goal.returns-clause-calls
returns-clause-calls g c =
    calls_of_more (c.args.retries + 1) (arrays_of_nodes c.args.compared.now.job.inputs.items c.args.compared.now.job.expr.nodes) (c.args.compared.now.output ∷ [])
    (g.D.PutStore.shown c.args.depot.now) (g.D.PutStore.shown c.read_nodes.new.depot) (g.D.PutStore.shown c.read_array.new.depot) (rw c.deref.ensures.value at c.read_nodes.ensures.calls)
    (calls_of_array (c.args.retries + 1) c.args.compared.now.output (g.D.PutStore.shown c.read_nodes.new.depot) (g.D.PutStore.shown c.read_array.new.depot) c.read_array.ensures.calls)

pub returns-in-Err-clause-once : goal.returns-in-Err-clause-once
returns-in-Err-clause-once g c =
    once_of_front (arrays_of_nodes c.args.compared.now.job.inputs.items c.args.compared.now.job.expr.nodes) (c.args.compared.now.output ∷ [])
    (g.D.PutStore.shown c.args.depot.now) (g.D.PutStore.shown c.read_nodes.new.depot) (rw c.deref.ensures.value at c.read_nodes.ensures.once)

pub returns-in-Err-read_array-clause-once : goal.returns-in-Err-read_array-clause-once
returns-in-Err-read_array-clause-once g c =
    once_of_more (arrays_of_nodes c.args.compared.now.job.inputs.items c.args.compared.now.job.expr.nodes) (c.args.compared.now.output ∷ [])
    (g.D.PutStore.shown c.args.depot.now) (g.D.PutStore.shown c.read_nodes.new.depot) (g.D.PutStore.shown c.read_array.new.depot) (rw c.deref.ensures.value at c.read_nodes.ensures.once)
    (once_of_array c.args.compared.now.output (g.D.PutStore.shown c.read_nodes.new.depot) (g.D.PutStore.shown c.read_array.new.depot) c.read_array.ensures.once)

pub returns-in_default-clause-once : goal.returns-in_default-clause-once
returns-in_default-clause-once g c =
    once_of_more (arrays_of_nodes c.args.compared.now.job.inputs.items c.args.compared.now.job.expr.nodes) (c.args.compared.now.output ∷ [])
    (g.D.PutStore.shown c.args.depot.now) (g.D.PutStore.shown c.read_nodes.new.depot) (g.D.PutStore.shown c.read_array.new.depot) (rw c.deref.ensures.value at c.read_nodes.ensures.once)
    (once_of_array c.args.compared.now.output (g.D.PutStore.shown c.read_nodes.new.depot) (g.D.PutStore.shown c.read_array.new.depot) c.read_array.ensures.once)

pub returns-in-Ok-compare-clause-once : goal.returns-in-Ok-compare-clause-once
returns-in-Ok-compare-clause-once g c =
    once_of_more (arrays_of_nodes c.args.compared.now.job.inputs.items c.args.compared.now.job.expr.nodes) (c.args.compared.now.output ∷ [])
    (g.D.PutStore.shown c.args.depot.now) (g.D.PutStore.shown c.read_nodes.new.depot) (g.D.PutStore.shown c.read_array.new.depot) (rw c.deref.ensures.value at c.read_nodes.ensures.once)
    (once_of_array c.args.compared.now.output (g.D.PutStore.shown c.read_nodes.new.depot) (g.D.PutStore.shown c.read_array.new.depot) c.read_array.ensures.once)

pub returns-clause-once : goal.returns-clause-once
returns-clause-once g c =
    once_of_more (arrays_of_nodes c.args.compared.now.job.inputs.items c.args.compared.now.job.expr.nodes) (c.args.compared.now.output ∷ [])
    (g.D.PutStore.shown c.args.depot.now) (g.D.PutStore.shown c.read_nodes.new.depot) (g.D.PutStore.shown c.read_array.new.depot) (rw c.deref.ensures.value at c.read_nodes.ensures.once)
    (once_of_array c.args.compared.now.output (g.D.PutStore.shown c.read_nodes.new.depot) (g.D.PutStore.shown c.read_array.new.depot) c.read_array.ensures.once)

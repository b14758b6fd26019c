use Rattle.std.proofs.Common.{◌≡◌, ◌+◌, List, Ok, subst, sym, arith}
use Rattle.cu_expr.specs.Typing.{typed}
use Rattle.cu_expr.specs.declared.inputs.InputInfo.{InputInfo}
use Rattle.cu_store.proofs.Steps.{steps_then}
use Rattle.cu_store.specs.Steps.{NoChange}
use Rattle.cu_command.specs.Job.{IsUntyped}
use Rattle.cu_command.specs.Seen.{seen}
use Rattle.cu_command.specs.declared.status.Status.{Status}
use Rattle.cu_command.proofs.SeenLemmas.{stepped, stepped_same, stepped_then}
use Rattle.cu_check.specs.Check.{Compares}
use Rattle.cu_check.proofs.TextEnds.{unread_ends, inputs_end, output_ends, is_output, untyped_ends, inputs_within, output_within, inputs_once, output_once}
use Rattle.cu_check.proofs.metadata.read_typed.Goals as goal

pub returns-in-Err : goal.returns-in-Err
returns-in-Err g c = record {
  job = tt;
  output = tt;
  step = stepped_same NoChange (g.D.PutStore.shown c.args.depot.now);
  cause = λ out next.
      subst (λ (s : Status). Compares (c.args.retries + 1) c.args.text.now (seen out (g.D.PutStore.shown c.args.depot.now)) (seen next (g.D.PutStore.shown c.args.depot.now)) s) (sym c.from.ensures)
      (unread_ends (c.args.retries + 1) c.args.text.now (seen out (g.D.PutStore.shown c.args.depot.now)) (seen next (g.D.PutStore.shown c.args.depot.now)) c.in-Err.fault c.in-Err.ensures.fault);
  calls = omega arith;
  once = omega arith;
}

pub returns-in-Err-read_inputs-clause-step : goal.returns-in-Err-read_inputs-clause-step
returns-in-Err-read_inputs-clause-step g c = stepped c.read_inputs.ensures.step

pub returns-in-Err-read_inputs-clause-cause : goal.returns-in-Err-read_inputs-clause-cause
returns-in-Err-read_inputs-clause-cause g c = λ out next.
    subst (λ (s : Status). Compares (c.args.retries + 1) c.args.text.now (seen out (g.D.PutStore.shown c.args.depot.now)) (seen next (g.D.PutStore.shown c.read_inputs.new.depot)) s) (sym c.from-in-Err-read_inputs.ensures)
    (inputs_end (c.args.retries + 1) c.args.text.now c.in-Ok.said.expr (seen out (g.D.PutStore.shown c.args.depot.now)) (seen next (g.D.PutStore.shown c.read_inputs.new.depot)) c.in-Err-read_inputs.fault
    c.in-Ok.ensures.said c.in-Err-read_inputs.ensures.cause)

pub returns-in-Err-read_output-clause-step : goal.returns-in-Err-read_output-clause-step
returns-in-Err-read_output-clause-step g c = stepped_then (stepped c.read_inputs.ensures.step) (stepped c.read_output.ensures.step)

pub returns-in-Err-read_output-clause-cause : goal.returns-in-Err-read_output-clause-cause
returns-in-Err-read_output-clause-cause g c = λ out next.
    subst (λ (s : Status). Compares (c.args.retries + 1) c.args.text.now (seen out (g.D.PutStore.shown c.args.depot.now)) (seen next (g.D.PutStore.shown c.read_output.new.depot)) s) (sym c.from-in-Err-read_output.ensures)
    (output_ends (c.args.retries + 1) c.args.text.now c.in-Ok.said.expr c.in-Ok-read_inputs.inputs.items (seen out (g.D.PutStore.shown c.args.depot.now)) (seen next (g.D.PutStore.shown c.read_output.new.depot))
    (g.D.PutStore.shown c.read_inputs.new.depot) c.in-Err-read_output.fault c.in-Ok.ensures.said c.in-Ok-read_inputs.ensures.names c.in-Ok-read_inputs.ensures.read
    c.read_inputs.ensures.step.count (steps_then c.read_inputs.ensures.step c.read_output.ensures.step) c.in-Err-read_output.ensures.cause)

pub returns-in-Err-types_in-clause-step : goal.returns-in-Err-types_in-clause-step
returns-in-Err-types_in-clause-step g c = stepped_then (stepped c.read_inputs.ensures.step) (stepped c.read_output.ensures.step)

pub returns-in-Err-types_in-clause-cause : goal.returns-in-Err-types_in-clause-cause
returns-in-Err-types_in-clause-cause g c = λ out next.
    subst (λ (s : Status). Compares (c.args.retries + 1) c.args.text.now (seen out (g.D.PutStore.shown c.args.depot.now)) (seen next (g.D.PutStore.shown c.read_output.new.depot)) s) (sym c.from-in-Err-types_in.ensures)
    (untyped_ends (c.args.retries + 1) c.args.text.now c.in-Ok.said.expr c.in-Ok-read_inputs.inputs.items c.in-Ok-read_output.output (seen out (g.D.PutStore.shown c.args.depot.now)) (seen next (g.D.PutStore.shown c.read_output.new.depot))
    c.in-Err-types_in.fault c.in-Ok.ensures.said c.in-Ok-read_inputs.ensures.names c.in-Ok-read_inputs.ensures.read
    (is_output c.in-Ok.said.expr (g.D.PutStore.shown c.args.depot.now) (g.D.PutStore.shown c.read_output.new.depot) c.in-Ok-read_output.output (steps_then c.read_inputs.ensures.step c.read_output.ensures.step)
    c.in-Ok-read_output.ensures.name c.in-Ok-read_output.ensures.layout c.in-Ok-read_output.ensures.found)
    (subst (λ (inputs : List InputInfo). IsUntyped inputs c.in-Ok.said.expr c.in-Err-types_in.fault) c.deref.ensures.value c.in-Err-types_in.ensures.fault))

pub returns-clause-job : goal.returns-clause-job
returns-clause-job g c = record {
  said = c.in-Ok.ensures.said;
  compact = c.in-Ok.ensures.compact;
  names = c.in-Ok-read_inputs.ensures.names;
  inputs = c.in-Ok-read_inputs.ensures.read;
  types = subst (λ (is : List InputInfo). typed is c.in-Ok.said.expr ≡ Ok c.in-Ok-types_in.types) c.deref.ensures.value c.in-Ok-types_in.ensures.types;
}

pub returns-clause-output : goal.returns-clause-output
returns-clause-output g c =
    is_output c.in-Ok.said.expr (g.D.PutStore.shown c.args.depot.now) (g.D.PutStore.shown c.read_output.new.depot) c.in-Ok-read_output.output (steps_then c.read_inputs.ensures.step c.read_output.ensures.step)
    c.in-Ok-read_output.ensures.name c.in-Ok-read_output.ensures.layout c.in-Ok-read_output.ensures.found

pub returns-clause-step : goal.returns-clause-step
returns-clause-step g c = stepped_then (stepped c.read_inputs.ensures.step) (stepped c.read_output.ensures.step)

pub returns-in-Err-read_inputs-clause-calls : goal.returns-in-Err-read_inputs-clause-calls
returns-in-Err-read_inputs-clause-calls g c =
    inputs_within (c.args.retries + 1) c.args.text.now c.in-Ok.said.expr (g.D.PutStore.shown c.args.depot.now) (g.D.PutStore.shown c.read_inputs.new.depot) c.in-Ok.ensures.said c.read_inputs.ensures.step.calls.1

pub returns-in-Err-read_output-clause-calls : goal.returns-in-Err-read_output-clause-calls
returns-in-Err-read_output-clause-calls g c =
    output_within (c.args.retries + 1) c.args.text.now c.in-Ok.said.expr (g.D.PutStore.shown c.args.depot.now) (g.D.PutStore.shown c.read_inputs.new.depot) (g.D.PutStore.shown c.read_output.new.depot) c.in-Ok.ensures.said
    c.read_inputs.ensures.step.calls.1 c.read_output.ensures.step.calls.1

pub returns-in-Err-types_in-clause-calls : goal.returns-in-Err-types_in-clause-calls
returns-in-Err-types_in-clause-calls g c =
    output_within (c.args.retries + 1) c.args.text.now c.in-Ok.said.expr (g.D.PutStore.shown c.args.depot.now) (g.D.PutStore.shown c.read_inputs.new.depot) (g.D.PutStore.shown c.read_output.new.depot) c.in-Ok.ensures.said
    c.read_inputs.ensures.step.calls.1 c.read_output.ensures.step.calls.1

pub returns-clause-calls : goal.returns-clause-calls
returns-clause-calls g c =
    output_within (c.args.retries + 1) c.args.text.now c.in-Ok.said.expr (g.D.PutStore.shown c.args.depot.now) (g.D.PutStore.shown c.read_inputs.new.depot) (g.D.PutStore.shown c.read_output.new.depot) c.in-Ok.ensures.said
    c.read_inputs.ensures.step.calls.1 c.read_output.ensures.step.calls.1

pub returns-in-Err-read_inputs-clause-once : goal.returns-in-Err-read_inputs-clause-once
returns-in-Err-read_inputs-clause-once g c =
    inputs_once c.args.text.now c.in-Ok.said.expr (g.D.PutStore.shown c.args.depot.now) (g.D.PutStore.shown c.read_inputs.new.depot) c.in-Ok.ensures.said c.read_inputs.ensures.once

pub returns-in-Err-read_output-clause-once : goal.returns-in-Err-read_output-clause-once
returns-in-Err-read_output-clause-once g c =
    output_once c.args.text.now c.in-Ok.said.expr (g.D.PutStore.shown c.args.depot.now) (g.D.PutStore.shown c.read_inputs.new.depot) (g.D.PutStore.shown c.read_output.new.depot) c.in-Ok.ensures.said
    c.read_inputs.ensures.once c.read_output.ensures.once

pub returns-in-Err-types_in-clause-once : goal.returns-in-Err-types_in-clause-once
returns-in-Err-types_in-clause-once g c =
    output_once c.args.text.now c.in-Ok.said.expr (g.D.PutStore.shown c.args.depot.now) (g.D.PutStore.shown c.read_inputs.new.depot) (g.D.PutStore.shown c.read_output.new.depot) c.in-Ok.ensures.said
    c.read_inputs.ensures.once c.read_output.ensures.once

pub returns-clause-once : goal.returns-clause-once
returns-clause-once g c =
    output_once c.args.text.now c.in-Ok.said.expr (g.D.PutStore.shown c.args.depot.now) (g.D.PutStore.shown c.read_inputs.new.depot) (g.D.PutStore.shown c.read_output.new.depot) c.in-Ok.ensures.said
    c.read_inputs.ensures.once c.read_output.ensures.once

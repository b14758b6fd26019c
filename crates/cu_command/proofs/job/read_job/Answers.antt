use Rattle.std.proofs.Common.{◌≡◌, ◌+◌, ◌*◌, List, Ok, length, subst, arith}
use Rattle.cu_expr.specs.Typing.{typed}
use Rattle.cu_expr.specs.declared.inputs.InputInfo.{InputInfo}
use Rattle.cu_command.specs.Job.{names_said, IsUntyped}
use Rattle.cu_command.proofs.InputLemmas.{no_step}
use Rattle.cu_command.proofs.JobLemmas.{unread_fault, untyped_fault, input_fault, said_step, said_once, layouts_of, only_memory}
use Rattle.cu_command.proofs.job.read_job.Goals as goal

unread : goal.returns-in-Err-clause-cause
unread g c = unread_fault (c.args.retries + 1) c.args.text.now (g.D.PutStore.shown c.args.depot.now) (g.D.PutStore.shown c.args.depot.now) c.in-Err.fault c.in-Err.ensures.fault

pub returns-in-Err-clause-cause : goal.returns-in-Err-clause-cause
returns-in-Err-clause-cause g c = unread g c

pub returns-in-Err-clause-step : goal.returns-in-Err-clause-step
returns-in-Err-clause-step g c = no_step (2 * (c.args.retries + 1) * length (names_said c.args.text.now))

pub returns-in-Err-clause-complete : goal.returns-in-Err-clause-complete
returns-in-Err-clause-complete g c typable still =
    only_memory c.args.retries c.args.text.now (g.D.PutStore.shown c.args.depot.now) (g.D.PutStore.shown c.args.depot.now) c.in-Err.fault typable still (unread g c)

unheld : goal.returns-in-Err-read_inputs-clause-cause
unheld g c =
    input_fault (c.args.retries + 1) c.args.text.now c.in-Ok.said.expr (g.D.PutStore.shown c.args.depot.now) (g.D.PutStore.shown c.read_inputs.new.depot) c.in-Err-read_inputs.fault
    c.in-Ok.ensures.said c.in-Err-read_inputs.ensures.cause

pub returns-in-Err-read_inputs-clause-cause : goal.returns-in-Err-read_inputs-clause-cause
returns-in-Err-read_inputs-clause-cause g c = unheld g c

pub returns-in-Err-read_inputs-clause-step : goal.returns-in-Err-read_inputs-clause-step
returns-in-Err-read_inputs-clause-step g c =
    said_step (2 * (c.args.retries + 1)) c.args.text.now c.in-Ok.said.expr (g.D.PutStore.shown c.args.depot.now) (g.D.PutStore.shown c.read_inputs.new.depot) c.in-Ok.ensures.said c.read_inputs.ensures.step

pub returns-in-Err-read_inputs-clause-complete : goal.returns-in-Err-read_inputs-clause-complete
returns-in-Err-read_inputs-clause-complete g c typable still =
    only_memory c.args.retries c.args.text.now (g.D.PutStore.shown c.args.depot.now) (g.D.PutStore.shown c.read_inputs.new.depot) c.in-Err-read_inputs.fault typable still (unheld g c)

untyped : goal.returns-in-Err-types_in-clause-cause
untyped g c =
    untyped_fault (c.args.retries + 1) c.args.text.now c.in-Ok.said.expr c.in-Ok-read_inputs.inputs.items (g.D.PutStore.shown c.args.depot.now) (g.D.PutStore.shown c.read_inputs.new.depot)
    c.in-Err-types_in.fault c.in-Ok.ensures.said c.in-Ok-read_inputs.ensures.names c.in-Ok-read_inputs.ensures.read
    (subst (λ (is : List InputInfo). IsUntyped is c.in-Ok.said.expr c.in-Err-types_in.fault) c.deref.ensures.value c.in-Err-types_in.ensures.fault)

pub returns-in-Err-types_in-clause-cause : goal.returns-in-Err-types_in-clause-cause
returns-in-Err-types_in-clause-cause g c = untyped g c

pub returns-in-Err-types_in-clause-step : goal.returns-in-Err-types_in-clause-step
returns-in-Err-types_in-clause-step g c =
    said_step (2 * (c.args.retries + 1)) c.args.text.now c.in-Ok.said.expr (g.D.PutStore.shown c.args.depot.now) (g.D.PutStore.shown c.read_inputs.new.depot) c.in-Ok.ensures.said c.read_inputs.ensures.step

pub returns-in-Err-types_in-clause-complete : goal.returns-in-Err-types_in-clause-complete
returns-in-Err-types_in-clause-complete g c typable still =
    only_memory c.args.retries c.args.text.now (g.D.PutStore.shown c.args.depot.now) (g.D.PutStore.shown c.read_inputs.new.depot) c.in-Err-types_in.fault typable still (untyped g c)

pub types_in-requires : goal.types_in-requires
types_in-requires g c = layouts_of (g.D.PutStore.shown c.args.depot.now) c.in-Ok-read_inputs.inputs.items _ c.deref.ensures.value c.in-Ok-read_inputs.ensures.read

pub returns-clause-job : goal.returns-clause-job
returns-clause-job g c = record {
  said = c.in-Ok.ensures.said;
  compact = c.in-Ok.ensures.compact;
  names = c.in-Ok-read_inputs.ensures.names;
  inputs = c.in-Ok-read_inputs.ensures.read;
  types = subst (λ (is : List InputInfo). typed is c.in-Ok.said.expr ≡ Ok c.in-Ok-types_in.types) c.deref.ensures.value c.in-Ok-types_in.ensures.types;
}

pub returns-clause-step : goal.returns-clause-step
returns-clause-step g c =
    said_step (2 * (c.args.retries + 1)) c.args.text.now c.in-Ok.said.expr (g.D.PutStore.shown c.args.depot.now) (g.D.PutStore.shown c.read_inputs.new.depot) c.in-Ok.ensures.said c.read_inputs.ensures.step

pub returns-in-Err-clause-once : goal.returns-in-Err-clause-once
returns-in-Err-clause-once g c = omega arith

pub returns-in-Err-read_inputs-clause-once : goal.returns-in-Err-read_inputs-clause-once
returns-in-Err-read_inputs-clause-once g c =
    said_once c.args.text.now c.in-Ok.said.expr (g.D.PutStore.shown c.args.depot.now) (g.D.PutStore.shown c.read_inputs.new.depot) c.in-Ok.ensures.said c.read_inputs.ensures.once

pub returns-in-Err-types_in-clause-once : goal.returns-in-Err-types_in-clause-once
returns-in-Err-types_in-clause-once g c =
    said_once c.args.text.now c.in-Ok.said.expr (g.D.PutStore.shown c.args.depot.now) (g.D.PutStore.shown c.read_inputs.new.depot) c.in-Ok.ensures.said c.read_inputs.ensures.once

pub returns-clause-once : goal.returns-clause-once
returns-clause-once g c =
    said_once c.args.text.now c.in-Ok.said.expr (g.D.PutStore.shown c.args.depot.now) (g.D.PutStore.shown c.read_inputs.new.depot) c.in-Ok.ensures.said c.read_inputs.ensures.once

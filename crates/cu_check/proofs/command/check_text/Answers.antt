use Rattle.std.proofs.Common.{◌+◌, inl}
use Rattle.cu_command.proofs.SeenLemmas.{stepped_then}
use Rattle.cu_command.specs.Seen.{stream, seen}
use Rattle.cu_check.proofs.Ends.{fault_ends, equal_ends, unwritten_ends, prints_nothing}
use Rattle.cu_check.proofs.TextEnds.{compared_within, compared_once}
use Rattle.cu_check.proofs.command.check_text.Goals as goal

pub returns-in-Err-clause-answer : goal.returns-in-Err-clause-answer
returns-in-Err-clause-answer g c =
    let out = stream (g.W.Sink.written c.args.out.now) (g.W.Sink.faults c.args.out.now) in
    c.in-Err.ensures.cause out out

pub returns-in-Err-clause-printed : goal.returns-in-Err-clause-printed
returns-in-Err-clause-printed g c = prints_nothing c.in-Err.status (g.W.Sink.written c.args.out.now)

pub returns-in-Ok-report-clause-answer : goal.returns-in-Ok-report-clause-answer
returns-in-Ok-report-clause-answer g c =
    equal_ends (c.args.retries + 1) c.args.text.now (seen (stream (g.W.Sink.written c.args.out.now) (g.W.Sink.faults c.args.out.now)) (g.D.PutStore.shown c.args.depot.now))
    (seen (stream (g.W.Sink.written c.report.new.out) (g.W.Sink.faults c.report.new.out)) (g.D.PutStore.shown c.compare_output.new.depot)) c.in-Ok.compared.job c.in-Ok.compared.output
    c.in-Ok.ensures.job c.in-Ok.ensures.output c.in-Ok.ensures.node c.in-Ok.ensures.few (c.in-Ok-compare_output.ensures.equal (g.D.PutStore.shown c.args.depot.now) c.read_compared.ensures.step) c.in-Ok-report.ensures.all

pub returns-clause-answer : goal.returns-clause-answer
returns-clause-answer g c =
    fault_ends (c.args.retries + 1) c.args.text.now (seen (stream (g.W.Sink.written c.args.out.now) (g.W.Sink.faults c.args.out.now)) (g.D.PutStore.shown c.args.depot.now))
    (seen (stream (g.W.Sink.written c.args.out.now) (g.W.Sink.faults c.args.out.now)) (g.D.PutStore.shown c.compare_output.new.depot)) c.in-Ok.compared.job c.in-Ok.compared.output
    c.in-Ok.ensures.job c.in-Ok.ensures.output c.in-Ok.ensures.node c.in-Ok.ensures.few (g.D.PutStore.shown c.read_compared.new.depot) c.in-Err-compare_output.status c.read_compared.ensures.step.step.count
    (c.in-Err-compare_output.ensures.cause (g.D.PutStore.shown c.args.depot.now) c.read_compared.ensures.step)

pub returns-clause-printed : goal.returns-clause-printed
returns-clause-printed g c = prints_nothing c.in-Err-compare_output.status (g.W.Sink.written c.args.out.now)

pub returns-clause-step : goal.returns-clause-step
returns-clause-step g c = stepped_then c.read_compared.ensures.step c.compare_output.ensures.step

pub returns-in-Ok-report-clause-step : goal.returns-in-Ok-report-clause-step
returns-in-Ok-report-clause-step g c = stepped_then c.read_compared.ensures.step c.compare_output.ensures.step

pub returns-in-Ok-compare_output-clause-step : goal.returns-in-Ok-compare_output-clause-step
returns-in-Ok-compare_output-clause-step g c = stepped_then c.read_compared.ensures.step c.compare_output.ensures.step

pub returns-in-Ok-compare_output-clause-answer : goal.returns-in-Ok-compare_output-clause-answer
returns-in-Ok-compare_output-clause-answer g c =
    unwritten_ends (c.args.retries + 1) c.args.text.now (seen (stream (g.W.Sink.written c.args.out.now) (g.W.Sink.faults c.args.out.now)) (g.D.PutStore.shown c.args.depot.now))
    (seen (stream (g.W.Sink.written c.report.new.out) (g.W.Sink.faults c.report.new.out)) (g.D.PutStore.shown c.compare_output.new.depot)) c.in-Ok.compared.job c.in-Ok.compared.output
    c.in-Ok.ensures.job c.in-Ok.ensures.output c.in-Ok.ensures.node c.in-Ok.ensures.few (c.in-Ok-compare_output.ensures.equal (g.D.PutStore.shown c.args.depot.now) c.read_compared.ensures.step)
    c.in-Err-report.ensures.cause c.in-Err-report.ensures.front

pub returns-in-Err-clause-calls : goal.returns-in-Err-clause-calls
returns-in-Err-clause-calls g c = inl c.read_compared.ensures.calls

pub returns-in-Ok-report-clause-calls : goal.returns-in-Ok-report-clause-calls
returns-in-Ok-report-clause-calls g c =
    compared_within (c.args.retries + 1) c.args.text.now c.in-Ok.compared.job c.in-Ok.compared.output (g.D.PutStore.shown c.args.depot.now) (g.D.PutStore.shown c.read_compared.new.depot) (g.D.PutStore.shown c.compare_output.new.depot)
    c.in-Ok.ensures.job c.in-Ok.ensures.output c.read_compared.ensures.calls c.compare_output.ensures.calls

pub returns-in-Ok-compare_output-clause-calls : goal.returns-in-Ok-compare_output-clause-calls
returns-in-Ok-compare_output-clause-calls g c =
    compared_within (c.args.retries + 1) c.args.text.now c.in-Ok.compared.job c.in-Ok.compared.output (g.D.PutStore.shown c.args.depot.now) (g.D.PutStore.shown c.read_compared.new.depot) (g.D.PutStore.shown c.compare_output.new.depot)
    c.in-Ok.ensures.job c.in-Ok.ensures.output c.read_compared.ensures.calls c.compare_output.ensures.calls

pub returns-clause-calls : goal.returns-clause-calls
returns-clause-calls g c =
    compared_within (c.args.retries + 1) c.args.text.now c.in-Ok.compared.job c.in-Ok.compared.output (g.D.PutStore.shown c.args.depot.now) (g.D.PutStore.shown c.read_compared.new.depot) (g.D.PutStore.shown c.compare_output.new.depot)
    c.in-Ok.ensures.job c.in-Ok.ensures.output c.read_compared.ensures.calls c.compare_output.ensures.calls

pub returns-in-Err-clause-once : goal.returns-in-Err-clause-once
returns-in-Err-clause-once g c = inl c.read_compared.ensures.once

pub returns-in-Ok-report-clause-once : goal.returns-in-Ok-report-clause-once
returns-in-Ok-report-clause-once g c =
    compared_once c.args.text.now c.in-Ok.compared.job c.in-Ok.compared.output (g.D.PutStore.shown c.args.depot.now) (g.D.PutStore.shown c.read_compared.new.depot) (g.D.PutStore.shown c.compare_output.new.depot)
    c.in-Ok.ensures.job c.in-Ok.ensures.output c.read_compared.ensures.once c.compare_output.ensures.once

pub returns-in-Ok-compare_output-clause-once : goal.returns-in-Ok-compare_output-clause-once
returns-in-Ok-compare_output-clause-once g c =
    compared_once c.args.text.now c.in-Ok.compared.job c.in-Ok.compared.output (g.D.PutStore.shown c.args.depot.now) (g.D.PutStore.shown c.read_compared.new.depot) (g.D.PutStore.shown c.compare_output.new.depot)
    c.in-Ok.ensures.job c.in-Ok.ensures.output c.read_compared.ensures.once c.compare_output.ensures.once

pub returns-clause-once : goal.returns-clause-once
returns-clause-once g c =
    compared_once c.args.text.now c.in-Ok.compared.job c.in-Ok.compared.output (g.D.PutStore.shown c.args.depot.now) (g.D.PutStore.shown c.read_compared.new.depot) (g.D.PutStore.shown c.compare_output.new.depot)
    c.in-Ok.ensures.job c.in-Ok.ensures.output c.read_compared.ensures.once c.compare_output.ensures.once

use Rattle.std.proofs.Common.{◌+◌, ◌++◌, ℤ, length, length-append, arith, rules}
use Rattle.std.proofs.lemmas.Int.{to_z-of_z}
use Rattle.std.specs.Int.{w128}
use Rattle.std.specs.Prelude.{FitsSigned}
use Rattle.cu_command.specs.Seen.{stream}
use Rattle.cu_print.proofs.Written.{wrote_front, wrote_then}
use Rattle.cu_top.proofs.DemoRead.{unread_end}
use Rattle.cu_top.specs.Demo.{result_line}
use Rattle.cu_top.specs.Report.{report_line}
use Rattle.cu_top.proofs.demo.tell_result.Goals as goal

pub returns-in-Err-clause-answer : goal.returns-in-Err-clause-answer
returns-in-Err-clause-answer g c =
    unread_end (c.args.retries + 1) (λ (x : ℤ). result_line c.args.size x ++ report_line c.args.plan.now c.args.counts.now)
    (stream (g.W.Sink.written c.args.out.now) (g.W.Sink.faults c.args.out.now)) (g.D.PutStore.shown c.args.depot.now) (g.D.PutStore.shown c.read_result.new.depot) c.in-Err.status c.in-Err.ensures.refused

pub returns-in-Ok-report-clause-answer : goal.returns-in-Ok-report-clause-answer
returns-in-Ok-report-clause-answer g c =
    let small : FitsSigned w128 c.in-Ok.element = search rules in
    let first = rw (to_z-of_z w128 c.in-Ok.element small) at c.in-Ok-write_result.ensures.all in (
      c.in-Ok.element,
      c.in-Ok.ensures.element,
      wrote_then (g.W.Sink.written c.args.out.now) (g.W.Sink.written c.write_result.new.out) (g.W.Sink.written c.report.new.out)
          (result_line c.args.size c.in-Ok.element) (report_line c.args.plan.now c.args.counts.now) first c.in-Ok-report.ensures.all,
    )

pub returns-in-Err-report-clause-answer : goal.returns-in-Err-report-clause-answer
returns-in-Err-report-clause-answer g c =
    let small : FitsSigned w128 c.in-Ok.element = search rules in
    let first = rw (to_z-of_z w128 c.in-Ok.element small) at c.in-Ok-write_result.ensures.all in
    let line = result_line c.args.size c.in-Ok.element in
    let told = report_line c.args.plan.now c.args.counts.now in
    let (n, few, wrote) = c.in-Err-report.ensures.front in
    let rose = c.in-Err-report.ensures.cause in
    let count = c.write_result.ensures.count in
    let long = length-append line told in (
      omega (arith, rose, count),
      (
        c.in-Ok.element,
        c.in-Ok.ensures.element,
        length line + n,
        omega (arith, long, few),
        wrote_front (g.W.Sink.written c.args.out.now) (g.W.Sink.written c.write_result.new.out) (g.W.Sink.written c.report.new.out) line told n first wrote,
      ),
    )

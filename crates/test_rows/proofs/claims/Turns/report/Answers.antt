use Rattle.std.proofs.Common.{◌≡◌, Some, None, sym, subst, arith}
use Rattle.cu_table.specs.Own.{running_of}
use Rattle.cu_table.specs.Table.{TableView, end_of, report_kind, is_late}
use Rattle.cu_table.proofs.Own.{running_runs}
use Rattle.test_rows.proofs.Turning.{after_entry, end_leaves}
use Rattle.test_rows.proofs.claims.Turns.report.Goals as goal

pub report-requires : goal.report-requires
report-requires c =
    running_runs c.self.inside.table.state.copies c.args.worker c.in-Some.id.op c.in-Some.id.task
    (subst (λ (t : TableView). running_of t.state.copies c.args.worker ≡ Some (c.in-Some.id.op, c.in-Some.id.task)) (sym c.self.view_is) c.in-Some.ensures)

pub invariant_of-self : goal.invariant_of-self
invariant_of-self c =
    let t = c.self.inside.table in
    let within = c.if-place-len.false in
    let long = c.len.ensures in
    let late = is_late t.settings.plan t.state c.in-Some.id.op c.in-Some.id.task in
    after_entry t c.report.new.self c.self.inside.running.items c.self.invariant (end_of (report_kind late c.args.ended) c.args.worker c.in-Some.id.op c.in-Some.id.task) c.report.ensures.reported.0 c.report.ensures.legal
    None (end_leaves late c.args.ended c.args.worker c.in-Some.id.op c.in-Some.id.task) (omega (arith, within, long))

use Rattle.cu_board.proofs.Tables.{report_grown}
use Rattle.cu_board.proofs.States.{report_keeps, yard_of}
use Rattle.cu_board.proofs.turns.report_in.Goals as goal

pub report-requires : goal.report-requires
report-requires g c =
    let t = c.args.state.now.table in
    c.own_law.ensures.runs t.settings t.done t.history t.state c.args.number c.args.op c.args.task c.requires.legal c.requires.running

pub returns-clause-reported : goal.returns-clause-reported
returns-clause-reported g c = c.report.ensures.reported

pub returns-clause-grown : goal.returns-clause-grown
returns-clause-grown g c =
    let t = c.args.state.now.table in
    report_grown c.args.number c.args.op c.args.task c.args.ended t c.report.new.self c.report.ensures.reported
    (λ h. (c.ended_law.ensures.halt t.settings t.done t.history t.state c.requires.legal).0 h)

pub returns-clause-kept : goal.returns-clause-kept
returns-clause-kept g c = λ made first owned state.
    let laws = g.Y.Yard.laws in
    let knows = g.Y.Yard.knows in
    let t = c.args.state.now.table in
    let u = c.report.new.self in
    let p = c.args.state.now.pass in
    report_keeps knows g.Y.Yard.owns made first c.args.number c.args.op c.args.task t p c.args.ended u c.pass_on.new.kept (knows c.args.pass.now)
    state c.report.ensures.reported
    (λ e goes op task is d. (c.step_law.ensures.done t.settings t.done t.history t.state u.state e op task c.requires.legal goes.step is).0 d)
    c.report.ensures.legal c.requires.may
    (laws.same p c.args.pass.now (laws.one_yard c.args.yard.now p c.args.pass.now c.requires.own.0 c.requires.own.1))
    c.pass_on.ensures.takes_in
    (yard_of g.Y.Yard.serves knows g.Y.Yard.owns g.Y.Yard.together laws c.args.yard.now first c.pass_on.new.kept owned c.pass_on.ensures.own.0)

pub returns-clause-wakes : goal.returns-clause-wakes
returns-clause-wakes g c =
    let was = c.is_idle-was_idle.ensures in
    let now = c.is_idle-is_idle.ensures in
    let both = c.only_before.ensures in (
      λ wakes. let b = both.0 wakes in (was.0 b.0, λ idle. b.1 (now.1 idle)),
      λ told. both.1 (was.1 told.0, λ idle. told.1 (now.0 idle)),
    )

use Rattle.std.proofs.Common.{arith}
use Rattle.cu_store.specs.Steps.{OrLate, PutOf}
use Rattle.test_depots.proofs.OwnLate.{made_fails, made_steps, put_steps, refused_lands, adds_only}
use Rattle.test_depots.proofs.failing.FailingDepot.put.Goals as goal

pub returns-then-begin-clause-step : goal.returns-then-begin-clause-step
returns-then-begin-clause-step g c =
    put_steps c.args.key.now c.args.bytes.now c.begin.new.self.span.land (g.D.Depot.shown c.args.self.now.depot) (g.D.Depot.shown c.begin.new.self.depot) c.args.self.now.late c.begin.new.self.late c.keep.new.late
    c.args.self.now.faults c.refuse.new.faults c.args.self.now.calls c.begin.new.self.calls c.begin.ensures.landed c.keep.ensures (omega (arith, c.begin.ensures.faults, c.refuse.ensures.count)) c.begin.ensures.calls

pub returns-clause-step : goal.returns-clause-step
returns-clause-step g c =
    made_steps (PutOf c.args.key.now c.args.bytes.now) (g.D.Depot.shown c.args.self.now.depot) (g.D.Depot.shown c.begin.new.self.depot) (g.D.Depot.shown c.put-answer.new.self) c.args.self.now.late c.begin.new.self.late
    c.args.self.now.faults c.settle.new.faults c.args.self.now.calls c.begin.new.self.calls c.begin.ensures.landed c.put-answer.ensures.step (omega (arith, c.begin.ensures.faults, c.settle.ensures.count)) c.begin.ensures.calls

pub returns-clause-refused : goal.returns-clause-refused
returns-clause-refused g c =
    rw c.settle.ensures.same
    (refused_lands (g.D.Depot.shown c.args.self.now.depot) (g.D.Depot.shown c.begin.new.self.depot) (g.D.Depot.shown c.put-answer.new.self) c.args.self.now.late c.begin.new.self.late
    c.args.self.now.faults c.settle.new.faults c.args.self.now.calls c.begin.new.self.calls c.put-answer.result c.begin.ensures.landed c.put-answer.ensures.refused)

pub returns-clause-late_unless_failed : goal.returns-clause-late_unless_failed
returns-clause-late_unless_failed g c =
    rw c.settle.ensures.same
    (adds_only (OrLate (PutOf c.args.key.now c.args.bytes.now) (g.D.Depot.shown c.begin.new.self.depot).late) (g.D.Depot.shown c.args.self.now.depot) (g.D.Depot.shown c.begin.new.self.depot) (g.D.Depot.shown c.put-answer.new.self) c.args.self.now.late c.begin.new.self.late
    c.put-answer.result c.begin.ensures.landed c.put-answer.ensures.step.lands c.put-answer.ensures.late_unless_failed)

pub returns-then-begin-clause-fails : goal.returns-then-begin-clause-fails
returns-then-begin-clause-fails g c = record {
  spanned = λ is. c.refuse.ensures.answer;
  others = λ free is. absurd (free (c.begin.ensures.spanned c.if-begin.true));
}

pub returns-clause-fails : goal.returns-clause-fails
returns-clause-fails g c =
    rw c.settle.ensures.same
    (made_fails c.args.self.now.span c.args.self.now.made (g.D.Depot.shown c.args.self.now.depot).faults (g.D.Depot.shown c.begin.new.self.depot) (g.D.Depot.shown c.put-answer.new.self)
    c.put-answer.result (c.begin.ensures.free c.if-begin.false) c.begin.ensures.count c.put-answer.ensures.cause)

pub returns-then-begin-clause-kept : goal.returns-then-begin-clause-kept
returns-then-begin-clause-kept g c = rw (← c.begin.ensures.waits) (rw (← c.begin.ensures.span) c.keep.ensures)

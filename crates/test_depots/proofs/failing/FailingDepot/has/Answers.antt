use Rattle.std.proofs.Common.{arith}
use Rattle.cu_store.specs.Steps.{NoChange}
use Rattle.test_depots.proofs.OwnLate.{made_fails, kept_steps, made_steps}
use Rattle.test_depots.proofs.failing.FailingDepot.has.Goals as goal

pub returns-then-begin-clause-step : goal.returns-then-begin-clause-step
returns-then-begin-clause-step g c =
    kept_steps NoChange (g.D.Depot.shown c.args.self.now.depot) (g.D.Depot.shown c.begin.new.self.depot) c.args.self.now.late c.begin.new.self.late
    c.args.self.now.faults c.refuse.new.faults c.args.self.now.calls c.begin.new.self.calls c.begin.ensures.landed (omega (arith, c.begin.ensures.faults, c.refuse.ensures.count)) c.begin.ensures.calls

pub returns-clause-step : goal.returns-clause-step
returns-clause-step g c =
    made_steps NoChange (g.D.Depot.shown c.args.self.now.depot) (g.D.Depot.shown c.begin.new.self.depot) (g.D.Depot.shown c.has-answer.new.self) c.args.self.now.late c.begin.new.self.late
    c.args.self.now.faults c.settle.new.faults c.args.self.now.calls c.begin.new.self.calls c.begin.ensures.landed c.has-answer.ensures.step (omega (arith, c.begin.ensures.faults, c.settle.ensures.count)) c.begin.ensures.calls

pub returns-then-begin-clause-fails : goal.returns-then-begin-clause-fails
returns-then-begin-clause-fails g c = record {
  spanned = λ is. c.refuse.ensures.answer;
  others = λ free is. absurd (free (c.begin.ensures.spanned c.if-begin.true));
}

pub returns-clause-fails : goal.returns-clause-fails
returns-clause-fails g c =
    rw c.settle.ensures.same
    (made_fails c.args.self.now.span c.args.self.now.made (g.D.Depot.shown c.args.self.now.depot).faults (g.D.Depot.shown c.begin.new.self.depot) (g.D.Depot.shown c.has-answer.new.self)
    c.has-answer.result (c.begin.ensures.free c.if-begin.false) c.begin.ensures.count c.has-answer.ensures.cause)

use Rattle.cu_num.proofs.Promoted.{IsNone-refused, IfSome-in_range}
use Rattle.cu_num.proofs.promotion.promote.Goals as goal

pub returns-clause-refused : goal.returns-clause-refused
returns-clause-refused c = IsNone-refused c.args.a c.args.b _ c.promote_by_rule.ensures

pub returns-clause-first : goal.returns-clause-first
returns-clause-first c = (IfSome-in_range c.args.a c.args.b _ c.promote_by_rule.ensures).0

pub returns-clause-second : goal.returns-clause-second
returns-clause-second c = (IfSome-in_range c.args.a c.args.b _ c.promote_by_rule.ensures).1

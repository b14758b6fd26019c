use Rattle.std.proofs.Common.{inr}
use Rattle.cu_kern.proofs.arguments.source_of.Goals as goal

pub returns-in-Some : goal.returns-in-Some
returns-in-Some c = inr (c.in-Some.ensures.before, c.in-Some.ensures.converts, c.in-Some.ensures.other)

use Rattle.std.proofs.Common.{rules}
use Rattle.cu_check.specs.Check.{equal_line}
use Rattle.cu_check.proofs.report.equal_text.Goals as goal

pub returns : goal.returns
unfolding equal_line
returns c = search rules

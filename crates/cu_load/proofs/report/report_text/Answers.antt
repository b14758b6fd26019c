use Rattle.std.proofs.Common.{rules}
use Rattle.cu_load.specs.Load.{load_line}
use Rattle.cu_load.proofs.report.report_text.Goals as goal

pub returns : goal.returns
unfolding load_line
returns c = search rules

use Rattle.cu_along.proofs.LevelSums.{carry_before, scan_all, scan_single}
use Rattle.cu_along.proofs.Lines.{group_on_line}
use Rattle.cu_along.proofs.laws.scan_law.Goals as goal

pub returns-clause-carries : goal.returns-clause-carries
returns-clause-carries c = carry_before

pub returns-clause-chunks : goal.returns-clause-chunks
returns-clause-chunks c = scan_all

pub returns-clause-single : goal.returns-clause-single
returns-clause-single c = scan_single

pub returns-clause-groups : goal.returns-clause-groups
returns-clause-groups c = group_on_line

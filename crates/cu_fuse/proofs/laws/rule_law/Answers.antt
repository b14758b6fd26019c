use Rattle.cu_fuse.proofs.Rules.{rule_met, rule_of}
use Rattle.cu_fuse.proofs.laws.rule_law.Goals as goal

pub returns : goal.returns
returns c = λ s maker reader behind a. (rule_of s maker reader behind a, rule_met s maker reader behind a)

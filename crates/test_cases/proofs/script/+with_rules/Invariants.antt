use Rattle.std.proofs.Common.{length}
use Rattle.test_cases.proofs.script.+with_rules.Given as goal

abbrev pub decreases-with_rules : goal.decreases-with_rules
decreases-with_rules l = length l.rules.now

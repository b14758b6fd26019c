use Rattle.std.proofs.Common.{arith}
use Rattle.cu_table.specs.Machine.{opening}
use Rattle.cu_table.proofs.Keeping.{opening_kept}
use Rattle.cu_table.proofs.Counting.{count_run, starts_are}
use Rattle.cu_table.proofs.Whole.{starts_least, starts_most, none_undone, opening_undone, starts_whole}
use Rattle.cu_table.proofs.laws.count_law.Goals as goal

pub returns-clause-starts : goal.returns-clause-starts
returns-clause-starts c = λ s done history m replays. let a = (count_run s (opening done) history m (opening_kept s.plan s.retries done replays.0) replays.1).0 in omega (arith, a)

pub returns-clause-done : goal.returns-clause-done
returns-clause-done c = λ s done history m replays. (count_run s (opening done) history m (opening_kept s.plan s.retries done replays.0) replays.1).1

pub returns-clause-alone : goal.returns-clause-alone
returns-clause-alone c = λ s done history m replays off going. starts_are s done history m replays.0 off replays.1 going

pub returns-clause-least : goal.returns-clause-least
returns-clause-least c = starts_least

pub returns-clause-most : goal.returns-clause-most
returns-clause-most c = starts_most

pub returns-clause-none : goal.returns-clause-none
returns-clause-none c = none_undone

pub returns-clause-whole : goal.returns-clause-whole
returns-clause-whole c = starts_whole

pub returns-clause-fresh : goal.returns-clause-fresh
returns-clause-fresh c = opening_undone

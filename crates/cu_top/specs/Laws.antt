-- What each command of a plan is to the depot, whatever it answers. This project's own rule.
use Rattle.std.specs.Prelude.{◌⊎◌}
use Rattle.cu_work.specs.Commands.{IsCommand}
use Rattle.cu_top.specs.Prepare.{HasNoOwnInput}
use Rattle.cu_top.specs.Run.{RunCase, job_run, IsSpared, OfPlanned}

-- Nothing but late puts landed. Or the text's job has a plan, none of its nodes reads the output, and
-- it was a command of the plan, which puts values under the plan's keys or removes them.
abbrev pub IsOfPlan : RunCase → Type 0
IsOfPlan c = IsSpared c ⊎ OfPlanned c (λ job. HasNoOwnInput job.expr
    × IsCommand (job_run c job) c.old.depot c.new.depot)

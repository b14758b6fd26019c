-- The report of a run. This project's own line.
use Rattle.std.specs.Prelude.{ℕ, List, [], ◌∷◌, ◌++◌, length, codes}
use Rattle.std.specs.Fmt.{decimal}
use Rattle.cu_op.specs.PlanView.{PlanView}
use Rattle.cu_plan.specs.Listed.{listed}
use Rattle.cu_plan.specs.Text.{peak_of}
use Rattle.cu_top.specs.declared.report.RunCounts.{RunCounts}
use Rattle.cu_table.specs.Numbers.{task_count}

-- `ok ops=N tasks=T starts=S failed=F peak=P`, with a line feed: the operations whose results are stored
unfoldable pub report_line : PlanView → RunCounts → List ℕ
report_line p n = codes "ok ops=" ++ decimal (length (listed p)) ++ codes " tasks=" ++ decimal (task_count p) ++ codes " starts=" ++ decimal n.starts
    ++ codes " failed=" ++ decimal n.failures ++ codes " peak=" ++ decimal (peak_of p) ++ 10 ∷ []

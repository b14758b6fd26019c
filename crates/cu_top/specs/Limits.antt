-- How many calls of the depot a run and a run that goes on make at most: until their keys were asked
-- for, until their first task, and in all. This project's own rules.
use Rattle.std.specs.Prelude.{ℕ, ◌+◌, ◌*◌, List, length}
use Rattle.cu_store.specs.Steps.{Shown}
use Rattle.cu_op.specs.PlanView.{PlanView}
use Rattle.cu_work.specs.Drive.{IsTaskMost}
use Rattle.cu_work.specs.Starts.{most_calls}
use Rattle.cu_command.specs.Job.{names_said}
use Rattle.cu_command.specs.Seen.{WithinCalls}
use Rattle.cu_command.specs.declared.job.Job.{Job}
use Rattle.cu_lower.specs.declared.options.Options.{Options}
use Rattle.cu_top.specs.Driven.{run_options}
use Rattle.cu_top.specs.Prepare.{job_plan, asked_keys, keys_of}
use Rattle.cu_top.specs.declared.report.RunCounts.{RunCounts}

-- how many calls planning a text may make: for two keys of metadata of each input, so many for each
abbrev pub plan_calls : ℕ → List ℕ → ℕ
plan_calls tries text = 2 * tries * length (names_said text)

-- The calls of the tasks: for each chunk that one reads or writes as many as it is started at most.
-- That is once more than it is tried again, and once more by several workers with second copies.
abbrev pub task_calls : Options → Job → ℕ
task_calls o job = most_calls (run_options o) (job_plan o job)

-- the most calls of a command: until its keys were asked for, until its first task, and in all
pub record CallLimits : Type 0 where
  pub asked : ℕ
  pub begun : ℕ
  pub all : ℕ

-- The two keys of metadata of each input; the keys that are asked for; the two texts, and sharing the
-- keys: so many calls for each. And those of the tasks.
abbrev pub run_limits : Options → List ℕ → Job → CallLimits
run_limits o text job =
    let tries = o.retries + 1 in
    let asked = length (asked_keys o job) in
    record {
      asked = plan_calls tries text + asked * tries;
      begun = plan_calls tries text + (asked + 3) * tries;
      all = plan_calls tries text + (asked + 3) * tries + task_calls o job;
    }

-- The two keys of metadata of each input; the record, the output's metadata and each chunk, which are
-- asked for; the metadata again, and sharing the keys: so many calls for each. And those of the tasks.
abbrev pub resume_limits : Options → List ℕ → Job → CallLimits
resume_limits o text job =
    let tries = o.retries + 1 in
    let asked = length (keys_of o job) in
    record {
      asked = plan_calls tries text + tries;
      begun = plan_calls tries text + (asked + 2) * tries;
      all = plan_calls tries text + (asked + 2) * tries + task_calls o job;
    }

-- How many keys a run calls for, beside those of its tasks: the two keys of metadata of each input; the
-- keys that are asked for; the two texts, and sharing the keys.
abbrev pub run_keys : Options → List ℕ → Job → ℕ
run_keys o text job = plan_calls 1 text + length (asked_keys o job) + 3

-- The same of a run that goes on: the two keys of metadata of each input; the record, the output's
-- metadata and each chunk, which are asked for; the metadata again, and sharing the keys.
abbrev pub resume_keys : Options → List ℕ → Job → ℕ
resume_keys o text job = plan_calls 1 text + length (keys_of o job) + 2

-- Beside so many calls there are at most those of the starts that are counted: `m` for each, where no
-- task of the plan reads and writes more chunks.
abbrev pub WithinStarts : ℕ → PlanView → RunCounts → Shown → Shown → Type 0
WithinStarts begun p n old new =
    (m : ℕ) → IsTaskMost p m → WithinCalls (begun + n.starts * m) old new

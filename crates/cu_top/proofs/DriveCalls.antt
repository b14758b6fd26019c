-- The calls of storing a plan's texts and running its tasks, by what is answered.
use Rattle.std.proofs.Common.{◌≡◌, ℕ, ◌+◌, ◌*◌, ◌≤◌, List, Result, Ok, Err, subst, sym, arith}
use Rattle.std.specs.Prelude.{IfErr, IfOk, OnErr}
use Rattle.cu_store.specs.Steps.{Shown}
use Rattle.cu_op.specs.PlanView.{PlanView}
use Rattle.cu_command.specs.Seen.{WithinCalls}
use Rattle.cu_command.specs.declared.job.Job.{Job}
use Rattle.cu_command.specs.declared.status.Status.{Status}
use Rattle.cu_lower.specs.declared.options.Options.{Options}
use Rattle.cu_history.specs.History.{is_start, count_kind}
use Rattle.cu_work.specs.Calls.{missing_texts}
use Rattle.cu_work.specs.Drive.{IsTaskMost}
use Rattle.cu_work.specs.Starts.{most_calls}
use Rattle.cu_work.specs.declared.options.RunOptions.{RunOptions}
use Rattle.cu_work.specs.declared.outcome.Outcome.{Outcome}
use Rattle.cu_work.specs.declared.outcome.Outcome.TheVariants as ended
use Rattle.cu_work.specs.declared.outcome.RunEnd.{RunEnd}
use Rattle.cu_work.specs.declared.run.HeldTexts.{HeldTexts}
use Rattle.cu_work.specs.declared.run.RunFault.{RunFault}
use Rattle.cu_work.specs.declared.run.RunFault.TheVariants as text
use Rattle.cu_top.specs.Calls.{DriveWithin}
use Rattle.cu_top.specs.Driven.{drive_answer, outcome_answer, run_counts_in, run_options}
use Rattle.cu_top.specs.Limits.{task_calls, WithinStarts}
use Rattle.cu_top.specs.Prepare.{job_plan}
use Rattle.cu_top.specs.declared.report.RunCounts.{RunCounts}

-- what holds anyway holds of any answer
pub any_ok : {T E : Type 0} (r : Result T E) (P : Type 0) → P → IfOk r (λ x. P)
any_ok (Ok x) P fact = fact
any_ok (Err e) P fact = tt

-- what the run of the tasks says of its calls, where these texts are held
pub record RunMakes (h : RunOptions) (p : PlanView) (held : HeldTexts) (old new : Shown) (result : Result RunEnd RunFault) : Type 0 where
  pub begun : OnErr result (new.calls ≤ old.calls + (missing_texts held + 1) * (h.retries + 1))
  pub all : new.calls ≤ old.calls + (missing_texts held + 1) * (h.retries + 1) + most_calls h p
  pub starts : (m : ℕ) → IsTaskMost p m → IfOk result (λ end. new.calls ≤ old.calls + (missing_texts held + 1) * (h.retries + 1) + count_kind is_start end.table.history * m)

module _ (o : Options) (job : Job) (held : HeldTexts) (old new : Shown) where
  own_options : (h : RunOptions) (p : PlanView) (result : Result RunEnd RunFault) → h ≡ run_options o → p ≡ job_plan o job → RunMakes h p held old new result
      → RunMakes (run_options o) (job_plan o job) held old new result
  own_options h p result how plan makes =
      subst (λ (q : PlanView). RunMakes (run_options o) q held old new result) plan (subst (λ (x : RunOptions). RunMakes x p held old new result) how makes)

  -- both sums at once
  summed : (a b c n : ℕ) → n ≤ a + b + c → n ≤ a + (b + c)
  summed a b c n few = omega (arith, few)

  abbrev all_within : Type 0
  all_within = WithinCalls ((missing_texts held + 1) * (o.retries + 1) + task_calls o job) old new

  abbrev starts_within : RunCounts → Type 0
  starts_within counts = WithinStarts ((missing_texts held + 1) * (o.retries + 1)) (job_plan o job) counts old new

  all_of : (result : Result RunEnd RunFault) → RunMakes (run_options o) (job_plan o job) held old new result → all_within
  all_of result makes = summed old.calls ((missing_texts held + 1) * (o.retries + 1)) (task_calls o job) new.calls makes.all

  outcome_within : (p : PlanView) (outcome : Outcome) (counts : RunCounts) → all_within → IfErr (outcome_answer p outcome counts) (DriveWithin o job held old new)
  outcome_within p ended.Complete counts all = tt
  outcome_within p (ended.Broken op task) counts all = all
  outcome_within p (ended.BadChunk key got want) counts all = all
  outcome_within p ended.Lacked counts all = all

  answer_within : (of_record : List ℕ) (p : PlanView) (result : Result RunEnd RunFault) → RunMakes (run_options o) (job_plan o job) held old new result → IfErr (drive_answer of_record p result) (DriveWithin o job held old new)
  answer_within of_record p (Ok e) makes = outcome_within p e.outcome _ (all_of (Ok e) makes)
  answer_within of_record p (Err (text.TextFailed key)) makes = makes.begun
  answer_within of_record p (Err text.ShareFailed) makes = makes.begun
  answer_within of_record p (Err text.NoMemory) makes = all_of (Err text.NoMemory) makes

  pub drive_stopped : (h : RunOptions) (p : PlanView) (of_record : List ℕ) (result : Result RunEnd RunFault) (answer : Result RunCounts Status) → h ≡ run_options o → p ≡ job_plan o job
      → answer ≡ drive_answer of_record p result → RunMakes h p held old new result → IfErr answer (DriveWithin o job held old new)
  drive_stopped h p of_record result answer how plan is makes =
      subst (λ (r : Result RunCounts Status). IfErr r (DriveWithin o job held old new)) (sym is) (answer_within of_record p result (own_options h p result how plan makes))

  pub drive_all : (h : RunOptions) (p : PlanView) (result : Result RunEnd RunFault) → h ≡ run_options o → p ≡ job_plan o job → RunMakes h p held old new result → all_within
  drive_all h p result how plan makes = all_of result (own_options h p result how plan makes)

  -- the calls by the starts that are counted, where all tasks are done
  outcome_starts : (p : PlanView) (outcome : Outcome) (counts : RunCounts) → starts_within counts → IfOk (outcome_answer p outcome counts) starts_within
  outcome_starts p ended.Complete counts within = within
  outcome_starts p (ended.Broken op task) counts within = tt
  outcome_starts p (ended.BadChunk key got want) counts within = tt
  outcome_starts p ended.Lacked counts within = tt

  answer_starts : (of_record : List ℕ) (p : PlanView) (result : Result RunEnd RunFault) → RunMakes (run_options o) (job_plan o job) held old new result → IfOk (drive_answer of_record p result) starts_within
  answer_starts of_record p (Ok e) makes =
      outcome_starts p e.outcome (run_counts_in e.table.history)
      (λ m most. summed old.calls ((missing_texts held + 1) * (o.retries + 1)) (count_kind is_start e.table.history * m) new.calls (makes.starts m most))
  answer_starts of_record p (Err f) makes = tt

  pub drive_starts : (h : RunOptions) (p : PlanView) (of_record : List ℕ) (result : Result RunEnd RunFault) (answer : Result RunCounts Status) → h ≡ run_options o → p ≡ job_plan o job
      → answer ≡ drive_answer of_record p result → RunMakes h p held old new result → IfOk answer starts_within
  drive_starts h p of_record result answer how plan is makes =
      subst (λ (r : Result RunCounts Status). IfOk r starts_within) (sym is) (answer_starts of_record p result (own_options h p result how plan makes))

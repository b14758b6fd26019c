-- What each command answers, from the table of its answers.
use Rattle.std.proofs.Common.{ℕ, ◌+◌, Bool, List, subst}
use Rattle.cu_check.specs.Check.{CheckEnds}
use Rattle.cu_command.specs.declared.status.Status.{Status}
use Rattle.cu_lower.specs.declared.options.Options.{Options}
use Rattle.cu_top.proofs.CallLemmas.{refused_text, resume_refused_text, drop_refused_text, begin_refused_text, part_refused_text}
use Rattle.cu_top.proofs.BeginServed.{begin_served}
use Rattle.cu_top.proofs.Completeness.{served}
use Rattle.cu_top.proofs.DemoServed.{demo_served}
use Rattle.cu_top.proofs.FewFailures.{run_few, resume_few, drop_few, begin_few, part_few, plan_few, load_few, check_few, print_few, demo_few}
use Rattle.cu_top.proofs.PartServed.{part_caused, part_done}
use Rattle.cu_top.proofs.PlannedLemmas.{plan_refused_text, plan_served, plan_spared}
use Rattle.cu_top.proofs.ResumeServed.{caused, went_on}
use Rattle.cu_top.proofs.TurnedBack.{drop_back, part_back, part_lacking, resume_back}
use Rattle.cu_top.specs.Answered.{BeginAnswered, PartAnswered, RunAnswered, ResumeAnswered, DropAnswered, PlanAnswered, LoadAnswered, CheckAnswered, PrintAnswered, DemoAnswered}
use Rattle.cu_work.specs.declared.part.Part.{Part}
use Rattle.cu_top.specs.Begin.{BeginTells}
use Rattle.cu_top.specs.Parts.{PartTells}
use Rattle.cu_top.specs.Call.{RunTells}
use Rattle.cu_top.specs.Demo.{DemoTells, demo_between}
use Rattle.cu_top.specs.Drop.{DropTells}
use Rattle.cu_top.specs.Planned.{PlanTells}
use Rattle.cu_top.specs.Resume.{ResumeTells}
use Rattle.cu_top.specs.Run.{Scene, seen_in}
use Rattle.cu_top.specs.Told.{BeginTold, PartTold, RunTold, ResumeTold, DropTold, PlanTold, LoadTold, CheckTold, PrintTold, DemoTold}

-- ---- `run`

module _ {lack : Bool} {o : Options} {old new : Scene} {status : Status} (told : RunTold lack o old new status) where
  pub run_answers : RunAnswered lack o old new status
  run_answers = record {
    refused_text = λ text f left err. refused_text o old new text f left err lack status told.tells;
    answers = told.tells;
    prints = told.prints;
    complete = λ text entry left held premise still. served o text entry old new left held premise still.source still.sink still.depot lack status told.tells;
    calls = told.calls;
    few_failures = λ few. run_few old new o few lack status told.tells;
  }

-- ---- `resume`

module _ {lack : Bool} {o : Options} {old new : Scene} {status : Status} (told : ResumeTold lack o old new status) where
  pub resume_answers : ResumeAnswered lack o old new status
  resume_answers = record {
    refused_text = λ text f left err. resume_refused_text o old new text f left err lack status told.tells;
    answers = told.tells;
    prints = told.prints;
    unrecorded = λ text entry left held none. resume_back o old new text entry left held none lack status told.tells;
    causes = λ text entry left held premise. caused o text entry old new left held premise lack status told.tells;
    complete = λ text entry left held premise whole still. went_on o text entry old new left held premise whole still.source still.sink still.depot lack status told.tells;
    calls = told.calls;
    few_failures = λ few. resume_few old new o few lack status told.tells;
  }

-- ---- `drop`

module _ {o : Options} {old new : Scene} {status : Status} (told : DropTold o old new status) where
  pub drop_answers : DropAnswered o old new status
  drop_answers = record {
    refused_text = λ text f left err. drop_refused_text o old new text f left err status told.tells;
    answers = told.tells;
    prints = told.prints;
    unrecorded = λ text entry left held none. drop_back o old new text entry left held none status told.tells;
    calls = told.calls;
    few_failures = λ few. drop_few old new o few status told.tells;
  }

-- ---- `begin`

module _ {o : Options} {old new : Scene} {status : Status} (told : BeginTold o old new status) where
  pub begin_answers : BeginAnswered o old new status
  begin_answers = record {
    refused_text = λ text f left err. begin_refused_text o old new text f left err status told.tells;
    answers = told.tells;
    prints = told.prints;
    complete = λ text entry left held premise still. begin_served o text entry old new left held premise still status told.tells;
    calls = told.calls;
    few_failures = λ few. begin_few old new o few status told.tells;
  }

-- ---- `part`

module _ {o : Options} {q : Part} {old new : Scene} {status : Status} (told : PartTold o q old new status) where
  pub part_answers : PartAnswered o q old new status
  part_answers = record {
    refused_text = λ text f left err. part_refused_text o old new text f left err q status told.tells;
    answers = told.tells;
    prints = told.prints;
    unrecorded = λ text entry left held none. part_back o old new text entry left held none q status told.tells;
    lacking = λ text left none. part_lacking o old new text left q none status told.tells;
    causes = λ text entry left held premise. part_caused o q text entry old new left held premise status told.tells;
    complete = λ text entry left held premise ready still. part_done o q text entry old new left held premise ready still status told.tells;
    calls = told.calls;
    few_failures = λ few. part_few old new o few q status told.tells;
  }

-- ---- `plan`

module _ {o : Options} {old new : Scene} {status : Status} (told : PlanTold o old new status) where
  pub plan_answers : PlanAnswered o old new status
  plan_answers = record {
    refused_text = λ text f left err. plan_refused_text o old new text f status left err told.tells;
    answers = told.tells;
    spared = plan_spared o old new status told.tells;
    prints = told.prints;
    complete = λ text left premise still. plan_served o text old new left premise still.source still.sink still.depot status told.tells;
    calls = told.calls;
    few_failures = λ few. plan_few old new o few status told.tells;
  }

-- ---- `demo`

module _ {lack : Bool} {size : ℕ} {o : Options} {old new : Scene} {status : Status} (told : DemoTold lack size o old new status) where
  pub demo_answers : DemoAnswered lack size o old new status
  demo_answers = record {
    answers = told.tells;
    kept = told.kept;
    complete = λ entry held rest sink depot. demo_served (demo_between size o old new) entry held rest sink depot lack status told.tells;
    calls = told.calls;
    few_failures = λ few. demo_few old new o few lack size status told.tells;
  }

-- ---- `load`, `check` and `print`

module _ {retries : ℕ} {old new : Scene} {status : Status} (told : LoadTold retries old new status) where
  pub load_answers : LoadAnswered retries old new status
  load_answers = record { answers = told.tells; calls = told.calls; once = told.once; few_failures = λ few. load_few old new retries few status told.tells }

module _ {retries : ℕ} {old new : Scene} {status : Status} (told : CheckTold retries old new status) where
  pub check_answers : CheckAnswered retries old new status
  check_answers = record {
    answers = told.tells;
    calls = told.calls;
    once = told.once;
    few_failures = λ few. check_few old new retries few status told.tells;
  }

module _ {name : List ℕ} {retries : ℕ} {old new : Scene} {status : Status} (told : PrintTold name retries old new status) where
  pub print_answers : PrintAnswered name retries old new status
  print_answers = record { answers = told.tells; kept = told.kept; calls = told.calls; once = told.once; few_failures = λ few. print_few old new retries few name status told.tells }

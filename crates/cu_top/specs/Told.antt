-- What the call answers, by the command that the words give: the tables on which the lines of
-- `Answered` rest. This project's own rules.
use Rattle.std.specs.Prelude.{◌≡◌, ℕ, ◌+◌, Bool, List, Result, Ok, Err}
use Rattle.cu_check.specs.Check.{Checked, ChecksWithin, ChecksOnce}
use Rattle.cu_command.specs.declared.status.Status.{Status}
use Rattle.cu_command.specs.declared.status.Status.TheVariants.{BadWords}
use Rattle.cu_load.specs.Load.{Loaded, LoadsWithin, LoadsOnce}
use Rattle.cu_lower.specs.declared.options.Options.{Options}
use Rattle.cu_print.specs.Print.{Printed, PrintsWithin, PrintsOnce}
use Rattle.cu_work.specs.declared.part.Part.{Part}
use Rattle.cu_top.specs.Begin.{BeginTells, BeginsWithin}
use Rattle.cu_top.specs.Parts.{PartTells, PartsWithin}
use Rattle.cu_top.specs.Call.{DidNothing, IsWordsRefused, RunTells}
use Rattle.cu_top.specs.Calls.{RunsWithin, ResumesWithin, DropsWithin, DemosWithin}
use Rattle.cu_top.specs.Demo.{DemoTells, demo_case}
use Rattle.cu_top.specs.Drop.{DropTells}
use Rattle.cu_top.specs.Planned.{PlanTells, PlansWithin}
use Rattle.cu_top.specs.Resume.{ResumeTells}
use Rattle.cu_top.specs.Run.{Scene, PrintsOnly, seen_in}
use Rattle.cu_top.specs.Words.{Command, run, resume, drop, plan, load, check, print, demo, begin, part}

-- ---- what a command with these arguments answers, what is printed, what is left of the source, and how many calls are made

pub record RunTold (lack : Bool) (options : Options) (old new : Scene) (status : Status) : Type 0 where
  pub tells : RunTells lack options old new status
  pub prints : PrintsOnly status old.sink.told new.sink.told
  pub calls : RunsWithin options old new status

pub record ResumeTold (lack : Bool) (options : Options) (old new : Scene) (status : Status) : Type 0 where
  pub tells : ResumeTells lack options old new status
  pub prints : PrintsOnly status old.sink.told new.sink.told
  pub calls : ResumesWithin options old new status

pub record DropTold (options : Options) (old new : Scene) (status : Status) : Type 0 where
  pub tells : DropTells options old new status
  pub prints : PrintsOnly status old.sink.told new.sink.told
  pub calls : DropsWithin options old new status

pub record PlanTold (options : Options) (old new : Scene) (status : Status) : Type 0 where
  pub tells : PlanTells options old new status
  pub prints : PrintsOnly status old.sink.told new.sink.told
  pub calls : PlansWithin (options.retries + 1) old.source new.source old.depot new.depot

pub record BeginTold (options : Options) (old new : Scene) (status : Status) : Type 0 where
  pub tells : BeginTells options old new status
  pub prints : PrintsOnly status old.sink.told new.sink.told
  pub calls : BeginsWithin options old new status

pub record PartTold (options : Options) (tasks : Part) (old new : Scene) (status : Status) : Type 0 where
  pub tells : PartTells options tasks old new status
  pub prints : PrintsOnly status old.sink.told new.sink.told
  pub calls : PartsWithin options tasks old new status

pub record LoadTold (retries : ℕ) (old new : Scene) (status : Status) : Type 0 where
  pub tells : Loaded retries old.source new.source (seen_in old) (seen_in new) status
  pub calls : LoadsWithin retries old.source.told new.source.told old.depot new.depot
  pub once : LoadsOnce old.source.told new.source.told old.depot new.depot

pub record CheckTold (retries : ℕ) (old new : Scene) (status : Status) : Type 0 where
  pub tells : Checked retries old.source new.source (seen_in old) (seen_in new) status
  pub calls : ChecksWithin (retries + 1) old.source new.source old.depot new.depot
  pub once : ChecksOnce old.source new.source old.depot new.depot

pub record PrintTold (name : List ℕ) (retries : ℕ) (old new : Scene) (status : Status) : Type 0 where
  pub tells : Printed retries name (seen_in old) (seen_in new) status
  pub kept : new.source.told ≡ old.source.told
  pub calls : PrintsWithin (retries + 1) name old.depot new.depot
  pub once : PrintsOnce name old.depot new.depot

pub record DemoTold (lack : Bool) (size : ℕ) (options : Options) (old new : Scene) (status : Status) : Type 0 where
  pub tells : DemoTells lack (demo_case options size (seen_in old) (seen_in new)) status
  pub kept : new.source.told ≡ old.source.told
  pub calls : DemosWithin (demo_case options size (seen_in old) (seen_in new)) status

-- ---- any command

abbrev pub IsCommandTold : Bool → Command → Scene → Scene → Status → Type 0
IsCommandTold lack (run options) old new status = RunTold lack options old new status
IsCommandTold lack (resume options) old new status = ResumeTold lack options old new status
IsCommandTold lack (drop options) old new status = DropTold options old new status
IsCommandTold lack (plan options) old new status = PlanTold options old new status
IsCommandTold lack (load retries) old new status = LoadTold retries old new status
IsCommandTold lack (check retries) old new status = CheckTold retries old new status
IsCommandTold lack (print name retries) old new status = PrintTold name retries old new status
IsCommandTold lack (demo size options) old new status = DemoTold lack size options old new status
IsCommandTold lack (begin options) old new status = BeginTold options old new status
IsCommandTold lack (part options tasks) old new status = PartTold options tasks old new status

-- words that give a command, or are refused
abbrev pub AreTold : Bool → Result Command ℕ → Scene → Scene → Status → Type 0
AreTold lack (Ok command) old new status = IsCommandTold lack command old new status
AreTold lack (Err code) old new status = IsWordsRefused code status × DidNothing old new

-- What these words are answered; where the command is missing or unknown no memory is wanted. `lack` says that the depot's yards lack memory.
pub record CallTold (lack : Bool) (asked : Result Command ℕ) (old new : Scene) (status : Status) : Type 0 where
  pub is_so : AreTold lack asked old new status
  pub unknown : asked ≡ Err 1 → status ≡ BadWords 1

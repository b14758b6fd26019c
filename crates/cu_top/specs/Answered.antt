-- What the call `top` answers: a record for each command. Its table has a line for each answer, which
-- says what is so where this answer comes: `Ran`, `WasResumed`, `WasBegun`, `WasParted`, `Dropped`,
-- `Plans`, `DemoTells`, `Loaded`, `Checked` and `Printed`. An answer calls an operation by its number
-- among those whose results are stored, and so do the words of a part. This project's own rules.
use Rattle.std.specs.Prelude.{◌≡◌, ◌⊎◌, ℕ, ℤ, ◌+◌, Bool, List, Option, Some, Err}
use Rattle.cu_check.specs.Check.{Checked, ChecksOnce, ChecksWithin, IsFoundEqual, IsUnequal}
use Rattle.cu_check.specs.Check.{ReadsText}
use Rattle.cu_command.specs.Job.{StoodStill}
use Rattle.cu_command.specs.Seen.{stream}
use Rattle.cu_command.specs.declared.job.JobFault.TheVariants as fault
use Rattle.cu_command.specs.declared.status.Status.{Status}
use Rattle.cu_command.specs.declared.status.Status.TheVariants.{Done, BadExpr, BadType, OverMemory}
use Rattle.cu_command.specs.declared.status.Status.TheVariants.{OverLimit, BadMeta, NoArray, Exists}
use Rattle.cu_command.specs.declared.status.Status.TheVariants.{TaskFailed, ReadFault, WriteFault}
use Rattle.cu_command.specs.declared.status.Status.TheVariants.{BadChunk, OtherPlan, NoPlan}
use Rattle.cu_command.specs.declared.status.Status.TheVariants.{DepotFailed, Unequal, NoTasks, NotReady, NoMemory}
use Rattle.cu_load.specs.Load.{Loaded, LoadsOnce, LoadsWithin}
use Rattle.cu_lower.specs.declared.options.Options.{Options}
use Rattle.cu_print.specs.Print.{Printed, PrintsOnce, PrintsWithin}
use Rattle.cu_read.specs.Read.{expression_of}
use Rattle.cu_read.specs.declared.faults.ReadFault.{ReadFault as ExpressionFault}
use Rattle.cu_store.specs.Held.{Contents}
use Rattle.cu_store.specs.Steps.{Shown}
use Rattle.cu_work.specs.declared.part.Part.{Part}
use Rattle.cu_top.specs.Begin.{BeginTells, BeginsWithin, IsBeginFailed, IsBeginShort}
use Rattle.cu_top.specs.Begin.{IsBegunDone, IsBegunUnprinted}
use Rattle.cu_top.specs.Parts.{HasNoTasks, IsPartFailed, IsPartShort, IsPartedBad}
use Rattle.cu_top.specs.Parts.{IsPartedBroken, IsPartedDone, IsPartedUnreported, IsTooEarly}
use Rattle.cu_top.specs.Parts.{PartTells, PartsWithin}
use Rattle.cu_top.specs.Call.{AreSpared, CameToRun, IsExpressionRefused, IsReadFault, IsShort}
use Rattle.cu_top.specs.Call.{RunTells}
use Rattle.cu_top.specs.Calls.{RunsWithin, ResumesWithin, DropsWithin, DemosWithin}
use Rattle.cu_top.specs.Complete.{FewFailed, HasNoSuchTasks, HasPartReady, HasWholeInputs}
use Rattle.cu_top.specs.Complete.{IsBeginnable, IsNotGivenUp, IsPartCause, IsPlannable}
use Rattle.cu_top.specs.Complete.{IsResumable, IsResumeCause, IsServable, IsServed}
use Rattle.cu_top.specs.Complete.{IsTurnedBack, IsUnrecorded, RanNoPart}
use Rattle.cu_top.specs.Demo.{DemoTells, IsDemoAsked, IsDemoAtRest, IsDemoBadChunk}
use Rattle.cu_top.specs.Demo.{IsDemoDone, IsDemoKeyFailed, IsDemoShort, IsDemoTaskFailed}
use Rattle.cu_top.specs.Demo.{IsDemoUnplanned, IsDemoUnprinted, demo_between}
use Rattle.cu_top.specs.Drop.{DropTells, IsDropFailed, IsDropShort, IsDropped}
use Rattle.cu_top.specs.Drop.{IsDroppedUnreported}
use Rattle.cu_top.specs.Held.{HasNoRecord, IsOtherPlan}
use Rattle.cu_top.specs.Planned.{IsPrinted, IsUnprinted, PlansWithin, PlanTells}
use Rattle.cu_top.specs.Resume.{HadNoRecord, IsResumeFailed, IsResumeShort, IsResumedBad}
use Rattle.cu_top.specs.Resume.{IsResumedBroken, IsResumedDone, IsResumedUnreported, ResumeTells}
use Rattle.cu_top.specs.Run.{Scene, scene, IsRunDone, IsUnreported, IsTaskFailed, IsBadInput}
use Rattle.cu_top.specs.Run.{IsDepotFailed, HasNoJob, HasNoPlan, IsBlocked, IsMissing, IsRefused}
use Rattle.cu_top.specs.Run.{IsBadExpr, IsBadType, PrintsOnly, seen_in}

-- what is seen at one moment of the source, with its count of faults, of the sink, with its, and of
-- the depot
abbrev pub moment : Option (List ℕ) → ℕ → Option (List ℕ) → ℕ → Shown → Scene
moment left read_faults written write_faults shown =
    scene (stream left read_faults) (stream written write_faults) shown

-- no count of faults has risen
pub record NothingFailed (old new : Scene) : Type 0 where
  pub source : StoodStill old.source.faults new.source.faults
  pub sink : StoodStill old.sink.faults new.sink.faults
  pub depot : StoodStill old.depot.faults new.depot.faults

-- A text that is no expression is answered so, with its first fault, unless it wasn't read or memory
-- was wanted.
abbrev pub RefusesText : Scene → Status → Type 0
RefusesText old status = (text : List ℕ) (f : ExpressionFault) → old.source.told ≡ Some text
    → expression_of text ≡ Err f → IsExpressionRefused f status

-- ---- `run`

pub record RunAnswered (lack : Bool) (o : Options) (old new : Scene) (status : Status)
    : Type 0 where
  -- its table: what is so where this answer comes; no other comes
  pub answers : RunTells lack o old new status
  -- a text that is no expression is refused
  pub refused_text : RefusesText old status
  -- nothing but the report is printed
  pub prints : PrintsOnly status old.sink.told new.sink.told
  -- where all is accepted and at rest and nothing fails, it is served: Done, or memory was wanted
  pub complete : (text : List ℕ) (entry : Contents) → old.source.told ≡ Some text
      → old.depot.held ≡ Some entry → IsServable o text entry old.depot → NothingFailed old new
      → IsServed status
  -- how many calls of the depot it makes at most
  pub calls : RunsWithin o old new status
  -- where few calls fail, neither a task nor a key is given up
  pub few_failures : FewFailed o.retries old.depot new.depot → IsNotGivenUp status

-- ---- `resume`

pub record ResumeAnswered (lack : Bool) (o : Options) (old new : Scene) (status : Status)
    : Type 0 where
  -- its table: what is so where this answer comes; no other comes
  pub answers : ResumeTells lack o old new status
  -- a text that is no expression is refused
  pub refused_text : RefusesText old status
  -- nothing but the report is printed
  pub prints : PrintsOnly status old.sink.told new.sink.told
  -- where the record of the text's job isn't held, nor a put of it late, nothing behind it comes
  pub unrecorded : (text : List ℕ) (entry : Contents) → old.source.told ≡ Some text
      → old.depot.held ≡ Some entry → IsUnrecorded o text entry old.depot → IsTurnedBack status
  -- from its record and what its plan left, it fails by few causes alone
  pub causes : (text : List ℕ) (entry : Contents) → old.source.told ≡ Some text
      → old.depot.held ≡ Some entry → IsResumable o text entry old.depot → IsResumeCause status
  -- where, besides, each chunk of an input is absent or whole and nothing fails, it is served
  pub complete : (text : List ℕ) (entry : Contents) → old.source.told ≡ Some text
      → old.depot.held ≡ Some entry → IsResumable o text entry old.depot
      → HasWholeInputs o text entry old.depot → NothingFailed old new → IsServed status
  -- how many calls of the depot it makes at most
  pub calls : ResumesWithin o old new status
  -- where few calls fail, neither a task nor a key is given up
  pub few_failures : FewFailed o.retries old.depot new.depot → IsNotGivenUp status

-- ---- `begin`

pub record BeginAnswered (o : Options) (old new : Scene) (status : Status) : Type 0 where
  -- its table: what is so where this answer comes; no other comes
  pub answers : BeginTells o old new status
  -- a text that is no expression is refused
  pub refused_text : RefusesText old status
  -- nothing but the plan is printed
  pub prints : PrintsOnly status old.sink.told new.sink.told
  -- where all is accepted, the way is free and nothing fails, it is served: Done, or memory was
  -- wanted
  pub complete : (text : List ℕ) (entry : Contents) → old.source.told ≡ Some text
      → old.depot.held ≡ Some entry → IsBeginnable o text entry old.depot → NothingFailed old new
      → IsServed status
  -- how many calls of the depot it makes at most
  pub calls : BeginsWithin o old new status
  -- where few calls fail, no key is given up
  pub few_failures : FewFailed o.retries old.depot new.depot → IsNotGivenUp status

-- ---- `part`

pub record PartAnswered (o : Options) (q : Part) (old new : Scene) (status : Status) : Type 0 where
  -- its table: what is so where this answer comes; no other comes
  pub answers : PartTells o q old new status
  -- a text that is no expression is refused
  pub refused_text : RefusesText old status
  -- nothing but the report is printed
  pub prints : PrintsOnly status old.sink.told new.sink.told
  -- where the record of the text's job isn't held, nor a put of it late, nothing behind it comes
  pub unrecorded : (text : List ℕ) (entry : Contents) → old.source.told ≡ Some text
      → old.depot.held ≡ Some entry → IsUnrecorded o text entry old.depot → IsTurnedBack status
  -- where the plan of the text's job hasn't these tasks, none of them is run
  pub lacking : (text : List ℕ) → old.source.told ≡ Some text → HasNoSuchTasks o q text old.depot
      → RanNoPart status
  -- from its record and what its plan left, it fails by few causes alone: of the answers that don't
  -- come of the source, the depot or memory, 20 comes exactly where the plan hasn't these tasks
  pub causes : (text : List ℕ) (entry : Contents) → old.source.told ≡ Some text
      → old.depot.held ≡ Some entry → IsResumable o text entry old.depot
      → IsPartCause o q text old.depot status
  -- where, besides, the plan has these tasks, each of them lacks no chunk or no made input, each
  -- chunk of an input that one reads is absent or whole, and nothing fails, it is served
  pub complete : (text : List ℕ) (entry : Contents) → old.source.told ≡ Some text
      → old.depot.held ≡ Some entry → IsResumable o text entry old.depot
      → HasPartReady o q text entry old.depot → NothingFailed old new → IsServed status
  -- how many calls of the depot it makes at most
  pub calls : PartsWithin o q old new status
  -- where few calls fail, neither a task nor a key is given up
  pub few_failures : FewFailed o.retries old.depot new.depot → IsNotGivenUp status

-- ---- `drop`

pub record DropAnswered (o : Options) (old new : Scene) (status : Status) : Type 0 where
  -- its table: what is so where this answer comes; no other comes
  pub answers : DropTells o old new status
  -- a text that is no expression is refused
  pub refused_text : RefusesText old status
  -- nothing but the report is printed
  pub prints : PrintsOnly status old.sink.told new.sink.told
  -- where the record of the text's job isn't held, nor a put of it late, nothing behind it comes
  pub unrecorded : (text : List ℕ) (entry : Contents) → old.source.told ≡ Some text
      → old.depot.held ≡ Some entry → IsUnrecorded o text entry old.depot → IsTurnedBack status
  -- how many calls of the depot it makes at most
  pub calls : DropsWithin o old new status
  -- where few calls fail, no key is given up
  pub few_failures : FewFailed o.retries old.depot new.depot → IsNotGivenUp status

-- ---- `plan`

pub record PlanAnswered (o : Options) (old new : Scene) (status : Status) : Type 0 where
  -- its table: what is so where this answer comes; no other comes
  pub answers : PlanTells o old new status
  -- a text that is no expression is refused
  pub refused_text : RefusesText old status
  -- nothing is stored
  pub spared : AreSpared old new
  -- nothing but the plan is printed
  pub prints : PrintsOnly status old.sink.told new.sink.told
  -- where all is accepted and nothing fails, it is served
  pub complete : (text : List ℕ) → old.source.told ≡ Some text → IsPlannable o text old.depot
      → NothingFailed old new → IsServed status
  -- how many calls of the depot it makes at most
  pub calls : PlansWithin (o.retries + 1) old.source new.source old.depot new.depot
  -- where few calls fail, no key is given up
  pub few_failures : FewFailed o.retries old.depot new.depot → IsNotGivenUp status

-- ---- `demo`

pub record DemoAnswered (lack : Bool) (size : ℕ) (o : Options) (old new : Scene) (status : Status)
    : Type 0 where
  -- its table: what is so where this answer comes; no other comes
  pub answers : DemoTells lack (demo_between size o old new) status
  -- nothing is read of the source
  pub kept : new.source.told ≡ old.source.told
  -- where its plan is accepted, nothing is in the way and nothing fails, it is served
  pub complete : (entry : Contents) → old.depot.held ≡ Some entry
      → IsDemoAtRest o size entry old.depot → StoodStill old.sink.faults new.sink.faults
      → StoodStill old.depot.faults new.depot.faults → IsServed status
  -- how many calls of the depot it makes at most
  pub calls : DemosWithin (demo_between size o old new) status
  -- where few calls fail, neither a task nor a key is given up
  pub few_failures : FewFailed o.retries old.depot new.depot → IsNotGivenUp status

-- ---- `load`, `check` and `print`, whose tables stand in crates of their own, a line an answer

pub record LoadAnswered (retries : ℕ) (old new : Scene) (status : Status) : Type 0 where
  -- its table: what is so where this answer comes; no other comes
  pub answers : Loaded retries old.source new.source (seen_in old) (seen_in new) status
  -- how many calls of the depot it makes at most
  pub calls : LoadsWithin retries old.source.told new.source.told old.depot new.depot
  -- one call for each key at most, and beyond these no more than failed
  pub once : LoadsOnce old.source.told new.source.told old.depot new.depot
  -- where few calls fail, no key is given up
  pub few_failures : FewFailed retries old.depot new.depot → IsNotGivenUp status

pub record CheckAnswered (retries : ℕ) (old new : Scene) (status : Status) : Type 0 where
  -- its table: what is so where this answer comes; no other comes
  pub answers : Checked retries old.source new.source (seen_in old) (seen_in new) status
  -- how many calls of the depot it makes at most
  pub calls : ChecksWithin (retries + 1) old.source new.source old.depot new.depot
  -- one call for each key at most, and beyond these no more than failed
  pub once : ChecksOnce old.source new.source old.depot new.depot
  -- where few calls fail, no key is given up
  pub few_failures : FewFailed retries old.depot new.depot → IsNotGivenUp status

pub record PrintAnswered (name : List ℕ) (retries : ℕ) (old new : Scene) (status : Status)
    : Type 0 where
  -- its table: what is so where this answer comes; no other comes
  pub answers : Printed retries name (seen_in old) (seen_in new) status
  -- nothing is read of the source
  pub kept : new.source.told ≡ old.source.told
  -- how many calls of the depot it makes at most
  pub calls : PrintsWithin (retries + 1) name old.depot new.depot
  -- one call for each key at most, and beyond these no more than failed
  pub once : PrintsOnce name old.depot new.depot
  -- where few calls fail, no key is given up
  pub few_failures : FewFailed retries old.depot new.depot → IsNotGivenUp status

-- Where the record of a text's job isn't held, nor a put of it late, nothing behind it is answered; nor where
-- the plan hasn't the tasks of a part.
use Rattle.std.proofs.Common.{◌≡◌, Bool, List, ℕ, Option, Some, sym, ◌∙◌, subst}
use Rattle.cu_command.specs.Job.{IsJob}
use Rattle.cu_command.specs.Streams.{ReadsAll}
use Rattle.cu_command.specs.declared.job.Job.{Job}
use Rattle.cu_command.specs.declared.status.Status.{Status}
use Rattle.cu_command.specs.declared.status.Status.TheVariants.{Done, TaskFailed, WriteFault, BadChunk, NoTasks, NotReady}
use Rattle.cu_lower.specs.declared.options.Options.{Options}
use Rattle.cu_store.specs.Held.{Contents}
use Rattle.cu_top.proofs.CallLemmas.{same_expression, same_text}
use Rattle.cu_work.specs.declared.part.Part.{Part}
use Rattle.cu_top.specs.Complete.{HasNoSuchTasks, IsTurnedBack, IsUnrecorded, RanNoPart}
use Rattle.cu_top.specs.Drop.{DropTells}
use Rattle.cu_top.specs.Held.{IsReopened}
use Rattle.cu_top.specs.Parts.{IsPartRun, PartTells, inner_part}
use Rattle.cu_top.specs.Prepare.{job_plan}
use Rattle.cu_top.specs.Resume.{ResumeTells}
use Rattle.cu_top.specs.Run.{Scene, case}

module _ (o : Options) (old new : Scene) (left : List ℕ) (told_left : old.source.told ≡ Some left) where
  -- a job of what was read is one of the text that the source had
  pub own_job : (text : List ℕ) (job : Job) → ReadsAll old.source.told new.source.told text → IsReopened (case o text old new) job → IsJob old.depot left job
  own_job text job read back =
      let read_left = subst (λ (t : Option (List ℕ)). ReadsAll t new.source.told text) told_left read in
      let same : text ≡ left = same_text left text new.source.told job.expr read_left (sym (same_expression left text new.source.told read_left) ∙ back.accepted.said) in
      subst (λ (t : List ℕ). IsJob old.depot t job) same back.accepted

-- ---- a plan that hasn't the tasks

module _ (o : Options) (old new : Scene) (left : List ℕ) (told_left : old.source.told ≡ Some left) (q : Part) (none : HasNoSuchTasks o q left old.depot) where
  no_part : (text : List ℕ) (job : Job) → ReadsAll old.source.told new.source.told text → IsPartRun (case o text old new) job (inner_part (job_plan o job) q) → ⊥
  no_part text job read parted = none job (own_job o old new left told_left text job read parted.reopened) parted.part

  pub part_lacking : (status : Status) → PartTells o q old new status → RanNoPart status
  part_lacking Done (text, read, (job, parted, rest)) = no_part text job read parted
  part_lacking WriteFault (text, read, (rose, (job, parted, rest))) = no_part text job read parted
  part_lacking (NotReady op task) (text, read, (spared, (job, parted, rest))) = no_part text job read parted
  part_lacking (TaskFailed op task) (text, read, (job, parted, rest)) = no_part text job read parted
  part_lacking (BadChunk key got want) (text, read, (job, parted, rest)) = no_part text job read parted
  part_lacking status tells = tt

-- ---- a record that isn't there

module _ (o : Options) (old new : Scene) (left : List ℕ) (entry : Contents) (told_left : old.source.told ≡ Some left) (told : old.depot.held ≡ Some entry)
    (none : IsUnrecorded o left entry old.depot) where
  no_run : (text : List ℕ) (job : Job) → ReadsAll old.source.told new.source.told text → IsReopened (case o text old new) job → ⊥
  no_run text job read back = none job (own_job o old new left told_left text job read back) (back.had_record entry told)

  pub resume_back : (lack : Bool) (status : Status) → ResumeTells lack o old new status → IsTurnedBack status
  resume_back lack Done (text, read, (job, resumed, rest)) = no_run text job read resumed.reopened
  resume_back lack WriteFault (text, read, (rose, (job, resumed, rest))) = no_run text job read resumed.reopened
  resume_back lack (TaskFailed op task) (text, read, (rose, (job, resumed, rest))) = no_run text job read resumed.reopened
  resume_back lack (BadChunk key got want) (text, read, (job, resumed, rest)) = no_run text job read resumed.reopened
  resume_back lack (NoTasks op tasks) (text, read, why) = why
  resume_back lack (NotReady op task) (text, read, why) = why
  resume_back lack status tells = tt

  pub drop_back : (status : Status) → DropTells o old new status → IsTurnedBack status
  drop_back Done (text, read, (job, dropping, rest)) = no_run text job read dropping.reopened
  drop_back WriteFault (text, read, (rose, (job, dropping, rest))) = no_run text job read dropping.reopened
  drop_back (TaskFailed op task) (text, read, why) = why
  drop_back (BadChunk key got want) (text, read, why) = why
  drop_back (NoTasks op tasks) (text, read, why) = why
  drop_back (NotReady op task) (text, read, why) = why
  drop_back status tells = tt

  pub part_back : (q : Part) (status : Status) → PartTells o q old new status → IsTurnedBack status
  part_back q Done (text, read, (job, parted, rest)) = no_run text job read parted.reopened
  part_back q WriteFault (text, read, (rose, (job, parted, rest))) = no_run text job read parted.reopened
  part_back q (NoTasks op tasks) (text, read, (spared, (job, back, same, count, absent))) = no_run text job read back
  part_back q (NotReady op task) (text, read, (spared, (job, parted, rest))) = no_run text job read parted.reopened
  part_back q (TaskFailed op task) (text, read, (job, parted, rest)) = no_run text job read parted.reopened
  part_back q (BadChunk key got want) (text, read, (job, parted, rest)) = no_run text job read parted.reopened
  part_back q status tells = tt

-- What the command `resume` answers, and what it leaves. This project's own rules.
use Rattle.std.specs.Prelude.{◌≡◌, ◌⊎◌, Bool, false, IsTrue, ℕ, ◌+◌, ◌*◌, ◌<◌, ◌≤◌, List, Contains, length, Some, Result, Ok, Err}
use Rattle.cu_store.specs.Faults.{Rose}
use Rattle.cu_store.specs.Held.{Contents, IsAmong}
use Rattle.cu_store.specs.Steps.{Shown, Changes, PutOf}
use Rattle.cu_zarr.specs.Key.{metadata_key_of}
use Rattle.cu_name.specs.Keys.{record_key_of}
use Rattle.cu_op.specs.Cells.{tasks_of}
use Rattle.cu_op.specs.Schedule.{op_of, key_of}
use Rattle.cu_op.specs.Walks.{written_chunks}
use Rattle.cu_op.specs.Within.{listed_number}
use Rattle.cu_op.specs.declared.cells.Cell.{Cell}
use Rattle.cu_history.specs.History.{is_start, count_of_task}
use Rattle.cu_history.specs.declared.entry.Entry.{Entry}
use Rattle.cu_run_law.specs.Left.{IsLeft, RunChange}
use Rattle.cu_run_law.specs.Pieces.{Text, HoldsPiece}
use Rattle.cu_table.specs.Machine.{Machine, AllDone, opening}
use Rattle.cu_table.specs.Numbers.{IsTask, task_count}
use Rattle.cu_table.specs.Table.{undone_among}
use Rattle.cu_work.specs.Drive.{IsBadChunk, IsInputKey}
use Rattle.cu_work.specs.Run.{HoldsTexts}
use Rattle.cu_work.specs.Search.{NamesStored, NamesTask}
use Rattle.cu_work.specs.Starts.{WithinHistory}
use Rattle.cu_work.specs.World.{IsFound, IsStored}
use Rattle.cu_work.specs.declared.find.FindFault.{FindFault}
use Rattle.cu_work.specs.declared.find.FindFault.TheVariants as find
use Rattle.cu_work.specs.declared.run.HeldTexts.{HeldTexts}
use Rattle.cu_work.specs.declared.run.HeldTexts.TheVariants.{Neither}
use Rattle.cu_command.specs.Seen.{Stepped}
use Rattle.cu_command.specs.declared.job.Job.{Job}
use Rattle.cu_command.specs.declared.status.Status.{Status}
use Rattle.cu_command.specs.declared.status.Status.TheVariants.{Done, TaskFailed, ReadFault, WriteFault, BadChunk, DepotFailed, NoPlan, NoMemory}
use Rattle.cu_lower.specs.declared.options.Options.{Options}
use Rattle.cu_top.specs.Absent.{absent_tasks}
use Rattle.cu_top.specs.Call.{AreSpared, CameToRun, IsReadFault}
use Rattle.cu_top.specs.Driven.{run_counts_in}
use Rattle.cu_top.specs.Held.{IsNotReopened, IsReopened, IsUnasked, WasUnrecorded, WhereEntryTold}
use Rattle.cu_top.specs.Limits.{WithinStarts, resume_keys, resume_limits}
use Rattle.cu_top.specs.Prepare.{keys_of, out_metadata}
use Rattle.cu_top.specs.Report.{report_line}
use Rattle.cu_top.specs.Run.{Scene, RunCase, plan_in, job_run, HasBroken, HoldsAll, IsHistory, IsSpared, OfPlanned, WroteTo}
use Rattle.cu_top.specs.declared.report.RunCounts.{RunCounts}

-- The plan was found again, and its run goes on. Nothing but values was put under its keys. Where
-- the contents are told, the store was left so by the plan when the command began: each key of it is
-- absent or holds its one value, then and now, and now the record is held.
pub record IsResumed (c : RunCase) (job : Job) : Type 0 where
  pub reopened : IsReopened c job
  pub opens : WhereEntryTold c job (λ env. IsLeft (job_run c job) env c.old.depot)
  pub step : Stepped (RunChange (job_run c job) c.old.depot) c.old.depot c.new.depot
  pub left : WhereEntryTold c job (λ env. IsLeft (job_run c job) env c.new.depot)
  pub recorded : WhereEntryTold c job (λ env. HoldsPiece (job_run c job) env (Text 0) c.new.depot)

-- such a run, with a fact of its job
abbrev pub Resumed : RunCase → (Job → Type 0) → Type 0
Resumed c fact = (job : Job) × IsResumed c job × fact job

-- both texts are held
abbrev pub HoldsTextsNow : RunCase → Job → Type 0
HoldsTextsNow c job = WhereEntryTold c job (λ env. HoldsTexts (job_run c job) env c.new.depot)

-- the output's metadata is put
abbrev pub MetadataPut : RunCase → Job → Changes
MetadataPut c job = PutOf (metadata_key_of job.expr.store_as) (out_metadata job)

-- ---- the history

-- the key was held when the command began, or a put of it was late
abbrev pub WasHeldOrLate : RunCase → Contents → List ℕ → Type 0
WasHeldOrLate c entry key =
    ((bytes : List ℕ) × (entry key ≡ Some bytes))
    ⊎ ((bytes : List ℕ) × IsAmong c.old.depot.late key bytes)

-- so was each chunk of this task
abbrev pub WasStored : RunCase → Job → Contents → ℕ → ℕ → Type 0
WasStored c job entry op task = (k : Cell)
    → Contains (written_chunks (plan_in c job).arrays (op_of (plan_in c job) op) task) k
    → WasHeldOrLate c entry (key_of (plan_in c job).arrays k)

-- The tasks of this list were found done. Each chunk of such a task was held when the command began,
-- or a put of it was late; and it is held now. Each task whose chunks were all held when the command
-- began is among them.
pub record AreFoundDone (c : RunCase) (job : Job) (done : List Bool) : Type 0 where
  pub found : (now : Contents) → c.new.depot.held ≡ Some now → IsFound (plan_in c job) now done
  pub stored : (entry : Contents) (op task : ℕ) → c.old.depot.held ≡ Some entry
      → IsTask (plan_in c job) op task → NamesTask (plan_in c job) done op task
      → WasStored c job entry op task
  pub named : (entry : Contents) → c.old.depot.held ≡ Some entry → NamesStored (plan_in c job) entry done

-- no task whose chunks were all held when the command began was started
abbrev pub StartsNoStored : RunCase → Job → List Entry → Type 0
StartsNoStored c job history = (entry : Contents) (op task : ℕ) → c.old.depot.held ≡ Some entry
    → IsTask (plan_in c job) op task → IsStored (plan_in c job) entry op task
    → count_of_task is_start op task history ≡ 0

-- Workers ran the tasks that weren't found done, by this history, which left this state.
pub record HasGoneOn (c : RunCase) (job : Job) (done : List Bool) (history : List Entry) (m : Machine) : Type 0 where
  pub opening : AreFoundDone c job done
  pub legal : IsHistory c job done history m
  pub unstarted : StartsNoStored c job history

-- such a history, with a fact of it
abbrev pub WentOn : RunCase → Job → (List Bool → List Entry → Machine → Type 0) → Type 0
WentOn c job fact = (done : List Bool) × (history : List Entry) × (m : Machine)
    × HasGoneOn c job done history m × fact done history m

-- how many tasks weren't found done
abbrev pub undone_in : List Bool → ℕ
undone_in done = undone_among (opening done).tasks

-- no put on a chunk of the plan was late when the command began
abbrev pub NoChunkWasLate : RunCase → Job → Type 0
NoChunkWasLate c job = (op task : ℕ) (k : Cell) (bytes : List ℕ) → IsTask (plan_in c job) op task
    → Contains (written_chunks (plan_in c job).arrays (op_of (plan_in c job) op) task) k
    → IsAmong c.old.depot.late (key_of (plan_in c job).arrays k) bytes → ⊥

-- The starts that didn't fail, beside the tasks with a chunk that was absent when the command began.
-- Without second copies they are at most so many; where no put on a chunk was late, at least so many.
pub record AreOfAbsent (c : RunCase) (job : Job) (entry : Contents) (n : RunCounts) : Type 0 where
  pub most : c.options.backups ≡ false → n.starts ≤ n.failures + absent_tasks (plan_in c job) entry
  pub least : NoChunkWasLate c job → n.failures + absent_tasks (plan_in c job) entry ≤ n.starts

-- All tasks are done. Each that wasn't found done was started once, and once more for each failure,
-- or with second copies at least so often. Where the contents were told, they are those of which a
-- chunk was absent. Beside one call for each of so many keys and those of the tasks that were
-- started, by the same history, there are no more than failed.
abbrev pub IsCountedOn : RunCase → Job → ℕ → RunCounts → Type 0
IsCountedOn c job keys n = WentOn c job (λ done history m. AllDone (plan_in c job) m
    × (n ≡ run_counts_in history)
    × WithinHistory keys (plan_in c job) history c.old.depot c.new.depot
    × (n.failures + undone_in done ≤ n.starts) × (c.options.backups ≡ false → n.starts ≡ n.failures + undone_in done))
    × (n.failures ≤ c.options.retries * task_count (plan_in c job))
    × (n.starts ≤ (c.options.retries + 2) * task_count (plan_in c job))
    × ((entry : Contents) → c.old.depot.held ≡ Some entry → AreOfAbsent c job entry n)

-- The same of all keys of a run that goes on, with a fact of the line that reports it. The calls of
-- the tasks are at most those of the starts that it has, by the most chunks that a task reads and
-- writes.
abbrev pub CountedOn : RunCase → Job → (List ℕ → Type 0) → Type 0
CountedOn c job fact = (n : RunCounts) × IsCountedOn c job (resume_keys c.options c.text job) n
    × WithinStarts (resume_limits c.options c.text job).begun (plan_in c job) n
    c.old.depot c.new.depot
    × fact (report_line (plan_in c job) n)

-- ---- the answers

-- 0: the output is complete, and the whole line was written
abbrev pub IsResumedDone : RunCase → Type 0
IsResumedDone c = Resumed c (λ job. HoldsAll c job × CountedOn c job (λ line. WroteTo c line (length line)))

-- 12: the output is complete, the sink failed, and a front of the line was written
abbrev pub IsResumedUnreported : RunCase → Type 0
IsResumedUnreported c = Rose 1 c.old.sink.faults c.new.sink.faults
    × Resumed c (λ job. HoldsAll c job × CountedOn c job (λ line. (n : ℕ) × (n ≤ length line) × WroteTo c line n))

-- 10: this task may be at fault, of the operation that has this number among those whose results are
-- stored. By a history of the run it ended the run; as many calls failed, by the count of faults, as
-- it is tried; and one of its chunks was absent when the command began.
abbrev pub IsResumedBroken : RunCase → ℕ → ℕ → Type 0
IsResumedBroken c op task = Rose (c.options.retries + 1) c.old.depot.faults c.new.depot.faults
    × Resumed c (λ job. (k : ℕ) × (op ≡ listed_number (plan_in c job) k)
    × (k < length (plan_in c job).ops) × (task < tasks_of (plan_in c job).arrays (op_of (plan_in c job) k))
    × ((entry : Contents) → c.old.depot.held ≡ Some entry → IsStored (plan_in c job) entry k task → ⊥)
    × HoldsTextsNow c job × WentOn c job (λ done history m. HasBroken c job k task history m))

-- 13: this chunk of an input, which a task reads, holds `got` bytes and not the `want` bytes of a chunk
abbrev pub IsResumedBad : RunCase → List ℕ → ℕ → ℕ → Type 0
IsResumedBad c key got want = Resumed c (λ job. IsBadChunk (plan_in c job) c.new.depot key got want
    × HoldsTextsNow c job × WhereEntryTold c job (λ env. IsInputKey (plan_in c job) key))

-- The calls for the output's metadata failed; or those to share the keys did, which the record's key
-- stands for, and both texts are held. No chunk was put.
abbrev pub IsStoppedBefore : RunCase → Job → List ℕ → Type 0
IsStoppedBefore c job key = Stepped (MetadataPut c job) c.old.depot c.new.depot
    × ((key ≡ metadata_key_of job.expr.store_as) ⊎ ((key ≡ record_key_of job.expr.store_as) × HoldsTextsNow c job))

-- 15: there was no record when the command began
abbrev pub HadNoRecord : RunCase → Type 0
HadNoRecord c = IsSpared c × OfPlanned c (WasUnrecorded c)

-- 16: as many calls failed as are made for one key, by the count of faults, and this key may be at
-- fault. Nothing was changed, and the key is that of an input's metadata in its turn or the record's;
-- or the plan was found again, and it is one of the plan's; or the run went on, and no chunk was put.
abbrev pub IsResumeFailed : RunCase → List ℕ → Type 0
IsResumeFailed c key = IsUnasked c key ⊎ (Rose (c.options.retries + 1) c.old.depot.faults c.new.depot.faults
    × ((IsSpared c × ((job : Job) × IsReopened c job × Contains (keys_of c.options job) key))
    ⊎ Resumed c (λ job. IsStoppedBefore c job key)))

-- 70: nothing was changed; or the run went on, and no chunk was put unless the depot's yards lack
-- memory
abbrev pub IsResumeShort : Bool → RunCase → Type 0
IsResumeShort lack c = IsSpared c ⊎ Resumed c (λ job. Stepped (MetadataPut c job) c.old.depot c.new.depot ⊎ IsTrue lack)

-- what a run that goes on answers, of a depot whose yards lack memory or don't
abbrev pub WasResumed : Bool → RunCase → Status → Type 0
-- 0: the output is complete and means the expression, and the whole report was written
WasResumed lack c Done = IsResumedDone c
-- 12: the same, but the sink failed
WasResumed lack c WriteFault = IsResumedUnreported c
-- 10: this task may be at fault. By the history of the run it failed as often as it is tried, and
-- ended the run; and the faults were counted
WasResumed lack c (TaskFailed op task) = IsResumedBroken c op task
-- 13: this chunk, which a task reads, has another length
WasResumed lack c (BadChunk key got want) = IsResumedBad c key got want
-- 16: this key may be at fault. As many calls failed as are made for one key, by the count of faults
WasResumed lack c (DepotFailed key) = IsResumeFailed c key
-- 70: memory was wanted
WasResumed lack c NoMemory = IsResumeShort lack c
-- 15: there was no record
WasResumed lack c NoPlan = HadNoRecord c
-- 14: the record is another plan's; and 3 to 8
WasResumed lack c status = IsNotReopened c status

-- what the command `resume` answers
abbrev pub ResumeTells : Bool → Options → Scene → Scene → Status → Type 0
ResumeTells lack options old new ReadFault = IsReadFault old new
ResumeTells lack options old new NoMemory = AreSpared old new ⊎ CameToRun options old new (IsResumeShort lack)
ResumeTells lack options old new status = CameToRun options old new (λ c. WasResumed lack c status)

-- ---- what the parts of it rest on

-- the record is among the texts that are held
abbrev pub HasRecord : HeldTexts → Type 0
HasRecord Neither = ⊥
HasRecord held = Unit {0}

-- what is answered where finding the tasks that are done ended so
abbrev pub find_answer : FindFault → Status
find_answer (find.Failed key) = DepotFailed key
find_answer find.NoMemory = NoMemory

-- why what is left to do wasn't found: all calls for one of these keys failed, or memory was wanting
abbrev pub IsRestFault : ℕ → List (List ℕ) → Shown × Shown → Status → Type 0
IsRestFault tries keys shown (DepotFailed key) = Rose tries shown.0.faults shown.1.faults × Contains keys key
IsRestFault tries keys shown NoMemory = Unit {0}
IsRestFault tries keys shown status = ⊥

-- what going on comes to: the counts of a run whose output is complete and that called for so many
-- keys beside those of its tasks, or what is answered
abbrev pub ResumeEnded : Bool → RunCase → Job → ℕ → Result RunCounts Status → Type 0
ResumeEnded lack c job keys (Ok n) = IsResumed c job × HoldsAll c job × IsCountedOn c job keys n
ResumeEnded lack c job keys (Err status) = WasResumed lack c status

-- What the command `drop` answers, and what it leaves. This project's own rules.
use Rattle.std.specs.Prelude.{◌≡◌, ◌⊎◌, ℕ, ◌+◌, ◌≤◌, List, [], ◌∷◌, ◌++◌, All, codes, length, sum_by}
use Rattle.std.specs.Fmt.{decimal}
use Rattle.cu_store.specs.Faults.{Rose}
use Rattle.cu_zarr.specs.Key.{metadata_key_of}
use Rattle.cu_name.specs.Keys.{record_key_of}
use Rattle.cu_op.specs.PlanView.{PlanView}
use Rattle.cu_op.specs.Sound.{made_chunks}
use Rattle.cu_run_law.specs.Left.{IsLeft}
use Rattle.cu_work.specs.Removal.{RemovalIn, IsGoneBut, keys_before_record, removed_keys}
use Rattle.cu_work.specs.declared.removal.RemoveFault.{RemoveFault}
use Rattle.cu_work.specs.declared.removal.RemoveFault.TheVariants as remove
use Rattle.cu_command.specs.Seen.{Stepped}
use Rattle.cu_command.specs.declared.job.Job.{Job}
use Rattle.cu_command.specs.declared.status.Status.{Status}
use Rattle.cu_command.specs.declared.status.Status.TheVariants.{Done, ReadFault, WriteFault}
use Rattle.cu_command.specs.declared.status.Status.TheVariants.{DepotFailed, NoMemory}
use Rattle.cu_lower.specs.declared.options.Options.{Options}
use Rattle.cu_top.specs.Call.{AreSpared, CameToRun, IsReadFault}
use Rattle.cu_top.specs.Held.{IsNotReopened, IsReopened, IsUnasked}
use Rattle.cu_top.specs.Prepare.{keys_of}
use Rattle.cu_top.specs.Run.{Scene, RunCase, plan_in, job_run, IsSpared, WhereLeft, WroteTo}

-- the keys in the order in which they are removed: the output's metadata's, those of the chunks, and
-- the record's last
abbrev pub dropped_keys : RunCase → Job → List (List ℕ)
dropped_keys c job = removed_keys (plan_in c job) (record_key_of job.expr.store_as) (metadata_key_of job.expr.store_as)

-- those before the record's
abbrev pub keys_first : RunCase → Job → List (List ℕ)
keys_first c job = keys_before_record (plan_in c job) (metadata_key_of job.expr.store_as)

-- `ok keys=N`, with a line feed: the record, the metadata and all chunks that the plan makes
unfoldable pub removal_line : PlanView → List ℕ
removal_line p = codes "ok keys=" ++ decimal (sum_by made_chunks p.arrays + 2) ++ 10 ∷ []

-- The plan was found again. No key changed but those of the plan, and each of these is as it was or
-- absent, late puts aside. Where the store was left so by the plan, it is so now.
pub record IsDropping (c : RunCase) (job : Job) : Type 0 where
  pub reopened : IsReopened c job
  pub step : Stepped (RemovalIn (dropped_keys c job)) c.old.depot c.new.depot
  pub left : WhereLeft c job (λ env. IsLeft (job_run c job) env c.new.depot)

-- such a removal, with a fact of its job
abbrev pub Dropping : RunCase → (Job → Type 0) → Type 0
Dropping c fact = (job : Job) × IsDropping c job × fact job

-- each key of the plan is absent, or a put that was late when the command began landed there
abbrev pub AreGone : RunCase → Job → Type 0
AreGone c job = All (IsGoneBut c.old.depot.late c.new.depot.held) (keys_of c.options job)

-- The keys before this one were removed, and it wasn't: each of them is absent, or a put that was
-- late when the command began landed there. The record wasn't removed either.
pub record IsStoppedAt (c : RunCase) (job : Job) (key : List ℕ) : Type 0 where
  pub front : List (List ℕ)
  pub back : List (List ℕ)
  pub listed : dropped_keys c job ≡ front ++ key ∷ back
  pub removed : Stepped (RemovalIn front) c.old.depot c.new.depot
  pub gone : All (IsGoneBut c.old.depot.late c.new.depot.held) front
  pub recorded : Stepped (RemovalIn (keys_first c job)) c.old.depot c.new.depot

-- what is answered where removing the keys ended so
abbrev pub remove_answer : RemoveFault → Status
remove_answer (remove.Failed key) = DepotFailed key
remove_answer remove.NoMemory = NoMemory

-- ---- the answers

-- 0: all keys are gone, and the whole line was written
abbrev pub IsDropped : RunCase → Type 0
IsDropped c = Dropping c (λ job. AreGone c job
    × WroteTo c (removal_line (plan_in c job)) (length (removal_line (plan_in c job))))

-- 12: all keys are gone, the sink failed, and a front of the line was written
abbrev pub IsDroppedUnreported : RunCase → Type 0
IsDroppedUnreported c = Rose 1 c.old.sink.faults c.new.sink.faults × Dropping c (λ job. AreGone c job
    × ((n : ℕ) × (n ≤ length (removal_line (plan_in c job))) × WroteTo c (removal_line (plan_in c job)) n))

-- 16: as many calls failed as are made for one key, by the count of faults, and this key may be at
-- fault. It is that of an input's metadata in its turn or the record's, and nothing was changed; or
-- it was to be removed.
abbrev pub IsDropFailed : RunCase → List ℕ → Type 0
IsDropFailed c key = IsUnasked c key
    ⊎ (Rose (c.options.retries + 1) c.old.depot.faults c.new.depot.faults × Dropping c (λ job. IsStoppedAt c job key))

-- 70: nothing was changed; or the record wasn't removed
abbrev pub IsDropShort : RunCase → Type 0
IsDropShort c = IsSpared c ⊎ Dropping c (λ job. Stepped (RemovalIn (keys_first c job)) c.old.depot c.new.depot)

-- what a removal answers, from the text on
abbrev pub Dropped : RunCase → Status → Type 0
-- 0: all keys of the plan are gone, and the whole report was written
Dropped c Done = IsDropped c
-- 12: the same, but the sink failed
Dropped c WriteFault = IsDroppedUnreported c
-- 16: this key may be at fault. As many calls failed as are made for one key, by the count of faults
Dropped c (DepotFailed key) = IsDropFailed c key
-- 70: memory was wanted
Dropped c NoMemory = IsDropShort c
-- 14: the record is another plan's; 15: there was none, or a node reads the output; and 3 to 8
Dropped c status = IsNotReopened c status

-- what the command `drop` answers
abbrev pub DropTells : Options → Scene → Scene → Status → Type 0
DropTells options old new ReadFault = IsReadFault old new
DropTells options old new NoMemory = AreSpared old new ⊎ CameToRun options old new IsDropShort
DropTells options old new status = CameToRun options old new (λ c. Dropped c status)

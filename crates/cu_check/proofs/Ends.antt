-- From the parts of the command to what it answers.
use Rattle.std.proofs.Common.{ℕ, ◌≤◌, List, length, Option, refl, inr, arith}
use Rattle.cu_expr.specs.declared.inputs.InputInfo.{InputInfo}
use Rattle.cu_store.specs.Faults.{Rose}
use Rattle.cu_store.specs.Steps.{Shown}
use Rattle.cu_command.specs.Job.{IsJob}
use Rattle.cu_command.specs.Seen.{Stream, Seen}
use Rattle.cu_command.specs.Streams.{ReadsAll, WroteFront}
use Rattle.cu_command.specs.declared.job.Job.{Job}
use Rattle.cu_command.specs.declared.status.Status.{Status}
use Rattle.cu_command.specs.declared.status.Status.TheVariants.{Done, WriteFault, ReadFault, BadChunk, DepotFailed, NoMemory, Unequal}
use Rattle.cu_check.specs.Check.{IsOutputRead, IsLikeStoredNode, IsEqual, WhereThere, elements_in_all, equal_line, IsCompareFault, Compares, CheckEnds, PrintsLine}

rose_since : (tries a b c : ℕ) → a ≤ b → Rose tries b c → Rose tries a c
rose_since tries a b c first rose = omega arith

module _ (tries : ℕ) (text : List ℕ) (old new : Seen) (job : Job) (output : InputInfo) (is_job : IsJob old.depot text job) (is_out : IsOutputRead old.depot job.expr output)
    (fits : IsLikeStoredNode job output) (few : elements_in_all job.types ≤ 4194304) where
  pub fault_ends : (mid : Shown) (status : Status) → old.depot.faults ≤ mid.faults → IsCompareFault tries old.depot mid new.depot (record { job = job; output = output }) status → Compares tries text old new status
  fault_ends mid (Unequal place stored plain) count f = (f.0, (job, output, is_job, is_out, (fits, few, (f.1, f.2))))
  fault_ends mid (BadChunk key got want) count f = (job, output, is_job, is_out, (fits, few, f))
  fault_ends mid (DepotFailed key) count f = (rose_since tries old.depot.faults mid.faults new.depot.faults count f.0, inr (job, output, is_job, is_out, (fits, few, f.1)))
  fault_ends mid NoMemory count f = tt
  fault_ends mid status count f = absurd f

  pub equal_ends : WhereThere old.depot job output (IsEqual job output) → WroteFront old.out.told new.out.told (equal_line output) (length (equal_line output)) → Compares tries text old new Done
  equal_ends equal wrote = (job, output, is_job, is_out, (fits, few, (equal, wrote)))

  pub unwritten_ends : WhereThere old.depot job output (IsEqual job output) → Rose 1 old.out.faults new.out.faults
      → (n : ℕ) × (n ≤ length (equal_line output)) × WroteFront old.out.told new.out.told (equal_line output) n → Compares tries text old new WriteFault
  unwritten_ends equal rose wrote = (rose, (job, output, is_job, is_out, (fits, few, (equal, wrote))))

-- where nothing was written
pub prints_nothing : (status : Status) (told : Option (List ℕ)) → PrintsLine status told told
prints_nothing Done told = tt
prints_nothing WriteFault told = tt
prints_nothing status told = refl

-- ---- the text that was read

pub text_ends : (tries : ℕ) (src next : Stream) (old new : Seen) (text : List ℕ) (status : Status) → ReadsAll src.told next.told text → Compares tries text old new status
    → CheckEnds tries src next old new status
text_ends tries src next old new text ReadFault read h = absurd h
text_ends tries src next old new text NoMemory read h = tt
text_ends tries src next old new text status read h = (text, read, h)

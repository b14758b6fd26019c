-- What is stored of a plan, in its order: its record, its metadata, its chunks (this project's own rule).
use Rattle.std.specs.Prelude.{◌≡◌, ◌⊎◌, ℕ, ◌<◌, IsTrue, List, [], ◌∷◌, length, Option}
use Rattle.cu_store.specs.Faults.{Rose}
use Rattle.cu_store.specs.Held.{Contents, IsHeldIn}
use Rattle.cu_store.specs.Steps.{Shown, Changes, NoChange, PutOf, Steps}
use Rattle.cu_store.specs.declared.faults.DepotFault.{DepotFault}
use Rattle.cu_store.specs.declared.faults.DepotFault.TheVariants as depot
use Rattle.cu_op.specs.PlanView.{PlanView}
use Rattle.cu_op.specs.Elements.{Elements}
use Rattle.cu_run_law.specs.Pieces.{PlanRun, Text, text_at, HoldsPiece}
use Rattle.cu_work.specs.declared.run.HeldTexts.{HeldTexts}
use Rattle.cu_work.specs.declared.run.HeldTexts.TheVariants.{Neither, Record, Both}
use Rattle.cu_work.specs.declared.run.Texts.{Texts}
use Rattle.cu_work.specs.declared.run.RunFault.{RunFault}
use Rattle.cu_work.specs.declared.run.RunFault.TheVariants.{TextFailed, ShareFailed, NoMemory}

-- the plan and its texts: the record, and then the metadata
abbrev pub run_of : PlanView → Texts → PlanRun
run_of p t = record { plan = p; texts = (t.record_key, t.record.now) ∷ (t.metadata_key, t.metadata.now) ∷ [] }

-- a put of one of the texts
abbrev pub PutOfText : Texts → Changes
PutOfText t key value = PutOf t.record_key t.record.now key value ⊎ PutOf t.metadata_key t.metadata.now key value

-- a put of one that is to be stored, where these are held
abbrev pub PutOfMissing : HeldTexts → Texts → Changes
PutOfMissing Neither t = PutOfText t
PutOfMissing Record t = PutOf t.metadata_key t.metadata.now
PutOfMissing Both t = NoChange

-- the key of such a one
abbrev pub IsMissingKey : HeldTexts → Texts → List ℕ → Type 0
IsMissingKey Neither t key = (key ≡ t.record_key) ⊎ (key ≡ t.metadata_key)
IsMissingKey Record t key = key ≡ t.metadata_key
IsMissingKey Both t key = ⊥

-- where contents are told, these texts are held
abbrev pub AreTextsHeld : HeldTexts → Texts → Option Contents → Type 0
AreTextsHeld Neither t held = Unit {0}
AreTextsHeld Record t held = IsHeldIn held t.record_key
AreTextsHeld Both t held = IsHeldIn held t.record_key × IsHeldIn held t.metadata_key

-- Of the plan nothing but the record was put, or the record is held.
abbrev pub IsRecordFirst : PlanRun → Elements → ℕ → Shown → Shown → Type 0
IsRecordFirst r env most old new = Steps (PutOf (text_at r 0).0 (text_at r 0).1) 0 most old new ⊎ HoldsPiece r env (Text 0) new

-- both texts are held
abbrev pub HoldsTexts : PlanRun → Elements → Shown → Type 0
HoldsTexts r env shown = (n : ℕ) → n < length r.texts → HoldsPiece r env (Text n) shown

-- Where the calls for a text failed: for the record nothing else was put, and for the metadata the record is held. Where those to share
-- failed both texts are held. Where memory was wanting nothing but the record was put, or it is held.
abbrev pub IsUnstored : PlanRun → Elements → ℕ → Shown → Shown → RunFault → Type 0
IsUnstored r env tries old new (TextFailed key) =
    ((key ≡ (text_at r 0).0) × Steps (PutOf (text_at r 0).0 (text_at r 0).1) 0 tries old new) ⊎ ((key ≡ (text_at r 1).0) × HoldsPiece r env (Text 0) new)
IsUnstored r env tries old new ShareFailed = HoldsTexts r env new
IsUnstored r env tries old new NoMemory = IsRecordFirst r env tries old new

-- why no task was run: all calls for one text that was to be stored or to share failed, the count risen in each, or the depot lacks memory
abbrev pub IsRunFault : HeldTexts → ℕ → Texts → Shown → Shown → RunFault → Type 0
IsRunFault held tries t old new (TextFailed key) = IsMissingKey held t key × Rose tries old.faults new.faults
IsRunFault held tries t old new ShareFailed = Rose tries old.faults new.faults
IsRunFault held tries t old new NoMemory = IsTrue new.lacks

-- the same of one text
abbrev pub IsTextPutFault : ℕ → List ℕ → Shown → Shown → RunFault → Type 0
IsTextPutFault tries key old new (TextFailed failed) = (failed ≡ key) × Rose tries old.faults new.faults
IsTextPutFault tries key old new ShareFailed = ⊥
IsTextPutFault tries key old new NoMemory = IsTrue new.lacks

-- why no task was run, where sharing ended so
abbrev pub share_fault : DepotFault → RunFault
share_fault depot.Failed = ShareFailed
share_fault depot.NoMemory = NoMemory

-- Keys that were found absent, and why asking ends.
use Rattle.std.proofs.Common.{ℕ, ◌≤◌, List, Option, Result, Ok, Err, IfErr, inl, inr, arith}
use Rattle.std.specs.Prelude.{OnOk}
use Rattle.cu_store.specs.Faults.{Rose}
use Rattle.cu_store.specs.Held.{Contents, IsGone}
use Rattle.cu_store.specs.Steps.{Shown, NoChange}
use Rattle.cu_name.specs.Keys.{record_key_of}
use Rattle.cu_zarr.specs.Key.{metadata_key_of, zarray_key_of}
use Rattle.cu_command.proofs.SeenLemmas.{gone_before}
use Rattle.cu_command.specs.Seen.{Stepped}
use Rattle.cu_command.specs.Stored.{HasNoMetadata, IsMetadataAsked}
use Rattle.cu_command.specs.declared.status.Status.{Status}
use Rattle.cu_command.specs.declared.status.Status.TheVariants.{Exists, DepotFailed, NoMemory}
use Rattle.cu_load.specs.Keys.{IsAskedFor, AreFree, IsAskFault}

module _ {T E : Type 0} where
  pub on_ok : {P Q : Type 0} (r : Result T E) → (P → Q) → OnOk r P → OnOk r Q
  on_ok (Ok x) f h = f h
  on_ok (Err e) f h = tt

  pub always_ok : {P : Type 0} (r : Result T E) → P → OnOk r P
  always_ok (Ok x) h = h
  always_ok (Err e) h = tt

  pub if_err : {P Q : E → Type 0} (r : Result T E) → ((e : E) → P e → Q e) → IfErr r P → IfErr r Q
  if_err (Ok x) f h = tt
  if_err (Err e) f h = f e h

  pub both_errs : (P Q : E → Type 0) (r : Result T E) → IfErr r P → IfErr r Q → IfErr r (λ e. P e × Q e)
  both_errs P Q (Ok x) p q = tt
  both_errs P Q (Err e) p q = (p, q)

pub rose_earlier : (n before later after : ℕ) → before ≤ later → Rose n later after → Rose n before after
rose_earlier n before later after earlier rose = omega arith

-- the same with more keys that are asked for, and from an earlier count
pub ask_fault_more : (tries : ℕ) (asked other : List ℕ → Type 0) (before later after : ℕ) (held : Option Contents) (status : Status)
    → ((key : List ℕ) → asked key → other key) → before ≤ later → IsAskFault tries asked later after held status → IsAskFault tries other before after held status
ask_fault_more tries asked other before later after held (Exists key) more earlier fault = (more key fault.0, fault.1)
ask_fault_more tries asked other before later after held (DepotFailed key) more earlier fault = (more key fault.0, rose_earlier tries before later after earlier fault.1)
ask_fault_more tries asked other before later after held NoMemory more earlier fault = tt
ask_fault_more tries asked other before later after held status more earlier fault = fault

-- the record was absent, and then the metadata is asked for
module _ (old mid : Shown) (name : List ℕ) (first : Stepped NoChange old mid) (gone : IsGone mid.held (record_key_of name)) where
  record_absent : IsGone old.held (record_key_of name)
  record_absent = gone_before old mid (record_key_of name) first gone

  written_absent : IsGone mid.held (metadata_key_of name) → IsGone old.held (metadata_key_of name)
  written_absent absent = gone_before old mid (metadata_key_of name) first absent

  all_absent : HasNoMetadata mid.held name → AreFree name old.held
  all_absent none = (record_absent, (written_absent none.0, gone_before old mid (zarray_key_of name) first none.1))

  metadata_asked : (key : List ℕ) → IsMetadataAsked mid.held name key → IsAskedFor name old.held key
  metadata_asked key (inl written) = inr (inl written, record_absent)
  metadata_asked key (inr (zarray, absent)) = inr (inr (zarray, written_absent absent), record_absent)

module _ {T : Type 0} where
  pub all_free : (old mid : Shown) (name : List ℕ) (r : Result T Status) → Stepped NoChange old mid → IsGone mid.held (record_key_of name)
      → OnOk r (HasNoMetadata mid.held name) → OnOk r (AreFree name old.held)
  all_free old mid name r first gone free = on_ok r (all_absent old mid name first gone) free

  pub asked_behind : (tries : ℕ) (old mid new : Shown) (name : List ℕ) (r : Result T Status) → old.faults ≤ mid.faults → Stepped NoChange old mid → IsGone mid.held (record_key_of name)
      → IfErr r (IsAskFault tries (IsMetadataAsked mid.held name) mid.faults new.faults new.held) → IfErr r (IsAskFault tries (IsAskedFor name old.held) old.faults new.faults new.held)
  asked_behind tries old mid new name r count first gone refused =
      if_err r (λ status fault. ask_fault_more tries (IsMetadataAsked mid.held name) (IsAskedFor name old.held) old.faults mid.faults new.faults new.held status
      (metadata_asked old mid name first gone) count fault) refused

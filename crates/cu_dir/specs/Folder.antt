-- What is told of a folder of a tree with several handles. This project's own rules.
use Rattle.std.specs.Prelude.{◌≡◌, ℕ, Bool, List, Option, string_bytes}
use Rattle.cu_store.specs.Held.{Contents}
use Rattle.cu_store.specs.Share.{Lent}
use Rattle.cu_store.specs.Yard.{bytes_under}
use Rattle.cu_dir.specs.Common.{KnowsOf}
use Rattle.cu_dir.specs.Tree.{values_under}
use Rattle.cu_dir.specs.declared.folder.Loan.{Loan}
use Rattle.cu_dir.specs.declared.folder.Folder.{Folder}
use Rattle.cu_dir.specs.declared.folder.FolderHand.{FolderHand}

-- the keys that are lent, and their promise
abbrev pub loan_lent : Loan → Lent
loan_lent l = record { specs = l.keys.value; promise = bytes_under l.promise.value.map }

-- the path of the folder of which they are lent
abbrev pub loan_folder : Loan → List ℕ
loan_folder l = string_bytes l.folder

abbrev pub common_lent : {T : Type 0} → Folder T → Lent
common_lent c = loan_lent c.loan

abbrev pub common_folder : {T : Type 0} → Folder T → List ℕ
common_folder c = loan_folder c.loan

-- whether its new files are synced before they are put in place
abbrev pub synced_by : {T : Type 0} → (T → Bool) → Folder T → Bool
synced_by synced c = synced c.tree

-- the values as they were when the folder was lent
abbrev pub entries_by : {T : Type 0} → (T → Option Contents) → Folder T → Option Contents
entries_by files c = values_under (common_folder c) (files c.tree)

-- the values that a hand knows
abbrev pub known_by : {T : Type 0} → (T → Option Contents) → FolderHand T → Option Contents
known_by files h = values_under (string_bytes h.folder.value) (files h.known.value)

-- a hand of this folder
pub record IsFolderHand {T : Type 0} (files : T → Option Contents) (c : Folder T) (h : FolderHand T) : Type 0 where
  pub folder : h.folder.value ≡ c.loan.folder
  pub knows : KnowsOf (common_lent c) (entries_by files c) (known_by files h)

-- what its hands may know
pub folder_laws : {T : Type 0} (files : T → Option Contents) (c : Folder T) (h : FolderHand T) → IsFolderHand files c h
    → KnowsOf (common_lent c) (entries_by files c) (known_by files h)
folder_laws files c h own = own.knows

-- The keys that are in the way of an array that is loaded. This project's own rule.
use Rattle.std.specs.Prelude.{◌≡◌, ◌⊎◌, ℕ, List, Option}
use Rattle.cu_store.specs.Faults.{Rose}
use Rattle.cu_store.specs.Held.{Contents, IsGone, IsHeldIn}
use Rattle.cu_command.specs.Stored.{HasNoMetadata, IsMetadataAsked}
use Rattle.cu_name.specs.Keys.{record_key_of}
use Rattle.cu_command.specs.declared.status.Status.{Status}
use Rattle.cu_command.specs.declared.status.Status.TheVariants.{Exists, DepotFailed, NoMemory}

-- the key is asked for: the record's, or, where the record was absent, one of the metadata's
abbrev pub IsAskedFor : List ℕ → Option Contents → List ℕ → Type 0
IsAskedFor name old key = (key ≡ record_key_of name) ⊎ (IsMetadataAsked old name key × IsGone old (record_key_of name))

-- all three keys were absent
abbrev pub AreFree : List ℕ → Option Contents → Type 0
AreFree name old = IsGone old (record_key_of name) × HasNoMetadata old name

-- why asking ends: a key that is asked for is held, or the calls for one failed
abbrev pub IsAskFault : ℕ → (List ℕ → Type 0) → ℕ → ℕ → Option Contents → Status → Type 0
IsAskFault tries asked before after held (Exists key) = asked key × IsHeldIn held key
IsAskFault tries asked before after held (DepotFailed key) = asked key × Rose tries before after
IsAskFault tries asked before after held NoMemory = Unit {0}
IsAskFault tries asked before after held status = ⊥

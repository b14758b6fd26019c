-- Whole texts that are read and written.
use Rattle.std.specs.Prelude.{◌≡◌, ◌⊎◌, ℕ, List, [], ◌++◌, length, take, Option, Some, None, Result, Ok, Err}
use Rattle.cu_store.specs.Faults.{Rose}
use Rattle.cu_command.specs.declared.streams.StreamRefused.{StreamRefused}
use Rattle.cu_command.specs.declared.streams.StreamRefused.TheVariants.{Fault, NoMemory}

-- this text was taken from the front of what was left
abbrev pub Took : Option (List ℕ) → Option (List ℕ) → List ℕ → Type 0
Took None None text = Unit {0}
Took (Some old) (Some new) text = old ≡ text ++ new
Took None (Some new) text = ⊥
Took (Some old) None text = ⊥

-- the input has ended, where it is told
abbrev pub InputHasEnded : Option (List ℕ) → Type 0
InputHasEnded None = Unit {0}
InputHasEnded (Some left) = left ≡ []

-- this is all that was left, or the first 1,048,577 bytes of it
abbrev pub ReadsAll : Option (List ℕ) → Option (List ℕ) → List ℕ → Type 0
ReadsAll old new text = Took old new text × (InputHasEnded new ⊎ (length text ≡ 1048577))

-- a fault comes only where the count has risen
abbrev pub IsCaused : {T : Type 0} → ℕ → ℕ → Result T StreamRefused → Type 0
IsCaused before after (Ok text) = Unit {0}
IsCaused before after (Err Fault) = Rose 1 before after
IsCaused before after (Err NoMemory) = Unit {0}

-- the first n of these bytes were appended
abbrev pub WroteFront : Option (List ℕ) → Option (List ℕ) → List ℕ → ℕ → Type 0
WroteFront None None bytes n = Unit {0}
WroteFront (Some old) (Some new) bytes n = new ≡ old ++ take n bytes
WroteFront None (Some new) bytes n = ⊥
WroteFront (Some old) None bytes n = ⊥

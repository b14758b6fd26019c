-- What stays so while chunks are read and written. This project's own rules.
use Rattle.std.specs.Prelude.{◌≡◌, ℕ, ◌+◌, List, Some}
use Rattle.cu_store.specs.Steps.{Changes}

-- each key of the first is one of the second
abbrev pub Keeps : (List ℕ → Type 0) → (List ℕ → Type 0) → Type 0
Keeps K L = (key : List ℕ) → K key → L key

-- The access still belongs to the store, and what could be asked for before can be so afterwards.
pub record StaysOpen (owned : Type 0) (before after : List ℕ → Type 0) : Type 0 where
  pub belongs : owned
  pub gets : Keeps before after

-- each of these changes that is a put may be made
abbrev pub Allows : Changes → (List ℕ → List ℕ → Type 0) → Type 0
Allows W P = (key bytes : List ℕ) → W key (Some bytes) → P key bytes

-- a tally has become greater by n
abbrev pub Adds : ℕ → ℕ → ℕ → Type 0
Adds n before after = after ≡ before + n

-- Two keys of the same bytes that a depot shares. This project's own rules.
use Rattle.std.specs.Prelude.{◌≡◌, ◌≢◌, ◌<◌, ℕ, true, List, [], ◌∷◌, Option, Some, None, All, length}
use Rattle.cu_store.specs.Held.{Contents, Write}
use Rattle.cu_store.specs.Share.{Lent}
use Rattle.cu_store.specs.Steps.{Shown}
use Rattle.cu_store.specs.Yard.{bytes_under}
use Rattle.cu_store.specs.declared.yard.Spec.{Spec}

-- the keys differ, and there are 64 bytes
pub record IsPair (a b bytes : List ℕ) : Type 0 where
  pub apart : b ≢ a
  pub long : length bytes ≡ 64
  pub small : All (λ x. x < 256) bytes

-- a made key of 64 bytes
abbrev pub made_of : List ℕ → Spec
made_of key = record { key = key; len = 64; made = true }

abbrev pub pair_specs : List ℕ → List ℕ → List Spec
pair_specs a b = made_of a ∷ made_of b ∷ []

-- both keys are to hold the bytes
abbrev pub pair_map : List ℕ → List ℕ → List ℕ → List Write
pair_map a b bytes = (a, bytes) ∷ (b, bytes) ∷ []

abbrev pub lent_pair : List ℕ → List ℕ → List ℕ → Lent
lent_pair a b bytes = record { specs = pair_specs a b; promise = bytes_under (pair_map a b bytes) }

-- no key is held, where the contents are told
abbrev pub HoldsNothing : Option Contents → Type 0
HoldsNothing None = Unit {0}
HoldsNothing (Some held) = (key : List ℕ) → held key ≡ None

-- nothing is held, and no put is late
abbrev pub IsEmptyDepot : Shown → Type 0
IsEmptyDepot s = HoldsNothing s.held × (s.late ≡ [])

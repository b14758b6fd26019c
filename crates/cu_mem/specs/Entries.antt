-- What a list of places holds. This project's own rules.
use Rattle.std.specs.Prelude.{◌≡◌, ℕ, zero, suc, Bool, false, List, [], ◌∷◌, Option, None, if◌then◌else◌}
use Rattle.std.specs.List.{list_any}
use Rattle.std.specs.Str.{bytes_eq}
use Rattle.cu_store.specs.Held.{Contents}

-- a key, and the bytes that it holds, where it is held
abbrev pub Slot : Type 0
Slot = List ℕ × Option (List ℕ)

-- what each key holds: its first place counts
abbrev pub held_in : List Slot → Contents
held_in [] key = None
held_in (e ∷ es) key = if bytes_eq e.0 key then e.1 else held_in es key

-- whether a key has a place
abbrev pub has_place : List Slot → List ℕ → Bool
has_place es key = list_any (λ e. bytes_eq e.0 key) es

-- the place of this number is the first of a key
abbrev pub IsFirstUnder : List Slot → ℕ → List ℕ → Type 0
IsFirstUnder [] i key = ⊥
IsFirstUnder (e ∷ es) zero key = e.0 ≡ key
IsFirstUnder (e ∷ es) (suc i) key = (bytes_eq e.0 key ≡ false) × IsFirstUnder es i key

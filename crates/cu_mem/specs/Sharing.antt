-- What a depot in memory shares, and what comes back to it. This project's own rules.
use Rattle.std.specs.Prelude.{◌≡◌, ◌⊎◌, ◌<◌, ◌≤◌, ℕ, zero, suc, [], ◌∷◌, Bool, IsTrue, not, ◌&&◌, ◌||◌, if◌then◌else◌, List, length, take, Some, None}
use Rattle.std.specs.Option.{is_some}
use Rattle.cu_store.specs.Held.{Contents}
use Rattle.cu_store.specs.Share.{Lent, PutPromised}
use Rattle.cu_store.specs.Yard.{is_served, is_made}
use Rattle.cu_cells.specs.Cells.{spec_key}
use Rattle.cu_cells.specs.Layout.{promised_bytes}
use Rattle.cu_cells.specs.Yard.{served_by, known_of, landed_of, room_size}
use Rattle.cu_cells.specs.declared.late.LateCell.{LateCell}
use Rattle.cu_cells.specs.declared.shared.Cells.{Cells}
use Rattle.cu_cells.specs.declared.shared.CellPass.{CellPass}
use Rattle.cu_store.specs.declared.yard.Spec.{Spec}
use Rattle.cu_mem.specs.declared.late.Waiting.{Waiting}

-- a made key that is held holds the promise's bytes
abbrev pub PromisedIn : List Spec → Contents → Contents → Type 0
PromisedIn specs promise held = (key bytes : List ℕ) → IsTrue (is_made specs key) → held key ≡ Some bytes → promise key ≡ Some bytes

-- of the first keys of a yard, those that are held were seen where they are made, and filled where
-- they are only read
pub record IsFilled (specs : List Spec) (first : ℕ) (held : Contents) (seen : List ℕ → Bool) (entries : Contents) : Type 0 where
  pub made : (key : List ℕ) → seen key ≡ (is_made specs key && (is_some (held key) && is_served (take first specs) key))
  pub read : (key : List ℕ) → entries key ≡ (if not (is_made specs key) && is_served (take first specs) key then held key else None)

-- at each key there is what there was, or the bytes that a made key is to hold
abbrev pub GivesBack : Lent → Contents → Contents → Type 0
GivesBack l old new = (key : List ℕ) → (new key ≡ old key) ⊎ PutPromised l key (new key)

-- each key from a place on that is made and was seen holds the promise's bytes
abbrev pub HoldsFrom : ℕ → Lent → (List ℕ → Bool) → Contents → Type 0
HoldsFrom first l seen held = (at : ℕ) → first ≤ at → at < length l.specs → IsTrue (is_made l.specs (spec_key l.specs at)) → IsTrue (seen (spec_key l.specs at)) → held (spec_key l.specs at) ≡ l.promise (spec_key l.specs at)

-- the made keys that a pass knows to be there: those that it has seen, and those of its failed puts
-- that have landed
abbrev pub there_by : CellPass → List ℕ → Bool
there_by p key = (known_of p).seen key || landed_of p key

-- the late puts of a pass as those of a depot: each on its key, with the promised bytes
abbrev pub late_puts : List Spec → Contents → List LateCell → List Waiting
late_puts specs promise [] = []
late_puts specs promise (l ∷ ls) = record { entry = (spec_key specs l.cell, promised_bytes (promise (spec_key specs l.cell))); wait = l.wait } ∷ late_puts specs promise ls

-- the keys of a yard, and what the made ones are to hold, as a pass knows it
abbrev pub lent_in : Cells → CellPass → Lent
lent_in y p = record { specs = (served_by y).specs; promise = (known_of p).promise }

-- how long the room of the key at a place is
abbrev pub room_at : List Spec → ℕ → ℕ
room_at [] c = 0
room_at (s ∷ ss) zero = room_size s
room_at (s ∷ ss) (suc c) = room_at ss c

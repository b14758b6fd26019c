-- A depot in memory, as contracts see it. This project's own rules.
use Rattle.std.specs.Prelude.{◌≡◌, ℕ, ◌+◌, List, [], ◌∷◌, Option, Some, None, min, true, Result, Ok, Err}
use Rattle.std.specs.Option.{option_or}
use Rattle.cu_store.specs.Faults.{last_count}
use Rattle.cu_store.specs.Held.{Contents}
use Rattle.cu_store.specs.Steps.{Shown}
use Rattle.cu_store.specs.declared.faults.DepotFault.{DepotFault}
use Rattle.cu_store.specs.declared.faults.DepotFault.TheVariants.{Failed, NoMemory}
use Rattle.cu_mem.specs.declared.late.Waiting.{Waiting}
use Rattle.cu_cells.specs.declared.script.CallKind.{CallKind}
use Rattle.cu_cells.specs.Layout.{Laid}
use Rattle.cu_store.specs.Share.{Lent}
use Rattle.cu_store.specs.Yard.{bytes_under}
use Rattle.cu_mem.specs.Entries.{Slot, held_in}
use Rattle.cu_mem.specs.Late.{lands_on, waiting, late_writes}
use Rattle.cu_cells.specs.Script.{Progress, next}

pub record Memory : Type 0 where
  -- the places of keys, and their bytes where they are held; the first of a key counts
  pub slots : List Slot
  -- the puts that failed and land at a later call, in the order in which they failed
  pub late : List Waiting
  pub script : Progress
  pub faults : ℕ
  -- the calls of the depot
  pub calls : ℕ
  -- the keys of the last yard that it gave, and their promise
  pub loan : Laid
  -- how many late puts of a pass it has room to take over: eight from `share` to the next
  -- `unshare`, else none
  pub spare : ℕ

-- what is held
abbrev pub contents : Memory → Contents
contents m = held_in m.slots

-- what it shows as a depot
abbrev pub shown_of : Memory → Shown
shown_of m = record { held = Some (contents m); late = late_writes m.late; faults = m.faults; calls = m.calls; lacks = true }

-- what is held once the late puts have landed that are due at the next call
abbrev pub arrived : Memory → Contents
arrived m key = option_or (lands_on m.late key) (contents m key)

-- each key holds what it held, due late puts aside
abbrev pub OnlyLands : Memory → Memory → Type 0
OnlyLands old new = (key : List ℕ) → contents new key ≡ arrived old key

-- one key holds this, and each other what it held, due late puts aside
abbrev pub LandsAndSets : List ℕ → Option (List ℕ) → Memory → Memory → Type 0
LandsAndSets set value old new = (contents new set ≡ value) × ((key : List ℕ) → (key ≡ set → ⊥) → contents new key ≡ arrived old key)

-- what each call does first
pub record Begins (kind : CallKind) (key : List ℕ) (old new : Memory) : Type 0 where
  pub lands : OnlyLands old new
  pub waits : new.late ≡ waiting old.late
  pub script : new.script ≡ next old.script kind key
  pub calls : new.calls ≡ min (old.calls + 1) last_count
  pub faults : new.faults ≡ old.faults

-- the put that is late from now on: one that failed and is to land
abbrev pub put_late : Result (Unit {0}) DepotFault → Option ℕ → List ℕ → List ℕ → List Waiting
put_late (Err Failed) (Some wait) key bytes = record { entry = (key, bytes); wait = wait } ∷ []
put_late (Err Failed) None key bytes = []
put_late (Err NoMemory) land key bytes = []
put_late (Ok x) land key bytes = []

-- ---- sharing

-- what a snapshot tells of the last yard; before the first it has no keys
abbrev pub loan_of : Option Laid → Laid
loan_of None = record { specs = []; promise = [] }
loan_of (Some l) = l

-- the keys of the last yard, and the bytes that the made ones are to hold
abbrev pub lent_by : Memory → Lent
lent_by m = record { specs = m.loan.specs; promise = bytes_under m.loan.promise }

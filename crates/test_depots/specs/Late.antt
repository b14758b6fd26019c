-- A put that failed and may land later. This project's own rules.
use Rattle.std.specs.Prelude.{◌≡◌, ◌⊎◌, ℕ, ◌-◌, ◌==◌, if◌then◌else◌, List, [], ◌∷◌, Option, Some, None}
use Rattle.cu_store.specs.Held.{Contents, Write}
use Rattle.cu_store.specs.Steps.{Shown, AllLateIn, LandsLate, NoChange, OrLate}
use Rattle.test_depots.specs.declared.late.FailedPut.{FailedPut}

-- the put that lands at the next call
abbrev pub due_put : Option FailedPut → Option FailedPut
due_put None = None
due_put (Some put) = if put.wait == 0 then Some put else None

-- the put that is late after the next call: it waits for one call less
abbrev pub still_late : Option FailedPut → Option FailedPut
still_late None = None
still_late (Some put) = if put.wait == 0 then None else Some (record put { wait = put.wait - 1 })

-- the put that is late after one of this key and these bytes has failed: one that was late before is kept, and the other only where it
-- is to land and there is memory
abbrev pub KeepsAtMost : Option ℕ → List ℕ → List ℕ → Option FailedPut → Option FailedPut → Type 0
KeepsAtMost land key bytes old new = (new ≡ old) ⊎ ((put : FailedPut) × (new ≡ Some put) × (old ≡ None) × (land ≡ Some put.wait) × (put.key ≡ key) × (put.bytes.items ≡ bytes))

-- what may still land, where the contents are told: the late put too; where nothing is told, nothing is said of it
abbrev pub late_with : Option Contents → Option FailedPut → List Write → List Write
late_with None put late = []
late_with (Some held) None late = late
late_with (Some held) (Some put) late = (put.key, put.bytes.items) ∷ late

-- what is seen of a depot, with a late put and counts of one's own
abbrev pub shown_with : Shown → Option FailedPut → ℕ → ℕ → Shown
shown_with shown put faults calls = record { held = shown.held; late = late_with shown.held put shown.late; faults = faults; calls = calls; lacks = shown.lacks }

-- nothing is done but that late puts land
pub record LandsOnly (old new : Shown) : Type 0 where
  pub lands : LandsLate old new
  pub late : AllLateIn new.late (OrLate NoChange old.late)
  pub lacks : new.lacks ≡ old.lacks

-- The keys of a plan in the order in which they are removed, the record last, and what removing keys in an order leaves. This project's own rules.
use Rattle.std.specs.Prelude.{◌≡◌, ◌⊎◌, ℕ, ◌*◌, List, [], ◌∷◌, ◌++◌, length, All, Contains, Option, Some, None, Result, OnOk, IfErr}
use Rattle.cu_store.specs.Faults.{Rose}
use Rattle.cu_store.specs.Held.{Contents, Write, IsAmong}
use Rattle.cu_store.specs.Steps.{Shown, Changes, Steps, OnceEach}
use Rattle.cu_store.specs.declared.faults.DepotFault.{DepotFault}
use Rattle.cu_store.specs.declared.faults.DepotFault.TheVariants as depot
use Rattle.cu_op.specs.PlanView.{PlanView}
use Rattle.cu_work.specs.Ends.{EndsAt}
use Rattle.cu_work.specs.Order.{plan_keys}
use Rattle.cu_work.specs.declared.removal.RemoveFault.{RemoveFault}
use Rattle.cu_work.specs.declared.removal.RemoveFault.TheVariants.{Failed, NoMemory}

-- the metadata's key, and then those of the chunks by operation, task and chunk
abbrev pub keys_before_record : PlanView → List ℕ → List (List ℕ)
keys_before_record p metadata_key = metadata_key ∷ plan_keys p (length p.ops)

-- and the record's last
abbrev pub removed_keys : PlanView → List ℕ → List ℕ → List (List ℕ)
removed_keys p record_key metadata_key = keys_before_record p metadata_key ++ record_key ∷ []

-- one of these keys is removed
abbrev pub RemovalIn : List (List ℕ) → Changes
RemovalIn keys key value = Contains keys key × (value ≡ None)

-- the key is absent, or a put that was late landed there
abbrev pub IsGoneBut : List Write → Option Contents → List ℕ → Type 0
IsGoneBut late None key = Unit {0}
IsGoneBut late (Some held) key = (held key ≡ None) ⊎ ((bytes : List ℕ) × (held key ≡ Some bytes) × IsAmong late key bytes)

-- Removing ended at this key. Those before it were removed: each is absent, or a put that was late at first landed there.
pub record StopsAt (tries : ℕ) (keys : List (List ℕ)) (shown : Shown × Shown) (key : List ℕ) (fault : DepotFault) : Type 0 where
  pub ends : EndsAt RemovalIn tries keys shown key fault
  pub gone : All (IsGoneBut shown.0.late shown.1.held) ends.front

-- why removing ended: each of the calls for a key failed, or the store lacked memory at one
abbrev pub IsRemoveFault : ℕ → List (List ℕ) → Shown × Shown → RemoveFault → Type 0
IsRemoveFault tries keys shown (Failed key) = StopsAt tries keys shown key depot.Failed
IsRemoveFault tries keys shown NoMemory = (key : List ℕ) × StopsAt tries keys shown key depot.NoMemory

-- Keys were removed, each by at most `tries` calls, and by one at least where all were; beside one call
-- a key there were no more than failed.
pub record AreRemoved (tries : ℕ) (keys : List (List ℕ)) (old new : Shown) (result : Result (Unit {0}) RemoveFault) : Type 0 where
  pub step : Steps (RemovalIn keys) 0 (tries * length keys) old new
  pub once : OnceEach (length keys) old new
  pub called : OnOk result (Rose (length keys) old.calls new.calls)
  pub gone : OnOk result (All (IsGoneBut old.late new.held) keys)
  pub cause : IfErr result (IsRemoveFault tries keys (old, new))

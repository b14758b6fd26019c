-- The keys of a plan that would be in the way of a run. This project's own rules.
use Rattle.std.specs.Prelude.{◌≡◌, ◌⊎◌, ℕ, true, List, Contains, Some}
use Rattle.cu_form.specs.Expression.{Expression}
use Rattle.cu_store.specs.Faults.{Rose}
use Rattle.cu_store.specs.Held.{Contents, IsHeldIn}
use Rattle.cu_store.specs.Steps.{Shown}
use Rattle.cu_zarr.specs.Key.{metadata_key_of, zarray_key_of}
use Rattle.cu_name.specs.Keys.{record_key_of}
use Rattle.cu_work.specs.Order.{IsFirst}
use Rattle.cu_work.specs.declared.way.WayFault.{WayFault}
use Rattle.cu_work.specs.declared.way.WayFault.TheVariants.{Held, Failed, NoMemory}
use Rattle.cu_command.specs.declared.status.Status.{Status}
use Rattle.cu_command.specs.declared.status.Status.TheVariants as answer
use Rattle.cu_top.specs.Prepare.{is_own_input}

-- a key of the list, before which nothing was held under the others, where the contents are told
abbrev pub IsFirstOf : Shown → List (List ℕ) → List ℕ → Type 0
IsFirstOf old keys key = Contains keys key × ((entry : Contents) → old.held ≡ Some entry → IsFirst entry keys key)

-- The key is held. An output that is also an input has metadata: where that of version 3 isn't held, that of version 2 counts as held.
abbrev pub IsInWay : Expression → Shown → List ℕ → Type 0
IsInWay e new key = IsHeldIn new.held key ⊎ ((key ≡ zarray_key_of e.store_as) × (is_own_input e ≡ true))

-- where the output is an input, the key in the way is the record's or one of its metadata's
abbrev pub IsOwnFirst : Expression → List ℕ → Type 0
IsOwnFirst e key = is_own_input e ≡ true → (key ≡ record_key_of e.store_as) ⊎ ((key ≡ metadata_key_of e.store_as) ⊎ (key ≡ zarray_key_of e.store_as))

-- why asking for the keys of the plan ended
abbrev pub IsAskEnd : ℕ → Expression → List (List ℕ) → Shown → Shown → WayFault → Type 0
IsAskEnd tries e keys old new (Held key) = IsFirstOf old keys key × IsInWay e new key × IsOwnFirst e key
IsAskEnd tries e keys old new (Failed key) = IsFirstOf old keys key × Rose tries old.faults new.faults × IsOwnFirst e key
IsAskEnd tries e keys old new NoMemory = Unit {0}

-- what a run answers where asking ended so
abbrev pub answer_of : WayFault → Status
answer_of (Held key) = answer.Exists key
answer_of (Failed key) = answer.DepotFailed key
answer_of NoMemory = answer.NoMemory

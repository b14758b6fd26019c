-- What is told of the calls for one key.
use Rattle.std.specs.Prelude.{◌≡◌, ◌⊎◌, ℕ, Bool, IsTrue, List}
use Rattle.cu_store.specs.Faults.{Rose}
use Rattle.cu_store.specs.Steps.{Shown, NoChange}
use Rattle.cu_command.specs.Seen.{Stepped}
use Rattle.cu_command.specs.declared.status.Status.{Status}
use Rattle.cu_command.specs.declared.status.Status.TheVariants.{DepotFailed, NoMemory}

-- A key fails only where so many calls failed, the count risen in each; want of memory comes only of a depot that lacks.
abbrev pub IsKeyFault : ℕ → ℕ → ℕ → Bool → List ℕ → Status → Type 0
IsKeyFault tries before after lacks key (DepotFailed failed) = (failed ≡ key) × Rose tries before after
IsKeyFault tries before after lacks key NoMemory = IsTrue lacks
IsKeyFault tries before after lacks key status = ⊥

-- where memory was wanted for a value, nothing was put and nothing new is late, unless a call failed before
abbrev pub IsValueUnput : Shown → Shown → Status → Type 0
IsValueUnput old new NoMemory = Stepped NoChange old new ⊎ Rose 1 old.faults new.faults
IsValueUnput old new status = Unit {0}

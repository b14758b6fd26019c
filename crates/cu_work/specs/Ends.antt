-- Calls for the keys of a list, one key after another, that ended at one of them. This project's own rule.
use Rattle.std.specs.Prelude.{◌≡◌, ℕ, ◌+◌, ◌*◌, List, ◌∷◌, ◌++◌, length, Err}
use Rattle.cu_store.specs.Steps.{Shown, Changes, NoChange, Steps, OnceEach, Caused}
use Rattle.cu_store.specs.declared.faults.DepotFault.{DepotFault}

-- what calls for keys change: nothing
abbrev pub NoneOf : List (List ℕ) → Changes
NoneOf keys = NoChange

-- The calls for this key ended in a fault of the store, each of them failed or the store lacks memory, and changed nothing. Those before it were called
-- for, each at least once, which changed what W says of them. Beside one call a key there were no more
-- than failed.
pub record EndsAt (W : List (List ℕ) → Changes) (tries : ℕ) (keys : List (List ℕ)) (shown : Shown × Shown) (key : List ℕ) (fault : DepotFault) : Type 0 where
  pub front : List (List ℕ)
  pub back : List (List ℕ)
  pub listed : keys ≡ front ++ key ∷ back
  pub between : Shown
  pub before : Steps (W front) (length front) (tries * length front) shown.0 between
  pub last : Steps NoChange 1 tries between shown.1
  pub once : OnceEach (length front + 1) shown.0 shown.1
  pub cause : Caused {T = Unit {0}} tries between shown.1 (Err fault)

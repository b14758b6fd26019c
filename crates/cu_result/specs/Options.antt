-- Steps that may have no value, one after another (this project's own words).
use Rattle.std.specs.Prelude.{Bool, true, false, Option, Some, None, ⊤, option_and_then}

-- the next step, where this one gave a value
infixl 10 ◌>>=◌
abbrev pub ◌>>=◌ : {A B : Type 0} → Option A → (A → Option B) → Option B
o >>= f = option_and_then f o

-- a step that goes on where the test holds
abbrev pub when : Bool → Option ⊤
when true = Some tt
when false = None

-- Steps that may fail, one after another: the last one's value, or the first fault (this project's own words).
use Rattle.std.specs.Prelude.{Bool, true, false, Option, Some, None, Result, Ok, Err, ⊤}

-- the next step, where this one gave a value
infixl 10 ◌>>=◌
abbrev pub ◌>>=◌ : {A B E : Type 0} → Result A E → (A → Result B E) → Result B E
(Ok x) >>= f = f x
(Err e) >>= f = Err e

-- a step that goes on where the test holds, and else is this fault
abbrev pub check : {E : Type 0} → Bool → E → Result ⊤ E
check true e = Ok tt
check false e = Err e

-- a step that goes on with the value where there is one, and else is this fault
abbrev pub need : {A E : Type 0} → Option A → E → Result A E
need (Some x) e = Ok x
need None e = Err e

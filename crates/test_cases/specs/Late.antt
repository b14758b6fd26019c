-- Which calls may be made over a depot that tells its contents. This project's own rules.
use Rattle.std.specs.Prelude.{◌≡◌, Bool, true, false, ◌||◌, List, ℕ, [], ◌∷◌, bytes_eq, codes, Option, Some, None, Ok}
use Rattle.cu_store.specs.Held.{Contents, Write}
use Rattle.cu_top.specs.Words.{Command, command_of, resume, part}

-- the first word is `resume` or `part`
abbrev pub is_going_on : List (List ℕ) → Bool
is_going_on [] = false
is_going_on (word ∷ rest) = bytes_eq word (codes "resume") || bytes_eq word (codes "part")

-- the command goes on from what a plan left
abbrev pub goes_on : Command → Bool
goes_on (resume options) = true
goes_on (part options tasks) = true
goes_on command = false

-- the words don't ask for such a command
abbrev pub GoesOnNowhere : List (List ℕ) → Type 0
GoesOnNowhere words = (command : Command) → command_of words ≡ Ok command → goes_on command ≡ true → ⊥

-- where the contents are told, no put is late, and nothing goes on
abbrev pub MayCall : List (List ℕ) → Option Contents → List Write → Type 0
MayCall words None late = Unit {0}
MayCall words (Some held) late = (late ≡ []) × GoesOnNowhere words

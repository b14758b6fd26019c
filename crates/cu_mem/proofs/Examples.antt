-- The definitions at small examples.
use Rattle.std.proofs.Common.{◌≡◌, ℕ, List, [], ◌∷◌, Some, None, true, false, refl}
use Rattle.cu_mem.specs.declared.late.Waiting.{Waiting}
use Rattle.cu_cells.specs.declared.script.CallKind.TheVariants.{Has, Put}
use Rattle.cu_cells.specs.declared.script.Counted.{Counted}
use Rattle.cu_mem.specs.Entries.{held_in}
use Rattle.cu_mem.specs.Late.{lands_on, waiting}
use Rattle.cu_cells.specs.Script.{Progress, fails, land, next}

-- two puts on key 1 are due, the later one counts; one on key 2 lands two calls later
abbrev late : List Waiting
late = record { entry = (1 ∷ [], 7 ∷ []); wait = 0 } ∷ record { entry = (2 ∷ [], 9 ∷ []); wait = 2 } ∷ record { entry = (1 ∷ [], 8 ∷ []); wait = 0 } ∷ []

lands_last : lands_on late (1 ∷ []) ≡ Some (8 ∷ [])
lands_last = refl

lands_not_yet : lands_on late (2 ∷ []) ≡ None
lands_not_yet = refl

lands_two_calls_later : lands_on (waiting (waiting late)) (2 ∷ []) ≡ Some (9 ∷ [])
lands_two_calls_later = refl

first_entry : held_in ((1 ∷ [], Some (5 ∷ [])) ∷ (1 ∷ [], Some (6 ∷ [])) ∷ []) (1 ∷ []) ≡ Some (5 ∷ [])
first_entry = refl

-- puts on key 1, of which the second and the third fail
abbrev rule : ℕ → Counted
rule count = record { rule = record { call = Put; key = Some (1 ∷ []); skip = 1; times = 2; land = None }; count = count }

abbrev script : ℕ → Progress
script count = record { rules = rule count ∷ []; stop_after = Some 9; calls = count }

works_at_first : fails (script 0) Put (1 ∷ []) ≡ false
works_at_first = refl

fails_then : fails (next (script 0) Put (1 ∷ [])) Put (1 ∷ []) ≡ true
fails_then = refl

fails_last : fails (script 2) Put (1 ∷ []) ≡ true
fails_last = refl

works_again : fails (script 3) Put (1 ∷ []) ≡ false
works_again = refl

other_kind : fails (script 2) Has (1 ∷ []) ≡ false
other_kind = refl

other_key : fails (script 2) Put (2 ∷ []) ≡ false
other_key = refl

stopped : fails (script 9) Has (2 ∷ []) ≡ true
stopped = refl

never_lands : land (script 2) Put (1 ∷ []) ≡ None
never_lands = refl

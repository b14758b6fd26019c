-- Calls that are written down. This project's own rule.
use Rattle.std.specs.Prelude.{◌≡◌, ◌⊎◌, ◌++◌, ◌∷◌, [], ℕ, List, Option, Some, None}
use Rattle.cu_cells.specs.declared.script.CallKind.{CallKind}
use Rattle.test_depots.specs.declared.log.LoggedCall.{LoggedCall}
use Rattle.test_depots.specs.declared.watched.Watched.{Watched}
use Rattle.test_depots.specs.declared.watched_yard.WatchedPass.{WatchedPass}

-- The calls in their order, or None where there was no memory to write one down.
abbrev pub Calls : Type 0
Calls = Option (List LoggedCall)

-- a call
abbrev pub call_on : CallKind → List ℕ → LoggedCall
call_on kind key = record { kind = kind; key = key }

-- These calls are written down behind the others, or the log tells none: it told none before, or there was no memory.
abbrev pub Notes : List LoggedCall → Calls → Calls → Type 0
Notes more old new = (new ≡ None) ⊎ ((calls : List LoggedCall) × (old ≡ Some calls) × (new ≡ Some (calls ++ more)))

-- The same of one call.
abbrev pub NotesCall : CallKind → List ℕ → Calls → Calls → Type 0
NotesCall kind key = Notes (call_on kind key ∷ [])

-- The calls of another log are written down behind the others, where it tells them.
abbrev pub NotesAll : Calls → Calls → Calls → Type 0
NotesAll None old new = new ≡ None
NotesAll (Some more) old new = Notes more old new

-- what was written down of a depot's calls, and of a pass's
abbrev pub log_of : {D : Type 0} → Watched D → Calls
log_of w = w.log

abbrev pub pass_calls : {P : Type 0} → WatchedPass P → Calls
pass_calls p = p.log

-- What a history says: a list of entries, the oldest first. This project's own rule.
use Rattle.std.specs.Prelude.{ℕ, ◌+◌, ◌==◌, ◌&&◌, ◌||◌, Bool, true, false, List, [], ◌∷◌, if◌then◌else◌}
use Rattle.cu_history.specs.declared.entry.Entry.{Entry}
use Rattle.cu_history.specs.declared.entry.EventKind.{EventKind}
use Rattle.cu_history.specs.declared.entry.EventKind.TheVariants.{Start, Done, Failed, Halt}

-- ---- kinds

abbrev pub is_start : EventKind → Bool
is_start Start = true
is_start kind = false

abbrev pub is_done : EventKind → Bool
is_done Done = true
is_done kind = false

abbrev pub is_failed : EventKind → Bool
is_failed Failed = true
is_failed kind = false

abbrev pub is_halt : EventKind → Bool
is_halt Halt = true
is_halt kind = false

-- ---- what is said of some entries

-- how many entries are of a kind
abbrev pub count_kind : (EventKind → Bool) → List Entry → ℕ
count_kind f [] = 0
count_kind f (e ∷ es) = (if f e.kind then 1 else 0) + count_kind f es

-- how many of them are of this task
abbrev pub count_of_task : (EventKind → Bool) → ℕ → ℕ → List Entry → ℕ
count_of_task f op task [] = 0
count_of_task f op task (e ∷ es) = (if f e.kind && (e.op == op) && (e.task == task) then 1 else 0) + count_of_task f op task es

-- whether a copy ended with a fault that isn't tried again
abbrev pub has_halt : List Entry → Bool
has_halt [] = false
has_halt (e ∷ es) = is_halt e.kind || has_halt es

-- the entries of one worker
abbrev pub own : ℕ → List Entry → List Entry
own n [] = []
own n (e ∷ es) = if e.worker == n then e ∷ own n es else own n es

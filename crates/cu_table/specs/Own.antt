-- What a worker's own entries say of the task that it runs. This project's own rule.
use Rattle.std.specs.Prelude.{ℕ, ◌==◌, not, Bool, List, [], ◌∷◌, Option, Some, None, if◌then◌else◌}
use Rattle.cu_history.specs.declared.entry.Entry.{Entry}
use Rattle.cu_history.specs.declared.entry.EventKind.{EventKind}
use Rattle.cu_history.specs.History.{is_start}
use Rattle.cu_table.specs.declared.state.RunningCopy.{RunningCopy}

-- the operation and task that these entries of one worker leave running, where it ran `now` before
abbrev pub left_running : Option (ℕ × ℕ) → List Entry → Option (ℕ × ℕ)
left_running now [] = now
left_running now (e ∷ es) = left_running (if is_start e.kind then Some (e.op, e.task) else None) es

-- the operation and task of the worker's copy
abbrev pub running_of : List RunningCopy → ℕ → Option (ℕ × ℕ)
running_of [] worker = None
running_of (c ∷ cs) worker =
    if c.worker == worker then Some (c.op, c.task) else running_of cs worker

-- an entry that ends a copy
abbrev pub is_end : EventKind → Bool
is_end kind = not (is_start kind)

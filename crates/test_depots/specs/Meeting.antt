-- Which tasks a gate holds. This project's own rules.
use Rattle.std.specs.Prelude.{ℕ, Bool, ◌==◌, ◌&&◌, List}
use Rattle.std.specs.List.{list_any}
use Rattle.test_depots.specs.declared.meeting.Held.{Held}

-- the task is one of these
abbrev pub is_one_of : List Held → ℕ → ℕ → Bool
is_one_of tasks op task = list_any (λ h. h.op == op && h.task == task) tasks

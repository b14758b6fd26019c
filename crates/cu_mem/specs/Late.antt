-- Puts that failed and land at a later call. This project's own rules.
use Rattle.std.specs.Prelude.{ℕ, ◌-◌, List, Option, ◌==◌, ◌&&◌, map, filter, find, reverse, not, Bool, option_map}
use Rattle.std.specs.Str.{bytes_eq}
use Rattle.cu_store.specs.Held.{Write}
use Rattle.cu_mem.specs.declared.late.Waiting.{Waiting}

-- whether a late put lands at the next call
abbrev pub is_due : Waiting → Bool
is_due w = w.wait == 0

-- the bytes that land on a key at the next call: those of the put on it that failed last, among
-- those that are due
abbrev pub lands_on : List Waiting → List ℕ → Option (List ℕ)
lands_on late key = option_map (λ w. w.entry.1) (find (λ w. is_due w && bytes_eq w.entry.0 key) (reverse late))

-- a late put after one call more
abbrev pub one_less : Waiting → Waiting
one_less w = record w { wait = w.wait - 1 }

-- the puts that are late after the next call: those that weren't due, which wait for one call less
abbrev pub waiting : List Waiting → List Waiting
waiting late = map one_less (filter (λ w. not (is_due w)) late)

-- the keys and bytes of the late puts
abbrev pub late_writes : List Waiting → List Write
late_writes late = map (λ w. w.entry) late

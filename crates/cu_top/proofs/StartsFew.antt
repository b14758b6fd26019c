-- How often tasks were started at most: each start has an end, and a history has few entries.
use Rattle.std.proofs.Common.{◌≡◌, ◌+◌, ◌*◌, ◌≤◌, Bool, List, [], ◌∷◌, length, refl, ap, arith}
use Rattle.std.proofs.Math.Nat.{mul_assoc}
use Rattle.cu_history.specs.History.{is_start, count_kind}
use Rattle.cu_history.specs.declared.entry.Entry.{Entry}
use Rattle.cu_history.specs.declared.entry.EventKind.{EventKind}
use Rattle.cu_history.specs.declared.entry.EventKind.TheVariants.{Start, Done, Failed, Halt, Late}
use Rattle.cu_table.proofs.Counting.{count_run, one}
use Rattle.cu_table.proofs.Keeping.{history_few, opening_kept}
use Rattle.cu_table.specs.Machine.{Machine, opening}
use Rattle.cu_table.specs.Numbers.{task_count}
use Rattle.cu_table.specs.Own.{is_end}
use Rattle.cu_table.specs.Step.{Settings, Replays}
use Rattle.cu_table.specs.declared.state.RunningCopy.{RunningCopy}

-- an entry is a start or an end
one_kind : (kind : EventKind) → one (is_start kind) + one (is_end kind) ≡ 1
one_kind Start = refl
one_kind Done = refl
one_kind Failed = refl
one_kind Halt = refl
one_kind Late = refl

all_kinds : (es : List Entry) → length es ≡ count_kind is_start es + count_kind is_end es
all_kinds [] = refl
all_kinds (e ∷ es) =
    let rest = all_kinds es in
    let here = one_kind e.kind in
    let s : count_kind is_start (e ∷ es) ≡ one (is_start e.kind) + count_kind is_start es = refl in
    let n : count_kind is_end (e ∷ es) ≡ one (is_end e.kind) + count_kind is_end es = refl in
    omega (arith, rest, here, s, n)

pub starts_few : (g : Settings) (done : List Bool) (history : List Entry) (m : Machine) → Replays g done history m → m.copies ≡ []
    → count_kind is_start history ≤ (g.retries + 2) * task_count g.plan
starts_few g done history m replay resting =
    let few = history_few g done history (m, replay) in
    let both = all_kinds history in
    let ended = (count_run g (opening done) history m (opening_kept g.plan g.retries done replay.0) replay.1).0 in
    let none = ap (λ (cs : List RunningCopy). length cs) resting in
    let twice = mul_assoc 2 (g.retries + 2) (task_count g.plan) in
    omega (arith, few, both, ended, none, twice)

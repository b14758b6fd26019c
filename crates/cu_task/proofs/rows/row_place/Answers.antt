use Rattle.std.proofs.Common.{◌≡◌, ◌+◌, ◌-◌, ◌*◌, ◌≤◌, ℕ, Option, Some, None, IfSome, ap, sym, subst, arith}
use Rattle.std.specs.Prelude.{SomeIff}
use Rattle.cu_task.proofs.rows.row_place.Goals as goal

by_some : (r : Option ℕ) (P : Type 0) (v : ℕ) (Q : ℕ → Type 0) → (P → Q v) → SomeIff r P v → IfSome r Q
by_some None P v Q f h = tt
by_some (Some x) P v Q f h = subst Q (sym h.1) (f h.0)

-- so many rows, in bytes
parted : (first needed row bytes : ℕ) → first ≤ needed → bytes ≡ (needed - first) * row → needed * row ≡ first * row + bytes
parted first needed row bytes low is =
    let all : needed ≡ first + (needed - first) = omega arith in
    let times : needed * row ≡ (first + (needed - first)) * row = ap (λ (n : ℕ). n * row) all in
    omega (arith, times, is)

pub returns-in_ok-bytes : goal.returns-in_ok-bytes
returns-in_ok-bytes c =
    let less = c.if-first-needed.true in
    let rows = parted c.args.first c.args.needed c.args.row c.in_ok-bytes.bytes (omega (arith, less)) c.in_ok-bytes.ensures.1 in
    by_some c.checked_sub.result _ _ (λ (at : ℕ). at + c.args.needed * c.args.row ≡ c.args.before + c.args.first * c.args.row) (λ few. omega (arith, few, rows)) c.checked_sub.ensures

pub returns-in_ok-bytes-2 : goal.returns-in_ok-bytes-2
returns-in_ok-bytes-2 c =
    let more = c.if-first-needed.false in
    let rows = parted c.args.needed c.args.first c.args.row c.in_ok-bytes-2.bytes (omega (arith, more)) c.in_ok-bytes-2.ensures.1 in
    by_some c.checked_add.result _ _ (λ (at : ℕ). at + c.args.needed * c.args.row ≡ c.args.before + c.args.first * c.args.row) (λ few. omega (arith, rows)) c.checked_add.ensures

-- A source and a sink in memory, as contracts see them. This project's own rules.
use Rattle.std.specs.Prelude.{◌≡◌, ℕ, ◌+◌, ◌≤◌, List, Option, Some, None, min, Result, Ok, Err}
use Rattle.cu_store.specs.Faults.{last_count}
use Rattle.cu_store.specs.declared.faults.Failed.{Failed}

pub record SourceState : Type 0 where
  -- the bytes that are left
  pub left : List ℕ
  pub fail_at : Option ℕ
  pub calls : ℕ
  pub faults : ℕ

pub record SinkState : Type 0 where
  -- the bytes written
  pub text : List ℕ
  -- how many bytes there is room for in all
  pub room : ℕ
  pub fail_at : Option ℕ
  pub calls : ℕ
  pub faults : ℕ

-- whether the call of this number fails: from the first on that does, each fails
abbrev pub FailsAt : Option ℕ → ℕ → Type 0
FailsAt None call = ⊥
FailsAt (Some first) call = first ≤ call

-- the count of faults rises by one with Failed, and else stands
abbrev pub RaisesOne : {T : Type 0} → Result T Failed → ℕ → ℕ → Type 0
RaisesOne (Ok x) old new = new ≡ old
RaisesOne (Err e) old new = new ≡ min (old + 1) last_count

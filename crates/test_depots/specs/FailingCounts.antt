-- Counts of a depot's own, in place of those of the depot in it, and the calls that fail. This project's own rules.
use Rattle.std.specs.Prelude.{◌≡◌, ◌≤◌, ◌<◌, ℕ, ◌+◌, min, Result, Err}
use Rattle.cu_store.specs.Faults.{last_count, Rose}
use Rattle.cu_store.specs.Yard.{Known}
use Rattle.cu_store.specs.declared.faults.DepotFault.{DepotFault}
use Rattle.cu_store.specs.declared.faults.DepotFault.TheVariants.{Failed}
use Rattle.test_depots.specs.declared.span.FailingCalls.{FailingCalls}

-- the call of this number fails
abbrev pub IsCallOfSpan : FailingCalls → ℕ → Type 0
IsCallOfSpan span number = (span.first ≤ number) × (number < span.first + span.times)

-- what a pass knows, with these counts
abbrev pub known_with : Known → ℕ → ℕ → Known
known_with known faults calls = record { promise = known.promise; entries = known.entries; lacks = known.lacks; seen = known.seen; faults = faults; calls = calls }

-- one fault more where a call failed, and else none
abbrev pub AddsFault : {A : Type 0} → ℕ → ℕ → Result A DepotFault → Type 0
AddsFault old new (Err Failed) = new ≡ min (old + 1) last_count
AddsFault old new result = new ≡ old

-- the answer is a fault, which is counted
abbrev pub IsCountedFault : {A : Type 0} → ℕ → ℕ → Result A DepotFault → Type 0
IsCountedFault old new (Err Failed) = new ≡ min (old + 1) last_count
IsCountedFault old new result = ⊥

-- A call of the span fails. Where another fails, a call of the depot in it has failed: its count of faults has risen.
pub record FailsBy {A : Type 0} (span : FailingCalls) (number before after : ℕ) (result : Result A DepotFault) : Type 0 where
  pub spanned : IsCallOfSpan span number → result ≡ Err Failed
  pub others : (IsCallOfSpan span number → ⊥) → result ≡ Err Failed → Rose 1 before after

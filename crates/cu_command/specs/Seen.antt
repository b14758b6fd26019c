-- What a command sees of the outside: streams and a depot. This project's own rules.
use Rattle.std.specs.Prelude.{◌≡◌, ℕ, ◌+◌, ◌≤◌, List, Option}
use Rattle.cu_store.specs.Steps.{Shown, Changes, NoChange, Steps}

-- what is seen of a source or a sink: the bytes that are left or written, where they are told, and how often it has failed
pub record Stream : Type 0 where
  pub told : Option (List ℕ)
  pub faults : ℕ

abbrev pub stream : Option (List ℕ) → ℕ → Stream
stream told faults = record { told = told; faults = faults }

-- a sink and a depot
pub record Seen : Type 0 where
  pub out : Stream
  pub depot : Shown

abbrev pub seen : Stream → Shown → Seen
seen out depot = record { out = out; depot = depot }

-- calls of a depot, however many: what landed is one of the changes W or was late, and so is what is late now
pub record Stepped (W : Changes) (old new : Shown) : Type 0 where
  pub calls : ℕ
  pub step : Steps W 0 calls old new

-- at most so many calls of a depot were made
abbrev pub WithinCalls : ℕ → Shown → Shown → Type 0
WithinCalls most old new = new.calls ≤ old.calls + most

-- nothing was written, and nothing but puts that were late has landed
abbrev pub WroteNothing : Seen → Seen → Type 0
WroteNothing old new = Stepped NoChange old.depot new.depot × (new.out.told ≡ old.out.told)

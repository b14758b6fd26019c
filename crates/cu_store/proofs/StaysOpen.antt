-- What stays open, along calls.
use Rattle.std.proofs.Common.{List, ℕ}
use Rattle.cu_store.specs.Chunks.{StaysOpen}

pub open_same : {B : Type 0} (K : List ℕ → Type 0) → B → StaysOpen B K K
open_same K belongs = record {
  belongs = belongs;
  gets = λ key may. may;
}

pub open_then : {A B : Type 0} {K L M : List ℕ → Type 0} → StaysOpen A K L → StaysOpen B L M → StaysOpen B K M
open_then first second = record {
  belongs = second.belongs;
  gets = λ key may. second.gets key (first.gets key may);
}

-- Elements that are taken one after another into the results of levels.
use Rattle.std.specs.Prelude.{◌≡◌, ℕ, ◌+◌, ◌<◌, ℤ, List, map}
use Rattle.cu_num.specs.Element.{element_at}
use Rattle.cu_num.specs.declared.layout.Endian.TheVariants.{Little}
use Rattle.cu_take.specs.Taken.{HasTaken, elements_at_places}
use Rattle.cu_fold.specs.Levels.{results, sources, places_in}
use Rattle.cu_fold.specs.declared.levels.Level.{Level}
use Rattle.cu_fold.specs.declared.types.Fold.{Fold}
use Rattle.cu_fold.specs.declared.types.Places.{Places}

-- each result of these levels has taken its elements
abbrev pub TakesAll : Fold → List Level → List ℕ → List ℕ → List ℕ → Type 0
TakesAll fold levels input old new = (q : ℕ) → q < results levels → HasTaken fold.kind fold.acc old new q (elements_at_places fold.from input (sources levels q))

-- Each result of these levels has taken those of its elements that stand at some places, with which `input` begins; `at` is the element at
-- each place.
pub record TakesPart (fold : Fold) (levels : List Level) (places : Places) (input old new : List ℕ) : Type 0 where
  pub each : (at : ℕ → ℤ) → ((k : ℕ) → k < places.count → at (places.start + k) ≡ element_at Little fold.from input k)
      → (q : ℕ) → q < results levels → HasTaken fold.kind fold.acc old new q (map at (places_in levels q places.start places.count))

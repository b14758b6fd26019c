-- The least or the greatest element, and the first place that has it.
use Rattle.std.specs.Prelude.{◌≡◌, ℕ, ◌+◌, ℤ, Bool, ◌||◌, int_le, List, if◌then◌else◌}
use Rattle.cu_reduce.specs.Folds.{least_of, greatest_of}
use Rattle.cu_reduce.specs.Places.{best_place}
use Rattle.cu_mean.specs.declared.places.Best.{Best}

abbrev pub best_number : Bool → List ℤ → ℤ
best_number least xs = if least then least_of xs else greatest_of xs

-- x takes the place of the best of those behind it, or there are none
abbrev pub takes_place : Bool → ℤ → ℤ → Bool → Bool
takes_place least x best last = last || (if least then int_le x best else int_le best x)

-- the best of elements that stand from a place on
pub record IsBestFrom (least : Bool) (from : ℕ) (xs : List ℤ) (best : Best) : Type 0 where
  pub number : best.number ≡ best_number least xs
  pub place : best.place ≡ from + best_place least xs

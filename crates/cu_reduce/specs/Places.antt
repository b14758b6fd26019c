-- The least or the greatest number of a list and the least place that has it (Python array API, "Searching Functions").
use Rattle.std.specs.Prelude.{◌≡◌, ℕ, ◌+◌, ◌==◌, ◌≤ℤ◌, ℤ, pos, Bool, true, false, not, ◌&&◌, ◌||◌, int_lt, List, [], ◌∷◌, slice_index, Option, None, Some, Contains, option_map, option_and_then, if◌then◌else◌}
use Rattle.std.specs.Ordering.{int_eq}
use Rattle.std.specs.List.{position_or_len}
use Rattle.cu_shape.specs.Index.{place_of}
use Rattle.cu_reduce.specs.Folds.{least_of, greatest_of, all_some}

-- a number and its place
pub record Found : Type 0 where
  pub value : ℤ
  pub place : ℤ

-- y is less than x, or greater
abbrev pub is_beyond : Bool → ℤ → ℤ → Bool
is_beyond true y x = int_lt y x
is_beyond false y x = int_lt x y

-- y's number is better, or as good and stands at an earlier place
abbrev pub is_better : Bool → Found → Found → Bool
is_better least y x = is_beyond least y.value x.value || (not (is_beyond least x.value y.value) && int_lt y.place x.place)

-- the better of two; parts may come in any order, since places decide among equal numbers
abbrev pub better_of : Bool → Found → Found → Found
better_of least a b = if is_better least b a then b else a

-- the best of those that are there
abbrev pub better_of_some : Bool → Option Found → Option Found → Option Found
better_of_some least None b = b
better_of_some least (Some a) None = Some a
better_of_some least (Some a) (Some b) = Some (better_of least a b)

-- the best of a list, none of an empty one
abbrev pub best_of : Bool → List Found → Option Found
best_of least [] = None
best_of least (x ∷ xs) = better_of_some least (Some x) (best_of least xs)

-- the same in words: it is one of them, none is better, and none that is as good stands before it
pub record IsBest (least : Bool) (xs : List Found) (best : Found) : Type 0 where
  pub one : Contains xs best
  pub value : (x : Found) → Contains xs x → is_beyond least x.value best.value ≡ false
  pub first : (x : Found) → Contains xs x → x.value ≡ best.value → best.place ≤ℤ x.place

-- the first place of the least element of a list, or of the greatest
abbrev pub best_place : Bool → List ℤ → ℕ
best_place least xs = position_or_len (int_eq (if least then least_of xs else greatest_of xs)) xs

-- the numbers of a list with their places, from a first place on
abbrev pub numbered : ℕ → List ℤ → List Found
numbered first [] = []
numbered first (x ∷ xs) = record { value = x; place = pos first } ∷ numbered (first + 1) xs

-- ---- in an array

-- the axes along which is sought: one, or all
abbrev pub is_sought : Option ℕ → ℕ → Bool
is_sought (Some axis) d = d == axis
is_sought None d = true

-- the place that is counted of an element: along an axis, or in row-major order of the whole array
abbrev pub counted_place : Option ℕ → List ℕ → List ℕ → ℕ
counted_place (Some axis) shape idx = slice_index idx axis
counted_place None shape idx = place_of shape idx

-- a number with its place, where both are there
abbrev pub found_at : Option ℤ → Option ℤ → Option Found
found_at value place = option_and_then (λ v. option_map (λ p. record { value = v; place = p }) place) value

-- the best of elements that may be missing
abbrev pub best_in : Bool → List (Option Found) → Option Found
best_in least xs = option_and_then (best_of least) (all_some xs)

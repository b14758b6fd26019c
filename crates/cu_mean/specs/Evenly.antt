-- Boxes of an array whose places lie evenly apart.
use Rattle.std.specs.Prelude.{◌≡◌, ◌<◌, ◌≤◌, ◌⊎◌, ℕ, ◌+◌, ◌*◌, ℤ, List, [], ◌∷◌, Some, slice_get}
use Rattle.cu_shape.specs.Index.{product, place_of, index_at, sums}
use Rattle.cu_mean.specs.declared.lines.AxisSpan.{AxisSpan}

-- The box of these sizes from a first index on lies inside, and its places in row-major order are `stride` apart: on each axis it has one
-- place, or what lies behind the axis in the array is as long as what the box has there.
abbrev pub AreEven : List ℕ → List ℕ → List ℕ → ℕ → Type 0
AreEven (d ∷ ds) (i ∷ is) (n ∷ ns) stride = (i + n ≤ d) × ((n ≤ 1) ⊎ (product ds ≡ product ns * stride)) × AreEven ds is ns stride
AreEven [] [] [] stride = Unit {0}
AreEven ds is ns stride = ⊥

-- such a box, with the place of its first index and the numbers of elements
pub record IsSpan (dims start sizes : List ℕ) (s : AxisSpan) : Type 0 where
  pub first : s.first ≡ place_of dims start
  pub array : s.array ≡ product dims
  pub count : s.count ≡ product sizes
  pub even : AreEven dims start sizes s.stride

-- the elements of a box from a first index on stand evenly apart in a list
abbrev pub LieEvenly : (List ℕ → ℤ) → List ℕ → List ℕ → List ℤ → ℕ → ℕ → Type 0
LieEvenly element start sizes cells first stride = (p : ℕ) → p < product sizes → slice_get cells (first + p * stride) ≡ Some (element (sums start (index_at sizes p)))

-- Broadcasting of shapes (Python array API 2022.12, "Broadcasting").
use Rattle.std.specs.Prelude.{◌≡◌, ◌≢◌, ◌<◌, ℕ, ◌+◌, ◌-◌, ◌==◌, Bool, not, ◌&&◌, if◌then◌else◌, Option, None, Some, List, [], ◌∷◌, ◌++◌, length, replicate, max, slice_index}
use Rattle.std.specs.Option.{option_or}
use Rattle.cu_shape.specs.declared.fault.ShapeFault.{ShapeFault}
use Rattle.cu_shape.specs.declared.fault.ShapeFault.TheVariants.{Mismatch, ZeroStep, Rank}

-- a shape with as many axes as the result: those that it lacks come first and have size 1
abbrev pub aligned : ℕ → List ℕ → List ℕ
aligned rank shape = replicate (rank - length shape) 1 ++ shape

-- the rank of the result
abbrev pub rank_of : List ℕ → List ℕ → ℕ
rank_of a b = max (length a) (length b)

-- the result's size on an axis: the one that is not 1
abbrev pub broadcast_size : ℕ → ℕ → ℕ
broadcast_size n m = if n == 1 then m else n

-- the sizes on an axis differ and neither is 1
abbrev pub are_apart : ℕ → ℕ → Bool
are_apart n m = not (n == m) && (not (n == 1) && not (m == 1))

abbrev pub broadcast_sizes : List ℕ → List ℕ → List ℕ
broadcast_sizes (n ∷ ns) (m ∷ ms) = broadcast_size n m ∷ broadcast_sizes ns ms
broadcast_sizes [] ms = []
broadcast_sizes (n ∷ ns) [] = []

-- the result's shape, of shapes that broadcast
abbrev pub broadcast_of : List ℕ → List ℕ → List ℕ
broadcast_of a b = broadcast_sizes (aligned (rank_of a b) a) (aligned (rank_of a b) b)

-- the last axis on which two aligned shapes are apart, counted from the axis `first`
abbrev pub last_apart : List ℕ → List ℕ → ℕ → Option ℕ
last_apart (n ∷ ns) (m ∷ ms) first = option_or (last_apart ns ms (first + 1)) (if are_apart n m then Some first else None)
last_apart [] ms first = None
last_apart (n ∷ ns) [] first = None

-- the axis of the result for which two shapes do not broadcast; none where they do
abbrev pub mismatch_of : List ℕ → List ℕ → Option ℕ
mismatch_of a b = last_apart (aligned (rank_of a b) a) (aligned (rank_of a b) b) 0

-- two numbers of an axis: they are equal, or one is 1
abbrev pub IsApart : ℕ → ℕ → Type 0
IsApart n m = (n ≢ m) × (n ≢ 1) × (m ≢ 1)

-- the same in words: on this axis the sizes are apart, and on no later one
pub record IsLastMismatch (a b : List ℕ) (axis : ℕ) : Type 0 where
  pub below : axis < rank_of a b
  pub apart : IsApart (slice_index (aligned (rank_of a b) a) axis) (slice_index (aligned (rank_of a b) b) axis)
  pub last : (k : ℕ) → axis < k → k < rank_of a b → ¬ IsApart (slice_index (aligned (rank_of a b) a) k) (slice_index (aligned (rank_of a b) b) k)

-- the fault that names the mismatch
abbrev pub IsMismatch : List ℕ → List ℕ → ShapeFault → Type 0
IsMismatch a b (Mismatch axis) = (mismatch_of a b ≡ Some axis) × IsLastMismatch a b axis
IsMismatch a b ZeroStep = ⊥
IsMismatch a b Rank = ⊥

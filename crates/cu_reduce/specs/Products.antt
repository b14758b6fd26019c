-- Matrix products (Python array API, "Linear Algebra Functions": `matmul`). A one-dimensional left operand is one row, a right one is
-- one column, and the result keeps neither.
use Rattle.std.specs.Prelude.{ℕ, ◌+◌, ◌-◌, nat_le, List, [], ◌∷◌, ◌++◌, length, take, slice_index, if◌then◌else◌}
use Rattle.cu_shape.specs.Index.{back}

-- the axes before the last two
abbrev pub batch_of : List ℕ → List ℕ
batch_of shape = take (length shape - 2) shape

-- 1 where the operand has an axis besides the inner one, which the result keeps, else 0
abbrev pub outer_axes : List ℕ → ℕ
outer_axes shape = if nat_le 2 (length shape) then 1 else 0

-- how many axes of the result come before its matrix
abbrev pub batch_axes : List ℕ → List ℕ → List ℕ → ℕ
batch_axes a b idx = length idx - (outer_axes a + outer_axes b)

-- the indices of the operands at the inner place k, for an index of the result
abbrev pub left_index : List ℕ → List ℕ → List ℕ → ℕ → List ℕ
left_index a b idx k =
    if nat_le 2 (length a) then back (batch_of a) (take (batch_axes a b idx) idx) ++ slice_index idx (batch_axes a b idx) ∷ k ∷ [] else k ∷ []

abbrev pub right_index : List ℕ → List ℕ → List ℕ → ℕ → List ℕ
right_index a b idx k =
    if nat_le 2 (length b) then back (batch_of b) (take (batch_axes a b idx) idx) ++ k ∷ slice_index idx (batch_axes a b idx + outer_axes a) ∷ [] else k ∷ []

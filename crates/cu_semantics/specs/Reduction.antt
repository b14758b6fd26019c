-- The elements over which is reduced (Python array API, "Statistical Functions", "Utility Functions", "Searching Functions").
use Rattle.std.specs.Prelude.{ℕ, ℤ, Bool, not, List, length, map, count_by, slice_index, Option, if◌then◌else◌}
use Rattle.std.specs.List.{range_with_len}
use Rattle.cu_shape.specs.Index.{sums, indices_of}
use Rattle.cu_origin.specs.Pull.{for_each_axis}
use Rattle.cu_semantics.specs.Index.{is_named}

-- The indices over which is reduced, from a first one on: the sizes of the reduced axes, and 1 on those that are kept.
abbrev pub reduced_box : Option (List ℤ) → List ℕ → List ℕ
reduced_box axes shape = for_each_axis (length shape) (λ d. if is_named (length shape) axes d then slice_index shape d else 1)

-- how many axes before this one are kept
abbrev pub kept_before : ℕ → Option (List ℤ) → ℕ → ℕ
kept_before rank axes d = count_by (λ k. not (is_named rank axes k)) (range_with_len 0 d)

-- The first of them: 0 on the reduced axes, and the result's index on those that are kept. The result has the reduced axes too where
-- `keepdims` holds.
abbrev pub reduced_start : Option (List ℤ) → Bool → ℕ → List ℕ → List ℕ
reduced_start axes keepdims rank idx =
    for_each_axis rank (λ d. if is_named rank axes d then 0 else slice_index idx (if keepdims then d else kept_before rank axes d))

-- the elements at all of them, in row-major order
abbrev pub reduced_elements : (List ℕ → ℤ) → Option (List ℤ) → Bool → List ℕ → List ℕ → List ℤ
reduced_elements element axes keepdims shape idx =
    map (λ step. element (sums (reduced_start axes keepdims (length shape) idx) step)) (indices_of (reduced_box axes shape))

-- Products of matrices in parts: each task sums the products over one chunk of the inner axis, and where there are several such chunks the
-- result has a last axis that numbers them.
use Rattle.std.specs.Prelude.{◌≡◌, ◌⊎◌, ℕ, ◌+◌, ◌-◌, ◌*◌, ◌<◌, ◌≤◌, nat_le, ℤ, ◌*ℤ◌, List, [], ◌∷◌, ◌++◌, length, take, min, max, slice_index, slice_index_or, Option, option_map, option_and_then, if◌then◌else◌}
use Rattle.std.specs.Int.{div_ceil}
use Rattle.std.specs.List.{range_with_len}
use Rattle.cu_grid.specs.Grid.{RegularGrid}
use Rattle.cu_reduce.specs.Products.{batch_of, outer_axes}
use Rattle.cu_op.specs.Broadcast.{back_as}

-- ---- the axes

-- how many axes come before the matrix in the result of operands of these shapes, and how many it has without the one that numbers parts
abbrev pub batch_rank : List ℕ → List ℕ → ℕ
batch_rank a b = max (length (batch_of a)) (length (batch_of b))

abbrev pub product_rank : List ℕ → List ℕ → ℕ
product_rank a b = batch_rank a b + (outer_axes a + outer_axes b)

-- the numbers of the outer axis of an operand, and of its inner axis: for sizes and for chunk sizes
abbrev pub rows_of : List ℕ → List ℕ
rows_of ns = if nat_le 2 (length ns) then slice_index ns (length ns - 2) ∷ [] else []

abbrev pub columns_of : List ℕ → List ℕ
columns_of ns = if nat_le 2 (length ns) then slice_index ns (length ns - 1) ∷ [] else []

abbrev pub left_inner : List ℕ → ℕ
left_inner ns = slice_index ns (length ns - 1)

abbrev pub right_inner : List ℕ → ℕ
right_inner ns = if nat_le 2 (length ns) then slice_index ns (length ns - 2) else slice_index ns 0

-- the axes before the matrix
abbrev pub batch_grid : RegularGrid → RegularGrid
batch_grid g = record { shape = batch_of g.shape; chunk = batch_of g.chunk }

-- how many chunks the inner axis has
abbrev pub inner_chunk_count : RegularGrid → ℕ
inner_chunk_count g = div_ceil (left_inner g.shape) (left_inner g.chunk)

-- the sizes and chunk sizes of the axis that numbers the parts; there may be none where there is one part
abbrev pub HasParts : ℕ → List ℕ → List ℕ → Type 0
HasParts count sizes chunks = ((count ≤ 1) × (sizes ≡ []) × (chunks ≡ [])) ⊎ ((sizes ≡ max 1 count ∷ []) × (chunks ≡ 1 ∷ []))

-- ---- an element

-- the index of the whole product, and the number of the part; that of the only one is 0
abbrev pub product_index : List ℕ → List ℕ → List ℕ → List ℕ
product_index a b idx = take (product_rank a b) idx

abbrev pub part_number : List ℕ → List ℕ → List ℕ → ℕ
part_number a b idx = slice_index idx (product_rank a b)

-- the inner places of parts: from the first of part number `part` to below the first of part number `end`
abbrev pub inner_lo : RegularGrid → ℕ → ℕ
inner_lo a part = part * left_inner a.chunk

abbrev pub inner_hi : RegularGrid → ℕ → ℕ
inner_hi a end = min (left_inner a.shape) (end * left_inner a.chunk)

abbrev pub inner_places : RegularGrid → ℕ → List ℕ
inner_places a part = range_with_len (inner_lo a part) (inner_hi a (part + 1) - inner_lo a part)

-- a product, where both factors are there
abbrev pub product_at : Option ℤ → Option ℤ → Option ℤ
product_at x y = option_and_then (λ l. option_map (λ r. l *ℤ r) y) x

-- ---- the regions of the operands for a region of the result

-- The numbers of an operand's axes, from those of the result: `one` for a stretched axis of the batch.
abbrev pub left_numbers : ℕ → List ℕ → List ℕ → List ℕ → ℕ → List ℕ
left_numbers one a b numbers inner =
    if nat_le 2 (length a) then back_as one (batch_of a) (take (batch_rank a b) numbers) ++ slice_index numbers (batch_rank a b) ∷ inner ∷ [] else inner ∷ []

abbrev pub right_numbers : ℕ → List ℕ → List ℕ → List ℕ → ℕ → List ℕ
right_numbers one a b numbers inner =
    if nat_le 2 (length b) then back_as one (batch_of b) (take (batch_rank a b) numbers) ++ inner ∷ slice_index numbers (batch_rank a b + outer_axes a) ∷ [] else inner ∷ []

abbrev pub first_inner : RegularGrid → RegularGrid → List ℕ → ℕ
first_inner a b lo = inner_lo a (part_number a.shape b.shape lo)

abbrev pub end_number : List ℕ → List ℕ → List ℕ → ℕ
end_number a b hi = slice_index_or hi (product_rank a b) 1

abbrev pub end_inner : RegularGrid → RegularGrid → List ℕ → ℕ
end_inner a b hi = inner_hi a (end_number a.shape b.shape hi)

-- a region of the result has the axes of a product, and its parts are among those that there are
pub record IsProductRegion (a b : RegularGrid) (lo hi : List ℕ) : Type 0 where
  pub inner : 1 ≤ length a.shape
  pub lo_axes : product_rank a.shape b.shape ≤ length lo
  pub hi_axes : product_rank a.shape b.shape ≤ length hi
  pub first : part_number a.shape b.shape lo < max 1 (inner_chunk_count a)
  pub last : end_number a.shape b.shape hi ≤ max 1 (inner_chunk_count a)

-- The regular chunk grid (Zarr v3 core specification, "Chunk grids"): chunks and their elements.
use Rattle.std.specs.Prelude.{ℕ, ◌+◌, ◌*◌, ◌<◌, ◌≤◌, List, [], ◌∷◌, min}
use Rattle.cu_shape.specs.Index.{axis_by_axis, products}
pub use Rattle.cu_shape.specs.Counts.{counts_of, at_least_one}

-- the first index of a chunk on each axis
abbrev pub chunk_lo : List ℕ → List ℕ → List ℕ
chunk_lo chunk coord = products coord chunk

-- one past its last index on each axis: a chunk at the edge ends with the array
abbrev pub chunk_hi : List ℕ → List ℕ → List ℕ → List ℕ
chunk_hi shape chunk coord = axis_by_axis min (axis_by_axis (λ c size. (c + 1) * size) coord chunk) shape

-- an index lies in a region: on each axis from `lo` to below `hi`
abbrev pub IsWithin : List ℕ → List ℕ → List ℕ → Type 0
IsWithin [] [] [] = Unit {0}
IsWithin (l ∷ ls) (h ∷ hs) (i ∷ is) = (l ≤ i) × (i < h) × IsWithin ls hs is
IsWithin [] [] (i ∷ is) = ⊥
IsWithin [] (h ∷ hs) is = ⊥
IsWithin (l ∷ ls) [] is = ⊥
IsWithin (l ∷ ls) (h ∷ hs) [] = ⊥

-- a region lies inside an array: on each axis `lo` is at most `hi`, and `hi` at most the size
abbrev pub IsRegion : List ℕ → List ℕ → List ℕ → Type 0
IsRegion [] [] [] = Unit {0}
IsRegion (n ∷ ns) (l ∷ ls) (h ∷ hs) = (l ≤ h) × (h ≤ n) × IsRegion ns ls hs
IsRegion [] [] (h ∷ hs) = ⊥
IsRegion [] (l ∷ ls) hs = ⊥
IsRegion (n ∷ ns) [] hs = ⊥
IsRegion (n ∷ ns) (l ∷ ls) [] = ⊥

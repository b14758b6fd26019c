-- Boxes of elements that stand in larger arrays, each array being row-major bytes (this project's own words).
use Rattle.std.specs.Prelude.{◌≡◌, ℕ, ◌≤◌, ◌^◌, List, [], ◌∷◌}
pub use Rattle.cu_box.specs.Box.{IsBox, IsCopied}
use Rattle.cu_shape.specs.Index.{product, sums, remainders, IsInside, differences}
use Rattle.cu_grid.specs.Counts.{IsWithin}
use Rattle.cu_grid.specs.Grid.{IsInChunk}
use Rattle.cu_codec.specs.Parts.{Part}

-- the elements of a box that stand together in a row: its size on the last axis
abbrev pub run_length : List ℕ → ℕ
run_length [] = 1
run_length (n ∷ []) = n
run_length (n ∷ m ∷ ns) = run_length (m ∷ ns)

-- an index of the array that is index `i` of a box, which stands in a chunk and in a region
pub record IsSame (p : Part) (sizes in_chunk in_region i idx : List ℕ) : Type 0 where
  pub inside : IsInside sizes i
  pub chunk : IsInChunk p.grid p.coord idx
  pub region : IsWithin p.lo p.hi idx
  pub of_chunk : sums in_chunk i ≡ remainders idx p.grid.chunk
  pub of_region : sums in_region i ≡ differences idx p.lo

-- the elements that a chunk and a region share are a box of these sizes, with its first index here in each
pub record IsSharedBox (p : Part) (sizes in_chunk in_region : List ℕ) : Type 0 where
  pub box_chunk : IsBox sizes p.grid.chunk in_chunk
  pub box_region : IsBox sizes (differences p.hi p.lo) in_region
  pub few : product sizes ≤ 2 ^ 40
  pub all : (idx : List ℕ) → IsInChunk p.grid p.coord idx → IsWithin p.lo p.hi idx → (i : List ℕ) × IsSame p sizes in_chunk in_region i idx
  pub only : (i : List ℕ) → IsInside sizes i → (idx : List ℕ) × IsSame p sizes in_chunk in_region i idx

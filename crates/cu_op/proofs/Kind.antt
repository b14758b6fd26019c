-- What is proved of an operation of any kind, by its kind alone.
pub mod Map
pub mod Pull
pub mod Copy
pub mod Fold
pub mod Merge
pub mod PairFold
pub mod PairMerge
pub mod Mul
pub mod Carry
pub mod Scan
pub mod GroupFold
use Rattle.cu_grid.specs.Counts.{chunk_lo, chunk_hi, IsWithin}
use Rattle.cu_grid.specs.Grid.{IsGrid, IsCoordinate}
use Rattle.cu_num.specs.Dtype.{InRange}
use Rattle.cu_op.proofs.Filled.{IsFilled}
use Rattle.cu_op.proofs.SameCells.{HaveSame}
use Rattle.cu_op.proofs.Spans.{IsSpan}
use Rattle.cu_op.proofs.WalkCells.{AreApart, AreDifferent}
use Rattle.cu_op.proofs.WalksOf.{LiesIn}
use Rattle.cu_op.specs.Arrays.{grid_at, type_at, HasLayoutOf, chunk_room}
use Rattle.cu_op.specs.Kind.{Kind}
use Rattle.cu_op.specs.Kinds.{kind_of}
use Rattle.cu_op.specs.Layout.{IsArray}
use Rattle.cu_op.specs.Schedule.{IsNested}
use Rattle.cu_op.specs.Elements.{Elements}
use Rattle.cu_op.specs.Chunks.{walk, IsOneChunk}
use Rattle.cu_op.specs.Walks.{IsWalkOver, cells_of_walks}
use Rattle.cu_op.specs.declared.cells.Cell.{Cell}
use Rattle.cu_op.specs.declared.layout.ArrayInfo.{ArrayInfo}
use Rattle.cu_op.specs.declared.walks.Walk.{Walk}
use Rattle.cu_shape.specs.Counts.{at_least_one}
use Rattle.cu_shape.specs.Index.{IsInside, product}
use Rattle.std.proofs.Common.{◌≡◌, ℕ, ◌<◌, List, length, All, Contains, Some, ℤ, map, ◌≤◌, ◌≢◌, ◌^◌, None, [], ◌∷◌, true, IsTrue}

-- its arrays are among those of a plan, which stand in chunks, and it fits them
pub record Stands (arrays : List ArrayInfo) (k : Kind) : Type 0 where
  pub grids : (a : ℕ) → a < length arrays → IsGrid (grid_at arrays a)
  pub reads : All (λ a. a < length arrays) k.reads
  pub writes : All (λ a. a < length arrays) k.writes
  pub fits : k.fits arrays

-- what its value reads has its array's type
abbrev pub ReadsTypes : Kind → List ArrayInfo → List ℕ → Elements → Type 0
ReadsTypes k arrays idx at = (b : ℕ) (i : List ℕ) (y : ℤ) → k.reads_at arrays idx b i → at b i ≡ Some y → InRange (type_at arrays b) y

-- and lies inside its array, which isn't too large
abbrev pub ReadsInside : Kind → List ArrayInfo → List ℕ → Type 0
ReadsInside k arrays idx = (b : ℕ) (i : List ℕ) → k.reads_at arrays idx b i → IsInside (grid_at arrays b).shape i × (product (at_least_one (grid_at arrays b).shape) ≤ 2 ^ 56)

-- the region of what its tasks go over has an index on each axis
abbrev pub HasIndices : Kind → List ArrayInfo → List ℕ → List ℕ → Type 0
HasIndices k arrays lo hi = IsFilled (k.tasks arrays).shape lo hi

-- the region is that of a task
abbrev pub IsTaskRegion : Kind → List ArrayInfo → List ℕ → List ℕ → Type 0
IsTaskRegion k arrays lo hi = IsSpan (k.tasks arrays).shape (k.tasks arrays).chunk lo hi

-- its arrays have the same layouts under their new numbers, and no two that it writes get one number, nor two that it reads
pub record Keeps (f : ℕ → ℕ) (old new : List ArrayInfo) (k : Kind) : Type 0 where
  pub reads : All (HasLayoutOf f old new) k.reads
  pub writes : All (HasLayoutOf f old new) k.writes
  pub once : (a b : ℕ) → Contains k.writes a → Contains k.writes b → f a ≡ f b → a ≡ b
  pub read_once : (a b : ℕ) → Contains k.reads a → Contains k.reads b → f a ≡ f b → a ≡ b

-- over arrays with other numbers it reads and writes these, has the same value and as many tasks, fits, and needs as much
pub record IsRenumbered (f : ℕ → ℕ) (k other : Kind) : Type 0 where
  pub reads : other.reads ≡ map f k.reads
  pub writes : other.writes ≡ map f k.writes
  pub kernel : other.kernel ≡ k.kernel
  pub value : (old new : List ArrayInfo) (at others : Elements) (array : ℕ) (idx : List ℕ) → Keeps f old new k → ((a : ℕ) → Contains k.reads a → others (f a) ≡ at a) → Contains k.writes array
      → other.value new others (f array) idx ≡ k.value old at array idx
  pub fits : (old new : List ArrayInfo) → Keeps f old new k → k.fits old → other.fits new
  pub tasks : (old new : List ArrayInfo) → Keeps f old new k → other.tasks new ≡ k.tasks old
  pub input_room : (old new : List ArrayInfo) → Keeps f old new k → other.input_room new ≡ k.input_room old
  pub output_room : (old new : List ArrayInfo) → Keeps f old new k → other.output_room new ≡ k.output_room old

pub record Laws (k : Kind) : Type 0 where
  -- its value depends on what it reads alone
  pub alone : (arrays : List ArrayInfo) (at other : Elements) (array : ℕ) (idx : List ℕ)
      → ((a : ℕ) (i : List ℕ) → k.reads_at arrays idx a i → at a i ≡ other a i) → k.value arrays at array idx ≡ k.value arrays other array idx
  -- which is of the arrays that it reads
  pub listed : (arrays : List ArrayInfo) (idx : List ℕ) (a : ℕ) (i : List ℕ) → k.reads_at arrays idx a i → Contains k.reads a
  -- the array that its tasks go over is one of those that it writes
  pub target : Contains k.writes k.target
  -- an operation that writes one chunk in each task writes one array, chunk by chunk
  pub one_written : k.one_chunk ≡ true → k.writes ≡ k.target ∷ []
  pub one_grid : (arrays : List ArrayInfo) → k.one_chunk ≡ true → k.tasks arrays ≡ grid_at arrays k.target
  -- and its result has the room of a chunk
  pub one_room : (arrays : List ArrayInfo) → k.one_chunk ≡ true → k.output_room arrays ≡ chunk_room arrays k.target
  -- of an array that it reads by the chunk each task reads one chunk
  pub one_read : (arrays : List ArrayInfo) (d : List ℕ) (w : Walk) → Stands arrays k → IsCoordinate (k.tasks arrays) d
      → Contains (k.walks arrays (chunk_lo (k.tasks arrays).chunk d) (chunk_hi (k.tasks arrays).shape (k.tasks arrays).chunk d)) w → IsTrue (k.by_chunk arrays w.array)
      → IsOneChunk (grid_at arrays w.array) w.region
  -- and the array is one of its input regions
  pub by_chunk_room : (arrays : List ArrayInfo) (a : ℕ) → IsTrue (k.by_chunk arrays a) → chunk_room arrays a ≤ k.input_room arrays
  -- its tasks go over a grid
  pub grid : (arrays : List ArrayInfo) → Stands arrays k → IsGrid (k.tasks arrays)
  -- each of whose chunks is made of whole chunks of what it writes
  pub nested : (arrays : List ArrayInfo) → Stands arrays k → All (λ a. IsNested (grid_at arrays a) (k.tasks arrays)) k.writes
  -- it writes no array twice
  pub differ : (arrays : List ArrayInfo) (lo hi : List ℕ) → Stands arrays k → AreDifferent (map (λ a. walk a lo hi) k.writes)
  -- its walks go over the arrays that it reads, in order
  pub walked : (arrays : List ArrayInfo) (lo hi : List ℕ) → map (λ (w : Walk). w.array) (k.walks arrays lo hi) ≡ k.reads
  -- each in its array
  pub over : (arrays : List ArrayInfo) (lo hi : List ℕ) → Stands arrays k → HasIndices k arrays lo hi → All (IsWalkOver arrays) (k.walks arrays lo hi)
  -- and two that differ have no chunk in common
  pub apart : (arrays : List ArrayInfo) (lo hi : List ℕ) → Stands arrays k → HasIndices k arrays lo hi → IsTaskRegion k arrays lo hi
      → (v w : Walk) → Contains (k.walks arrays lo hi) v → Contains (k.walks arrays lo hi) w → v ≢ w → IsWalkOver arrays v → IsWalkOver arrays w → AreApart arrays v w
  -- what its value reads at an index of the region lies in one of them
  pub within : (arrays : List ArrayInfo) (lo hi : List ℕ) (a : ℕ) (idx i : List ℕ) → Stands arrays k → HasIndices k arrays lo hi → IsInside (k.tasks arrays).shape idx → IsWithin lo hi idx
      → k.reads_at arrays idx a i → LiesIn (k.walks arrays lo hi) a i
  -- their chunks are those that a task needs
  pub same : (arrays : List ArrayInfo) (d : List ℕ) (c : Cell) → Stands arrays k → IsCoordinate (k.tasks arrays) d
      → HaveSame (cells_of_walks arrays (k.walks arrays (chunk_lo (k.tasks arrays).chunk d) (chunk_hi (k.tasks arrays).shape (k.tasks arrays).chunk d))) (k.cells arrays d) c
  -- its value is a number of the type of what it writes
  pub range : (arrays : List ArrayInfo) (at : Elements) (a : ℕ) (idx : List ℕ) (x : ℤ) → Contains k.writes a → k.fits arrays → IsInside (k.tasks arrays).shape idx
      → ReadsTypes k arrays idx at → ReadsInside k arrays idx → k.value arrays at a idx ≡ Some x → InRange (type_at arrays a) x
  -- its own numbers are small where it fits
  pub small : (arrays : List ArrayInfo) → k.fits arrays → k.is_small
  -- and then its memory is
  pub inputs_few : (arrays : List ArrayInfo) → All IsArray arrays → All (λ a. a < length arrays) k.reads → length k.reads ≤ 8 → k.is_small → k.input_room arrays ≤ 2 ^ 60
  pub outputs_few : (arrays : List ArrayInfo) → All IsArray arrays → k.output_room arrays ≤ 2 ^ 44
  -- over arrays with other numbers
  pub renumbered : (f : ℕ → ℕ) → IsRenumbered f k (kind_of (k.renumbered f))
  -- and with the numbers that they have
  pub itself : (arrays : List ArrayInfo) → (kind_of (k.renumbered (λ a. a))).fits arrays → k.fits arrays
  -- a search compares an array that it reads, and writes the array of the values before that of the places
  pub compares : (array : ℕ) → k.compared ≡ Some array → Contains k.reads array
  pub stores : (array : ℕ) → k.stored ≡ Some array → k.writes ≡ array ∷ k.target ∷ []
  pub stores_none : k.stored ≡ None → k.writes ≡ k.target ∷ []
  -- the values have the type of what is compared
  pub stored_type : (arrays : List ArrayInfo) (array : ℕ) → k.fits arrays → k.stored ≡ Some array → (source : ℕ) × (k.compared ≡ Some source) × (type_at arrays array ≡ type_at arrays source)

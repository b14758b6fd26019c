-- When a plan is sound (this project's rule). One record speaks of an operation, one of the plan.
use Rattle.std.specs.Prelude.{◌≡◌, ◌≢◌, ℕ, ◌^◌, ◌<◌, ◌≤◌, ◌==◌, true, false, List, All, length, sum_by, count_by, Contains, Option, Some, None, if◌then◌else◌}
use Rattle.cu_grid.specs.Grid.{IsCoordinate}
use Rattle.cu_zarr.specs.Key.{chunk_key_of}
use Rattle.cu_op.specs.declared.layout.ArrayInfo.{ArrayInfo}
use Rattle.cu_op.specs.declared.operation.Op.{Op}
use Rattle.cu_op.specs.Layout.{IsArray}
use Rattle.cu_op.specs.Arrays.{array_at, grid_at, is_inlined, maker_at, array_chunk_count}
use Rattle.cu_op.specs.Operation.{reads_of, writes_of, writes_one_chunk, IsReadable, IsMadeBy, Fits, ReadsByChunk}
use Rattle.cu_op.specs.Projection.{projection}
use Rattle.cu_op.specs.Cells.{tasks_of}
use Rattle.cu_op.specs.PlanView.{PlanView, op_of, operation_at}
use Rattle.cu_op.specs.Within.{ops_within, stored_reads}

-- An operation reads only inputs or arrays made by earlier operations, it is the maker of what it writes, and it fits its arrays.
pub record IsOperation (arrays : List ArrayInfo) (number : ℕ) (op : Op) : Type 0 where
  pub reads : All (IsReadable arrays number) (reads_of op)
  pub writes : All (IsMadeBy arrays number) (writes_of op)
  pub fits : Fits arrays op

-- An array that is made where it is read isn't the result, its maker writes one chunk of it in each task and nothing else, and it is one
-- input of one operation, of which each task reads one chunk of it. That operation and those inside it read at most eight stored arrays.
pub record IsInlined (p : PlanView) (a : ℕ) : Type 0 where
  pub inner : a ≢ p.out
  pub maker : (k : ℕ) × (maker_at p.arrays a ≡ Some k) × (writes_one_chunk (op_of p k) ≡ true)
  pub once : sum_by (λ o. count_by (λ b. b == a) (reads_of o.op)) p.ops ≡ 1
  pub reader : (k : ℕ) → k < length p.ops → Contains (reads_of (op_of p k)) a → ReadsByChunk p.arrays (op_of p k) a
  pub few : (k : ℕ) → k < length p.ops → Contains (reads_of (op_of p k)) a → sum_by (stored_reads p.arrays) (ops_within p k) ≤ 8
  pub chunks : array_chunk_count (array_at p.arrays a) ≤ 65536

-- a chunk of a made array that is stored, and its key
pub record IsCell (arrays : List ArrayInfo) (a : ℕ) (coord : List ℕ) : Type 0 where
  pub within : a < length arrays
  pub made : maker_at arrays a ≢ None
  pub stored : is_inlined arrays a ≡ false
  pub coordinate : IsCoordinate (grid_at arrays a) coord

abbrev pub cell_key : List ArrayInfo → ℕ → List ℕ → List ℕ
cell_key arrays a coord = chunk_key_of (array_at arrays a).prefix (array_at arrays a).layout.encoding coord

-- no key stands twice among the chunks of the made arrays
abbrev pub ChunkKeysDiffer : List ArrayInfo → Type 0
ChunkKeysDiffer arrays = (a b : ℕ) (c d : List ℕ) → IsCell arrays a c → IsCell arrays b d → cell_key arrays a c ≡ cell_key arrays b d → (a ≡ b) × (c ≡ d)

-- how many cells an array has: its chunks, if it is made and stored
abbrev pub cells_by : Option ℕ → ℕ → ℕ
cells_by None chunks = 0
cells_by (Some maker) chunks = chunks

abbrev pub made_chunks : ArrayInfo → ℕ
made_chunks a = if a.inlined then 0 else cells_by a.maker (array_chunk_count a)

pub record Sound (p : PlanView) : Type 0 where
  pub operations : (k : ℕ) → k < length p.ops → IsOperation p.arrays k (op_of p k)
  -- each number is the formula's, below 2^64
  pub projections : (k : ℕ) → k < length p.ops → (operation_at p.ops k).projected ≡ projection p k
  pub rooms : (k : ℕ) → k < length p.ops → projection p k < 2 ^ 64
  pub inlined : (a : ℕ) → a < length p.arrays → is_inlined p.arrays a ≡ true → IsInlined p a
  pub makers : (a k : ℕ) → a < length p.arrays → maker_at p.arrays a ≡ Some k → (k < length p.ops) × Contains (writes_of (op_of p k)) a
  pub arrays : All IsArray p.arrays
  pub keys : ChunkKeysDiffer p.arrays
  pub out : p.out < length p.arrays
  pub array_count : length p.arrays < 2 ^ 32
  pub operation_count : length p.ops < 2 ^ 32
  pub input_chunks : (a : ℕ) → a < length p.arrays → maker_at p.arrays a ≡ None → array_chunk_count (array_at p.arrays a) ≤ 65536
  pub tasks : sum_by (λ o. tasks_of p.arrays o.op) p.ops ≤ 65536
  pub cells : sum_by made_chunks p.arrays ≤ 262144

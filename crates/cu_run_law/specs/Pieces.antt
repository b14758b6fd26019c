-- What a run of a plan stores: pieces, each with one value under a key of its own. This project's own rule.
use Rattle.std.specs.Prelude.{◌≡◌, ◌≢◌, ℕ, ◌<◌, List, [], length, slice_index_or, Option, Some, None, Contains}
use Rattle.cu_grid.specs.Grid.{IsCoordinate}
use Rattle.cu_store.specs.Held.{Write, Holds}
use Rattle.cu_store.specs.Steps.{Shown, Changes}
use Rattle.cu_op.specs.declared.cells.Cell.{Cell}
use Rattle.cu_op.specs.declared.layout.ArrayInfo.{ArrayInfo}
use Rattle.cu_op.specs.Arrays.{grid_at, maker_at}
use Rattle.cu_op.specs.PlanView.{PlanView}
use Rattle.cu_op.specs.Schedule.{op_of, key_of, cell_value}
use Rattle.cu_op.specs.Sound.{IsCell}
use Rattle.cu_op.specs.Elements.{Elements}
use Rattle.cu_op.specs.Walks.{written_chunks}

-- a plan, and the texts that are stored before its first chunk, each under its key: the plan's record and the metadata
pub record PlanRun : Type 0 where
  pub plan : PlanView
  pub texts : List Write

-- the plan without the texts
abbrev pub chunks_alone : PlanView → PlanRun
chunks_alone p = record { plan = p; texts = [] }

-- a text by its number, or a chunk of an array
pub data Piece : Type 0 where
  Text : ℕ → Piece
  Chunk : Cell → Piece

abbrev pub text_at : PlanRun → ℕ → Write
text_at r n = slice_index_or r.texts n ([], [])

-- the pieces: each text, and each chunk of each array that the plan makes and stores
abbrev pub IsPiece : PlanRun → Piece → Type 0
IsPiece r (Text n) = n < length r.texts
IsPiece r (Chunk c) = IsCell r.plan.arrays c.array c.coord

abbrev pub piece_key : PlanRun → Piece → List ℕ
piece_key r (Text n) = (text_at r n).0
piece_key r (Chunk c) = key_of r.plan.arrays c

-- the one value of a piece, where the inputs have these elements; none of a chunk one of whose elements isn't defined
abbrev pub piece_value : PlanRun → Elements → Piece → Option (List ℕ)
piece_value r env (Text n) = Some (text_at r n).1
piece_value r env (Chunk c) = cell_value r.plan env c

-- a chunk of an input
pub record IsInputChunk (arrays : List ArrayInfo) (c : Cell) : Type 0 where
  pub within : c.array < length arrays
  pub given : maker_at arrays c.array ≡ None
  pub coordinate : IsCoordinate (grid_at arrays c.array) c.coord

-- Two pieces with one key are one piece, and no chunk of an input has the key of a piece.
pub record KeysApart (r : PlanRun) : Type 0 where
  pub pieces : (q s : Piece) → IsPiece r q → IsPiece r s → piece_key r q ≡ piece_key r s → q ≡ s
  pub inputs : (q : Piece) (c : Cell) → IsPiece r q → IsInputChunk r.plan.arrays c → piece_key r q ≢ key_of r.plan.arrays c

-- Two chunks of inputs with one key are one chunk.
abbrev pub InputsApart : PlanRun → Type 0
InputsApart r = (c d : Cell) → IsInputChunk r.plan.arrays c → IsInputChunk r.plan.arrays d → key_of r.plan.arrays c ≡ key_of r.plan.arrays d → c ≡ d

-- the piece has a value and holds it, where the contents are told
abbrev pub HoldsPiece : PlanRun → Elements → Piece → Shown → Type 0
HoldsPiece r env q shown = (bytes : List ℕ) × (piece_value r env q ≡ Some bytes) × Holds shown.held (piece_key r q) bytes

-- each chunk that a task writes does
abbrev pub HoldsTask : PlanRun → Elements → ℕ → ℕ → Shown → Type 0
HoldsTask r env k task shown = (c : Cell) → Contains (written_chunks r.plan.arrays (op_of r.plan k) task) c → HoldsPiece r env (Chunk c) shown

-- each piece does
abbrev pub IsComplete : PlanRun → Elements → Shown → Type 0
IsComplete r env shown = (q : Piece) → IsPiece r q → HoldsPiece r env q shown

-- a put of a piece's value under its key
abbrev pub PieceChange : PlanRun → Elements → Changes
PieceChange r env key value = (q : Piece) × (bytes : List ℕ) × IsPiece r q × (key ≡ piece_key r q) × (value ≡ Some bytes) × (piece_value r env q ≡ Some bytes)

-- The stored arrays that a comparison reads: those of the input nodes, in node order, and then the output. This project's own rules.
use Rattle.std.specs.Prelude.{◌≡◌, ℕ, ◌<◌, ℤ, List, [], ◌∷◌, ◌++◌, All, Contains, Some, sum_by}
use Rattle.std.specs.List.{flat_map}
use Rattle.cu_shape.specs.Index.{product, quotients, IsInside}
use Rattle.cu_grid.specs.Counts.{counts_of}
use Rattle.cu_grid.specs.Grid.{coordinate_of}
use Rattle.cu_form.specs.declared.expr.Node.{Node}
use Rattle.cu_form.specs.declared.form.Form.{Form}
use Rattle.cu_expr.specs.declared.inputs.InputInfo.{InputInfo}
use Rattle.cu_op.specs.Layout.{layout_view}
use Rattle.cu_store.specs.Held.{Contents}
use Rattle.cu_store.specs.Steps.{Shown}
use Rattle.cu_zarr.specs.Key.{chunk_key_of}
use Rattle.cu_zarr.specs.Stored.{stored_element}
use Rattle.cu_region.specs.Steady.{IsSteady}
use Rattle.cu_command.specs.Stored.{IsArrayChunk}
use Rattle.cu_command.specs.declared.job.Job.{Job}
use Rattle.cu_expr.specs.Inputs.{layout_named}

-- the array that a node reads, where it is an input
abbrev pub form_arrays : List InputInfo → Form → List InputInfo
form_arrays inputs (Form.Input name) = record { name = name; layout = layout_named inputs name } ∷ []
form_arrays inputs form = []

abbrev pub node_arrays : List InputInfo → Node → List InputInfo
node_arrays inputs node = form_arrays inputs node.form

-- those of all nodes, in node order
abbrev pub arrays_of_nodes : List InputInfo → List Node → List InputInfo
arrays_of_nodes inputs nodes = flat_map (node_arrays inputs) nodes

-- and then the output
abbrev pub compared_arrays : Job → InputInfo → List InputInfo
compared_arrays job output = arrays_of_nodes job.inputs.items job.expr.nodes ++ output ∷ []

-- ---- what of them is there

-- the array has an element at this index
abbrev pub ArrayHasElement : Contents → InputInfo → List ℕ → Type 0
ArrayHasElement held a idx = (x : ℤ) × (stored_element (layout_view a.layout) a.name held idx ≡ Some x)

-- at each index: each of its chunks is absent, or has the bytes of a chunk
abbrev pub HasAllElements : Contents → InputInfo → Type 0
HasAllElements held a = (idx : List ℕ) → IsInside a.layout.grid.shape idx → ArrayHasElement held a idx

-- at each index of chunk number n, row-major
abbrev pub IsChunkThere : Contents → InputInfo → ℕ → Type 0
IsChunkThere held a n = (idx : List ℕ) → IsInside a.layout.grid.shape idx → quotients idx a.layout.grid.chunk ≡ coordinate_of a.layout.grid n → ArrayHasElement held a idx

-- a key of a chunk of one of the arrays
abbrev pub IsReadChunk : List InputInfo → List ℕ → Type 0
IsReadChunk arrays key = (a : InputInfo) × Contains arrays a × IsArrayChunk a.name a.layout key

-- a fact of what was held, where the depot told its contents and each put that was late on a key of a chunk carried what is held there
abbrev pub WhereStill : Shown → List InputInfo → (Contents → Type 0) → Type 0
WhereStill entry arrays fact = (held : Contents) → entry.held ≡ Some held → IsSteady (IsReadChunk arrays) (Some held) entry.late → fact held

-- the same for this key alone
abbrev pub WhereKeyCalm : Shown → List ℕ → (Contents → Type 0) → Type 0
WhereKeyCalm entry key fact = (held : Contents) → entry.held ≡ Some held → IsSteady (λ other. other ≡ key) (Some held) entry.late → fact held

-- how many chunks an array has, and arrays together
abbrev pub input_chunk_count : InputInfo → ℕ
input_chunk_count a = product (counts_of a.layout.grid.shape a.layout.grid.chunk)

abbrev pub chunks_of_all : List InputInfo → ℕ
chunks_of_all arrays = sum_by input_chunk_count arrays

-- the key of chunk number n, row-major, and that of the chunk in which an index lies
abbrev pub numbered_key : InputInfo → ℕ → List ℕ
numbered_key a n = chunk_key_of a.name a.layout.encoding (coordinate_of a.layout.grid n)

abbrev pub key_of_index : InputInfo → List ℕ → List ℕ
key_of_index a idx = chunk_key_of a.name a.layout.encoding (quotients idx a.layout.grid.chunk)

-- Chunk number n is there. This asks for a steady store under its own key alone.
abbrev pub IsChunkSeen : Shown → InputInfo → ℕ → Type 0
IsChunkSeen entry a n = WhereKeyCalm entry (numbered_key a n) (λ held. IsChunkThere held a n)

-- each chunk of the array is
abbrev pub AreChunksSeen : Shown → InputInfo → Type 0
AreChunksSeen entry a = (n : ℕ) → n < input_chunk_count a → IsChunkSeen entry a n

-- The turn of a chunk among those of its array: the chunks before it, row-major, are there.
pub record IsOwnTurn (entry : Shown) (a : InputInfo) (turn : List ℕ) : Type 0 where
  pub number : ℕ
  pub below : number < input_chunk_count a
  pub key : turn ≡ numbered_key a number
  pub there : (n : ℕ) → n < number → IsChunkSeen entry a n

-- Its turn among those of the arrays: the chunks of the arrays before its own are there too.
pub record IsChunkTurn (entry : Shown) (arrays : List InputInfo) (a : InputInfo) (turn : List ℕ) : Type 0 where
  pub before : List InputInfo
  pub behind : List InputInfo
  pub place : arrays ≡ before ++ a ∷ behind
  pub front : All (AreChunksSeen entry) before
  pub own : IsOwnTurn entry a turn

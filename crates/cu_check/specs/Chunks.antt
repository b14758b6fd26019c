-- Arrays that are read chunk by chunk into the bytes of all their elements. This project's own words.
use Rattle.std.specs.Prelude.{◌≡◌, ◌≢◌, ℕ, ◌<◌, List, Some}
use Rattle.cu_num.specs.Dtype.{size_of}
use Rattle.cu_num.specs.Element.{element_at}
use Rattle.cu_num.specs.declared.layout.Endian.TheVariants.{Little}
use Rattle.cu_shape.specs.Index.{place_of, quotients, remainders, IsInside}
use Rattle.cu_grid.specs.Counts.{counts_of}
use Rattle.cu_codec.specs.Parts.{part_at}
use Rattle.cu_expr.specs.declared.inputs.InputInfo.{InputInfo}
use Rattle.cu_op.specs.Layout.{layout_view}
use Rattle.cu_op.specs.declared.layout.ArrayInfo.{ArrayInfo}
use Rattle.cu_op.specs.declared.layout.Layout.{Layout}
use Rattle.cu_store.specs.Held.{Contents}
use Rattle.cu_store.specs.Steps.{Shown, NoChange}
use Rattle.cu_zarr.specs.Stored.{stored_element}
use Rattle.cu_command.specs.Chunks.{IsChunkFault}
use Rattle.cu_command.specs.Seen.{Stepped}
use Rattle.cu_command.specs.declared.status.Status.{Status}
use Rattle.cu_check.specs.Arrays.{IsOwnTurn, WhereKeyCalm, key_of_index}

-- the array with this name and layout
abbrev pub input_of : ArrayInfo → InputInfo
input_of info = record { name = info.prefix; layout = info.layout }

-- ---- the bytes of all elements

-- The elements of a chunk stand at their places among the bytes of the whole array, and the others are as before.
pub record IsPlaced (l : Layout) (coord chunk old new : List ℕ) : Type 0 where
  pub own : (idx : List ℕ) → IsInside l.grid.shape idx → quotients idx l.grid.chunk ≡ coord
      → part_at (size_of l.dtype) new (place_of l.grid.shape idx) ≡ part_at (size_of l.dtype) chunk (place_of l.grid.chunk (remainders idx l.grid.chunk))
  pub others : (idx : List ℕ) → IsInside l.grid.shape idx → quotients idx l.grid.chunk ≢ coord
      → part_at (size_of l.dtype) new (place_of l.grid.shape idx) ≡ part_at (size_of l.dtype) old (place_of l.grid.shape idx)

-- the bytes have the element at this index
abbrev pub HaveElement : InputInfo → Contents → List ℕ → List ℕ → Type 0
HaveElement a held bytes idx = stored_element (layout_view a.layout) a.name held idx ≡ Some (element_at Little a.layout.dtype bytes (place_of a.layout.grid.shape idx))

-- they have it, where the key of its chunk was steady
abbrev pub HasStoredAt : InputInfo → List ℕ → Shown → List ℕ → Type 0
HasStoredAt a bytes entry idx = WhereKeyCalm entry (key_of_index a idx) (λ held. HaveElement a held bytes idx)

-- they have each such element of the chunks below number n
abbrev pub HasChunksBelow : InputInfo → List ℕ → ℕ → Shown → Type 0
HasChunksBelow a bytes n entry =
    (idx : List ℕ) → IsInside a.layout.grid.shape idx → place_of (counts_of a.layout.grid.shape a.layout.grid.chunk) (quotients idx a.layout.grid.chunk) < n → HasStoredAt a bytes entry idx

-- they have each such element
abbrev pub HasAllSteady : InputInfo → List ℕ → Shown → Type 0
HasAllSteady a bytes entry = (idx : List ℕ) → IsInside a.layout.grid.shape idx → HasStoredAt a bytes entry idx

-- they have each element
abbrev pub HasAllStored : InputInfo → List ℕ → Contents → Type 0
HasAllStored a bytes held = (idx : List ℕ) → IsInside a.layout.grid.shape idx → HaveElement a held bytes idx

-- a fact of what was shown at any moment since which only late puts landed
abbrev pub AtEachEntry : Shown → (Shown → Type 0) → Type 0
AtEachEntry now fact = (entry : Shown) → Stepped NoChange entry now → fact entry

-- why reading the array ends: a chunk in its turn
abbrev pub IsArrayFault : ℕ → Shown → Shown → InputInfo → Status → Type 0
IsArrayFault tries old new a status = (entry : Shown) → Stepped NoChange entry old → IsChunkFault tries old new a.layout (IsOwnTurn entry a) status

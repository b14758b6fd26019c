-- Arrays that were read, element by element, and how their elements differ from those of other bytes. This project's own words.
use Rattle.std.specs.Prelude.{◌≡◌, ◌≢◌, ℕ, ◌<◌, ℤ, List, [], ◌∷◌, ◌++◌, length, Some, slice_get}
use Rattle.cu_num.specs.Element.{element_at}
use Rattle.cu_num.specs.declared.layout.Endian.TheVariants.{Little}
use Rattle.cu_num.specs.declared.types.Dtype.{Dtype}
use Rattle.cu_shape.specs.Index.{product, index_at}
use Rattle.cu_grid.specs.Grid.{IsGrid}
use Rattle.cu_expr.specs.declared.inputs.InputInfo.{InputInfo}
use Rattle.cu_mean.specs.Plain.{PlainArray, IsPlain}
use Rattle.cu_op.specs.Layout.{layout_view}
use Rattle.cu_store.specs.Held.{Contents}
use Rattle.cu_store.specs.Steps.{Shown}
use Rattle.cu_zarr.specs.Stored.{stored_element}
use Rattle.cu_command.specs.declared.status.Status.{Status}
use Rattle.cu_check.specs.Arrays.{IsOwnTurn, WhereKeyCalm, key_of_index}
use Rattle.cu_command.specs.Chunks.{IsChunkFault}
use Rattle.cu_check.specs.declared.compare.Difference.{Difference}

-- the numbers are the first elements of these bytes, so many
pub record AreNumbers (t : Dtype) (bytes : List ℕ) (n : ℕ) (cells : List ℤ) : Type 0 where
  pub count : length cells ≡ n
  pub each : (p : ℕ) → p < n → slice_get cells p ≡ Some (element_at Little t bytes p)

-- ---- an array that was read

-- it has the stored element at this place, where the key of its chunk was steady
abbrev pub HasElementAt : InputInfo → PlainArray → Shown → ℕ → Type 0
HasElementAt a p entry place = WhereKeyCalm entry (key_of_index a (index_at a.layout.grid.shape place))
    (λ held. stored_element (layout_view a.layout) a.name held (index_at a.layout.grid.shape place) ≡ slice_get p.cells place)

-- it has the stored elements, place by place
abbrev pub HasStoredElements : InputInfo → PlainArray → Contents → Type 0
HasStoredElements a p held = (place : ℕ) → place < product a.layout.grid.shape → stored_element (layout_view a.layout) a.name held (index_at a.layout.grid.shape place) ≡ slice_get p.cells place

-- it has the type and the shape of the stored array, and its elements as they were held
pub record IsReadArray (entry : Shown) (a : InputInfo) (p : PlainArray) : Type 0 where
  pub grid : IsGrid a.layout.grid
  pub plain : IsPlain p
  pub dtype : p.dtype ≡ a.layout.dtype
  pub dims : p.dims ≡ a.layout.grid.shape
  pub elements : (place : ℕ) → place < product a.layout.grid.shape → HasElementAt a p entry place

-- the same of each array of a list
abbrev pub AreReadArrays : Shown → List InputInfo → List PlainArray → Type 0
AreReadArrays entry [] [] = Unit {0}
AreReadArrays entry (a ∷ xs) (p ∷ ps) = IsReadArray entry a p × AreReadArrays entry xs ps
AreReadArrays entry [] (p ∷ ps) = ⊥
AreReadArrays entry (a ∷ xs) [] = ⊥

-- Reading the arrays of a list ended at this one, those before it having been read.
pub record IsListFault (tries : ℕ) (entry old new : Shown) (arrays : List InputInfo) (status : Status) : Type 0 where
  pub before : List InputInfo
  pub behind : List InputInfo
  pub a : InputInfo
  pub place : arrays ≡ before ++ a ∷ behind
  pub plains : List PlainArray
  pub read : AreReadArrays entry before plains
  pub fault : IsChunkFault tries old new a.layout (IsOwnTurn entry a) status

-- ---- comparison

-- the elements of these bytes are these numbers at each place below this one
abbrev pub AreSameBelow : Dtype → List ℕ → List ℤ → ℕ → Type 0
AreSameBelow t bytes cells n = (p : ℕ) → p < n → slice_get cells p ≡ Some (element_at Little t bytes p)

-- at this place they differ, and they are the same before it
pub record IsFirstDifference (t : Dtype) (bytes : List ℕ) (cells : List ℤ) (d : Difference) : Type 0 where
  pub below : d.place < length cells
  pub before : AreSameBelow t bytes cells d.place
  pub stored_is : d.stored ≡ element_at Little t bytes d.place
  pub plain_is : slice_get cells d.place ≡ Some d.plain
  pub unequal : d.stored ≢ d.plain

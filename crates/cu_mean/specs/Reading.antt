-- The elements of arrays that are held element by element, by the arrays' numbers.
use Rattle.std.specs.Prelude.{◌≡◌, ℕ, ℤ, pos, List, Option, Some, None, get_or, slice_get, if◌then◌else◌}
use Rattle.cu_shape.specs.Index.{place_of, is_inside}
use Rattle.cu_node.specs.Info.{info_at}
use Rattle.cu_node.specs.declared.info.NodeInfo.{NodeInfo}
use Rattle.cu_semantics.specs.Argument.{NodeElements, source_at}
use Rattle.cu_mean.specs.Plain.{PlainArray}
use Rattle.cu_mean.specs.declared.reading.NamedArrays.{NamedArrays}

-- the element at an index; 0 at an index outside
abbrev pub plain_at : PlainArray → List ℕ → ℤ
plain_at p idx = if is_inside p.dims idx then get_or p.cells (place_of p.dims idx) (pos 0) else pos 0

-- the same of an array that may not be there
abbrev pub element_or_zero : Option PlainArray → List ℕ → ℤ
element_or_zero (Some p) idx = plain_at p idx
element_or_zero None idx = pos 0

-- the elements of the arrays of a list, by their numbers
abbrev pub elements_in : List PlainArray → NodeElements
elements_in plains n idx = element_or_zero (slice_get plains n) idx

-- the element at an index of the array that an argument of a number names
abbrev pub named_element : NamedArrays → ℕ → List ℕ → ℤ
named_element arrays number idx = source_at (elements_in arrays.plains.now) arrays.args.now number idx

-- the array has the type and the shape
pub record HasTypeAndShape (i : NodeInfo) (p : PlainArray) : Type 0 where
  pub dtype : p.dtype ≡ i.dtype
  pub dims : p.dims ≡ i.dims

-- each array has the type and the shape of its number
abbrev pub HaveTypesAndShapes : List NodeInfo → List PlainArray → Type 0
HaveTypesAndShapes infos plains = (n : ℕ) (p : PlainArray) → slice_get plains n ≡ Some p → HasTypeAndShape (info_at infos n) p

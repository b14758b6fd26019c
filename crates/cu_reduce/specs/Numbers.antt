-- What stands in a buffer of little-endian elements.
use Rattle.std.specs.Prelude.{◌≡◌, ℕ, ℤ, List, slice_set}
use Rattle.cu_num.specs.Element.{element_at, element_bytes, bytes_at}
use Rattle.cu_num.specs.declared.types.Dtype.{Dtype}
use Rattle.cu_num.specs.declared.layout.Endian.TheVariants.{Little}
use Rattle.cu_shape.specs.Index.{place_of}

-- at this place stand the bytes of x, wrapped to the type
abbrev pub HasNumber : Dtype → List ℕ → ℕ → ℤ → Type 0
HasNumber t bytes at x = bytes_at t bytes at ≡ element_bytes Little t x

-- the element at place k of the line through an index, along an axis of a region of these sizes
abbrev pub line_element : Dtype → List ℕ → ℕ → List ℕ → List ℕ → ℕ → ℤ
line_element t dims axis bytes idx k = element_at Little t bytes (place_of dims (slice_set idx axis k))

-- The elements of a region with the places that are counted, and partial results with the places that stand beside them.
use Rattle.std.specs.Prelude.{ℕ, ◌<◌, ℤ, pos, List, length, Option, None, Some}
use Rattle.cu_num.specs.Element.{element_at}
use Rattle.cu_num.specs.declared.types.Dtype.{Dtype}
use Rattle.cu_num.specs.declared.types.Dtype.TheVariants.{Int64}
use Rattle.cu_num.specs.declared.layout.Endian.TheVariants.{Little}
use Rattle.cu_shape.specs.Index.{place_of, sums}
use Rattle.cu_reduce.specs.Groups.{Groups, groups_of}
use Rattle.cu_reduce.specs.Numbers.{HasNumber}
use Rattle.cu_reduce.specs.Places.{Found, is_sought, counted_place}

-- the groups of a region of which one axis is reduced whole, or all are
abbrev pub sought_groups : Option ℕ → List ℕ → Groups
sought_groups axis dims = groups_of (is_sought axis) dims

-- the axis is one of the region's
abbrev pub IsAxis : Option ℕ → List ℕ → Type 0
IsAxis None dims = Unit {0}
IsAxis (Some axis) dims = axis < length dims

-- a region of an array: where it begins, its sizes, and the axis along which is sought
pub record Area : Type 0 where
  pub shape : List ℕ
  pub lo : List ℕ
  pub dims : List ℕ
  pub axis : Option ℕ

abbrev pub area : List ℕ → List ℕ → List ℕ → Option ℕ → Area
area shape lo dims axis = record { shape = shape; lo = lo; dims = dims; axis = axis }

abbrev pub found : ℤ → ℤ → Found
found value place = record { value = value; place = place }

-- the element at an index of the region, with its place in the whole array
abbrev pub found_in_area : Dtype → List ℕ → Area → List ℕ → Found
found_in_area t bytes r i = record { value = element_at Little t bytes (place_of r.dims i); place = pos (counted_place r.axis r.shape (sums r.lo i)) }

-- the partial result at an index, with its place in the whole array
abbrev pub found_beside : Dtype → List ℕ → List ℕ → List ℕ → List ℕ → Found
found_beside t values places dims i = record { value = element_at Little t values (place_of dims i); place = element_at Little Int64 places (place_of dims i) }

-- a number and its place stand at the same place of two buffers
abbrev pub HasFound : Dtype → List ℕ → List ℕ → ℕ → Found → Type 0
HasFound t values places at found = HasNumber t values at found.value × HasNumber Int64 places at found.place

-- What searches for the least or greatest elements and their places share.
use Rattle.cu_num.specs.Dtype.{size_of}
use Rattle.cu_num.specs.declared.types.Dtype.TheVariants.{Int64}
use Rattle.cu_op.specs.Arrays.{grid_at, type_at}
use Rattle.cu_op.specs.Partial.{partial_grid, IsSqueezed}
use Rattle.cu_op.specs.declared.layout.ArrayInfo.{ArrayInfo}
use Rattle.cu_reduce.specs.Groups.{Groups, HasElements}
use Rattle.cu_reduce.specs.Places.{Found, counted_place, found_at}
use Rattle.cu_shape.specs.Index.{product}
use Rattle.std.specs.Prelude.{◌≡◌, ℕ, ◌*◌, ◌<◌, ℤ, List, [], ◌∷◌, length, Option, option_map, if◌then◌else◌, ◌≢◌, None, pos, Bool, Some}

-- a reduction to places may store the values too, which come before the places
abbrev pub pair_writes : Option ℕ → ℕ → List ℕ
pair_writes None out = out ∷ []
pair_writes (Some values) out = values ∷ out ∷ []

-- the values that are stored beside the places have the places' grid and the source's type
abbrev pub StoresValues : List ArrayInfo → Option ℕ → ℕ → ℕ → Type 0
StoresValues arrays None source out = Unit {0}
StoresValues arrays (Some values) source out =
    (values ≢ out) × (grid_at arrays values ≡ grid_at arrays out) × (type_at arrays values ≡ type_at arrays source)

-- the least or greatest values of `source` and their places
pub record PairFits (arrays : List ArrayInfo) (gs : Groups) (source : ℕ) (values : Option ℕ) (out : ℕ) : Type 0 where
  pub result : IsSqueezed (partial_grid gs (grid_at arrays source)) (grid_at arrays out)
  pub places : type_at arrays out ≡ Int64
  pub stored : StoresValues arrays values source out
  pub enough : HasElements gs (grid_at arrays source).shape

-- an axis along which places are counted is one of the source
abbrev pub HasPlaceAxis : Option ℕ → List ℕ → Type 0
HasPlaceAxis None shape = Unit {0}
HasPlaceAxis (Some axis) shape = axis < length shape

-- partial places stand like their values
pub record ArePairs (arrays : List ArrayInfo) (value_source place_source : ℕ) : Type 0 where
  pub grid : grid_at arrays place_source ≡ grid_at arrays value_source
  pub places : type_at arrays place_source ≡ Int64

-- one chunk of each array that it writes; a reduction to places has one of the values also where it doesn't store them
abbrev pub value_room : List ArrayInfo → ℕ → ℕ → ℕ
value_room arrays source out = product (grid_at arrays out).chunk * size_of (type_at arrays source)

-- an element with its place, which is counted along an axis or in the whole array
abbrev pub counted_at : List ℕ → Option ℕ → (List ℕ → Option ℤ) → List ℕ → Option Found
counted_at shape axis element i = found_at (element i) (Some (pos (counted_place axis shape i)))

-- of a value and its place the one that an array holds
abbrev pub pair_part : Bool → Option Found → Option ℤ
pair_part is_place best = option_map (λ b. if is_place then b.place else b.value) best

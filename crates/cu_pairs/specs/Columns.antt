-- The best of each column of rows that follow one another.
use Rattle.std.specs.Prelude.{◌≡◌, ℕ, ◌+◌, ◌*◌, ◌<◌, ◌≤◌, ℤ, pos, Bool, false, List, length, Option, None, Some}
use Rattle.cu_num.specs.Dtype.{size_of}
use Rattle.cu_num.specs.Element.{element_at}
use Rattle.cu_num.specs.declared.types.Dtype.{Dtype}
use Rattle.cu_num.specs.declared.types.Dtype.TheVariants.{Int64}
use Rattle.cu_num.specs.declared.layout.Endian.TheVariants.{Little}
use Rattle.cu_reduce.specs.Places.{Found, is_beyond, is_better}
use Rattle.cu_pairs.specs.Elements.{HasFound}

-- rows of `width` elements; their places are counted by rows from the first one's, or stand beside them
pub record Table : Type 0 where
  pub t : Dtype
  pub width : ℕ
  pub bytes : List ℕ
  pub first : Option ℕ
  pub places : List ℕ

abbrev pub table : Dtype → ℕ → List ℕ → Option ℕ → List ℕ → Table
table t width bytes first places = record { t = t; width = width; bytes = bytes; first = first; places = places }

-- the place of element `at`, which stands in row i
abbrev pub sought_place : Option ℕ → List ℕ → ℕ → ℕ → ℤ
sought_place (Some first) places i at = pos (first + i)
sought_place None places i at = element_at Little Int64 places at

-- what stands in row i of column k
abbrev pub found_in : Table → ℕ → ℕ → Found
found_in r k i = record { value = element_at Little r.t r.bytes (i * r.width + k); place = sought_place r.first r.places i (i * r.width + k) }

-- the number in row i of a column
abbrev pub column_of : Dtype → ℕ → List ℕ → ℕ → ℕ → ℤ
column_of t width bytes k i = element_at Little t bytes (i * width + k)

-- the bytes have so many rows, and where places aren't counted their bytes too
abbrev pub HasPlacesBeside : Option ℕ → List ℕ → ℕ → Type 0
HasPlacesBeside (Some first) places count = Unit {0}
HasPlacesBeside None places count = count * 8 ≤ length places

pub record HasRows (r : Table) (rows : ℕ) : Type 0 where
  pub bytes : rows * r.width * size_of r.t ≤ length r.bytes
  pub places : HasPlacesBeside r.first r.places (rows * r.width)

-- whether an element takes the place of the best of the rows before: among equal numbers a counted place is the later one
abbrev pub is_taken : Bool → Option ℕ → Found → Found → Bool
is_taken least (Some first) y x = is_beyond least y.value x.value
is_taken least None y x = is_better least y x

-- `best` is one of the first `count`, and none of them is better
pub record IsBestOf (least : Bool) (f : ℕ → Found) (count : ℕ) (best : Found) : Type 0 where
  pub number : ℕ
  pub within : number < count
  pub is : f number ≡ best
  pub none : (j : ℕ) → j < count → is_better least (f j) best ≡ false

-- the best of the first `count` rows of column k stands in the results; of no rows nothing is said
abbrev pub HasBest : Bool → Table → ℕ → List ℕ → List ℕ → ℕ → Type 0
HasBest least r count values places k = 0 < count → (best : Found) × IsBestOf least (found_in r k) count best × HasFound r.t values places k best

-- that of each column
pub record HasBests (least : Bool) (r : Table) (count : ℕ) (values places : List ℕ) : Type 0 where
  pub column : (k : ℕ) → k < r.width → HasBest least r count values places k

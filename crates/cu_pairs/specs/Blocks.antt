-- Elements in blocks of rows: the axes before one, the axis, and the axes behind it. The best is sought along the middle one.
use Rattle.std.specs.Prelude.{◌≡◌, ℕ, ◌+◌, ◌*◌, ◌<◌, ◌≤◌, Bool, List, length}
use Rattle.cu_num.specs.Dtype.{size_of}
use Rattle.cu_num.specs.Element.{element_at}
use Rattle.cu_num.specs.declared.layout.Endian.TheVariants.{Little}
use Rattle.cu_reduce.specs.Places.{Found}
use Rattle.cu_pairs.specs.Elements.{HasFound}
use Rattle.cu_pairs.specs.Columns.{Table, sought_place, HasPlacesBeside, IsBestOf}

-- what stands in row j of column k of block b, where a block has `count` rows; counted places begin anew in each
abbrev pub found_along : Table → ℕ → ℕ → ℕ → ℕ → Found
found_along r count b k j = record { value = element_at Little r.t r.bytes ((b * count + j) * r.width + k); place = sought_place r.first r.places j ((b * count + j) * r.width + k) }

-- how many blocks there are, and how many rows in each
pub record Sizes : Type 0 where
  pub blocks : ℕ
  pub count : ℕ

abbrev pub sizes : ℕ → ℕ → Sizes
sizes blocks count = record { blocks = blocks; count = count }

-- the best of each column of each block stands in the results
pub record HasBestsAlong (least : Bool) (r : Table) (n : Sizes) (values places : List ℕ) : Type 0 where
  pub along : (b k : ℕ) → b < n.blocks → k < r.width
      → (best : Found) × IsBestOf least (found_along r n.count b k) n.count best × HasFound r.t values places (b * r.width + k) best

-- the elements of one table are those of another from number `from` on
pub record IsTablePart (whole part : Table) (from count : ℕ) : Type 0 where
  pub bytes : count * size_of part.t ≤ length part.bytes
  pub places : HasPlacesBeside part.first part.places count
  pub elements : (k : ℕ) → k < count → element_at Little part.t part.bytes k ≡ element_at Little whole.t whole.bytes (from + k)
  pub beside : (k i : ℕ) → k < count → sought_place part.first part.places i k ≡ sought_place whole.first whole.places i (from + k)

-- What the stages of a copy keep (after Rechunker: read, intermediate and write chunks under a memory limit).
use Rattle.std.specs.Prelude.{◌≡◌, ℕ, ◌*◌, ◌<◌, ◌≤◌, All, List, length}
use Rattle.cu_shape.specs.Index.{product}
use Rattle.cu_shape.specs.Counts.{at_least_one}
use Rattle.cu_rechunk.specs.Nested.{IsNestedAlong}
use Rattle.cu_rechunk.specs.declared.staging.Staging.{Staging}

-- sizes of which none is 0, one for each axis, with no more elements than the array, and at most `most` bytes in elements of
-- `item` bytes
pub record IsTile (shape : List ℕ) (item most : ℕ) (sizes : List ℕ) : Type 0 where
  pub ranks : length sizes ≡ length shape
  pub positive : All (λ c. 0 < c) sizes
  pub elements : product sizes ≤ product (at_least_one shape)
  pub bytes : product sizes * item ≤ most

-- Each region that is read or written, and each chunk between, is within the memory; each chunk between lies whole in one region
-- that is read, and each of the target in one that is written.
pub record Tiles (shape target : List ℕ) (item most : ℕ) (s : Staging) : Type 0 where
  pub reads : IsTile shape item most s.read
  pub between : IsTile shape item most s.middle
  pub writes : IsTile shape item most s.write
  pub middle_in_read : IsNestedAlong shape s.middle s.read
  pub target_in_write : IsNestedAlong shape target s.write

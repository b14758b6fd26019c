-- Regions that hold what is read. This project's own rules.
use Rattle.std.specs.Prelude.{ℕ, Option, Some, None, List}
use Rattle.cu_grid.specs.Counts.{IsWithin}
use Rattle.cu_grid.specs.declared.region.Region.{Region}

-- there is a region, and it holds the index
abbrev pub HoldsIndex : Option Region → List ℕ → Type 0
HoldsIndex None idx = ⊥
HoldsIndex (Some r) idx = IsWithin r.lo r.hi idx

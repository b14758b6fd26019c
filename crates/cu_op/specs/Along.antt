-- What operations along one axis share: regions that are moved along it, and an array that may be carried in.
use Rattle.cu_grid.specs.Grid.{RegularGrid}
use Rattle.cu_op.specs.Arrays.{grid_at, type_at, chunk_room}
use Rattle.cu_op.specs.Chunks.{chunk_where, walk}
use Rattle.cu_op.specs.Elements.{Elements}
use Rattle.cu_op.specs.Partial.{partial_grid}
use Rattle.cu_op.specs.declared.cells.Cell.{Cell}
use Rattle.cu_op.specs.declared.layout.ArrayInfo.{ArrayInfo}
use Rattle.cu_op.specs.declared.walks.Walk.{Walk}
use Rattle.cu_reduce.specs.Groups.{Groups}
use Rattle.cu_reduce.specs.Tiers.{Array}
use Rattle.std.specs.Prelude.{◌≡◌, ◌≢◌, ℕ, suc, pred, ◌*◌, ◌/◌, List, [], ◌∷◌, Option, None, Some, option_map, slice_index, slice_set}

-- the numbers of a grid along an axis
abbrev pub size_on : RegularGrid → ℕ → ℕ
size_on g axis = slice_index g.shape axis

abbrev pub chunk_on : RegularGrid → ℕ → ℕ
chunk_on g axis = slice_index g.chunk axis

-- ---- an array that may be carried in

-- it is read, where there is one
abbrev pub carried_reads : Option ℕ → List ℕ
carried_reads None = []
carried_reads (Some a) = a ∷ []

-- its elements
abbrev pub carried_array : Elements → Option ℕ → Option Array
carried_array at carry = option_map at carry

-- one chunk of it
abbrev pub carried_room : List ArrayInfo → Option ℕ → ℕ
carried_room arrays None = 0
carried_room arrays (Some a) = chunk_room arrays a

-- It has one number for each group of neighbours of `source`, in the type of the result.
abbrev pub CarriesFor : List ArrayInfo → Groups → ℕ → ℕ → Option ℕ → Type 0
CarriesFor arrays gs source out None = Unit {0}
CarriesFor arrays gs source out (Some a) =
    (a ≢ source) × (grid_at arrays a ≡ partial_grid gs (grid_at arrays source)) × (type_at arrays a ≡ type_at arrays out)

-- ---- regions, in groups of s neighbours along the axis

-- from the first place of the group in which a region begins to below its end
abbrev pub group_walk : ℕ → ℕ → ℕ → ℕ → List ℕ → List ℕ → Walk
group_walk a axis s end lo hi = walk a (slice_set lo axis (slice_index lo axis / s * s)) (slice_set hi axis end)

-- what is carried into the groups of a region
abbrev pub carried_walks : Option ℕ → ℕ → ℕ → List ℕ → List ℕ → List Walk
carried_walks None axis s lo hi = []
carried_walks (Some a) axis s lo hi =
    walk a (slice_set lo axis (slice_index lo axis / s)) (slice_set hi axis (suc (pred (slice_index hi axis) / s))) ∷ []

-- the chunk that has what is carried into the group at this place
abbrev pub carried_chunk : List ArrayInfo → Option ℕ → List ℕ → List Cell
carried_chunk arrays None c = []
carried_chunk arrays (Some a) c = chunk_where arrays a c

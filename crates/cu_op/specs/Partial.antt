-- Partial results: how the elements of a source are reduced in groups, and which grid the results then have.
use Rattle.std.specs.Prelude.{◌≡◌, ◌⊎◌, ℕ, pred, suc, ◌*◌, ◌^◌, ◌<◌, ◌≤◌, min, max, Bool, List, [], ◌∷◌, All, length, map, Option, None, Some, if◌then◌else◌}
use Rattle.std.specs.Int.{div_ceil}
use Rattle.cu_grid.specs.Grid.{RegularGrid}
use Rattle.cu_origin.specs.Pull.{has_axis}
use Rattle.cu_origin.specs.declared.axes.Axes.{Axes}
use Rattle.cu_reduce.specs.Groups.{Groups, groups_of, groups_along, group_counts, group_lo, group_hi, group_of, group_indices}
use Rattle.cu_reduce.specs.Places.{is_sought}
use Rattle.cu_op.specs.declared.groups.GroupedAxes.{GroupedAxes}
use Rattle.cu_op.specs.declared.groups.GroupedAxes.TheVariants.{Named, Sought}
use Rattle.cu_op.specs.declared.layout.ArrayInfo.{ArrayInfo}
use Rattle.cu_op.specs.Arrays.{grid_at}

-- the axes that a reduction goes over
abbrev pub is_reduced : GroupedAxes → ℕ → Bool
is_reduced (Named axes) d = has_axis axes d
is_reduced (Sought axis) d = is_sought axis d

-- a fold reduces each chunk of its source along these axes
abbrev pub chunk_groups : Axes → RegularGrid → Groups
chunk_groups axes g = groups_of (has_axis axes) g.chunk

-- along one axis, or along all
abbrev pub place_groups : Option ℕ → RegularGrid → Groups
place_groups axis g = groups_of (is_sought axis) g.chunk

-- a merge reduces neighbouring partial results along one axis
abbrev pub merge_groups : ℕ → ℕ → RegularGrid → Groups
merge_groups axis group g = groups_along axis group g.shape

-- ---- on an axis

-- how many groups of a size there are, where the axis is reduced, else how many indices; and where a group begins and where it ends
abbrev pub count_on : Bool → ℕ → ℕ → ℕ
count_on is_reduced size n = if is_reduced then max 1 (div_ceil n size) else n

abbrev pub start_on : Bool → ℕ → ℕ → ℕ
start_on is_reduced size group = if is_reduced then group * size else group

abbrev pub end_on : Bool → ℕ → ℕ → ℕ → ℕ
end_on is_reduced size n end = if is_reduced then min n (end * size) else end

-- a size of groups on each axis
pub record AreGroupSizes (sizes shape : List ℕ) : Type 0 where
  pub ranks : length sizes ≡ length shape
  pub positive : All (λ s. 0 < s) sizes
  pub small : All (λ s. s ≤ 2 ^ 40) sizes

-- ---- the grid of the results

-- partial results stand in chunks of one along a reduced axis, and in the source's chunks along one that is kept
abbrev pub partial_chunk : Groups → List ℕ → List ℕ
partial_chunk [] cs = []
partial_chunk (g ∷ gs) [] = []
partial_chunk (None ∷ gs) (c ∷ cs) = c ∷ partial_chunk gs cs
partial_chunk (Some s ∷ gs) (c ∷ cs) = 1 ∷ partial_chunk gs cs

abbrev pub partial_grid : Groups → RegularGrid → RegularGrid
partial_grid gs g = record { shape = group_counts gs g.shape; chunk = partial_chunk gs g.chunk }

-- sizes and chunk sizes of a grid, of which some axes of size 1 and chunk 1 are taken out
abbrev pub IsSqueezedAlong : List ℕ → List ℕ → List ℕ → List ℕ → Type 0
IsSqueezedAlong [] [] [] [] = Unit {0}
IsSqueezedAlong (n ∷ ns) (c ∷ cs) [] [] = (n ≡ 1) × (c ≡ 1) × IsSqueezedAlong ns cs [] []
IsSqueezedAlong (n ∷ ns) (c ∷ cs) (m ∷ ms) (d ∷ ds) =
    ((n ≡ m) × (c ≡ d) × IsSqueezedAlong ns cs ms ds) ⊎ ((n ≡ 1) × (c ≡ 1) × IsSqueezedAlong ns cs (m ∷ ms) (d ∷ ds))
IsSqueezedAlong ns cs ms ds = ⊥

abbrev pub IsSqueezed : RegularGrid → RegularGrid → Type 0
IsSqueezed whole g = IsSqueezedAlong whole.shape whole.chunk g.shape g.chunk

-- ---- what one result is made of

-- the indices of the source from which the result's element is made
abbrev pub partial_indices : List ArrayInfo → Groups → ℕ → ℕ → List ℕ → List (List ℕ)
partial_indices arrays gs source out idx = group_indices gs (grid_at arrays source).shape (group_of gs (grid_at arrays source).shape (grid_at arrays out).shape idx)

-- the region of the source from which a region of the result is made, from `lo` to below `hi`, neither of which is empty on an axis
abbrev pub partial_lo : List ArrayInfo → Groups → ℕ → ℕ → List ℕ → List ℕ
partial_lo arrays gs source out lo = group_lo gs (group_of gs (grid_at arrays source).shape (grid_at arrays out).shape lo)

abbrev pub partial_hi : List ArrayInfo → Groups → ℕ → ℕ → List ℕ → List ℕ
partial_hi arrays gs source out hi =
    group_hi gs (grid_at arrays source).shape (map suc (group_of gs (grid_at arrays source).shape (grid_at arrays out).shape (map pred hi)))

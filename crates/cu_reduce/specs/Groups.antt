-- The elements of an array are reduced in groups of neighbours: each group gives one partial result. On an axis that is kept each index is a
-- group of its own.
use Rattle.std.specs.Prelude.{ℕ, suc, ◌+◌, ◌*◌, ◌<◌, ◌==◌, Bool, List, [], ◌∷◌, map, min, max, Option, None, Some, if◌then◌else◌}
use Rattle.std.specs.Int.{div_ceil}
use Rattle.cu_shape.specs.Index.{index_at, place_of}
use Rattle.cu_reduce.specs.Regions.{region_indices}

-- how many neighbours are in a group on each axis, none for an axis that is kept
abbrev pub Groups : Type 0
Groups = List (Option ℕ)

-- those of the axes from number `first` on; `sizes` has how many are in a group where the axis is reduced
abbrev pub groups_from : (ℕ → Bool) → ℕ → List ℕ → Groups
groups_from is_reduced first [] = []
groups_from is_reduced first (s ∷ ss) = (if is_reduced first then Some s else None) ∷ groups_from is_reduced (first + 1) ss

abbrev pub groups_of : (ℕ → Bool) → List ℕ → Groups
groups_of is_reduced sizes = groups_from is_reduced 0 sizes

-- groups of `group` along one axis
abbrev pub groups_along : ℕ → ℕ → List ℕ → Groups
groups_along axis group shape = groups_of (λ d. d == axis) (map (λ n. group) shape)

-- each axis that is reduced has an element
abbrev pub HasElements : Groups → List ℕ → Type 0
HasElements (Some s ∷ gs) (n ∷ ns) = (0 < n) × HasElements gs ns
HasElements (None ∷ gs) (n ∷ ns) = HasElements gs ns
HasElements gs ns = Unit {0}

-- how many groups there are on each axis of an array: on one that is reduced at least one
abbrev pub group_counts : Groups → List ℕ → List ℕ
group_counts [] ns = []
group_counts (g ∷ gs) [] = []
group_counts (None ∷ gs) (n ∷ ns) = n ∷ group_counts gs ns
group_counts (Some s ∷ gs) (n ∷ ns) = max 1 (div_ceil n s) ∷ group_counts gs ns

-- the first index of a group, and one past the last index of the group before number `end`; the last group of an axis may be shorter
abbrev pub group_lo : Groups → List ℕ → List ℕ
group_lo [] is = []
group_lo (g ∷ gs) [] = []
group_lo (None ∷ gs) (i ∷ is) = i ∷ group_lo gs is
group_lo (Some s ∷ gs) (i ∷ is) = i * s ∷ group_lo gs is

abbrev pub group_hi : Groups → List ℕ → List ℕ → List ℕ
group_hi [] ns is = []
group_hi (g ∷ gs) [] is = []
group_hi (g ∷ gs) (n ∷ ns) [] = []
group_hi (None ∷ gs) (n ∷ ns) (end ∷ ends) = end ∷ group_hi gs ns ends
group_hi (Some s ∷ gs) (n ∷ ns) (end ∷ ends) = min n (end * s) ∷ group_hi gs ns ends

-- the indices of one group
abbrev pub group_indices : Groups → List ℕ → List ℕ → List (List ℕ)
group_indices gs shape idx = region_indices (group_lo gs idx) (group_hi gs shape (map suc idx))

-- ---- where the result may lack axes that have one group

-- The index of the group that a result's index names. The result may lack reduced axes that have one group: such an axis counts as 0,
-- and changes no row-major place.
abbrev pub group_of : Groups → List ℕ → List ℕ → List ℕ → List ℕ
group_of gs shape result idx = index_at (group_counts gs shape) (place_of result idx)

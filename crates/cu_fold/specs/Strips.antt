-- A region whose elements are taken in strips: consecutive places in row-major order.
use Rattle.std.specs.Prelude.{ℕ, ◌<◌, nat_lt, ℤ, List, map}
use Rattle.std.specs.List.{filter}
use Rattle.cu_num.specs.Dtype.{InRange}
use Rattle.cu_shape.specs.Index.{place_of, IsInside}
use Rattle.cu_origin.specs.Pull.{has_axis}
use Rattle.cu_reduce.specs.Groups.{Groups, groups_of, group_counts, group_indices}
use Rattle.cu_reduce.specs.Kinds.{unit_of}
use Rattle.cu_reduce.specs.Numbers.{HasNumber}
use Rattle.cu_reduce.specs.Running.{running}
use Rattle.cu_fold.specs.declared.types.RegionFold.{RegionFold}

-- the groups of elements that are reduced, and the sizes of the result
abbrev pub fold_groups : RegionFold → Groups
fold_groups fold = groups_of (has_axis fold.axes) fold.dims

abbrev pub result_sizes : RegionFold → List ℕ
result_sizes fold = group_counts (fold_groups fold) fold.dims

-- the places of the elements that a result is made of, in row-major order
abbrev pub group_places : RegionFold → List ℕ → List ℕ
group_places fold idx = map (place_of fold.dims) (group_indices (fold_groups fold) fold.dims idx)

-- Each result has taken those of its elements that stand at places below n; `at` is the element at each place of the region.
pub record HasFoldedTo (fold : RegionFold) (at : ℕ → ℤ) (n : ℕ) (out : List ℕ) : Type 0 where
  pub range : (p : ℕ) → p < n → InRange fold.from (at p)
  pub numbers : (idx : List ℕ) → IsInside (result_sizes fold) idx
      → HasNumber fold.acc out (place_of (result_sizes fold) idx) (running fold.kind fold.acc (unit_of fold.kind fold.acc) (map at (filter (λ p. nat_lt p n) (group_places fold idx))))

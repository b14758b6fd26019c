-- The groups of a reduction in a plan.
use Rattle.cu_grid.specs.Counts.{IsWithin}
use Rattle.cu_grid.specs.Grid.{RegularGrid, IsGrid}
use Rattle.cu_op.proofs.Grouped.{length-groups}
use Rattle.cu_op.specs.Arrays.{grid_at}
use Rattle.cu_op.specs.Places.{ArePairs}
use Rattle.cu_op.specs.Partial.{partial_grid, IsSqueezed, partial_lo, partial_hi, merge_groups}
use Rattle.cu_op.specs.declared.layout.ArrayInfo.{ArrayInfo}
use Rattle.cu_reduce.specs.Groups.{groups_of, group_lo, group_hi, group_of}
use Rattle.std.proofs.Common.{◌≡◌, ℕ, suc, ◌==◌, List, length, map, sym, ◌∙◌, subst, pred, Bool}
use Rattle.std.proofs.lemmas.List.{length-map}

module _ (arrays : List ArrayInfo) where
  -- a reduction's groups are those of a list of sizes, one for each axis of the source
  pub chunk_ranks : (f : ℕ → Bool) (source : ℕ) → IsGrid (grid_at arrays source) → length (groups_of f (grid_at arrays source).chunk) ≡ length (grid_at arrays source).shape
  chunk_ranks f source ok = length-groups f (grid_at arrays source).chunk ∙ ok.ranks

  pub merge_ranks : (axis group source : ℕ) → length (merge_groups axis group (grid_at arrays source)) ≡ length (grid_at arrays source).shape
  merge_ranks axis group source = length-groups (λ d. d == axis) (map (λ n. group) (grid_at arrays source).shape) ∙ length-map (grid_at arrays source).shape (λ n. group)

  -- partial places stand like their values
  pub place_squeezed : (axis group value_source place_source out : ℕ) → ArePairs arrays value_source place_source → IsSqueezed (partial_grid (merge_groups axis group (grid_at arrays value_source)) (grid_at arrays value_source)) (grid_at arrays out)
      → IsSqueezed (partial_grid (merge_groups axis group (grid_at arrays place_source)) (grid_at arrays place_source)) (grid_at arrays out)
  place_squeezed axis group value_source place_source out pairs s = subst (λ (g : RegularGrid). IsSqueezed (partial_grid (merge_groups axis group g) g) (grid_at arrays out)) (sym pairs.grid) s

  -- what is read of partial places
  pub place_within : (axis group value_source place_source out : ℕ) (lo hi i : List ℕ) → ArePairs arrays value_source place_source
      → IsWithin (partial_lo arrays (merge_groups axis group (grid_at arrays value_source)) value_source out lo) (partial_hi arrays (merge_groups axis group (grid_at arrays value_source)) value_source out hi) i
      → IsWithin (partial_lo arrays (merge_groups axis group (grid_at arrays place_source)) place_source out lo) (partial_hi arrays (merge_groups axis group (grid_at arrays place_source)) place_source out hi) i
  place_within axis group value_source place_source out lo hi i pairs w =
      let o = (grid_at arrays out).shape in
      subst (λ (g : RegularGrid). IsWithin (group_lo (merge_groups axis group g) (group_of (merge_groups axis group g) g.shape o lo)) (group_hi (merge_groups axis group g) g.shape (map suc (group_of (merge_groups axis group g) g.shape o (map pred hi)))) i)
      (sym pairs.grid) w

-- The same for arrays: the rules of the operations that stand between a source and its prefix sums
-- along an axis (this project's own rule).
use Rattle.std.specs.Prelude.{◌≡◌, ◌≢◌, ℕ, ◌≤◌, Bool, true, false, List, [], ◌∷◌, map, ℤ, Option, None, Some, option_map, slice_index}
use Rattle.cu_num.specs.declared.types.Dtype.{Dtype}
use Rattle.cu_num.specs.declared.folds.FoldKind.TheVariants.{Sum}
use Rattle.cu_shape.specs.Index.{IsInside}
use Rattle.cu_reduce.specs.Folds.{reduced_to}
use Rattle.cu_reduce.specs.Groups.{groups_of, group_counts, group_indices}
use Rattle.cu_reduce.specs.Levels.{carry_sum, scan_sum}
use Rattle.cu_reduce.specs.Prefix.{line_through}

abbrev pub Array : Type 0
Array = List ℕ → Option ℤ

-- what is carried into an element of an array of sums, in groups of g along the axis
abbrev pub carry_at : Dtype → ℕ → ℕ → Array → Option Array → List ℕ → Option ℤ
carry_at acc axis g sums above idx =
    carry_sum acc g (line_through sums axis idx) (option_map (λ a. line_through a axis idx) above)
    (slice_index idx axis)

-- the sum up to an element of a source whose chunks have c elements along the axis
abbrev pub scan_at : Dtype → ℕ → ℕ → Array → Option Array → List ℕ → Option ℤ
scan_at acc axis c source carry idx =
    scan_sum acc c (line_through source axis idx) (option_map (λ a. line_through a axis idx) carry)
    (slice_index idx axis)

-- the sum of a group, as folds and merges make it
abbrev pub sum_at : Dtype → (ℕ → Bool) → List ℕ → List ℕ → Array → List ℕ → Option ℤ
sum_at acc p sizes shape f q =
    reduced_to Sum acc (map f (group_indices (groups_of p sizes) shape q))

-- this axis is marked, and no other
pub record IsOnly (p : ℕ → Bool) (axis : ℕ) : Type 0 where
  pub own : p axis ≡ true
  pub others : (d : ℕ) → d ≢ axis → p d ≡ false

-- an array of sums, and one of its shape with what is carried into each
pub record Tier : Type 0 where
  pub shape : List ℕ
  pub sums : Array
  pub carry : Array

-- the tiers from one on, up to the last, which is a single group
abbrev pub AreTiers : Dtype → (ℕ → Bool) → ℕ → ℕ → Tier → List Tier → Type 0
AreTiers acc p axis g t [] =
    (slice_index t.shape axis ≤ g)
    × ((idx : List ℕ) → IsInside t.shape idx → t.carry idx ≡ carry_at acc axis g t.sums None idx)
AreTiers acc p axis g t (u ∷ us) =
    (u.shape ≡ group_counts (groups_of p (map (λ n. g) t.shape)) t.shape)
    × ((q : List ℕ) → IsInside u.shape q
    → u.sums q ≡ sum_at acc p (map (λ n. g) t.shape) t.shape t.sums q)
    × ((idx : List ℕ) → IsInside t.shape idx
    → t.carry idx ≡ carry_at acc axis g t.sums (Some u.carry) idx)
    × AreTiers acc p axis g u us

-- the first has the sums of the chunks of a source
abbrev pub HasChunkTier : Dtype → (ℕ → Bool) → List ℕ → List ℕ → Array → Tier → Type 0
HasChunkTier acc p chunk shape f t =
    (t.shape ≡ group_counts (groups_of p chunk) shape)
    × ((q : List ℕ) → IsInside t.shape q → t.sums q ≡ sum_at acc p chunk shape f q)

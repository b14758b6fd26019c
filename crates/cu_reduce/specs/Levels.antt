-- The arrays between a source and its prefix sums, along a line (this project's own rule): the sums
-- of the source's chunks, the sums of groups of these and so on, until one group is left. For each
-- of them, from the last to the first, there is the sum of all before it, which is carried in.
use Rattle.std.specs.Prelude.{◌≡◌, ℕ, suc, ◌*◌, ◌/◌, ◌<◌, ◌≤◌, List, [], ◌∷◌, ◌++◌, min, ℤ, Option, None, Some}
use Rattle.std.specs.Int.{div_ceil}
use Rattle.cu_num.specs.declared.types.Dtype.{Dtype}
use Rattle.cu_num.specs.declared.folds.FoldKind.TheVariants.{Sum}
use Rattle.cu_reduce.specs.Folds.{reduced_to}
use Rattle.cu_reduce.specs.Prefix.{Line, span}

-- what is carried into group q, where there is something
abbrev pub carried : Option Line → ℕ → List (Option ℤ)
carried None q = []
carried (Some c) q = c q ∷ []

-- the sum of group q of s neighbours, of n elements
abbrev pub group_sum : Dtype → ℕ → ℕ → Line → ℕ → Option ℤ
group_sum acc s n f q = reduced_to Sum acc (span f (q * s) (min n (suc q * s)))

-- what is carried into place j: what is carried into its group, and the elements of its group that
-- stand before it
abbrev pub carry_sum : Dtype → ℕ → Line → Option Line → ℕ → Option ℤ
carry_sum acc s f above j = reduced_to Sum acc (carried above (j / s) ++ span f (j / s * s) j)

-- the sum up to place j: what is carried into its group, and the elements of its group up to it
abbrev pub scan_sum : Dtype → ℕ → Line → Option Line → ℕ → Option ℤ
scan_sum acc s f carry j = reduced_to Sum acc (carried carry (j / s) ++ span f (j / s * s) (suc j))

-- an array of sums, and what is carried into each of its places
pub record Level : Type 0 where
  pub size : ℕ
  pub sums : Line
  pub carry : Line

-- The levels from one on, up to the last, which is a single group. Each has the sums of the groups
-- of the one before it, and its carries come from those of the one behind it.
abbrev pub AreLevels : Dtype → ℕ → Level → List Level → Type 0
AreLevels acc g l [] =
    (l.size ≤ g) × ((j : ℕ) → j < l.size → l.carry j ≡ carry_sum acc g l.sums None j)
AreLevels acc g l (m ∷ ls) =
    (m.size ≡ div_ceil l.size g)
    × ((q : ℕ) → q < m.size → m.sums q ≡ group_sum acc g l.size l.sums q)
    × ((j : ℕ) → j < l.size → l.carry j ≡ carry_sum acc g l.sums (Some m.carry) j)
    × AreLevels acc g m ls

-- the first level has the sums of the chunks of c elements of a source of n
abbrev pub HasChunkSums : Dtype → ℕ → ℕ → Line → Level → Type 0
HasChunkSums acc c n f l =
    (l.size ≡ div_ceil n c) × ((q : ℕ) → q < l.size → l.sums q ≡ group_sum acc c n f q)

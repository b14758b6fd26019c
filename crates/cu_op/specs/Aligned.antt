-- How the chunks of an argument that is broadcast stand to those of the result.
use Rattle.cu_grid.specs.Grid.{RegularGrid}
use Rattle.std.specs.Prelude.{◌≡◌, ◌⊎◌, ℕ, ◌-◌, ◌≤◌, List, [], ◌∷◌, length, ◌≢◌, drop}

-- On each axis that both have, counted from the last, an argument has the result's size and chunk size, or it is stretched
-- and has a chunk size of its own (Python array API, "Broadcasting"; the chunk sizes are this project's rule).
abbrev pub IsAlignedAlong : List ℕ → List ℕ → List ℕ → List ℕ → Type 0
IsAlignedAlong [] [] [] [] = Unit {0}
IsAlignedAlong (n ∷ ns) (c ∷ cs) (m ∷ ms) (d ∷ ds) = (((n ≡ m) × (c ≡ d)) ⊎ ((n ≡ 1) × (m ≢ 1))) × IsAlignedAlong ns cs ms ds
IsAlignedAlong [] [] [] (d ∷ ds) = ⊥
IsAlignedAlong [] [] (m ∷ ms) ds = ⊥
IsAlignedAlong [] (c ∷ cs) ms ds = ⊥
IsAlignedAlong (n ∷ ns) [] ms ds = ⊥
IsAlignedAlong (n ∷ ns) (c ∷ cs) [] ds = ⊥
IsAlignedAlong (n ∷ ns) (c ∷ cs) (m ∷ ms) [] = ⊥

pub record IsAligned (g result : RegularGrid) : Type 0 where
  pub rank : length g.shape ≤ length result.shape
  pub axes : IsAlignedAlong g.shape g.chunk (drop (length result.shape - length g.shape) result.shape) (drop (length result.shape - length g.shape) result.chunk)

-- Chunks that lie whole in regions.
use Rattle.std.specs.Prelude.{◌≡◌, ◌⊎◌, ℕ, ◌*◌, ◌≤◌, List, [], ◌∷◌}

-- Over an array of these sizes each chunk lies whole in one region: on each axis a region has the whole size, or as much as a number of
-- chunks.
abbrev pub IsNestedAlong : List ℕ → List ℕ → List ℕ → Type 0
IsNestedAlong [] [] [] = Unit {0}
IsNestedAlong (n ∷ ns) (c ∷ cs) (r ∷ rs) = ((n ≤ r) ⊎ ((m : ℕ) × (r ≡ m * c))) × IsNestedAlong ns cs rs
IsNestedAlong ns cs rs = ⊥

-- The least region that is whole chunks of two sizes (this project's own rule).
use Rattle.std.specs.Prelude.{ℕ, suc, ◌*◌, ◌%◌, ◌==◌, List, [], ◌∷◌, min, max}
use Rattle.std.specs.List.{position_or_len, range_with_len}
use Rattle.cu_rechunk.specs.Stages.{cut}

-- the least common multiple of two sizes: the first multiple of the one that is a multiple of the
-- other
abbrev pub common_multiple : ℕ → ℕ → ℕ
common_multiple s t = s * suc (position_or_len (λ k. s * suc k % t == 0) (range_with_len 0 t))

-- on an axis of size n: this, or the whole axis if that is less
abbrev pub least_size : ℕ → ℕ → ℕ → ℕ
least_size n s t = min (common_multiple s t) (max n 1)

abbrev pub least_along : List ℕ → List ℕ → List ℕ → List ℕ
least_along (n ∷ ns) (s ∷ ss) (t ∷ ts) = least_size n s t ∷ least_along ns ss ts
least_along ns ss ts = []

-- over an array of this shape: the sizes of chunks are first cut to the array's
abbrev pub least_region : List ℕ → List ℕ → List ℕ → List ℕ
least_region shape source target = least_along shape (cut shape source) (cut shape target)

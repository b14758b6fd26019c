-- Rounds of merges, of m partial results along an axis: each round merges neighbouring groups of
-- them, as long as there is more than one (this project's own rule).
use Rattle.std.specs.Prelude.{ℕ, zero, suc, nat_lt, if◌then◌else◌, ℤ, map, Option}
use Rattle.std.specs.Int.{div_ceil}
use Rattle.cu_num.specs.declared.folds.FoldKind.{FoldKind}
use Rattle.cu_num.specs.declared.types.Dtype.{Dtype}
use Rattle.cu_reduce.specs.Folds.{reduced_to}
use Rattle.cu_reduce.specs.Labels.{chunk_places}

-- what a round makes of group j
abbrev pub round_value : FoldKind → Dtype → ℕ → ℕ → (ℕ → Option ℤ) → ℕ → Option ℤ
round_value kind acc split_every m v j =
    reduced_to kind acc (map v (chunk_places split_every m j))

-- after at most so many rounds
abbrev pub after_rounds : FoldKind → Dtype → ℕ → ℕ → ℕ → (ℕ → Option ℤ) → ℕ → Option ℤ
after_rounds kind acc split_every zero m v = v
after_rounds kind acc split_every (suc most) m v =
    if nat_lt 1 m
    then after_rounds kind acc split_every most (div_ceil m split_every)
    (round_value kind acc split_every m v)
    else v

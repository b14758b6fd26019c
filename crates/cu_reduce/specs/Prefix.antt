-- Sums of all elements up to a place (Python array API 2023.12, `cumulative_sum`). A line has the
-- elements of an array along one axis by their place on it; an element may be missing.
use Rattle.std.specs.Prelude.{ℕ, zero, suc, ◌-◌, ℤ, pos, ◌+ℤ◌, List, map, Option, option_map, option_and_then, slice_set}
use Rattle.std.specs.List.{range_with_len}
use Rattle.cu_num.specs.Wrap.{wrapped}
use Rattle.cu_num.specs.declared.types.Dtype.{Dtype}

abbrev pub Line : Type 0
Line = ℕ → Option ℤ

-- the exact sum of the elements up to place j, by recursion on the place
abbrev pub running_sum : Line → ℕ → Option ℤ
running_sum f zero = f 0
running_sum f (suc j) =
    option_and_then (λ x. option_map (λ y. x +ℤ y) (f (suc j))) (running_sum f j)

-- wrapped once to the type of the result
abbrev pub cumulative : Dtype → Line → ℕ → Option ℤ
cumulative acc f j = option_map (wrapped acc) (running_sum f j)

-- the line of an array through an index
abbrev pub line_through : (List ℕ → Option ℤ) → ℕ → List ℕ → Line
line_through at axis idx k = at (slice_set idx axis k)

-- the elements of a line from place lo to below hi
abbrev pub span : Line → ℕ → ℕ → List (Option ℤ)
span f lo hi = map f (range_with_len lo (hi - lo))

-- the exact sum of the first n numbers of a line without gaps, by recursion
abbrev pub sum_below : (ℕ → ℤ) → ℕ → ℤ
sum_below f zero = pos 0
sum_below f (suc n) = sum_below f n +ℤ f n

-- The slices of Python: `slice(start, stop, step).indices(n)` of the language's reference.
use Rattle.std.specs.Prelude.{ℕ, ◌==◌, if◌then◌else◌, Option, None, Some, ℤ, pos, negsuc, ◌+ℤ◌, ◌-ℤ◌, ◌*ℤ◌, ◌≤ℤ◌, ◌<ℤ◌}
use Rattle.std.specs.Int.{int_min, int_max, div_ceil}
use Rattle.std.specs.Int.RustNames.{unsigned_abs}
use Rattle.cu_shape.specs.declared.slice.Run.{Run}

-- an end of a slice is clipped to 0 and n, downward to -1 and n - 1
abbrev pub lowest : ℤ → ℤ
lowest (pos step) = pos 0
lowest (negsuc step) = negsuc 0

abbrev pub highest : ℤ → ℕ → ℤ
highest (pos step) n = pos n
highest (negsuc step) n = pos n -ℤ pos 1

-- a negative end counts from the array's end
abbrev pub from_end : ℤ → ℕ → ℤ
from_end (pos x) n = pos x
from_end (negsuc x) n = pos n +ℤ negsuc x

abbrev pub clipped : ℤ → ℤ → ℕ → ℤ
clipped x step n = int_max (int_min (from_end x n) (highest step n)) (lowest step)

-- where the slice begins and where it stops, before the first of its indices and past the last
abbrev pub start_of : Option ℤ → ℤ → ℕ → ℤ
start_of (Some x) step n = clipped x step n
start_of None (pos step) n = lowest (pos step)
start_of None (negsuc step) n = highest (negsuc step) n

abbrev pub stop_of : Option ℤ → ℤ → ℕ → ℤ
stop_of (Some x) step n = clipped x step n
stop_of None (pos step) n = highest (pos step) n
stop_of None (negsuc step) n = lowest (negsuc step)

-- a number, and 0 for a negative one
abbrev pub at_least_zero : ℤ → ℕ
at_least_zero (pos n) = n
at_least_zero (negsuc n) = 0

-- the way from start to stop in the step's direction
abbrev pub gap_between : ℤ → ℤ → ℤ → ℤ
gap_between start stop (pos step) = stop -ℤ start
gap_between start stop (negsuc step) = start -ℤ stop

-- how many indices: that way over the step, rounded up, and none where stop lies behind start
abbrev pub count_of : Option ℤ → Option ℤ → ℤ → ℕ → ℕ
count_of start stop step n = div_ceil (at_least_zero (gap_between (start_of start step n) (stop_of stop step n) step)) (unsigned_abs step)

-- the first index, and 0 where there is none
abbrev pub first_of : Option ℤ → Option ℤ → ℤ → ℕ → ℕ
first_of start stop step n = if count_of start stop step n == 0 then 0 else at_least_zero (start_of start step n)

-- a clipped end lies between the two bounds
pub record IsEnd (end step : ℤ) (n : ℕ) : Type 0 where
  pub low : lowest step ≤ℤ end
  pub high : end ≤ℤ highest step n

-- the index that a run takes at k
abbrev pub index_taken : Run → ℕ → ℤ
index_taken run k = pos run.first +ℤ pos k *ℤ run.step

-- it is an index of an axis of size n
abbrev pub IsIndex : ℤ → ℕ → Type 0
IsIndex i n = (pos 0 ≤ℤ i) × (i <ℤ pos n)

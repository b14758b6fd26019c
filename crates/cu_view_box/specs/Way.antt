-- How an axis of a source is read along an axis of a result, from the first index of a box of the result on. This project's own rules.
use Rattle.std.specs.Prelude.{ℕ, ◌+◌, ◌-◌, ◌*◌, ◌^◌, ◌<◌, ◌≤◌}
use Rattle.cu_view_box.specs.declared.way.Interval.{Interval}
use Rattle.cu_view_box.specs.declared.way.Way.{Way}
use Rattle.cu_view_box.specs.declared.way.Way.TheVariants.{Fixed, Up, Down}

-- the index that is read at a count
abbrev pub read_by : Way → ℕ → ℕ
read_by (Fixed index) t = index
read_by (Up axis first step) t = first + t * step
read_by (Down axis first step) t = first - t * step

-- it goes somewhere, and over so many counts never below index 0
abbrev pub IsWay : ℕ → Way → Type 0
IsWay extent (Fixed index) = Unit {0}
IsWay extent (Up axis first step) = 0 < step
IsWay extent (Down axis first step) = (0 < step) × (first < 2 ^ 63) × ((t : ℕ) → t < extent → t * step ≤ first)

-- a count of the interval
abbrev pub IsInInterval : Interval → ℕ → Type 0
IsInInterval interval t = (interval.from ≤ t) × (t < interval.to)

-- a count below the extent at which an index from `low` to below `high` is read
abbrev pub IsRead : Way → ℕ → ℕ → ℕ → ℕ → Type 0
IsRead way extent low high t = (t < extent) × (low ≤ read_by way t) × (read_by way t < high)

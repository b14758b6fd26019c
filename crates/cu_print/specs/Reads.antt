-- How many chunks are met by bands that are read one after another. This project's own words.
use Rattle.std.specs.Prelude.{◌≡◌, ◌⊎◌, ℕ, zero, suc, ◌+◌, ◌*◌, ◌/◌, ◌%◌, ◌^◌, ◌<◌, ◌≤◌, List, [], ◌∷◌, length, slice_index_or}
use Rattle.std.specs.Int.{div_ceil}
use Rattle.cu_num.specs.Dtype.{size_of}
use Rattle.cu_shape.specs.Index.{product}
use Rattle.cu_shape.specs.Counts.{counts_of, at_least_one}
use Rattle.cu_grid.specs.Grid.{RegularGrid}
use Rattle.cu_op.specs.declared.layout.Layout.{Layout}
use Rattle.cu_store.specs.Steps.{Shown, OnceEach}
use Rattle.cu_command.specs.Seen.{WithinCalls}

-- the sizes of a band that is as long as a chunk up to this axis, and behind it as long as the array
abbrev pub band_sizes : ℕ → List ℕ → List ℕ → List ℕ
band_sizes zero (n ∷ ns) (c ∷ cs) = c ∷ ns
band_sizes (suc axis) (n ∷ ns) (c ∷ cs) = c ∷ band_sizes axis ns cs
band_sizes axis shape chunk = []

-- how many chunks such bands meet at most: those along this axis and the later ones, for each index of the axes before it again
abbrev pub band_reads : ℕ → List ℕ → List ℕ → ℕ
band_reads zero shape chunk = product (counts_of shape chunk)
band_reads (suc axis) (n ∷ ns) (c ∷ cs) = n * band_reads axis ns cs
band_reads (suc axis) shape chunk = 1

-- Bands may be as long as a chunk on this axis: it is the last one, or a chunk has more than one index on it and a band is small.
abbrev pub IsBandAxis : Layout → ℕ → Type 0
IsBandAxis l axis = (length l.grid.shape ≤ axis + 1)
    ⊎ ((1 < slice_index_or l.grid.chunk axis 0) × (product (band_sizes axis (at_least_one l.grid.shape) l.grid.chunk) * size_of l.dtype ≤ 2 ^ 26))

-- ---- what the parts of the command rest on

-- how many chunks the bands before this place meet
abbrev pub reads_before : ℕ → List ℕ → List ℕ → ℕ → ℕ
reads_before zero (n ∷ ns) (c ∷ cs) p = div_ceil (p / product ns) c * product (counts_of ns cs)
reads_before (suc a) (n ∷ ns) (c ∷ cs) p = p / product ns * band_reads a ns cs + reads_before a ns cs (p % product ns)
reads_before a shape chunk p = p

-- a band begins at this place
abbrev pub IsBandStart : ℕ → List ℕ → List ℕ → ℕ → Type 0
IsBandStart zero (n ∷ ns) (c ∷ cs) p = (i : ℕ) × (p ≡ i * c * product ns)
IsBandStart (suc a) (n ∷ ns) (c ∷ cs) p = IsBandStart a ns cs (p % product ns)
IsBandStart a shape chunk p = Unit {0}

-- a band was read, and the next one begins behind it; beside one call for each chunk that it meets there
-- were no more than failed
pub record IsBandRead (tries axis : ℕ) (g : RegularGrid) (start : ℕ) (old new : Shown) (len : ℕ) : Type 0 where
  pub next : start + len < product g.shape → IsBandStart axis g.shape g.chunk (start + len)
  pub met : ℕ
  pub few : reads_before axis g.shape g.chunk start + met ≤ reads_before axis g.shape g.chunk (start + len)
  pub calls : WithinCalls (met * tries) old new
  pub once : OnceEach met old new

-- or its reading ended
pub record IsBandEnd (tries axis : ℕ) (g : RegularGrid) (start : ℕ) (old new : Shown) : Type 0 where
  pub met : ℕ
  pub few : reads_before axis g.shape g.chunk start + met ≤ band_reads axis g.shape g.chunk
  pub calls : WithinCalls (met * tries) old new
  pub once : OnceEach met old new

-- the bands are as long as a chunk on the first axis on which they may be so
pub record IsFirstBanding (bands : RegularGrid) (l : Layout) : Type 0 where
  pub axis : ℕ
  pub sizes : bands.chunk ≡ band_sizes axis (at_least_one l.grid.shape) l.grid.chunk
  pub first : (other : ℕ) → IsBandAxis l other → axis ≤ other

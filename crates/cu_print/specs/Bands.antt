-- Bands: consecutive elements of an array that are read together, chunk by chunk. This project's own words.
use Rattle.std.specs.Prelude.{◌≡◌, ℕ, ◌+◌, ◌*◌, ◌^◌, ◌<◌, ◌≤◌, List, Option}
use Rattle.cu_num.specs.Dtype.{size_of}
use Rattle.cu_shape.specs.Index.{product, quotients}
use Rattle.cu_grid.specs.Counts.{IsWithin}
use Rattle.cu_grid.specs.Grid.{RegularGrid, IsGrid}
use Rattle.cu_grid.specs.declared.region.Region.{Region}
use Rattle.cu_codec.specs.Parts.{place_within}
use Rattle.cu_op.specs.declared.layout.ArrayInfo.{ArrayInfo}
use Rattle.cu_op.specs.declared.layout.Layout.{Layout}
use Rattle.cu_store.specs.Steps.{Shown, NoChange}
use Rattle.cu_region.specs.Reading.{key_at, IsStoredAt}
use Rattle.cu_region.specs.Steady.{IsSteady}
use Rattle.cu_command.specs.Seen.{Seen, Stepped, stream, seen}
use Rattle.cu_command.specs.declared.status.Status.{Status}
use Rattle.cu_print.specs.declared.reads.Unread.{Unread}
use Rattle.cu_print.specs.Runs.{PrintsRun, IsReadEnd, IsRunPrintFault}

-- a grid over the same array, whose chunks are read into one buffer each
pub record IsBanding (bands : RegularGrid) (l : Layout) : Type 0 where
  pub grid : IsGrid bands
  pub shape : bands.shape ≡ l.grid.shape
  pub bytes : product bands.chunk * size_of l.dtype ≤ 2 ^ 28

-- the key is that of the chunk in which the element at this index lies
abbrev pub IsBandKey : ArrayInfo → List ℕ → List ℕ → Type 0
IsBandKey info idx key = key ≡ key_at info (quotients idx info.layout.grid.chunk)

-- So many elements of a region, from its first on. Each is the one that was held at any moment since which only late puts landed, where
-- each that was late then on the key of its chunk carries what was held there.
abbrev pub HasFirst : ArrayInfo → Region → Shown → ℕ → List ℕ → Type 0
HasFirst info r shown n out = (entry : Shown) → Stepped NoChange entry shown → (idx : List ℕ) → IsWithin r.lo r.hi idx → place_within r.lo r.hi idx < n
    → IsSteady (IsBandKey info idx) entry.held entry.late → IsStoredAt info r.lo r.hi entry.held out idx

-- the first element of a region that wasn't read, and why its chunk wasn't
pub record IsBandUnread (tries : ℕ) (old new : Shown) (info : ArrayInfo) (r : Region) (unread : Unread) : Type 0 where
  pub idx : List ℕ
  pub within : IsWithin r.lo r.hi idx
  pub place : place_within r.lo r.hi idx ≡ unread.ready
  pub ended : IsReadEnd tries old new info.layout (key_at info (quotients idx info.layout.grid.chunk)) unread.status

-- why printing the band that begins at this place ends, where so many of its elements were printed
pub record IsBandFault (tries : ℕ) (info : ArrayInfo) (start : ℕ) (old new : Seen) (status : Status) : Type 0 where
  pub len : ℕ
  pub told : Option (List ℕ)
  pub prints : PrintsRun info start old.depot old.out.told told len
  pub below : start + len < product info.layout.grid.shape
  pub ended : IsRunPrintFault tries info (start + len) (seen (stream told old.out.faults) old.depot) new status

-- Where the boxes of a view's pieces begin, and which source they read. This project's own rules.
use Rattle.std.specs.Prelude.{◌≡◌, ◌≢◌, ℕ, zero, suc, ◌<◌, ◌==◌, not, ℤ, pos, negsuc, List, [], length, take, slice_index, if◌then◌else◌}
use Rattle.std.specs.List.{sum_by, count_by}
use Rattle.cu_shape.specs.Index.{index_at}
use Rattle.cu_shape.specs.declared.slice.Run.{Run}
use Rattle.cu_origin.specs.Pull.{origin_of}
use Rattle.cu_origin.specs.declared.provenance.Provenance.{Provenance}
use Rattle.cu_origin.specs.declared.provenance.Provenance.TheVariants.{From, Const}
use Rattle.cu_origin.specs.declared.pull.Pull.{Pull}
use Rattle.cu_origin.specs.declared.pull.Pull.TheVariants.{Concat, Stack, Roll, Triangle}
use Rattle.cu_view_box.specs.declared.way.Way.{Way}
use Rattle.cu_view_box.specs.declared.way.Way.TheVariants.{Fixed, Up, Down}
use Rattle.cu_view.specs.Pieces.{turn_on, ranges_of}

-- where a source begins along the axis of a concatenation: behind those before it
abbrev pub offset_of : ℕ → List (List ℕ) → ℕ → ℕ
offset_of axis sources number = sum_by (λ source. slice_index source axis) (take number sources)

-- where the range of a roll's axis begins in the piece with this number
abbrev pub range_begin : List ℤ → List ℕ → ℕ → ℕ → ℕ
range_begin shifts shape number d = if slice_index (index_at (ranges_of shifts shape) number) d == 0 then turn_on shifts shape d else 0

-- the first index of a piece's box on an axis of the result
abbrev pub first_on : Pull → List (List ℕ) → List ℕ → ℕ → ℕ → ℕ
first_on (Concat axis) sources shape number d = if d == axis then offset_of axis sources number else 0
first_on (Stack axis) sources shape number d = if d == axis then number else 0
first_on (Roll shifts) sources shape number d = range_begin shifts.items shape number d
first_on pull sources shape number d = 0

-- the source that a piece reads
abbrev pub source_of : Pull → ℕ → ℕ
source_of (Concat axis) number = number
source_of (Stack axis) number = number
source_of pull number = 0

-- the index that comes from a source
abbrev pub index_of_source : Provenance → List ℕ
index_of_source (From s i) = i
index_of_source (Const x) = []

-- the index of its source that a piece reads at an index of its box, also where a triangle has 0
abbrev pub index_read : Pull → List (List ℕ) → List ℕ → List ℕ → List ℕ
index_read (Triangle lower k) sources shape idx = idx
index_read pull sources shape idx = index_of_source (origin_of pull sources shape idx)

-- ---- slices

-- a run of no index
abbrev pub no_run : Run
no_run = record { first = 0; step = pos 0; count = 0 }

-- how many axes before this one have another size than 1
abbrev pub longer_before : List ℕ → ℕ → ℕ
longer_before sizes d = count_by (λ n. not (n == 1)) (take d sizes)

-- axis `a` of the result has the indices of the run on axis d of the source: as many axes of another size than 1 stand before each
pub record IsAlong (shape counts : List ℕ) (d a : ℕ) : Type 0 where
  pub below : a < length shape
  pub longer : slice_index shape a ≢ 1
  pub same : longer_before shape a ≡ longer_before counts d

-- by a step of 0 the same index is read again
abbrev pub step_way : ℕ → ℤ → ℕ → Way
step_way first (pos zero) a = Fixed first
step_way first (pos (suc step)) a = Up a first (suc step)
step_way first (negsuc step) a = Down a first (suc step)

-- how a run of any count but 1 is read along an axis of the result; one of no indices isn't read
abbrev pub run_way : Run → ℕ → Way
run_way run a = if run.count == 0 then Up a 0 1 else step_way run.first run.step a

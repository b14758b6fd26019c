-- What the shapes of a view's sources and of its result must be to one another (Python array API 2022.12, "Manipulation Functions",
-- "Indexing", "Creation Functions").
use Rattle.std.specs.Prelude.{◌≡◌, ℕ, ◌<◌, ◌≤◌, ◌==◌, not, List, [], ◌∷◌, All, Contains, None, length, map, slice_index, slice_set, remove}
use Rattle.std.specs.List.{filter, sum_by}
use Rattle.cu_shape.specs.Broadcast.{broadcast_of, mismatch_of}
use Rattle.cu_shape.specs.Index.{product}
use Rattle.cu_shape.specs.Slice.{IsIndex, index_taken}
use Rattle.cu_shape.specs.declared.slice.Run.{Run}
use Rattle.cu_origin.specs.Pull.{counts_of_runs}
use Rattle.cu_origin.specs.declared.pull.Pull.{Pull}
use Rattle.cu_origin.specs.declared.pull.Pull.TheVariants.{Slice, Permute, Reshape, Concat, Stack, Flip, Roll, Broadcast, Triangle, Full, Arange, Eye}

-- there is one source, with this property
abbrev pub OfOne : (List ℕ → Type 0) → List (List ℕ) → Type 0
OfOne P [] = ⊥
OfOne P (source ∷ []) = P source
OfOne P (source ∷ other ∷ sources) = ⊥

-- a run for each axis, and each index that it takes is one of the axis
abbrev pub AreRuns : List Run → List ℕ → Type 0
AreRuns [] [] = Unit {0}
AreRuns (run ∷ runs) (n ∷ ns) = ((k : ℕ) → k < run.count → IsIndex (index_taken run k) n) × AreRuns runs ns
AreRuns [] (n ∷ ns) = ⊥
AreRuns (run ∷ runs) [] = ⊥

-- the sizes other than 1
abbrev pub without_ones : List ℕ → List ℕ
without_ones sizes = filter (λ n. not (n == 1)) sizes

-- the runs take indices of the axes, those of the axes taken out one each; but for axes of size 1 the result has the runs' counts
pub record FitsSlice (runs : List Run) (taken shape source : List ℕ) : Type 0 where
  pub inside : AreRuns runs source
  pub single : All (λ d. (d < length source) × (slice_index (counts_of_runs runs) d ≡ 1)) taken
  pub sizes : without_ones shape ≡ without_ones (counts_of_runs runs)

-- each axis once, and their sizes in this order
pub record FitsPermute (axes shape source : List ℕ) : Type 0 where
  pub rank : length axes ≡ length source
  pub each : (d : ℕ) → d < length source → Contains axes d
  pub sizes : shape ≡ map (λ axis. slice_index source axis) axes

-- the sources agree off the axis, and on it their sizes add up
pub record FitsConcat (axis : ℕ) (sources : List (List ℕ)) (shape : List ℕ) : Type 0 where
  pub below : axis < length shape
  pub off_axis : All (λ source. slice_set source axis 0 ≡ slice_set shape axis 0) sources
  pub along : slice_index shape axis ≡ sum_by (λ source. slice_index source axis) sources

-- the sources have the result's shape without the axis, on which the result has as many indices as there are sources
pub record FitsStack (axis : ℕ) (sources : List (List ℕ)) (shape : List ℕ) : Type 0 where
  pub below : axis < length shape
  pub off_axis : All (λ source. source ≡ remove shape axis) sources
  pub along : slice_index shape axis ≡ length sources

abbrev pub FitsPull : Pull → List (List ℕ) → List ℕ → Type 0
FitsPull (Slice runs taken) sources shape = OfOne (FitsSlice runs.items taken.items shape) sources
FitsPull (Permute axes) sources shape = OfOne (FitsPermute axes.items shape) sources
FitsPull Reshape sources shape = OfOne (λ source. product source ≡ product shape) sources
FitsPull (Concat axis) sources shape = FitsConcat axis sources shape
FitsPull (Stack axis) sources shape = FitsStack axis sources shape
FitsPull (Flip axes) sources shape = OfOne (λ source. source ≡ shape) sources
FitsPull (Roll shifts) sources shape = OfOne (λ source. (source ≡ shape) × (length shifts.items ≡ length shape)) sources
FitsPull Broadcast sources shape = OfOne (λ source. (mismatch_of shape source ≡ None) × (broadcast_of shape source ≡ shape)) sources
FitsPull (Triangle lower k) sources shape = OfOne (λ source. (source ≡ shape) × (2 ≤ length shape)) sources
FitsPull (Full value) sources shape = sources ≡ []
FitsPull (Arange start step) sources shape = (sources ≡ []) × (length shape ≡ 1)
FitsPull (Eye k) sources shape = (sources ≡ []) × (length shape ≡ 2)

-- What the makers of the chunks that a region needs tell of it. This project's own rules.
use Rattle.std.specs.Prelude.{◌≡◌, ◌≢◌, ℕ, List, All, slice_index_or, Contains, Some}
use Rattle.cu_op.specs.Arrays.{maker_at}
use Rattle.cu_op.specs.Schedule.{WritesCell}
use Rattle.cu_op.specs.TaskView.{TaskView}
use Rattle.cu_op.specs.Within.{fetched_chunks}
use Rattle.cu_op.specs.declared.cells.Cell.{Cell}
use Rattle.cu_op.specs.declared.layout.ArrayInfo.{ArrayInfo}
use Rattle.cu_op.specs.declared.operation.Op.{Op}
use Rattle.cu_op.specs.declared.operation.Op.TheVariants.{Pull}
use Rattle.cu_table.specs.Numbers.{IsTask}
use Rattle.cu_table.specs.declared.sources.Sources.{Sources}
use Rattle.cu_table.specs.declared.sources.Sources.TheVariants.{Complete, Partial, Awaited}

-- a view, which needs whole arrays
abbrev pub IsPullOp : Op → Type 0
IsPullOp (Pull pull ins out) = Unit {0}
IsPullOp op = ⊥

-- of the operation that makes a chunk, if one does, no task is left, by these counts
abbrev pub IsMakerDone : List ArrayInfo → List ℕ → Cell → Type 0
IsMakerDone arrays counts c = (k : ℕ) → maker_at arrays c.array ≡ Some k
    → slice_index_or counts k 0 ≡ 0

-- some task of operation k is left, and each makes a chunk that is fetched for the region
pub record NeedsEach (t : TaskView) (counts : List ℕ) (k : ℕ) : Type 0 where
  pub some : slice_index_or counts k 0 ≢ 0
  pub makes : (n : ℕ) → IsTask t.plan k n
      → (c : Cell) × Contains (fetched_chunks t.plan t.op t.number) c
      × WritesCell t.plan k n c.array c.coord

-- what an answer tells of these chunks, which the region needs
abbrev pub TellsOf : TaskView → List ℕ → List Cell → Sources → Type 0
TellsOf t counts cells Complete = All (IsMakerDone t.plan.arrays counts) cells
TellsOf t counts cells Partial = All (IsMakerDone t.plan.arrays counts) cells → ⊥
TellsOf t counts cells (Awaited k) = NeedsEach t counts k

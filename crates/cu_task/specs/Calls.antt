-- The calls of a depot by which a task reads and writes. This project's own rules.
use Rattle.std.specs.Prelude.{◌≡◌, ℕ, zero, suc, ◌+◌, true, List, All, length, sum_by, if◌then◌else◌}
use Rattle.cu_op.specs.Arrays.{is_inlined}
use Rattle.cu_op.specs.Cells.{task_at, task_lo, task_hi}
use Rattle.cu_op.specs.PlanView.{PlanView, op_of}
use Rattle.cu_op.specs.Schedule.{key_of}
use Rattle.cu_op.specs.Walks.{cells_of_walks, input_walks, written_chunks}
use Rattle.cu_op.specs.Within.{maker_op, ops_within}
use Rattle.cu_op.specs.declared.cells.Cell.{Cell}
use Rattle.cu_op.specs.declared.layout.ArrayInfo.{ArrayInfo}
use Rattle.cu_op.specs.declared.operation.Op.{Op}
use Rattle.cu_op.specs.declared.operation.Op.TheVariants.{Pull}
use Rattle.cu_origin.specs.declared.pull.Pull.{Pull as View}
use Rattle.cu_task.specs.Views.{ViewTask, is_exact, view_tally}

-- the operation is this view of these arrays
abbrev pub IsPullOf : Op → View → List ℕ → Type 0
IsPullOf (Pull pull ins out) view sources = (view ≡ pull) × (sources ≡ ins.items)
IsPullOf op view sources = ⊥

-- The view and the region of a task of it.
abbrev pub view_task : List ArrayInfo → View → List ℕ → ℕ → List ℕ → List ℕ → ViewTask
view_task arrays pull ins out lo hi = record { arrays = arrays; pull = pull; ins = ins; out = out; lo = lo; hi = hi }

-- What the calls for a region of an operation add to a tally: of a view for each chunk that it
-- needs, for each of its sources, and of any other operation for each chunk that it reads, for each
-- of its inputs. The weight of a stored chunk is given, and what a chunk adds that is read.
abbrev pub tally_by : (Cell → ℕ) → (Cell → ℕ) → List ArrayInfo → Op → ℕ → ℕ
tally_by weight each arrays (Pull pull ins out) task = view_tally weight (view_task arrays pull ins.items out (task_lo arrays (Pull pull ins out) task) (task_hi arrays (Pull pull ins out) task)) (length ins.items)
tally_by weight each arrays op task = sum_by each (cells_of_walks arrays (input_walks arrays op task))

-- A chunk that is stored adds its weight; one that is made where it is read what the region of its
-- maker does, at most n deep.
abbrev pub chunk_tally : (Cell → ℕ) → PlanView → ℕ → Cell → ℕ
chunk_tally weight p zero c = weight c
chunk_tally weight p (suc n) c = if is_inlined p.arrays c.array then tally_by weight (chunk_tally weight p n) p.arrays (maker_op p c.array) (task_at p.arrays (maker_op p c.array) c) else weight c

-- what the calls by which a task reads add
abbrev pub read_tally : (Cell → ℕ) → PlanView → ℕ → ℕ → ℕ
read_tally weight p k task = tally_by weight (chunk_tally weight p k) p.arrays (op_of p k) task

-- and those by which it writes, one for each chunk
abbrev pub written_tally : (Cell → ℕ) → PlanView → ℕ → ℕ → ℕ
written_tally weight p k task = sum_by weight (written_chunks p.arrays (op_of p k) task)

-- the weight of a chunk, where each key has one
abbrev pub weight_in : (List ℕ → ℕ) → List ArrayInfo → Cell → ℕ
weight_in weight arrays c = weight (key_of arrays c)

-- what all calls of a task add
abbrev pub tally_of : (List ℕ → ℕ) → PlanView → ℕ → ℕ → ℕ
tally_of weight p k task = read_tally (weight_in weight p.arrays) p k task + written_tally (weight_in weight p.arrays) p k task

-- ---- how many calls

-- for a region of an operation, for a chunk, and those by which a task reads
abbrev pub calls_by : (Cell → ℕ) → List ArrayInfo → Op → ℕ → ℕ
calls_by each arrays op task = tally_by (λ c. 1) each arrays op task

abbrev pub chunk_calls : PlanView → ℕ → Cell → ℕ
chunk_calls p n c = chunk_tally (λ d. 1) p n c

abbrev pub read_calls : PlanView → ℕ → ℕ → ℕ
read_calls p k task = calls_by (chunk_calls p k) p.arrays (op_of p k) task

-- and one for each chunk that it writes
abbrev pub calls_of : PlanView → ℕ → ℕ → ℕ
calls_of p k task = read_calls p k task + length (written_chunks p.arrays (op_of p k) task)

-- so many are made where nothing fails; for a reshape it may be fewer
abbrev pub MakesSureCalls : Op → Type 0
MakesSureCalls (Pull pull ins out) = is_exact pull ≡ true
MakesSureCalls op = Unit {0}

-- that is so of an operation and of those that stand inside its tasks
abbrev pub HasSureCalls : PlanView → ℕ → Type 0
HasSureCalls p k = All MakesSureCalls (ops_within p k)

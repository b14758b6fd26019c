-- What stands inside the tasks of an operation: where it reads an array that is made where it is
-- read, the operation that makes it, and so on. An operation reads what is made before it, so
-- operation k has others inside it at most k deep.
use Rattle.cu_op.specs.Arrays.{is_inlined, maker_at}
use Rattle.cu_op.specs.Cells.{task_at}
use Rattle.cu_op.specs.Elements.{Elements}
use Rattle.cu_op.specs.Operation.{reads_of, target_of}
use Rattle.cu_op.specs.PlanView.{PlanView, no_operation, op_of}
use Rattle.cu_op.specs.Value.{values_after}
use Rattle.cu_op.specs.Walks.{read_chunks}
use Rattle.cu_op.specs.declared.cells.Cell.{Cell}
use Rattle.cu_op.specs.declared.layout.ArrayInfo.{ArrayInfo}
use Rattle.cu_op.specs.declared.operation.Op.{Op}
use Rattle.cu_op.specs.declared.operation.Planned.{Planned}
use Rattle.std.specs.List.{range_with_len}
use Rattle.std.specs.Prelude.{ℕ, zero, suc, Bool, not, List, [], ◌∷◌, filter, flat_map, count_by, sum_by, if◌then◌else◌, Option, None, Some}

-- the operation that makes an array
abbrev pub made_by : PlanView → Option ℕ → Op
made_by p None = no_operation.op
made_by p (Some k) = op_of p k

abbrev pub maker_op : PlanView → ℕ → Op
maker_op p a = made_by p (maker_at p.arrays a)

-- ---- operations

-- an operation and those inside it, at most n deep
abbrev pub ops_deep : PlanView → ℕ → Op → List Op
ops_deep p zero op = op ∷ []
ops_deep p (suc n) op = op ∷ flat_map (λ a. if is_inlined p.arrays a then ops_deep p n (maker_op p a) else []) (reads_of op)

abbrev pub ops_within : PlanView → ℕ → List Op
ops_within p k = ops_deep p k (op_of p k)

-- how many of the arrays that an operation reads are stored; one that it reads twice counts twice
abbrev pub stored_reads : List ArrayInfo → Op → ℕ
stored_reads arrays op = count_by (λ a. not (is_inlined arrays a)) (reads_of op)

-- for an array that is read: itself, or those that are read where it is made
abbrev pub reads_for : PlanView → ℕ → ℕ → ℕ
reads_for p n a = if is_inlined p.arrays a then sum_by (stored_reads p.arrays) (ops_deep p n (maker_op p a)) else 1

-- ---- chunks

-- A chunk that is read, where its array is stored; else the chunks that its maker reads to make it,
-- at most n deep. What a task of an operation reads is given.
abbrev pub chunks_deep : (List ArrayInfo → Op → ℕ → List Cell) → PlanView → ℕ → Cell → List Cell
chunks_deep reads p zero c = c ∷ []
chunks_deep reads p (suc n) c =
    if is_inlined p.arrays c.array then flat_map (chunks_deep reads p n) (reads p.arrays (maker_op p c.array) (task_at p.arrays (maker_op p c.array) c)) else c ∷ []

-- the stored chunks that a task reads, operation by operation; each operation reads a chunk once
abbrev pub fetched_chunks : PlanView → ℕ → ℕ → List Cell
fetched_chunks p k task = flat_map (chunks_deep read_chunks p k) (read_chunks p.arrays (op_of p k) task)

-- ---- elements

abbrev pub makes_inlined : List ArrayInfo → Planned → Bool
makes_inlined arrays o = is_inlined arrays (target_of o.op)

-- elements of stored arrays, with those that operations make of them where they are read
abbrev pub with_inlined : PlanView → Elements → Elements
with_inlined p at = values_after (filter (makes_inlined p.arrays) p.ops) p.arrays at

-- ---- numbers

-- the result of an operation is stored, so that it has tasks of its own
abbrev pub is_listed : PlanView → ℕ → Bool
is_listed p k = not (is_inlined p.arrays (target_of (op_of p k)))

-- the number of an operation in the list of those
abbrev pub listed_number : PlanView → ℕ → ℕ
listed_number p k = count_by (is_listed p) (range_with_len 0 k)

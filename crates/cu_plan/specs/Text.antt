-- The text that says what a plan does, operation by operation, of those whose results are stored.
-- This project's own lines; numbers are decimal, and an operation is called by its number among
-- these.
use Rattle.std.specs.Prelude.{ℕ, List, [], ◌∷◌, ◌++◌, codes, flat_map, length, map, sum_by}
use Rattle.std.specs.List.{join_by}
use Rattle.std.specs.Fmt.{decimal}
use Rattle.cu_op.specs.Arrays.{array_at, array_chunk_count}
use Rattle.cu_op.specs.Cells.{tasks_of}
use Rattle.cu_op.specs.KindText.{kind_text}
use Rattle.cu_op.specs.Operation.{writes_of}
use Rattle.cu_op.specs.PlanView.{PlanView, operation_at}
use Rattle.cu_op.specs.Sound.{made_chunks}
use Rattle.cu_op.specs.Within.{listed_number}
use Rattle.cu_op.specs.declared.layout.ArrayInfo.{ArrayInfo}
use Rattle.cu_op.specs.declared.operation.Op.{Op}
use Rattle.cu_op.specs.declared.operation.Planned.{Planned}
use Rattle.cu_plan.specs.Listed.{listed, awaited_ops}
use Rattle.cu_shape.specs.Counts.{largest}

-- the chunks of the arrays that an operation writes
abbrev pub cells_of : List ArrayInfo → Op → ℕ
cells_of arrays op = sum_by (λ a. array_chunk_count (array_at arrays a)) (writes_of op)

-- the most bytes that a task of the plan needs
abbrev pub peak_of : PlanView → ℕ
peak_of p = largest (map (λ k. (operation_at p.ops k).projected) (listed p))

-- `op K KIND node=N tasks=T cells=C projected=P`
unfoldable pub operation_fields : List ArrayInfo → ℕ → Planned → List ℕ
operation_fields arrays number o =
    codes "op " ++ decimal number ++ codes " " ++ kind_text o.op ++ codes " node=" ++ decimal o.node
    ++ codes " tasks=" ++ decimal (tasks_of arrays o.op) ++ codes " cells="
    ++ decimal (cells_of arrays o.op) ++ codes " projected=" ++ decimal o.projected

abbrev pub fields_of : PlanView → ℕ → List ℕ
fields_of p k = operation_fields p.arrays (listed_number p k) (operation_at p.ops k)

-- the same with a line feed
abbrev pub operation_line : PlanView → ℕ → List ℕ
operation_line p k = fields_of p k ++ 10 ∷ []

-- numbers with a comma between each two; the byte 44 is `,`
abbrev pub comma_text : List ℕ → List ℕ
comma_text numbers = join_by decimal (44 ∷ []) numbers

-- `op K KIND node=N tasks=T cells=C projected=P reads=J,..`, with a line feed: J are the operations
-- that it waits for
abbrev pub begun_line : PlanView → ℕ → List ℕ
begun_line p k =
    fields_of p k ++ codes " reads=" ++ comma_text (map (listed_number p) (awaited_ops p k))
    ++ 10 ∷ []

-- ---- the whole text

-- `plan ops=N tasks=T cells=C peak=P`, with a line feed: all tasks, and the chunks of all arrays
-- that are made and stored
unfoldable pub plan_line : PlanView → List ℕ
plan_line p =
    codes "plan ops=" ++ decimal (length (listed p)) ++ codes " tasks="
    ++ decimal (sum_by (λ o. tasks_of p.arrays o.op) p.ops) ++ codes " cells="
    ++ decimal (sum_by made_chunks p.arrays) ++ codes " peak=" ++ decimal (peak_of p) ++ 10 ∷ []

-- a line for each of these operations, and then that of the plan
abbrev pub plan_text : PlanView → List ℕ
plan_text p = flat_map (operation_line p) (listed p) ++ plan_line p

-- the same, where each line also says what its operation waits for
abbrev pub begun_text : PlanView → List ℕ
begun_text p = flat_map (begun_line p) (listed p) ++ plan_line p

-- The operations whose results are stored, so that they have tasks of their own, and which of them
-- another waits for (this project's own rule).
use Rattle.cu_op.specs.Arrays.{is_inlined, maker_at}
use Rattle.cu_op.specs.Operation.{reads_of}
use Rattle.cu_op.specs.PlanView.{PlanView}
use Rattle.cu_op.specs.Within.{is_listed, ops_within}
use Rattle.cu_op.specs.declared.layout.ArrayInfo.{ArrayInfo}
use Rattle.cu_op.specs.declared.operation.Op.{Op}
use Rattle.std.specs.List.{list_any, range_with_len}
use Rattle.std.specs.Prelude.{ℕ, ◌==◌, Bool, false, List, filter, length, Option, None, Some, if◌then◌else◌}

-- their numbers in the plan, in order
abbrev pub listed : PlanView → List ℕ
listed p = filter (is_listed p) (range_with_len 0 (length p.ops))

abbrev pub is_made_by : Option ℕ → ℕ → Bool
is_made_by None j = false
is_made_by (Some k) j = k == j

-- operation j makes the array, and it is stored
abbrev pub stores : List ArrayInfo → ℕ → ℕ → Bool
stores arrays j a = if is_inlined arrays a then false else is_made_by (maker_at arrays a) j

-- an operation reads an array that operation j stores
abbrev pub reads_from : List ArrayInfo → ℕ → Op → Bool
reads_from arrays j op = list_any (stores arrays j) (reads_of op)

-- operation k does, or one that stands inside its tasks
abbrev pub waits_for : PlanView → ℕ → ℕ → Bool
waits_for p k j = list_any (reads_from p.arrays j) (ops_within p k)

-- operation j stores an array, or what is read to make the array where it is read
abbrev pub maker_waits_for : PlanView → Option ℕ → ℕ → Bool
maker_waits_for p None j = false
maker_waits_for p (Some k) j = waits_for p k j

abbrev pub comes_from : PlanView → ℕ → ℕ → Bool
comes_from p a j =
    if is_inlined p.arrays a then maker_waits_for p (maker_at p.arrays a) j
    else is_made_by (maker_at p.arrays a) j

-- the operations that operation k waits for, each once, in their order
abbrev pub awaited_ops : PlanView → ℕ → List ℕ
awaited_ops p k = filter (waits_for p k) (range_with_len 0 k)

-- What operations need of a task's memory together, where one stands inside another.
use Rattle.cu_op.specs.Arrays.{is_inlined, maker_at}
use Rattle.cu_op.specs.Operation.{reads_of, writes_of, IsReadable}
use Rattle.cu_op.specs.PlanView.{PlanView, operation_at}
use Rattle.cu_op.specs.Projection.{input_room, instruction_count, scratch_room}
use Rattle.cu_op.specs.Within.{ops_within}
use Rattle.cu_op.specs.declared.layout.ArrayInfo.{ArrayInfo}
use Rattle.cu_op.specs.declared.needs.Needs.{Needs}
use Rattle.cu_op.specs.declared.operation.Op.{Op}
use Rattle.cu_op.specs.declared.operation.Planned.{Planned}
use Rattle.cu_shape.specs.Counts.{largest}
use Rattle.std.specs.Prelude.{◌≡◌, ◌≢◌, ℕ, ◌^◌, ◌<◌, true, List, [], All, length, map, sum_by, Option, None, Some, if◌then◌else◌}

-- a plan of these arrays and operations, of which nothing but a projection is asked
abbrev pub plan_over : List ArrayInfo → List Planned → ℕ → PlanView
plan_over arrays ops reserved = record { arrays = arrays; ops = ops; out = 0; allowed = 0; reserved = reserved }

-- Each operation reads what is given or made before it and writes arrays of the plan, and what is made where it is read has a maker.
pub record IsOrdered (arrays : List ArrayInfo) (ops : List Planned) : Type 0 where
  pub reads : (k : ℕ) → k < length ops → All (IsReadable arrays k) (reads_of (operation_at ops k).op)
  pub writes : (k : ℕ) → k < length ops → All (λ a. a < length arrays) (writes_of (operation_at ops k).op)
  pub makers : (a : ℕ) → a < length arrays → is_inlined arrays a ≡ true → maker_at arrays a ≢ None

-- the operations that stand inside, for an array that is read
abbrev pub within_maker : PlanView → Option ℕ → List Op
within_maker p None = []
within_maker p (Some k) = ops_within p k

abbrev pub inner_ops : PlanView → ℕ → List Op
inner_ops p a = if is_inlined p.arrays a then within_maker p (maker_at p.arrays a) else []

-- what operations need together
pub record IsNeedOf (arrays : List ArrayInfo) (ops : List Op) (n : Needs) : Type 0 where
  pub scratch : n.scratch ≡ largest (map (scratch_room arrays) ops)
  pub inputs : n.inputs ≡ sum_by (input_room arrays) ops
  pub steps : n.steps ≡ sum_by instruction_count ops

-- which can be counted
pub record IsCountable (arrays : List ArrayInfo) (ops : List Op) : Type 0 where
  pub inputs : sum_by (input_room arrays) ops < 2 ^ 64
  pub steps : sum_by instruction_count ops < 2 ^ 64

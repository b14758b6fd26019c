-- What a contract sees of a plan: its arrays, its operations, the number of the array that it is made for, and two counts of bytes.
use Rattle.std.specs.Prelude.{ℕ, List, [], slice_index_or}
use Rattle.cu_op.specs.Kind.Map.{map_of}
use Rattle.cu_op.specs.declared.layout.ArrayInfo.{ArrayInfo}
use Rattle.cu_op.specs.declared.operation.Op.{Op}
use Rattle.cu_op.specs.declared.operation.Planned.{Planned}

pub record PlanView : Type 0 where
  pub arrays : List ArrayInfo
  pub ops : List Planned
  pub out : ℕ
  pub allowed : ℕ
  pub reserved : ℕ

-- the operation by its number; past the end stands one that means nothing
abbrev pub no_operation : Planned
no_operation = record { op = map_of [] [] 0; node = 0; projected = 0 }

abbrev pub operation_at : List Planned → ℕ → Planned
operation_at ops k = slice_index_or ops k no_operation

abbrev pub op_of : PlanView → ℕ → Op
op_of p k = (operation_at p.ops k).op

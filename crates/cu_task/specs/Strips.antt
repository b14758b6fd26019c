-- A fold of what a map makes where it is read, by strips: consecutive places of the map's result.
-- This project's own rules.
use Rattle.std.specs.Prelude.{◌≡◌, ◌≤◌, ℕ, ℤ, List, [], length, Option, None, Some}
use Rattle.cu_kern.specs.Steps.{value_by_place}
use Rattle.cu_num.specs.Dtype.{size_of, InRange}
use Rattle.cu_num.specs.declared.folds.FoldKind.{FoldKind}
use Rattle.cu_num.specs.declared.functions.Fn1.TheVariants.{Astype}
use Rattle.cu_num.specs.declared.types.Dtype.{Dtype}
use Rattle.cu_op.specs.Kernel.{kernel_value}
use Rattle.cu_op.specs.KernelTypes.{GivesOperand, KernelFits, Operand, Typed}
use Rattle.cu_op.specs.TaskView.{TaskView, task_op, walk_at}
use Rattle.cu_op.specs.declared.kernel.Instr.{Instr}
use Rattle.cu_op.specs.declared.kernel.Instr.TheVariants.{One}
use Rattle.cu_op.specs.declared.operation.Op.{Op}
use Rattle.cu_op.specs.declared.operation.Op.TheVariants.{Fold}
use Rattle.cu_reduce.specs.Kinds.{Accumulates}
use Rattle.cu_task.specs.Inputs.{HasKernel}
use Rattle.cu_task.specs.Inside.{StandsInside}
use Rattle.cu_task.specs.OfTask.{IsMadeFrom}
use Rattle.cu_task.specs.declared.strips.RegionMap.{RegionMap}

abbrev pub IsFold : Op → Type 0
IsFold (Fold kind axes source out) = Unit {0}
IsFold op = ⊥

-- the outer task folds what the inner one, a map, makes where it is read
pub record FoldsMap (outer inner : TaskView) : Type 0 where
  pub fold : IsFold (task_op outer)
  pub map : HasKernel (task_op inner)
  pub inside : StandsInside outer (walk_at outer 0) inner

-- what the outer task makes of what the inner one makes of these bytes
pub record IsMadeThrough (outer inner : TaskView) (inputs output : List ℕ) : Type 0 where
  pub between : List ℕ
  pub inner_made : IsMadeFrom inner inputs between
  pub outer_made : IsMadeFrom outer between output

-- the kernel's value at a place of a result of these sizes
abbrev pub mapped_at : RegionMap → List ℕ → ℕ → Option ℤ
mapped_at map dims p = value_by_place map.kernel.now.code.items map.lays.now.items map.inputs.now dims p

-- there is one, a number of this type
abbrev pub IsNumberOf : Dtype → Option ℤ → Type 0
IsNumberOf t None = ⊥
IsNumberOf t (Some x) = InRange t x

-- the kind reduces numbers of any type in the types in which it reduces numbers of one
abbrev pub TakesAllTypes : FoldKind → Type 0
TakesAllTypes kind = (t own acc : Dtype) → Accumulates kind t acc → Accumulates kind own acc

-- a type has all numbers of another, in no fewer bytes
pub record IsHeldBy (own t : Dtype) : Type 0 where
  pub numbers : (x : ℤ) → InRange own x → InRange t x
  pub bytes : size_of own ≤ size_of t

-- the instruction converts what this step gives
abbrev pub IsConversion : Instr → ℕ → Type 0
IsConversion (One Astype t a) step = a ≡ step
IsConversion i step = ⊥

-- what an instruction gives is of this type, whatever stands before it
abbrev pub GivesType : Instr → List Dtype → Dtype → Type 0
GivesType i types t = (results : List Operand) (r : Operand) → GivesOperand i types results r → r ≡ Typed t

-- a kernel that gives the numbers of another, as numbers of a type that the other's holds
pub record GivesSame (code : List Instr) (types : List Dtype) (t : Dtype) (other : List Instr) (own : Dtype) : Type 0 where
  pub fits : KernelFits other types [] own
  pub same : (load : ℕ → Option ℤ) (x : ℤ) → InRange own x → kernel_value other load ≡ Some x → kernel_value code load ≡ Some x
  pub held : IsHeldBy own t
  pub steps : length other ≤ length code

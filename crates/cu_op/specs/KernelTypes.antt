-- Which types an instruction takes and gives (Python array API, type promotion and elementwise functions; that an integer
-- literal takes the type that it meets is this project's rule).
use Rattle.std.specs.Prelude.{◌≡◌, ℕ, ℤ, List, [], ◌∷◌, ◌++◌, Option, Some, IsTrue}
use Rattle.std.specs.List.{slice_get}
use Rattle.cu_num.specs.Dtype.{InRange}
use Rattle.cu_num.specs.Functions.{accepts1, accepts2}
use Rattle.cu_num.specs.Promotion.{promotion}
use Rattle.cu_num.specs.Scalar.{result_type1, result_type2}
use Rattle.cu_num.specs.declared.types.Dtype.{Dtype}
use Rattle.cu_num.specs.declared.types.Dtype.TheVariants.{Bool}
use Rattle.cu_num.specs.declared.functions.Fn1.{Fn1}
use Rattle.cu_num.specs.declared.functions.Fn1.TheVariants.{Astype}
use Rattle.cu_op.specs.declared.kernel.Instr.{Instr}
use Rattle.cu_op.specs.declared.kernel.Instr.TheVariants.{Load, Const, One, Two, Select}
use Rattle.cu_op.specs.Kernel.{last_of}

-- what an instruction gives: numbers of a type, or the one number of a literal
pub data Operand : Type 0 where
  Typed : Dtype → Operand
  Literal : ℤ → Operand

-- the argument's type is the function's; of Astype it is any, and `t` is the new type
abbrev pub IsArgument : Fn1 → Dtype → Dtype → Type 0
IsArgument Astype d t = Unit {0}
IsArgument f d t = d ≡ t

-- two arguments together have this type: the promoted one, or that of the array that a literal meets
abbrev pub HaveType : Operand → Operand → Dtype → Type 0
HaveType (Typed a) (Typed b) t = promotion a b ≡ Some t
HaveType (Typed a) (Literal y) t = (a ≡ t) × InRange t y
HaveType (Literal x) (Typed b) t = (b ≡ t) × InRange t x
HaveType (Literal x) (Literal y) t = ⊥

-- the instruction names given inputs and earlier results, fits their types, and gives this
abbrev pub GivesOperand : Instr → List Dtype → List Operand → Operand → Type 0
GivesOperand (Load k) types results r = (t : Dtype) × (slice_get types k ≡ Some t) × (r ≡ Typed t)
GivesOperand (Const x) types results r = r ≡ Literal x
GivesOperand (One f t a) types results r =
    (d : Dtype) × (slice_get results a ≡ Some (Typed d)) × IsArgument f d t × IsTrue (accepts1 f t) × (r ≡ Typed (result_type1 f t))
GivesOperand (Two f t a b) types results r =
    (x : Operand) × (y : Operand) × (slice_get results a ≡ Some x) × (slice_get results b ≡ Some y) × HaveType x y t × IsTrue (accepts2 f t) × (r ≡ Typed (result_type2 f t))
GivesOperand (Select c a b) types results r =
    (x : Operand) × (y : Operand) × (t : Dtype) × (slice_get results c ≡ Some (Typed Bool)) × (slice_get results a ≡ Some x) × (slice_get results b ≡ Some y) × HaveType x y t × (r ≡ Typed t)

-- each instruction fits what stands before it, and the last gives numbers of this type
abbrev pub KernelFits : List Instr → List Dtype → List Operand → Dtype → Type 0
KernelFits [] types results t = last_of results ≡ Some (Typed t)
KernelFits (i ∷ is) types results t = (r : Operand) × GivesOperand i types results r × KernelFits is types (results ++ r ∷ []) t

-- the elements that are loaded are numbers of the inputs' types
abbrev pub LoadsTypes : List Dtype → (ℕ → Option ℤ) → Type 0
LoadsTypes types load = (k : ℕ) (t : Dtype) (x : ℤ) → slice_get types k ≡ Some t → load k ≡ Some x → InRange t x

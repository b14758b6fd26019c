-- The kernel of an elementwise function: a load or a literal for each argument in order, then the function (this project's own rule).
use Rattle.std.specs.Prelude.{ℕ, ◌+◌, Bool, List, [], ◌∷◌, ◌++◌, map, All, if◌then◌else◌}
use Rattle.cu_num.specs.declared.types.Dtype.{Dtype}
use Rattle.cu_num.specs.declared.functions.Fn1.TheVariants.{Astype as Cast}
use Rattle.cu_num.specs.declared.functions.Fn2.{Fn2}
use Rattle.cu_num.specs.declared.functions.Fn2.TheVariants.{LessEqual, GreaterEqual}
use Rattle.cu_node.specs.declared.element_op.ElementOp.{ElementOp}
use Rattle.cu_node.specs.declared.element_op.ElementOp.TheVariants.{One, Two, Where, Astype, Extreme, Clip}
use Rattle.cu_node.specs.Literal.{literal_number}
use Rattle.cu_node.specs.declared.info.NodeInfo.{NodeInfo}
use Rattle.cu_grid.specs.Grid.{RegularGrid}
use Rattle.cu_op.specs.KernelTypes.{KernelFits}
use Rattle.cu_op.specs.Aligned.{IsAligned}
use Rattle.cu_op.specs.declared.kernel.Instr.{Instr}
use Rattle.cu_op.specs.declared.kernel.Instr.TheVariants as instr
use Rattle.cu_typing.specs.Joined.{arrays_of, aligned_chunk}
use Rattle.cu_typing.specs.declared.argument.Argument.{Argument}
use Rattle.cu_typing.specs.declared.argument.Argument.TheVariants.{Array, Written}

-- the arguments, where `k` arrays come before them
abbrev pub loads_from : ℕ → List Argument → List Instr
loads_from k [] = []
loads_from k (Array i ∷ xs) = instr.Load k ∷ loads_from (k + 1) xs
loads_from k (Written v ∷ xs) = instr.Const (literal_number v) ∷ loads_from k xs

-- the test by which the first of two numbers is the lesser, or the greater
abbrev pub first_is : Bool → Fn2
first_is least = if least then LessEqual else GreaterEqual

-- the function of arguments that have the type t together and are the first results
abbrev pub function_of : ElementOp → Dtype → List Instr
function_of (One f) t = instr.One f t 0 ∷ []
function_of (Two f) t = instr.Two f t 0 1 ∷ []
function_of Where t = instr.Select 0 1 2 ∷ []
function_of (Astype d) t = instr.One Cast d 0 ∷ []
function_of (Extreme least) t = instr.Two (first_is least) t 0 1 ∷ instr.Select 2 0 1 ∷ []
function_of (Clip min max) t =
    instr.Const min ∷ instr.Two GreaterEqual t 0 1 ∷ instr.Select 2 0 1
    ∷ instr.Const max ∷ instr.Two LessEqual t 3 4 ∷ instr.Select 5 3 4 ∷ []

abbrev pub element_kernel : ElementOp → Dtype → List Argument → List Instr
element_kernel op t args = loads_from 0 args ++ function_of op t

-- the types of arrays
abbrev pub types_of : List NodeInfo → List Dtype
types_of is = map (λ i. i.dtype) is

-- the grid of an array whose chunks are those to which it is aligned, and the result's
abbrev pub aligned_grid : NodeInfo → NodeInfo → RegularGrid
aligned_grid result i = record { shape = i.dims; chunk = aligned_chunk result.dims result.chunk i }

abbrev pub result_grid : NodeInfo → RegularGrid
result_grid i = record { shape = i.dims; chunk = i.chunk }

-- What a map over the arrays of an elementwise function needs, whose arguments have the type t together: the grid to which each
-- array is aligned goes along with the result's, and the kernel fits.
pub record IsMap (op : ElementOp) (args : List Argument) (t : Dtype) (result : NodeInfo) : Type 0 where
  pub aligned : All (λ i. IsAligned (aligned_grid result i) (result_grid result)) (arrays_of args)
  pub kernel : KernelFits (element_kernel op t args) (types_of (arrays_of args)) [] result.dtype

-- The types of elementwise functions (Python array API, "Type Promotion Rules"; how a written value takes the type of
-- the array that it meets is this project's rule).
use Rattle.std.specs.Prelude.{true, false, ◌&&◌, ℤ, List, [], ◌∷◌, Result, Ok, Err}
use Rattle.std.specs.Prelude.{Bool as Test}
use Rattle.cu_result.specs.Results.{◌>>=◌, check, need}
use Rattle.cu_num.specs.Dtype.{is_bool, is_integer}
use Rattle.cu_num.specs.Functions.{accepts1, accepts2}
use Rattle.cu_num.specs.Promotion.{promotion}
use Rattle.cu_num.specs.Scalar.{result_type1, result_type2}
use Rattle.cu_num.specs.declared.types.Dtype.{Dtype}
use Rattle.cu_node.specs.declared.literal.Literal.{Literal}
use Rattle.cu_node.specs.declared.literal.Literal.TheVariants.{Int}
use Rattle.cu_node.specs.declared.element_op.ElementOp.{ElementOp}
use Rattle.cu_node.specs.declared.element_op.ElementOp.TheVariants.{One, Two, Where, Astype, Extreme, Clip}
use Rattle.cu_node.specs.Fault.{fault}
use Rattle.cu_node.specs.Literal.{suits}
use Rattle.cu_node.specs.declared.faults.FaultCode.TheVariants.{Kind, Scalar, Promote}
use Rattle.cu_node.specs.declared.faults.NodeFault.{NodeFault}
use Rattle.cu_typing.specs.declared.argument.Argument.{Argument}
use Rattle.cu_typing.specs.declared.argument.Argument.TheVariants.{Array, Written}

-- ---- which types a function accepts

-- an array of such a type
abbrev pub is_array_of : (Dtype → Test) → Argument → Test
is_array_of accepts (Array i) = accepts i.dtype
is_array_of accepts (Written v) = false

-- such an array, or a written value
abbrev pub may_be : (Dtype → Test) → Argument → Test
may_be accepts (Array i) = accepts i.dtype
may_be accepts (Written v) = true

-- each array has a type that the function accepts
abbrev pub accepts_arguments : ElementOp → List Argument → Test
accepts_arguments (One f) (x ∷ []) = is_array_of (accepts1 f) x
accepts_arguments (Two f) (x ∷ y ∷ []) = may_be (accepts2 f) x && may_be (accepts2 f) y
accepts_arguments Where (c ∷ x ∷ y ∷ []) = is_array_of is_bool c
accepts_arguments (Astype t) (x ∷ []) = is_array_of (λ d. true) x
accepts_arguments (Extreme least) (x ∷ y ∷ []) = may_be is_integer x && may_be is_integer y
accepts_arguments (Clip min max) (x ∷ []) = is_array_of is_integer x
accepts_arguments op args = false

-- ---- the type that the arguments have together

-- the type of a written value is that of the array that it meets
abbrev pub met_type : Dtype → Literal → Result Dtype NodeFault
met_type t v = do
  _ ← check (suits t v) (fault Scalar)
  Ok t

abbrev pub pair_type : Argument → Argument → Result Dtype NodeFault
pair_type (Array a) (Array b) = need (promotion a.dtype b.dtype) (fault Promote)
pair_type (Array a) (Written v) = met_type a.dtype v
pair_type (Written v) (Array b) = met_type b.dtype v
pair_type (Written v) (Written w) = Err (fault Scalar)

abbrev pub array_type : Argument → Result Dtype NodeFault
array_type (Array i) = Ok i.dtype
array_type (Written v) = Err (fault Kind)

-- the type of an array whose type two bounds take too
abbrev pub bounded_type : ℤ → ℤ → Argument → Result Dtype NodeFault
bounded_type min max x = do
  t ← array_type x
  _ ← met_type t (Int min)
  met_type t (Int max)

-- the type to which the arguments are promoted; of `where` to which the last two are
abbrev pub shared_type : ElementOp → List Argument → Result Dtype NodeFault
shared_type (One f) (x ∷ []) = array_type x
shared_type (Two f) (x ∷ y ∷ []) = pair_type x y
shared_type Where (c ∷ x ∷ y ∷ []) = pair_type x y
shared_type (Astype t) (x ∷ []) = array_type x
shared_type (Extreme least) (x ∷ y ∷ []) = pair_type x y
shared_type (Clip min max) (x ∷ []) = bounded_type min max x
shared_type op args = Err (fault Kind)

-- the type of the result, of arguments that have the type t together
abbrev pub result_type : ElementOp → Dtype → Dtype
result_type (One f) t = result_type1 f t
result_type (Two f) t = result_type2 f t
result_type Where t = t
result_type (Astype d) t = d
result_type (Extreme least) t = t
result_type (Clip min max) t = t

-- the type of the result, or the first fault of the arguments' types
abbrev pub typed_elements : ElementOp → List Argument → Result Dtype NodeFault
typed_elements op args = do
  _ ← check (accepts_arguments op args) (fault Kind)
  t ← shared_type op args
  Ok (result_type op t)

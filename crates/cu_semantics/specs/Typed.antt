-- The types of nodes, and of the numbers that arguments and functions give.
use Rattle.std.specs.Prelude.{◌≡◌, ℕ, ℤ, List, All, drop}
use Rattle.cu_num.specs.Dtype.{InRange}
use Rattle.cu_num.specs.Scalar.{truth_number, result_type1, result_type2}
use Rattle.cu_num.specs.declared.types.Dtype.{Dtype}
use Rattle.cu_form.specs.declared.args.Arg.{Arg}
use Rattle.cu_node.specs.declared.element_op.ElementOp.{ElementOp}
use Rattle.cu_node.specs.Info.{info_at}
use Rattle.cu_node.specs.declared.info.NodeInfo.{NodeInfo}

-- the type of a node
abbrev pub type_of_node : List NodeInfo → ℕ → Dtype
type_of_node infos k = (info_at infos k).dtype

-- each number that the argument may have is one of the type
abbrev pub FitsType : List NodeInfo → Dtype → Arg → Type 0
FitsType infos t (Arg.Node n) = (x : ℤ) → InRange (type_of_node infos n) x → InRange t x
FitsType infos t (Arg.Int x) = InRange t x
FitsType infos t (Arg.Truth b) = InRange t (truth_number b)

-- the type is that of the function's result; of `where`, `maximum` and `minimum` both values are
-- of it, of `clip` the value and the bounds
abbrev pub IsResultType : List NodeInfo → Dtype → ElementOp → List Arg → Type 0
IsResultType infos t (ElementOp.One f) args = result_type1 f t ≡ t
IsResultType infos t (ElementOp.Two f) args = result_type2 f t ≡ t
IsResultType infos t ElementOp.Where args = All (FitsType infos t) (drop 1 args)
IsResultType infos t (ElementOp.Astype d) args = d ≡ t
IsResultType infos t (ElementOp.Extreme least) args = All (FitsType infos t) args
IsResultType infos t (ElementOp.Clip min max) args = InRange t min × InRange t max × All (FitsType infos t) args

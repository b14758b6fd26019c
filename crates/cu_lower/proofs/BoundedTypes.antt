-- The type of an array between two bounds is its own.
use Rattle.std.proofs.Common.{◌≡◌, ◌<◌, ◌≤◌, ℤ, Bool, true, false, List, [], ◌∷◌, length, map, get_or, Result, Ok, refl, sym, ap, ◌∙◌, subst, arith}
use Rattle.std.specs.Prelude.{IsOk}
use Rattle.cu_result.specs.Results.{◌>>=◌, check}
use Rattle.cu_num.specs.declared.types.Dtype.{Dtype}
use Rattle.cu_form.specs.declared.args.Arg.{Arg}
use Rattle.cu_node.specs.Fault.{fault}
use Rattle.cu_node.specs.Literal.{suits}
use Rattle.cu_node.specs.declared.element_op.ElementOp.{ElementOp}
use Rattle.cu_node.specs.declared.faults.FaultCode.TheVariants.{Scalar}
use Rattle.cu_node.specs.declared.faults.NodeFault.{NodeFault}
use Rattle.cu_node.specs.declared.info.NodeInfo.{NodeInfo}
use Rattle.cu_node.specs.declared.literal.Literal.TheVariants.{Int}
use Rattle.cu_expr.specs.Typing.{argument_of}
use Rattle.cu_typing.specs.Types.{array_type, bounded_type, shared_type}
use Rattle.cu_typing.specs.declared.argument.Argument.{Argument}
use Rattle.cu_typing.specs.declared.argument.Argument.TheVariants.{Array, Written}
use Rattle.cu_lower.specs.Parts.{type_or_bool}

-- a type that two tests let through
abbrev tested : Bool → Bool → Dtype → Result Dtype NodeFault
tested b c t = (check b (fault Scalar) >>= λ _. Ok t) >>= λ _. check c (fault Scalar) >>= λ _. Ok t

by_tests : (b c : Bool) (t : Dtype) → IsOk (tested b c t) → type_or_bool (tested b c t) ≡ t
by_tests true true t ok = refl
by_tests true false t ok = cc
by_tests false c t ok = cc

bounded_alone : (min max : ℤ) (x : Argument) → IsOk (bounded_type min max x)
    → type_or_bool (bounded_type min max x) ≡ type_or_bool (array_type x)
bounded_alone min max (Array i) ok = by_tests (suits i.dtype (Int min)) (suits i.dtype (Int max)) i.dtype ok
bounded_alone min max (Written v) ok = refl

-- so it is where the one argument stands in a list
pub clip_alone : (infos : List NodeInfo) (op : ElementOp) (args : List Arg) (min max : ℤ) (d : Arg) → op ≡ ElementOp.Clip min max
    → 1 ≤ length args → length args < 2 → IsOk (shared_type op (map (argument_of infos) args))
    → type_or_bool (array_type (argument_of infos (get_or args 0 d))) ≡ type_or_bool (shared_type op (map (argument_of infos) args))
clip_alone infos op [] min max d is least below ok = absurd (omega arith)
clip_alone infos op (x ∷ []) min max d is least below ok =
    let one : List Argument = argument_of infos x ∷ [] in
    let same : shared_type op one ≡ bounded_type min max (argument_of infos x) = ap (λ o. shared_type o one) is in
    sym (bounded_alone min max (argument_of infos x) (subst (λ (r : Result Dtype NodeFault). IsOk r) same ok)) ∙ ap type_or_bool (sym same)
clip_alone infos op (x ∷ y ∷ args) min max d is least below ok = absurd (omega arith)

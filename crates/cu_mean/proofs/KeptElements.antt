-- The result of an elementwise function has the function's type.
use Rattle.std.proofs.Common.{◌≡◌, ℤ, Bool, List, [], ◌∷◌, map, drop, All, Ok, Err, Result, sym}
use Rattle.std.proofs.lemmas.List.Elements.{All-nil, All-cons}
use Rattle.cu_result.proofs.ResultSteps.{need_ok}
use Rattle.cu_num.specs.Dtype.{InRange}
use Rattle.cu_num.specs.Promotion.{promotion}
use Rattle.cu_num.specs.declared.types.Dtype.{Dtype}
use Rattle.cu_num.proofs.Promoted.{first_in_range, second_in_range}
use Rattle.cu_num.proofs.ScalarRange.{result_type1-result_type1, result_type2-result_type2}
use Rattle.cu_form.specs.declared.args.Arg.{Arg}
use Rattle.cu_node.specs.Fault.{fault}
use Rattle.cu_node.specs.Info.{info_at}
use Rattle.cu_node.specs.declared.element_op.ElementOp.{ElementOp}
use Rattle.cu_node.specs.declared.faults.FaultCode.TheVariants.{Promote}
use Rattle.cu_node.specs.declared.faults.NodeFault.{NodeFault}
use Rattle.cu_node.specs.declared.info.NodeInfo.{NodeInfo}
use Rattle.cu_node.specs.declared.literal.Literal.TheVariants as written
use Rattle.cu_typing.specs.Elementwise.{typed_elementwise}
use Rattle.cu_typing.specs.Types.{pair_type, shared_type, result_type}
use Rattle.cu_typing.proofs.Passed.{passed}
use Rattle.cu_expr.specs.Typing.{argument_of}
use Rattle.cu_expr.proofs.Kernels.{met, bounds_passed}
use Rattle.cu_semantics.specs.Typed.{type_of_node, FitsType, IsResultType}

-- a type has its own numbers
own_numbers : (infos : List NodeInfo) (n : _) (t : Dtype) → type_of_node infos n ≡ t → FitsType infos t (Arg.Node n)
own_numbers infos n t e = λ x r. rw (← e) r

-- both of two arguments fit the type that they have together
pair_fits : (infos : List NodeInfo) (x y : Arg) (t : Dtype) → pair_type (argument_of infos x) (argument_of infos y) ≡ Ok t → FitsType infos t x × FitsType infos t y
pair_fits infos (Arg.Node m) (Arg.Node n) t h =
    let p = need_ok (promotion (type_of_node infos m) (type_of_node infos n)) (fault Promote) t h in
    (first_in_range (type_of_node infos m) (type_of_node infos n) t p, second_in_range (type_of_node infos m) (type_of_node infos n) t p)
pair_fits infos (Arg.Node m) (Arg.Int x) t h = let w = met (type_of_node infos m) t (written.Int x) h in (own_numbers infos m t w.0, w.1)
pair_fits infos (Arg.Node m) (Arg.Truth b) t h = let w = met (type_of_node infos m) t (written.Truth b) h in (own_numbers infos m t w.0, w.1)
pair_fits infos (Arg.Int x) (Arg.Node n) t h = let w = met (type_of_node infos n) t (written.Int x) h in (w.1, own_numbers infos n t w.0)
pair_fits infos (Arg.Truth b) (Arg.Node n) t h = let w = met (type_of_node infos n) t (written.Truth b) h in (w.1, own_numbers infos n t w.0)
pair_fits infos x y t h = cc

choice_fits : (infos : List NodeInfo) (t : Dtype) (args : List Arg) → shared_type ElementOp.Where (map (argument_of infos) args) ≡ Ok t → All (FitsType infos t) (drop 1 args)
choice_fits infos t (c ∷ x ∷ y ∷ []) h =
    let both = pair_fits infos x y t h in
    All-cons (FitsType infos t) x (y ∷ []) both.0 (All-cons (FitsType infos t) y [] both.1 (All-nil (FitsType infos t)))
choice_fits infos t args h = cc

both_fit : (infos : List NodeInfo) (least : Bool) (t : Dtype) (args : List Arg)
    → shared_type (ElementOp.Extreme least) (map (argument_of infos) args) ≡ Ok t → All (FitsType infos t) args
both_fit infos least t (x ∷ y ∷ []) h =
    let both = pair_fits infos x y t h in
    All-cons (FitsType infos t) x (y ∷ []) both.0 (All-cons (FitsType infos t) y [] both.1 (All-nil (FitsType infos t)))
both_fit infos least t args h = cc

-- what is refused has no type
abbrev refused : NodeFault → Result Dtype NodeFault
refused f = Err f

no_type : {f : NodeFault} {t : Dtype} → refused f ≡ Ok t → ⊥
no_type h = cc

bounded_fits : (infos : List NodeInfo) (min max : ℤ) (t : Dtype) (args : List Arg)
    → shared_type (ElementOp.Clip min max) (map (argument_of infos) args) ≡ Ok t
    → InRange t min × InRange t max × All (FitsType infos t) args
bounded_fits infos min max t (Arg.Node n ∷ []) h =
    let b = bounds_passed min max (info_at infos n) t h in
    (b.1, b.2, All-cons (FitsType infos t) (Arg.Node n) [] (own_numbers infos n t b.0) (All-nil (FitsType infos t)))
bounded_fits infos min max t [] h = absurd (no_type h)
bounded_fits infos min max t (Arg.Int x ∷ []) h = absurd (no_type h)
bounded_fits infos min max t (Arg.Truth b ∷ []) h = absurd (no_type h)
bounded_fits infos min max t (Arg.Node n ∷ y ∷ args) h = absurd (no_type h)
bounded_fits infos min max t (Arg.Int x ∷ y ∷ args) h = absurd (no_type h)
bounded_fits infos min max t (Arg.Truth b ∷ y ∷ args) h = absurd (no_type h)

result_fits : (infos : List NodeInfo) (op : ElementOp) (args : List Arg) (t d : Dtype) → d ≡ result_type op t → shared_type op (map (argument_of infos) args) ≡ Ok t → IsResultType infos d op args
result_fits infos (ElementOp.One f) args t d e h = rw e (result_type1-result_type1 f t)
result_fits infos (ElementOp.Two f) args t d e h = rw e (result_type2-result_type2 f t)
result_fits infos ElementOp.Where args t d e h = rw e (choice_fits infos t args h)
result_fits infos (ElementOp.Astype c) args t d e h = sym e
result_fits infos (ElementOp.Extreme least) args t d e h = rw e (both_fit infos least t args h)
result_fits infos (ElementOp.Clip min max) args t d e h = rw e (bounded_fits infos min max t args h)

pub elementwise_fits : (infos : List NodeInfo) (op : ElementOp) (args : List Arg) (i : NodeInfo) → typed_elementwise op (map (argument_of infos) args) ≡ Ok i → IsResultType infos i.dtype op args
elementwise_fits infos op args i h =
    let p = passed op (map (argument_of infos) args) i h in
    result_fits infos op args p.0 i.dtype p.1.dtype p.1.shared

-- The operands of an accepted elementwise function are numbers of the type to which they are promoted.
use Rattle.std.proofs.Common.{◌≡◌, ℕ, ℤ, List, Option, Some, unwrap_or, Ok, Result, refl, sym, ap, ◌∙◌}
use Rattle.std.specs.Prelude.{Bool as Test}
use Rattle.cu_result.specs.Results.{◌>>=◌}
use Rattle.cu_result.proofs.ResultSteps.{step_ok, check_step_ok, need_ok}
use Rattle.cu_num.specs.Dtype.{InRange}
use Rattle.cu_num.specs.Promotion.{promotion}
use Rattle.cu_num.specs.Scalar.{op2, result_type2, truth_number}
use Rattle.cu_num.proofs.Promoted.{first_in_range, second_in_range}
use Rattle.cu_num.proofs.ScalarRange.{op2-result_type2}
use Rattle.cu_num.specs.declared.types.Dtype.{Dtype}
use Rattle.cu_num.specs.declared.functions.Fn2.{Fn2}
use Rattle.cu_form.specs.declared.args.Arg.{Arg}
use Rattle.cu_node.specs.Fault.{fault}
use Rattle.cu_node.specs.Info.{info_at}
use Rattle.cu_node.specs.declared.faults.FaultCode.TheVariants.{Kind, Promote}
use Rattle.cu_node.specs.declared.faults.NodeFault.{NodeFault}
use Rattle.cu_node.specs.declared.element_op.ElementOp.{ElementOp}
use Rattle.cu_node.specs.declared.literal.Literal.{Literal}
use Rattle.cu_node.specs.declared.literal.Literal.TheVariants.{Int, Truth}
use Rattle.cu_node.specs.declared.info.NodeInfo.{NodeInfo}
use Rattle.cu_semantics.specs.Typed.{type_of_node}
use Rattle.cu_typing.specs.Types.{accepts_arguments, met_type, pair_type, shared_type, result_type, typed_elements}
use Rattle.cu_typing.specs.declared.argument.Argument.{Argument}
use Rattle.cu_expr.specs.Typing.{argument_of}
use Rattle.cu_expr.proofs.Kernels.{met}
use Rattle.cu_mean.specs.Elementwise.{MayBe}

-- the shared type, and the type of the result
pub shared_passed : (op : ElementOp) (args : List Argument) (d : Dtype) → typed_elements op args ≡ Ok d → (t : Dtype) × (shared_type op args ≡ Ok t) × (result_type op t ≡ d)
shared_passed op args d h =
    let accepted = check_step_ok (accepts_arguments op args) (fault Kind) (λ _. shared_type op args >>= λ t. Ok (result_type op t)) d h in
    let shared = step_ok (shared_type op args) (λ t. Ok (result_type op t)) d accepted.1 in
    let value : Dtype → Result Dtype NodeFault = λ x. Ok x in
    let e : value (result_type op shared.0) ≡ value d = shared.2 in
    (shared.0, shared.1, cc e)

-- ---- a written value is one of the type that it meets

integer_met : (t s : Dtype) (z x : ℤ) → met_type t (Int z) ≡ Ok s → x ≡ z → InRange s x
integer_met t s z x h e = rw e (met t s (Int z) h).1

truth_met : (t s : Dtype) (b : Test) (x : ℤ) → met_type t (Truth b) ≡ Ok s → x ≡ truth_number b → InRange s x
truth_met t s b x h e = rw e (met t s (Truth b) h).1

-- an array's number is one of the same type
array_met : (t s : Dtype) (v : Literal) (x : ℤ) → met_type t v ≡ Ok s → InRange t x → InRange s x
array_met t s v x h r = rw (← (met t s v h).0) r

promoted : (a b s : Dtype) → Rattle.cu_result.specs.Results.need (promotion a b) (fault Promote) ≡ Ok s → promotion a b ≡ Some s
promoted a b s h = need_ok (promotion a b) (fault Promote) s h

-- two arrays are promoted together
pub promoted_together : (infos : List NodeInfo) (a b : ℕ) (x y : Arg) (i j : NodeInfo) (p : Option Dtype) (r t : Dtype) → x ≡ Arg.Node a → y ≡ Arg.Node b → i ≡ info_at infos a → j ≡ info_at infos b
    → p ≡ promotion i.dtype j.dtype → r ≡ unwrap_or p Dtype.Bool → pair_type (argument_of infos x) (argument_of infos y) ≡ Ok t → r ≡ t
promoted_together infos a b x y i j p r t x_is y_is i_is j_is p_is r_is h =
    let same : pair_type (argument_of infos (Arg.Node a)) (argument_of infos (Arg.Node b)) ≡ Ok t = (λ k. pair_type (argument_of infos (sym x_is k)) (argument_of infos (sym y_is k))) ∙ h in
    let types : promotion i.dtype j.dtype ≡ promotion (type_of_node infos a) (type_of_node infos b) = λ k. promotion (i_is k).dtype (j_is k).dtype in
    r_is ∙ ap (λ (o : Option Dtype). unwrap_or o Dtype.Bool) (p_is ∙ types ∙ promoted (type_of_node infos a) (type_of_node infos b) t same)

-- an array beside a written value
pub first_alone : (infos : List NodeInfo) (a : ℕ) (y : Arg) (t : Dtype) → ((m : ℕ) → y ≡ Arg.Node m → ⊥) → pair_type (argument_of infos (Arg.Node a)) (argument_of infos y) ≡ Ok t → type_of_node infos a ≡ t
first_alone infos a (Arg.Node m) t other h = absurd (other m refl)
first_alone infos a (Arg.Int z) t other h = (met (type_of_node infos a) t (Int z) h).0
first_alone infos a (Arg.Truth b) t other h = (met (type_of_node infos a) t (Truth b) h).0

pub second_alone : (infos : List NodeInfo) (x : Arg) (b : ℕ) (t : Dtype) → ((m : ℕ) → x ≡ Arg.Node m → ⊥) → pair_type (argument_of infos x) (argument_of infos (Arg.Node b)) ≡ Ok t → type_of_node infos b ≡ t
second_alone infos (Arg.Node m) b t other h = absurd (other m refl)
second_alone infos (Arg.Int z) b t other h = (met (type_of_node infos b) t (Int z) h).0
second_alone infos (Arg.Truth c) b t other h = (met (type_of_node infos b) t (Truth c) h).0

-- two written values have no type
pub none_typed : {A : Type 0} (infos : List NodeInfo) (x y : Arg) (t : Dtype) → ((m : ℕ) → x ≡ Arg.Node m → ⊥) → ((m : ℕ) → y ≡ Arg.Node m → ⊥) → pair_type (argument_of infos x) (argument_of infos y) ≡ Ok t → A
none_typed infos (Arg.Node m) y t first second h = absurd (first m refl)
none_typed infos x (Arg.Node m) t first second h = absurd (second m refl)
none_typed infos x y t first second h = cc

-- ---- the operands

pub first_fits : (infos : List NodeInfo) (a b : Arg) (s : Dtype) (x : ℤ) → pair_type (argument_of infos a) (argument_of infos b) ≡ Ok s → MayBe infos a x → InRange s x
first_fits infos (Arg.Node n) (Arg.Node m) s x h r = first_in_range _ _ s (promoted (type_of_node infos n) (type_of_node infos m) s h) x r
first_fits infos (Arg.Node n) (Arg.Int z) s x h r = array_met (type_of_node infos n) s (Int z) x h r
first_fits infos (Arg.Node n) (Arg.Truth b) s x h r = array_met (type_of_node infos n) s (Truth b) x h r
first_fits infos (Arg.Int z) (Arg.Node m) s x h r = integer_met (type_of_node infos m) s z x h r
first_fits infos (Arg.Truth b) (Arg.Node m) s x h r = truth_met (type_of_node infos m) s b x h r
first_fits infos a b s x h r = cc

pub second_fits : (infos : List NodeInfo) (a b : Arg) (s : Dtype) (y : ℤ) → pair_type (argument_of infos a) (argument_of infos b) ≡ Ok s → MayBe infos b y → InRange s y
second_fits infos (Arg.Node n) (Arg.Node m) s y h r = second_in_range _ _ s (promoted (type_of_node infos n) (type_of_node infos m) s h) y r
second_fits infos (Arg.Node n) (Arg.Int z) s y h r = integer_met (type_of_node infos n) s z y h r
second_fits infos (Arg.Node n) (Arg.Truth b) s y h r = truth_met (type_of_node infos n) s b y h r
second_fits infos (Arg.Int z) (Arg.Node m) s y h r = array_met (type_of_node infos m) s (Int z) y h r
second_fits infos (Arg.Truth b) (Arg.Node m) s y h r = array_met (type_of_node infos m) s (Truth b) y h r
second_fits infos a b s y h r = cc

-- ---- the value is that by the result's type

pub value_by_result : (f : Fn2) (s t : Dtype) (x y : ℤ) → result_type2 f s ≡ t → op2 f s x y ≡ op2 f t x y
value_by_result f s t x y h = op2-result_type2 f s x y ∙ ap (λ u. op2 f u x y) h

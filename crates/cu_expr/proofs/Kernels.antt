-- The kernel of an elementwise function fits the types of its arguments.
use Rattle.std.proofs.Common.{◌≡◌, ℤ, true, false, List, [], ◌∷◌, Some, Ok, Result, refl, sym, ap, ◌∙◌, rules}
use Rattle.std.specs.Prelude.{Bool as Test}
use Rattle.std.proofs.lemmas.Bool.{and_parts}
use Rattle.cu_result.specs.Results.{◌>>=◌}
use Rattle.cu_result.proofs.ResultSteps.{step_ok, check_step_ok, need_ok}
use Rattle.cu_num.specs.Dtype.{InRange, is_integer}
use Rattle.cu_num.specs.Functions.{accepts1, accepts2}
use Rattle.cu_num.specs.Promotion.{promotion}
use Rattle.cu_num.specs.Scalar.{result_type1, result_type2}
use Rattle.cu_num.proofs.ScalarRange.{truth_number_in_range, accepts2-promotion}
use Rattle.cu_num.proofs.TypeTests.{bool-is_bool}
use Rattle.cu_num.specs.declared.types.Dtype.{Dtype}
use Rattle.cu_num.specs.declared.types.Dtype.TheVariants.{Bool}
use Rattle.cu_num.specs.declared.functions.Fn1.{Fn1}
use Rattle.cu_num.specs.declared.functions.Fn1.TheVariants as one
use Rattle.cu_num.specs.declared.functions.Fn2.{Fn2}
use Rattle.cu_num.specs.declared.functions.Fn2.TheVariants.{LessEqual}
use Rattle.cu_node.specs.declared.literal.Literal.{Literal}
use Rattle.cu_node.specs.declared.literal.Literal.TheVariants.{Int, Truth}
use Rattle.cu_node.specs.declared.element_op.ElementOp.{ElementOp}
use Rattle.cu_node.specs.declared.element_op.ElementOp.TheVariants.{One, Two, Where, Astype, Extreme, Clip}
use Rattle.cu_node.specs.Fault.{fault}
use Rattle.cu_node.specs.Literal.{literal_number, suits}
use Rattle.cu_node.specs.Types.{in_range}
use Rattle.cu_node.specs.declared.faults.FaultCode.TheVariants.{Scalar, Promote}
use Rattle.cu_node.specs.declared.faults.NodeFault.{NodeFault}
use Rattle.cu_node.specs.declared.info.NodeInfo.{NodeInfo}
use Rattle.cu_op.specs.KernelTypes.{Operand, Typed, Literal as Number, IsArgument, HaveType, KernelFits}
use Rattle.cu_typing.specs.Joined.{arrays_of}
use Rattle.cu_expr.specs.Kernel.{function_of, element_kernel, types_of}
use Rattle.cu_typing.specs.Types.{may_be, accepts_arguments, met_type, pair_type, array_type, bounded_type, shared_type, result_type}
use Rattle.cu_typing.specs.declared.argument.Argument.{Argument}
use Rattle.cu_typing.specs.declared.argument.Argument.TheVariants.{Array, Written}

-- ---- arguments

-- what the instruction of an argument gives
abbrev operand : Argument → Operand
operand (Array i) = Typed i.dtype
operand (Written v) = Number (literal_number v)

pub in_range_true : (t : Dtype) (x : ℤ) → in_range t x ≡ true → InRange t x
in_range_true t x h = search rules

pub suits_in_range : (t : Dtype) (v : Literal) → suits t v ≡ true → InRange t (literal_number v)
suits_in_range t (Int x) h = in_range_true t x (and_parts _ _ h).1
suits_in_range t (Truth b) h = rw (bool-is_bool t h) (truth_number_in_range b)

pub met : (d t : Dtype) (v : Literal) → met_type d v ≡ Ok t → (d ≡ t) × InRange t (literal_number v) × (suits d v ≡ true)
met d t v h =
    let s = check_step_ok (suits d v) (fault Scalar) (λ _. Ok d) t h in
    let value : Dtype → Result Dtype NodeFault = λ x. Ok x in
    let e : value d ≡ value t = s.1 in
    let same : d ≡ t = cc e in
    (same, rw (← same) (suits_in_range d v s.0), s.0)

have_type : (x y : Argument) (t : Dtype) → pair_type x y ≡ Ok t → HaveType (operand x) (operand y) t
have_type (Array a) (Array b) t h = need_ok (promotion a.dtype b.dtype) (fault Promote) t h
have_type (Array a) (Written v) t h = let m = met a.dtype t v h in (m.0, m.1)
have_type (Written v) (Array b) t h = let m = met b.dtype t v h in (m.0, m.1)
have_type (Written v) (Written w) t h = cc

pair_accepted : (f : Fn2) (x y : Argument) (t : Dtype) → may_be (accepts2 f) x ≡ true → may_be (accepts2 f) y ≡ true → pair_type x y ≡ Ok t → accepts2 f t ≡ true
pair_accepted f (Array a) (Array b) t g h p = accepts2-promotion f a.dtype b.dtype t (need_ok (promotion a.dtype b.dtype) (fault Promote) t p) g
pair_accepted f (Array a) (Written v) t g h p = rw (← (met a.dtype t v p).0) g
pair_accepted f (Written v) (Array b) t g h p = rw (← (met b.dtype t v p).0) h
pair_accepted f (Written v) (Written w) t g h p = cc

-- ---- kernels

-- each function takes an argument of its own type
own_argument : (f : Fn1) (t : Dtype) → IsArgument f t t
own_argument one.Astype t = tt
own_argument f t = refl

one_fits : (f : Fn1) (a : NodeInfo) → accepts1 f a.dtype ≡ true → KernelFits (element_kernel (One f) a.dtype (Array a ∷ [])) (a.dtype ∷ []) [] (result_type1 f a.dtype)
one_fits f a h = (Typed a.dtype, (a.dtype, refl, refl), (Typed (result_type1 f a.dtype), (a.dtype, refl, own_argument f a.dtype, h, refl), refl))

cast_fits : (d : Dtype) (a : NodeInfo) (t : Dtype) → KernelFits (element_kernel (Astype d) t (Array a ∷ [])) (a.dtype ∷ []) [] d
cast_fits d a t = (Typed a.dtype, (a.dtype, refl, refl), (Typed d, (a.dtype, refl, tt, refl, refl), refl))

two_fits : (f : Fn2) (x y : Argument) (t : Dtype) → HaveType (operand x) (operand y) t → accepts2 f t ≡ true → KernelFits (element_kernel (Two f) t (x ∷ y ∷ [])) (types_of (arrays_of (x ∷ y ∷ []))) [] (result_type2 f t)
two_fits f (Array a) (Array b) t h g = (Typed a.dtype, (a.dtype, refl, refl), (Typed b.dtype, (b.dtype, refl, refl), (Typed (result_type2 f t), (Typed a.dtype, Typed b.dtype, refl, refl, h, g, refl), refl)))
two_fits f (Array a) (Written v) t h g = (Typed a.dtype, (a.dtype, refl, refl), (Number (literal_number v), refl, (Typed (result_type2 f t), (Typed a.dtype, Number (literal_number v), refl, refl, h, g, refl), refl)))
two_fits f (Written v) (Array b) t h g = (Number (literal_number v), refl, (Typed b.dtype, (b.dtype, refl, refl), (Typed (result_type2 f t), (Number (literal_number v), Typed b.dtype, refl, refl, h, g, refl), refl)))
two_fits f (Written v) (Written w) t h g = absurd h

where_fits : (c : NodeInfo) (x y : Argument) (t : Dtype) → c.dtype ≡ Bool → HaveType (operand x) (operand y) t → KernelFits (element_kernel Where t (Array c ∷ x ∷ y ∷ [])) (types_of (arrays_of (Array c ∷ x ∷ y ∷ []))) [] t
where_fits c (Array a) (Array b) t e h = (Typed c.dtype, (c.dtype, refl, refl), (Typed a.dtype, (a.dtype, refl, refl), (Typed b.dtype, (b.dtype, refl, refl), (Typed t, (Typed a.dtype, Typed b.dtype, t, ap (λ d. Some (Typed d)) e, refl, refl, h, refl), refl))))
where_fits c (Array a) (Written v) t e h = (Typed c.dtype, (c.dtype, refl, refl), (Typed a.dtype, (a.dtype, refl, refl), (Number (literal_number v), refl, (Typed t, (Typed a.dtype, Number (literal_number v), t, ap (λ d. Some (Typed d)) e, refl, refl, h, refl), refl))))
where_fits c (Written v) (Array b) t e h = (Typed c.dtype, (c.dtype, refl, refl), (Number (literal_number v), refl, (Typed b.dtype, (b.dtype, refl, refl), (Typed t, (Number (literal_number v), Typed b.dtype, t, ap (λ d. Some (Typed d)) e, refl, refl, h, refl), refl))))
where_fits c (Written v) (Written w) t e h = absurd h

-- a test and a choice behind two operands
chosen_fits : (least : Test) (x y : Operand) (t : Dtype) (types : List Dtype) → HaveType x y t → is_integer t ≡ true
    → KernelFits (function_of (Extreme least) t) types (x ∷ y ∷ []) t
chosen_fits true x y t types h g = (Typed Bool, (x, y, refl, refl, h, g, refl), (Typed t, (x, y, t, refl, refl, refl, h, refl), refl))
chosen_fits false x y t types h g = (Typed Bool, (x, y, refl, refl, h, g, refl), (Typed t, (x, y, t, refl, refl, refl, h, refl), refl))

-- an extreme: the test takes both arguments in the type that they have together, and so does the choice
extreme_fits : (least : Test) (x y : Argument) (t : Dtype) → HaveType (operand x) (operand y) t → is_integer t ≡ true
    → KernelFits (element_kernel (Extreme least) t (x ∷ y ∷ [])) (types_of (arrays_of (x ∷ y ∷ []))) [] t
extreme_fits least (Array a) (Array b) t h g =
    (Typed a.dtype, (a.dtype, refl, refl), (Typed b.dtype, (b.dtype, refl, refl), chosen_fits least (Typed a.dtype) (Typed b.dtype) t (a.dtype ∷ b.dtype ∷ []) h g))
extreme_fits least (Array a) (Written v) t h g =
    (Typed a.dtype, (a.dtype, refl, refl), (Number (literal_number v), refl, chosen_fits least (Typed a.dtype) (Number (literal_number v)) t (a.dtype ∷ []) h g))
extreme_fits least (Written v) (Array b) t h g =
    (Number (literal_number v), refl, (Typed b.dtype, (b.dtype, refl, refl), chosen_fits least (Number (literal_number v)) (Typed b.dtype) t (b.dtype ∷ []) h g))
extreme_fits least (Written v) (Written w) t h g = absurd h

pair_integer : (x y : Argument) (t : Dtype) → may_be is_integer x ≡ true → may_be is_integer y ≡ true
    → pair_type x y ≡ Ok t → is_integer t ≡ true
pair_integer x y t g h p = pair_accepted LessEqual x y t g h p

-- two bounds: a test and a choice for each, in the argument's type
clip_fits : (min max : ℤ) (a : NodeInfo) → InRange a.dtype min → InRange a.dtype max → is_integer a.dtype ≡ true
    → KernelFits (element_kernel (Clip min max) a.dtype (Array a ∷ [])) (a.dtype ∷ []) [] a.dtype
clip_fits min max a l h g = (
  Typed a.dtype,
  (a.dtype, refl, refl),
  (
    Number min,
    refl,
    (
      Typed Bool,
      (Typed a.dtype, Number min, refl, refl, (refl, l), g, refl),
      (
        Typed a.dtype,
        (Typed a.dtype, Number min, a.dtype, refl, refl, refl, (refl, l), refl),
        (Number max, refl, (Typed Bool, (Typed a.dtype, Number max, refl, refl, (refl, h), g, refl), (Typed a.dtype, (Typed a.dtype, Number max, a.dtype, refl, refl, refl, (refl, h), refl), refl))),
      ),
    ),
  ),
)

met_first : (min max : ℤ) (t d : Dtype) → (met_type d (Int min) >>= λ _. met_type d (Int max)) ≡ Ok t
    → (met_type d (Int min) ≡ Ok d) × (met_type d (Int max) ≡ Ok t)
met_first min max t d h =
    let low = step_ok (met_type d (Int min)) (λ _. met_type d (Int max)) t h in
    let w = met d low.0 (Int min) low.1 in
    (low.1 ∙ ap (λ (u : Dtype). Ok u) (sym w.0), low.2)

-- what an accepted argument between bounds has passed
pub bounds_passed : (min max : ℤ) (a : NodeInfo) (t : Dtype) → bounded_type min max (Array a) ≡ Ok t
    → (a.dtype ≡ t) × InRange t min × InRange t max
bounds_passed min max a t h =
    let both = met_first min max t a.dtype h in
    let high = met a.dtype t (Int max) both.1 in
    (high.0, rw (← high.0) (met a.dtype a.dtype (Int min) both.0).1, high.1)

clip_told : (min max : ℤ) (a : NodeInfo) (t : Dtype) → is_integer a.dtype ≡ true → (a.dtype ≡ t) × InRange t min × InRange t max
    → KernelFits (element_kernel (Clip min max) t (Array a ∷ [])) (a.dtype ∷ []) [] t
clip_told min max a t g b = rw (← b.0) (clip_fits min max a (rw b.0 b.1) (rw b.0 b.2) g)

own_type : (a : NodeInfo) (t : Dtype) → array_type (Array a) ≡ Ok t → a.dtype ≡ t
own_type a t h = cc

pub kernel_fits : (op : ElementOp) (args : List Argument) (t : Dtype) → accepts_arguments op args ≡ true → shared_type op args ≡ Ok t → KernelFits (element_kernel op t args) (types_of (arrays_of args)) [] (result_type op t)
kernel_fits (One f) [] t g h = cc
kernel_fits (One f) (Array a ∷ []) t g h = rw (← own_type a t h) (one_fits f a g)
kernel_fits (One f) (Written v ∷ []) t g h = cc
kernel_fits (One f) (x ∷ y ∷ zs) t g h = cc
kernel_fits (Two f) [] t g h = cc
kernel_fits (Two f) (x ∷ []) t g h = cc
kernel_fits (Two f) (x ∷ y ∷ []) t g h = let both = and_parts _ _ g in two_fits f x y t (have_type x y t h) (pair_accepted f x y t both.0 both.1 h)
kernel_fits (Two f) (x ∷ y ∷ z ∷ zs) t g h = cc
kernel_fits Where [] t g h = cc
kernel_fits Where (c ∷ []) t g h = cc
kernel_fits Where (c ∷ x ∷ []) t g h = cc
kernel_fits Where (Array c ∷ x ∷ y ∷ []) t g h = where_fits c x y t (bool-is_bool c.dtype g) (have_type x y t h)
kernel_fits Where (Written v ∷ x ∷ y ∷ []) t g h = cc
kernel_fits Where (c ∷ x ∷ y ∷ z ∷ zs) t g h = cc
kernel_fits (Extreme least) [] t g h = cc
kernel_fits (Extreme least) (x ∷ []) t g h = cc
kernel_fits (Extreme least) (x ∷ y ∷ []) t g h =
    let both = and_parts _ _ g in
    extreme_fits least x y t (have_type x y t h) (pair_integer x y t both.0 both.1 h)
kernel_fits (Extreme least) (x ∷ y ∷ z ∷ zs) t g h = cc
kernel_fits (Clip min max) [] t g h = cc
kernel_fits (Clip min max) (Array a ∷ []) t g h = clip_told min max a t g (bounds_passed min max a t h)
kernel_fits (Clip min max) (Written v ∷ []) t g h = cc
kernel_fits (Clip min max) (x ∷ y ∷ zs) t g h = cc
kernel_fits (Astype d) [] t g h = cc
kernel_fits (Astype d) (Array a ∷ []) t g h = cast_fits d a t
kernel_fits (Astype d) (Written v ∷ []) t g h = cc
kernel_fits (Astype d) (x ∷ y ∷ zs) t g h = cc

-- Arrays that are put together have a type with the numbers of each of them.
use Rattle.std.proofs.Common.{◌≡◌, ℕ, ◌+◌, ℤ, true, List, [], ◌∷◌, length, map, All, Option, Some, None, Result, Ok, option_and_then, refl, sym, ap, subst}
use Rattle.std.specs.Prelude.{slice_index, slice_set, sum_by, insert}
use Rattle.std.specs.List.{list_all}
use Rattle.std.proofs.lemmas.List.Elements.{All-nil, All-cons, All-head, All-tail}
use Rattle.cu_result.specs.Results.{◌>>=◌, need}
use Rattle.cu_num.specs.Dtype.{InRange}
use Rattle.cu_num.specs.Promotion.{promotion}
use Rattle.cu_num.specs.declared.types.Dtype.{Dtype}
use Rattle.cu_num.proofs.Promoted.{first_in_range, second_in_range}
use Rattle.cu_form.specs.Form.{is_array}
use Rattle.cu_form.specs.declared.args.Arg.{Arg}
use Rattle.cu_node.specs.Axes.{axis_of}
use Rattle.cu_node.specs.Fault.{fault}
use Rattle.cu_node.specs.Info.{info_at}
use Rattle.cu_node.specs.declared.faults.FaultCode.TheVariants.{Promote, Axis, Shape}
use Rattle.cu_node.specs.declared.faults.NodeFault.{NodeFault}
use Rattle.cu_node.specs.declared.info.NodeInfo.{NodeInfo}
use Rattle.cu_typing.specs.Joined.{arrays_of}
use Rattle.cu_typing_view.specs.Pieces.{promoted_from, promoted, same_shape, same_off, concat_along, typed_concat, stack_along, typed_stack}
use Rattle.cu_expr.specs.Typing.{argument_of}
use Rattle.cu_semantics.specs.Typed.{FitsType}
use Rattle.cu_mean.proofs.KeptViews.{checked_type}

-- each number of the array's type is one of this type
abbrev Fits : Dtype → NodeInfo → Type 0
Fits t i = (x : ℤ) → InRange i.dtype x → InRange t x

pub stepped : {A B : Type 0} (f : A → Option B) (o : Option A) (b : B) → option_and_then f o ≡ Some b → (a : A) × (o ≡ Some a) × (f a ≡ Some b)
stepped f (Some a) b h = (a, refl, h)
stepped f None b h = cc

promoted_fits : (s : Dtype) (is : List NodeInfo) (t : Dtype) → promoted_from s is ≡ Some t → ((x : ℤ) → InRange s x → InRange t x) × All (Fits t) is
promoted_fits s [] t h = let e : s ≡ t = cc in (λ x r. let P : Dtype → Type 0 = λ d. InRange d x in subst P e r, All-nil (Fits t))
promoted_fits s (i ∷ is) t h =
    let p = stepped (λ p. promoted_from p is) (promotion s i.dtype) t h in
    let rest = promoted_fits p.0 is t p.2 in (
      λ x r. rest.0 x (first_in_range s i.dtype p.0 p.1 x r),
      All-cons (Fits t) i is (λ x r. rest.0 x (second_in_range s i.dtype p.0 p.1 x r)) rest.1,
    )

-- so is each number of each argument
args_fit : (infos : List NodeInfo) (t : Dtype) (args : List Arg) → list_all is_array args ≡ true → All (Fits t) (arrays_of (map (argument_of infos) args)) → All (FitsType infos t) args
args_fit infos t [] arrays h = All-nil (FitsType infos t)
args_fit infos t (Arg.Node n ∷ args) arrays h =
    let told = arrays_of (map (argument_of infos) args) in
    All-cons (FitsType infos t) (Arg.Node n) args (All-head (Fits t) (info_at infos n) told h) (args_fit infos t args arrays (All-tail (Fits t) (info_at infos n) told h))
args_fit infos t (Arg.Int x ∷ args) arrays h = cc
args_fit infos t (Arg.Truth b ∷ args) arrays h = cc

concat_type : (t : Dtype) (axis : ℕ) (is : List NodeInfo) (i : NodeInfo) → concat_along t axis is ≡ Ok i → i.dtype ≡ t
concat_type t axis is i h =
    let first = info_at is 0 in
    checked_type (list_all (λ j. same_off axis first.dims j.dims) is) (fault Shape) t (slice_set first.dims axis (sum_by (λ j. slice_index j.dims axis) is)) first.chunk i h

stack_type : (t : Dtype) (axis : ℕ) (is : List NodeInfo) (i : NodeInfo) → stack_along t axis is ≡ Ok i → i.dtype ≡ t
stack_type t axis is i h =
    let first = info_at is 0 in
    checked_type (list_all (λ j. same_shape first.dims j.dims) is) (fault Shape) t (insert first.dims axis (length is)) (insert first.chunk axis 1) i h

-- the steps that `concat` and `stack` share
pieces_type : (o : Option Dtype) (axis : Option ℕ) (along : Dtype → ℕ → Result NodeInfo NodeFault) (i : NodeInfo) → ((t : Dtype) (d : ℕ) → along t d ≡ Ok i → i.dtype ≡ t)
    → (need o (fault Promote) >>= λ t. need axis (fault Axis) >>= λ d. along t d) ≡ Ok i → o ≡ Some i.dtype
pieces_type (Some t) (Some d) along i types h = let own : i.dtype ≡ t = types t d h in ap (λ (x : Dtype). Some x) (sym own)
pieces_type (Some t) None along i types h = cc
pieces_type None axis along i types h = cc

pub concat_fits : (infos : List NodeInfo) (args : List Arg) (axis : ℤ) (i : NodeInfo) → list_all is_array args ≡ true → typed_concat (arrays_of (map (argument_of infos) args)) axis ≡ Ok i → All (FitsType infos i.dtype) args
concat_fits infos args axis i arrays h =
    let told = arrays_of (map (argument_of infos) args) in
    let joined = pieces_type (promoted told) (axis_of axis (length (info_at told 0).dims)) (λ t d. concat_along t d told) i (λ t d e. concat_type t d told i e) h in
    args_fit infos i.dtype args arrays (promoted_fits (info_at told 0).dtype told i.dtype joined).1

pub stack_fits : (infos : List NodeInfo) (args : List Arg) (axis : ℤ) (i : NodeInfo) → list_all is_array args ≡ true → typed_stack (arrays_of (map (argument_of infos) args)) axis ≡ Ok i → All (FitsType infos i.dtype) args
stack_fits infos args axis i arrays h =
    let told = arrays_of (map (argument_of infos) args) in
    let joined = pieces_type (promoted told) (axis_of axis (length (info_at told 0).dims + 1)) (λ t d. stack_along t d told) i (λ t d e. stack_type t d told i e) h in
    args_fit infos i.dtype args arrays (promoted_fits (info_at told 0).dtype told i.dtype joined).1

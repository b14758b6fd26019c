-- Arrays that are put together.
use Rattle.std.proofs.Common.{◌≡◌, ◌∙◌, ℕ, zero, suc, ◌+◌, ◌<◌, ◌≤◌, Bool, true, ℤ, List, [], ◌∷◌, All, length, map, set, get_or, sum_by, Option, Some, None, Ok, option_and_then, refl, ap, sym, subst, arith}
use Rattle.std.specs.Prelude.{insert, remove}
use Rattle.std.specs.List.{list_all}
use Rattle.std.specs.Cmp.Lexicographic.{same_text}
use Rattle.std.proofs.lemmas.Bool.{and_parts}
use Rattle.std.proofs.lemmas.List.{length-set, length-map, get_or-set_same}
use Rattle.std.proofs.lemmas.List.Edits.{length-insert, get_or-insert_at}
use Rattle.std.proofs.lemmas.List.Elements.{All-nil, All-cons}
use Rattle.std.proofs.lemmas.List.Sums.{sum_by-cons}
use Rattle.cu_result.specs.Results.{◌>>=◌, need}
use Rattle.cu_result.proofs.ResultSteps.{need_step_ok}
use Rattle.cu_num.specs.Promotion.{promotion}
use Rattle.cu_num.specs.declared.types.Dtype.{Dtype}
use Rattle.cu_num.proofs.Promoted.{promotion_same}
use Rattle.cu_node.specs.Axes.{axis_of}
use Rattle.cu_node.specs.Fault.{fault}
use Rattle.cu_node.specs.Info.{info_at}
use Rattle.cu_node.specs.declared.faults.FaultCode.TheVariants.{Promote, Axis, Shape}
use Rattle.cu_node.specs.declared.info.NodeInfo.{NodeInfo}
use Rattle.cu_origin.specs.Fits.{FitsConcat, FitsStack}
use Rattle.cu_typing_view.specs.Pieces.{promoted_from, promoted, same_shape, same_off, concat_along, stack_along, typed_concat, typed_stack}
use Rattle.cu_lower_view.specs.Axes.{named_axis}
use Rattle.cu_lower_view.specs.Sources.{shapes_of, dtypes_of}
use Rattle.cu_lower_view.proofs.Marks.{axis_below, named_is}
use Rattle.cu_lower_view.proofs.Promoted.{promoted_on}
use Rattle.cu_lower_view.proofs.Typed.{checked_array}

-- ---- the type

stepped : {A B : Type 0} (f : A → Option B) (o : Option A) (b : B) → option_and_then f o ≡ Some b → (a : A) × (o ≡ Some a) × (f a ≡ Some b)
stepped f (Some a) b h = (a, refl, h)
stepped f None b h = cc

-- a type into which this one is promoted
abbrev PromotedTo : Dtype → Dtype → Type 0
PromotedTo t s = promotion s t ≡ Some t

promoted_all : (s : Dtype) (is : List NodeInfo) (t : Dtype) → promoted_from s is ≡ Some t → (promotion s t ≡ Some t) × All (PromotedTo t) (dtypes_of is)
promoted_all s [] t h = let e : s ≡ t = cc in (subst (λ (u : Dtype). promotion u t ≡ Some t) (sym e) (promotion_same t), All-nil (PromotedTo t))
promoted_all s (i ∷ is) t h =
    let p = stepped (λ p. promoted_from p is) (promotion s i.dtype) t h in
    let rest = promoted_all p.0 is t p.2 in
    let both = promoted_on s i.dtype p.0 t p.1 rest.0 in
    (both.0, All-cons (PromotedTo t) i.dtype (dtypes_of is) both.1 rest.1)

-- ---- the shapes

same_all : (P : List ℕ → Bool) (Q : List ℕ → Type 0) (is : List NodeInfo) → ((ns : List ℕ) → P ns ≡ true → Q ns) → list_all (λ i. P i.dims) is ≡ true → All Q (shapes_of is)
same_all P Q [] each h = All-nil Q
same_all P Q (i ∷ is) each h =
    let both = and_parts (P i.dims) (list_all (λ j. P j.dims) is) h in
    All-cons Q i.dims (shapes_of is) (each i.dims both.0) (same_all P Q is each both.1)

shape_same : (a b : List ℕ) → same_shape a b ≡ true → a ≡ b
shape_same a b h = same_text a b (sym h)

set_again : (xs : List ℕ) (k a b : ℕ) → set (set xs k a) k b ≡ set xs k b
set_again [] k a b = refl
set_again (x ∷ xs) zero a b = refl
set_again (x ∷ xs) (suc k) a b = ap (λ ys. x ∷ ys) (set_again xs k a b)

sum_by-map : {X Y : Type 0} (f : Y → ℕ) (g : X → Y) (xs : List X) → sum_by f (map g xs) ≡ sum_by (λ x. f (g x)) xs
sum_by-map f g [] = refl
sum_by-map f g (x ∷ xs) =
    let a = sum_by-cons f (g x) (map g xs) in
    let b = sum_by-cons (λ y. f (g y)) x xs in
    let c = sum_by-map f g xs in
    omega arith

remove-insert : (xs : List ℕ) (k y : ℕ) → k ≤ length xs → remove (insert xs k y) k ≡ xs
remove-insert [] zero y h = refl
remove-insert [] (suc k) y h = absurd (omega arith)
remove-insert (x ∷ xs) zero y h = refl
remove-insert (x ∷ xs) (suc k) y h = ap (λ ys. x ∷ ys) (remove-insert xs k y (omega arith))

fits_concat : (axis : ℕ) (first shape : List ℕ) (is : List NodeInfo) → axis < length first → list_all (λ i. same_off axis first i.dims) is ≡ true → shape ≡ set first axis (sum_by (λ i. get_or i.dims axis 0) is)
    → FitsConcat axis (shapes_of is) shape
fits_concat axis first shape is l same e =
    let total = sum_by (λ (i : NodeInfo). get_or i.dims axis 0) is in
    let long = length-set first axis total in
    let off : set first axis 0 ≡ set shape axis 0 = sym (ap (λ (xs : List ℕ). set xs axis 0) e ∙ set_again first axis total 0) in
    record {
      below = let n = ap (λ (xs : List ℕ). length xs) e in omega arith;
      off_axis = same_all (same_off axis first) (λ source. set source axis 0 ≡ set shape axis 0) is (λ ns h. sym (shape_same (set first axis 0) (set ns axis 0) h) ∙ off) same;
      along = ap (λ (xs : List ℕ). get_or xs axis 0) e ∙ (get_or-set_same first axis total 0 l ∙ sym (sum_by-map (λ (source : List ℕ). get_or source axis 0) (λ (i : NodeInfo). i.dims) is));
    }

fits_stack : (axis : ℕ) (first shape : List ℕ) (is : List NodeInfo) → axis ≤ length first → list_all (λ i. same_shape first i.dims) is ≡ true → shape ≡ insert first axis (length is)
    → FitsStack axis (shapes_of is) shape
fits_stack axis first shape is l same e =
    let left : remove shape axis ≡ first = ap (λ (xs : List ℕ). remove xs axis) e ∙ remove-insert first axis (length is) l in
    record {
      below = let n = ap (λ (xs : List ℕ). length xs) e in let m = length-insert first axis (length is) l in omega arith;
      off_axis = same_all (same_shape first) (λ source. source ≡ remove shape axis) is (λ ns h. sym (shape_same first ns h) ∙ sym left) same;
      along = ap (λ (xs : List ℕ). get_or xs axis 0) e ∙ (get_or-insert_at first axis (length is) 0 l ∙ sym (length-map is (λ (i : NodeInfo). i.dims)));
    }

-- ---- what typing gave

pub concat_typed : (is : List NodeInfo) (number : ℤ) (i : NodeInfo) → typed_concat is number ≡ Ok i
    → FitsConcat (named_axis (length (info_at is 0).dims) number) (shapes_of is) i.dims × All (PromotedTo i.dtype) (dtypes_of is)
concat_typed is number i h =
    let first = (info_at is 0).dims in
    let a = need_step_ok (promoted is) (fault Promote) (λ t. need (axis_of number (length first)) (fault Axis) >>= λ axis. concat_along t axis is) i h in
    let b = need_step_ok (axis_of number (length first)) (fault Axis) (λ axis. concat_along a.0 axis is) i a.2 in
    let c = checked_array (list_all (λ j. same_off b.0 first j.dims) is) (fault Shape) a.0 (set first b.0 (sum_by (λ (j : NodeInfo). get_or j.dims b.0 0) is)) (info_at is 0).chunk i b.2 in
    let own : promoted is ≡ Some i.dtype = a.1 ∙ ap (λ (t : Dtype). Some t) (sym c.1.dtype) in (
      subst (λ (axis : ℕ). FitsConcat axis (shapes_of is) i.dims) (sym (named_is number (length first) b.0 b.1)) (fits_concat b.0 first i.dims is (axis_below number (length first) b.0 b.1) c.0 c.1.dims),
      (promoted_all (info_at is 0).dtype is i.dtype own).1,
    )

pub stack_typed : (is : List NodeInfo) (number : ℤ) (i : NodeInfo) → typed_stack is number ≡ Ok i
    → FitsStack (named_axis (length (info_at is 0).dims + 1) number) (shapes_of is) i.dims × All (PromotedTo i.dtype) (dtypes_of is)
stack_typed is number i h =
    let first = (info_at is 0).dims in
    let a = need_step_ok (promoted is) (fault Promote) (λ t. need (axis_of number (length first + 1)) (fault Axis) >>= λ axis. stack_along t axis is) i h in
    let b = need_step_ok (axis_of number (length first + 1)) (fault Axis) (λ axis. stack_along a.0 axis is) i a.2 in
    let c = checked_array (list_all (λ j. same_shape first j.dims) is) (fault Shape) a.0 (insert first b.0 (length is)) (insert (info_at is 0).chunk b.0 1) i b.2 in
    let own : promoted is ≡ Some i.dtype = a.1 ∙ ap (λ (t : Dtype). Some t) (sym c.1.dtype) in
    let below = axis_below number (length first + 1) b.0 b.1 in (
      subst (λ (axis : ℕ). FitsStack axis (shapes_of is) i.dims) (sym (named_is number (length first + 1) b.0 b.1)) (fits_stack b.0 first i.dims is (omega arith) c.0 c.1.dims),
      (promoted_all (info_at is 0).dtype is i.dtype own).1,
    )

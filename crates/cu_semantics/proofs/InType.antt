-- The elements of arguments, of functions and of places are numbers of a type.
use Rattle.std.proofs.Common.{◌≡◌, ◌⊎◌, inl, inr, ◌<◌, ◌≤◌, ◌^◌, nat_lt, zero, suc, Bool, true, false, List, [], ◌∷◌, ℕ, ℤ, pos, length, map, slice_index, Option, Some, subst, arith}
use Rattle.std.specs.Prelude.{if◌then◌else◌, All}
use Rattle.std.specs.List.{list_all, position_or_len}
use Rattle.std.specs.Ordering.{int_eq}
use Rattle.std.proofs.lemmas.Bool.{ltb-true}
use Rattle.std.specs.Int.{int_min, int_max}
use Rattle.std.proofs.lemmas.Int.{ints, int_min_is, int_max_is}
use Rattle.std.proofs.lemmas.List.{length-map}
use Rattle.std.proofs.lemmas.List.FromFn.{length-range_with_len}
use Rattle.std.proofs.lemmas.List.Elements.{All-head, All-tail}
use Rattle.cu_num.specs.Dtype.{InRange}
use Rattle.cu_num.specs.Scalar.{op1, op2, is_nonzero, result_type1, result_type2}
use Rattle.cu_num.specs.declared.functions.Fn1.{Fn1}
use Rattle.cu_num.specs.declared.functions.Fn1.TheVariants.{Astype}
use Rattle.cu_num.specs.declared.functions.Fn2.{Fn2}
use Rattle.cu_num.specs.declared.types.Dtype.{Dtype}
use Rattle.cu_num.specs.declared.types.Dtype.TheVariants as t
use Rattle.cu_num.proofs.ScalarRange.{InRange-op1, InRange-op2}
use Rattle.cu_shape.specs.Index.{product}
use Rattle.cu_form.specs.Form.{is_earlier}
use Rattle.cu_form.specs.declared.args.Arg.{Arg}
use Rattle.cu_node.specs.declared.element_op.ElementOp.{ElementOp}
use Rattle.cu_node.specs.declared.info.NodeInfo.{NodeInfo}
use Rattle.cu_reduce.specs.Folds.{least_of, greatest_of}
use Rattle.cu_reduce.specs.Places.{best_place}
use Rattle.cu_reduce.proofs.Folding.{zero_in_range}
use Rattle.cu_semantics.specs.Argument.{NodeElements, argument_at, element_from, shape_from, source_at}
use Rattle.cu_semantics.specs.Reduction.{reduced_elements, reduced_box}
use Rattle.cu_semantics.specs.Rule.{function_value}
use Rattle.cu_semantics.specs.Typed.{type_of_node, FitsType, IsResultType}
use Rattle.cu_semantics.specs.View.{concat_at}
use Rattle.cu_semantics.proofs.Earlier.{left_true, right_true}

pub either_fits : (t : Dtype) (b : Bool) (x y : ℤ) → InRange t x → InRange t y → InRange t (if b then x else y)
either_fits t true x y h k = h
either_fits t false x y h k = k

-- ---- arguments

-- the elements of the nodes before number k are numbers of their types
abbrev pub FitBelow : List NodeInfo → NodeElements → ℕ → Type 0
FitBelow infos at k = (n : ℕ) (idx : List ℕ) → n < k → InRange (type_of_node infos n) (at n idx)

element_fits : (infos : List NodeInfo) (at : NodeElements) (k : ℕ) (t : Dtype) (arg : Arg) (idx : List ℕ) → FitBelow infos at k → is_earlier k arg ≡ true
    → FitsType infos t arg → InRange t (element_from at (Some arg) idx)
element_fits infos at k t (Arg.Node n) idx below earlier fits = fits (at n idx) (below n idx (ltb-true n k earlier))
element_fits infos at k t (Arg.Int x) idx below earlier fits = zero_in_range t
element_fits infos at k t (Arg.Truth b) idx below earlier fits = zero_in_range t

pub source_fits : (infos : List NodeInfo) (at : NodeElements) (k : ℕ) (t : Dtype) (args : List Arg) (j : ℕ) (idx : List ℕ) → FitBelow infos at k → list_all (is_earlier k) args ≡ true
    → All (FitsType infos t) args → InRange t (source_at at args j idx)
source_fits infos at k t [] j idx below earlier fits = zero_in_range t
source_fits infos at k t (arg ∷ args) zero idx below earlier fits =
    element_fits infos at k t arg idx below (left_true (is_earlier k arg) (list_all (is_earlier k) args) earlier) (All-head (FitsType infos t) arg args fits)
source_fits infos at k t (arg ∷ args) (suc j) idx below earlier fits =
    source_fits infos at k t args j idx below (right_true (is_earlier k arg) (list_all (is_earlier k) args) earlier) (All-tail (FitsType infos t) arg args fits)

argument_fits : (infos : List NodeInfo) (at : NodeElements) (k : ℕ) (t : Dtype) (arg : Arg) (idx : List ℕ) → FitBelow infos at k → is_earlier k arg ≡ true
    → FitsType infos t arg → InRange t (argument_at infos at idx arg)
argument_fits infos at k t (Arg.Node n) idx below earlier fits = fits _ (below n _ (ltb-true n k earlier))
argument_fits infos at k t (Arg.Int x) idx below earlier fits = fits
argument_fits infos at k t (Arg.Truth b) idx below earlier fits = fits

pub concat_fits : (infos : List NodeInfo) (at : NodeElements) (k : ℕ) (t : Dtype) (axis : ℕ) (args : List Arg) (idx : List ℕ) → FitBelow infos at k → list_all (is_earlier k) args ≡ true
    → All (FitsType infos t) args → InRange t (concat_at infos at axis args idx)
concat_fits infos at k t axis [] idx below earlier fits = zero_in_range t
concat_fits infos at k t axis (arg ∷ args) idx below earlier fits =
    either_fits t (nat_lt (slice_index idx axis) (slice_index (shape_from infos (Some arg)) axis)) _ _
    (element_fits infos at k t arg idx below (left_true (is_earlier k arg) (list_all (is_earlier k) args) earlier) (All-head (FitsType infos t) arg args fits))
    (concat_fits infos at k t axis args _ below (right_true (is_earlier k arg) (list_all (is_earlier k) args) earlier) (All-tail (FitsType infos t) arg args fits))

-- ---- functions

one_fits_result : (f : Fn1) (t : Dtype) (x : ℤ) → result_type1 f t ≡ t → InRange t (op1 f t x)
one_fits_result f t x h = subst (λ (r : Dtype). InRange r (op1 f t x)) h (InRange-op1 f t x)

two_fits_result : (f : Fn2) (t : Dtype) (x y : ℤ) → result_type2 f t ≡ t → InRange t (op2 f t x y)
two_fits_result f t x y h = subst (λ (r : Dtype). InRange r (op2 f t x y)) h (InRange-op2 f t x y)

-- the lesser and the greater of two numbers are one of them
either_is : (z x y : ℤ) (P : ℤ → Type 0) → (z ≡ x) ⊎ (z ≡ y) → P x → P y → P z
either_is z x y P (inl e) h k = rw e h
either_is z x y P (inr e) h k = rw e k

lesser_is : (x y : ℤ) → (int_min x y ≡ x) ⊎ (int_min x y ≡ y)
lesser_is x y = grind (arith, ints, int_min_is x y)

greater_is : (x y : ℤ) → (int_max x y ≡ x) ⊎ (int_max x y ≡ y)
greater_is x y = grind (arith, ints, int_max_is x y)

lesser_fits : (t : Dtype) (x y : ℤ) → InRange t x → InRange t y → InRange t (int_min x y)
lesser_fits t x y h k = either_is (int_min x y) x y (InRange t) (lesser_is x y) h k

greater_fits : (t : Dtype) (x y : ℤ) → InRange t x → InRange t y → InRange t (int_max x y)
greater_fits t x y h k = either_is (int_max x y) x y (InRange t) (greater_is x y) h k

pub function_fits : (infos : List NodeInfo) (at : NodeElements) (k : ℕ) (t : Dtype) (op : ElementOp) (args : List Arg) (idx : List ℕ) → FitBelow infos at k → list_all (is_earlier k) args ≡ true
    → IsResultType infos t op args → InRange t (function_value op t (map (argument_at infos at idx) args))
function_fits infos at k t (ElementOp.One f) [] idx below earlier is = zero_in_range t
function_fits infos at k t (ElementOp.One f) (x ∷ []) idx below earlier is = one_fits_result f t _ is
function_fits infos at k t (ElementOp.One f) (x ∷ y ∷ args) idx below earlier is = zero_in_range t
function_fits infos at k t (ElementOp.Two f) [] idx below earlier is = zero_in_range t
function_fits infos at k t (ElementOp.Two f) (x ∷ []) idx below earlier is = zero_in_range t
function_fits infos at k t (ElementOp.Two f) (x ∷ y ∷ []) idx below earlier is = two_fits_result f t _ _ is
function_fits infos at k t (ElementOp.Two f) (x ∷ y ∷ z ∷ args) idx below earlier is = zero_in_range t
function_fits infos at k t ElementOp.Where [] idx below earlier is = zero_in_range t
function_fits infos at k t ElementOp.Where (c ∷ []) idx below earlier is = zero_in_range t
function_fits infos at k t ElementOp.Where (c ∷ x ∷ []) idx below earlier is = zero_in_range t
function_fits infos at k t ElementOp.Where (c ∷ x ∷ y ∷ []) idx below earlier is =
    let rest : list_all (is_earlier k) (x ∷ y ∷ []) ≡ true = right_true (is_earlier k c) _ earlier in
    either_fits t (is_nonzero (argument_at infos at idx c)) (argument_at infos at idx x) (argument_at infos at idx y)
    (argument_fits infos at k t x idx below (left_true (is_earlier k x) _ rest) (All-head (FitsType infos t) x (y ∷ []) is))
    (argument_fits infos at k t y idx below (left_true (is_earlier k y) true (right_true (is_earlier k x) _ rest)) (All-head (FitsType infos t) y [] (All-tail (FitsType infos t) x (y ∷ []) is)))
function_fits infos at k t ElementOp.Where (c ∷ x ∷ y ∷ z ∷ args) idx below earlier is = zero_in_range t
function_fits infos at k t (ElementOp.Astype d) [] idx below earlier is = zero_in_range t
function_fits infos at k t (ElementOp.Astype d) (x ∷ []) idx below earlier is = subst (λ (r : Dtype). InRange r (op1 Astype d (argument_at infos at idx x))) is (InRange-op1 Astype d (argument_at infos at idx x))
function_fits infos at k t (ElementOp.Astype d) (x ∷ y ∷ args) idx below earlier is = zero_in_range t
function_fits infos at k t (ElementOp.Extreme least) [] idx below earlier is = zero_in_range t
function_fits infos at k t (ElementOp.Extreme least) (x ∷ []) idx below earlier is = zero_in_range t
function_fits infos at k t (ElementOp.Extreme least) (x ∷ y ∷ []) idx below earlier is =
    let fits = FitsType infos t in
    let first = argument_fits infos at k t x idx below (left_true (is_earlier k x) _ earlier) (All-head fits x (y ∷ []) is) in
    let rest = left_true (is_earlier k y) true (right_true (is_earlier k x) _ earlier) in
    let second = argument_fits infos at k t y idx below rest (All-head fits y [] (All-tail fits x (y ∷ []) is)) in
    either_fits t least _ _ (lesser_fits t _ _ first second) (greater_fits t _ _ first second)
function_fits infos at k t (ElementOp.Extreme least) (x ∷ y ∷ z ∷ args) idx below earlier is = zero_in_range t
function_fits infos at k t (ElementOp.Clip min max) [] idx below earlier is = zero_in_range t
function_fits infos at k t (ElementOp.Clip min max) (x ∷ []) idx below earlier is =
    let only = left_true (is_earlier k x) true earlier in
    let value = argument_fits infos at k t x idx below only (All-head (FitsType infos t) x [] is.2) in
    lesser_fits t max _ is.1 (greater_fits t min _ is.0 value)
function_fits infos at k t (ElementOp.Clip min max) (x ∷ y ∷ args) idx below earlier is = zero_in_range t

-- ---- places

place_within : {X : Type 0} (p : X → Bool) (xs : List X) → position_or_len p xs ≤ length xs
place_within p [] = omega arith
place_within p (x ∷ xs) = grind (arith, place_within p xs)

elements_count : (element : List ℕ → ℤ) (axes : Option (List ℤ)) (keepdims : Bool) (shape idx : List ℕ) → length (reduced_elements element axes keepdims shape idx) ≡ product (reduced_box axes shape)
elements_count element axes keepdims shape idx = simp (length-map, length-range_with_len)

small_place : (n : ℕ) → n ≤ 2 ^ 40 → InRange t.Int64 (pos n)
small_place n h = (omega (arith, ints), omega (arith, ints, h))

pub place_fits : (least : Bool) (element : List ℕ → ℤ) (axes : Option (List ℤ)) (keepdims : Bool) (shape idx : List ℕ) → product (reduced_box axes shape) ≤ 2 ^ 40
    → InRange t.Int64 (pos (best_place least (reduced_elements element axes keepdims shape idx)))
place_fits least element axes keepdims shape idx few =
    let values : List ℤ = reduced_elements element axes keepdims shape idx in
    let within : best_place least values ≤ length values = place_within (int_eq (if least then least_of values else greatest_of values)) values in
    let count : length values ≡ product (reduced_box axes shape) = elements_count element axes keepdims shape idx in
    small_place (best_place least values) (omega arith)

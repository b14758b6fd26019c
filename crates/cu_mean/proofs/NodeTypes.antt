-- What the types of a node's arguments have to do with the node's own.
use Rattle.std.proofs.Common.{◌≡◌, ◌+◌, ◌-◌, ◌≤◌, zero, suc, ℕ, ℤ, List, [], ◌∷◌, Bool, true, false, length, length-append, map, All, Ok, refl, sym, ap, ◌∙◌, arith}
use Rattle.std.specs.Prelude.{Option, nat_le, slice_index, if◌then◌else◌}
use Rattle.std.specs.List.{list_all}
use Rattle.std.proofs.lemmas.Bool.{and_parts}
use Rattle.std.proofs.lemmas.List.Elements.{All-nil, All-cons, All-head, All-tail}
use Rattle.cu_result.specs.Results.{◌>>=◌}
use Rattle.cu_result.proofs.ResultSteps.{step_ok}
use Rattle.cu_num.specs.Dtype.{IsInteger}
use Rattle.cu_num.specs.Fold.{fold_type}
use Rattle.cu_num.proofs.Promoted.{promoted_integer}
use Rattle.cu_num.proofs.TypeTests.{IsInteger-is_integer}
use Rattle.cu_num.specs.declared.folds.FoldKind.{FoldKind}
use Rattle.cu_num.specs.declared.folds.FoldKind.TheVariants as fold
use Rattle.cu_num.specs.declared.types.Dtype.{Dtype}
use Rattle.cu_num.specs.declared.types.Dtype.TheVariants as t
use Rattle.cu_form.specs.Form.{is_array, are_arrays}
use Rattle.cu_form.specs.declared.args.Arg.{Arg}
use Rattle.cu_node.specs.Info.{info_at}
use Rattle.cu_node.specs.declared.element_op.ElementOp.{ElementOp}
use Rattle.cu_node.specs.declared.info.NodeInfo.{NodeInfo}
use Rattle.cu_node.proofs.KeptLimits.{given}
use Rattle.cu_semantics.specs.Argument.{source_shape}
use Rattle.cu_reduce.specs.Products.{batch_of, outer_axes, batch_axes}
use Rattle.cu_typing.specs.Accepted.{GoesInto}
use Rattle.cu_typing.specs.Elementwise.{joined_array, typed_elementwise}
use Rattle.cu_typing.specs.Joined.{arrays_of, joined_shape, joined_chunk, aligned_within}
use Rattle.cu_typing.specs.Matmul.{leading, leading_array, rows, columns, product_shape, typed_matmul}
use Rattle.cu_typing.specs.Reduction.{fold_rule, typed_reduction}
use Rattle.cu_typing.specs.Types.{typed_elements}
use Rattle.cu_typing.specs.declared.argument.Argument.{Argument}
use Rattle.cu_typing.proofs.PassedTogether.{reduction_passed, product_passed}
use Rattle.cu_expr.specs.Typing.{argument_of}
use Rattle.cu_mean.specs.Elementwise.{GoesBack}

-- ---- arguments that are arrays

pub all_arrays : (least most : ℕ) (args : List Arg) → are_arrays least most args ≡ true → list_all is_array args ≡ true
all_arrays least most args h = (and_parts _ _ h).1

-- the shape that is told of an argument is the one from which it is read
pub told_shape : (infos : List NodeInfo) (args : List Arg) (j : ℕ) → list_all is_array args ≡ true → (info_at (arrays_of (map (argument_of infos) args)) j).dims ≡ source_shape infos args j
told_shape infos [] j h = refl
told_shape infos (Arg.Node n ∷ args) zero h = refl
told_shape infos (Arg.Node n ∷ args) (suc j) h = told_shape infos args j h
told_shape infos (Arg.Int x ∷ args) j h = cc
told_shape infos (Arg.Truth b ∷ args) j h = cc

-- ---- elementwise functions

pub element_types : (op : ElementOp) (args : List Argument) (i : NodeInfo) → typed_elementwise op args ≡ Ok i → typed_elements op args ≡ Ok i.dtype
element_types op args i h =
    let typed = step_ok (typed_elements op args) (λ t. joined_shape (arrays_of args) >>= λ shape. joined_array t (arrays_of args) shape) i h in
    let shaped = step_ok (joined_shape (arrays_of args)) (λ shape. joined_array typed.0 (arrays_of args) shape) i typed.2 in
    let chunk = joined_chunk shaped.0 (arrays_of args) in
    let array = given (aligned_within shaped.0 chunk (arrays_of args)) typed.0 shaped.0 chunk i shaped.2 in
    typed.1 ∙ ap (λ (j : NodeInfo). Ok j.dtype) (sym array)

pub go_back : (infos : List NodeInfo) (args : List Arg) (shape idx : List ℕ) → length idx ≡ length shape → All (λ i. GoesInto i.dims shape) (arrays_of (map (argument_of infos) args))
    → All (GoesBack infos idx) args
go_back infos [] shape idx e h = All-nil (GoesBack infos idx)
go_back infos (Arg.Node n ∷ args) shape idx e h =
    let first : GoesInto (info_at infos n).dims shape = All-head (λ i. GoesInto i.dims shape) (info_at infos n) (arrays_of (map (argument_of infos) args)) h in
    let le : length (info_at infos n).dims ≤ length idx = let r = first.rank in omega arith in
    All-cons (GoesBack infos idx) (Arg.Node n) args le (go_back infos args shape idx e (All-tail (λ i. GoesInto i.dims shape) (info_at infos n) (arrays_of (map (argument_of infos) args)) h))
go_back infos (Arg.Int x ∷ args) shape idx e h = All-cons (GoesBack infos idx) (Arg.Int x) args tt (go_back infos args shape idx e h)
go_back infos (Arg.Truth b ∷ args) shape idx e h = All-cons (GoesBack infos idx) (Arg.Truth b) args tt (go_back infos args shape idx e h)

-- ---- reductions

pub sum_type : (d : Dtype) → IsInteger (fold_type fold.Sum d)
sum_type t.Bool = tt
sum_type d = tt

pub reduced_type : (kind : FoldKind) (axes : Option (List ℤ)) (keepdims : Bool) (i r : NodeInfo) → typed_reduction kind axes keepdims i ≡ Ok r → r.dtype ≡ fold_type kind i.dtype
reduced_type kind axes keepdims i r h = let p = reduction_passed (fold_rule kind i.dtype) axes keepdims i r h in ap (λ (j : NodeInfo). j.dtype) p.1.array

pub sum_is_integer : (kind : FoldKind) (axes : Option (List ℤ)) (keepdims : Bool) (i r : NodeInfo) → typed_reduction kind axes keepdims i ≡ Ok r → kind ≡ fold.Sum → IsInteger r.dtype
sum_is_integer kind axes keepdims i r h e = rw (reduced_type kind axes keepdims i r h, e) (sum_type i.dtype)

-- ---- matrix products

pub product_is_integer : (l r i : NodeInfo) → typed_matmul l r ≡ Ok i → IsInteger i.dtype
product_is_integer l r i h =
    let p = (product_passed l r i h).1.1 in
    rw p.array (promoted_integer l.dtype r.dtype _ p.promoted (IsInteger-is_integer l.dtype p.left_type))

length-rows : (sizes : List ℕ) (b : Bool) (n : ℕ) → length (if b then n ∷ [] else []) ≡ (if b then 1 else 0)
length-rows sizes true n = refl
length-rows sizes false n = refl

taken_off : (m k n : ℕ) → m ≡ k + n → m - n ≡ k
taken_off m k n h = omega arith

-- the result's leading axes are those before its matrix
product_lead : (lead : List ℕ) (l r : NodeInfo) (idx : List ℕ) → length idx ≡ length (product_shape lead l r) → batch_axes l.dims r.dims idx ≡ length lead
product_lead lead l r idx e =
    let a : length (rows l.dims) ≡ outer_axes l.dims = length-rows l.dims (nat_le 2 (length l.dims)) (slice_index l.dims (length l.dims - 2)) in
    let b : length (columns r.dims) ≡ outer_axes r.dims = length-rows r.dims (nat_le 2 (length r.dims)) (slice_index r.dims (length r.dims - 1)) in
    let f : length (product_shape lead l r) ≡ length lead + length (rows l.dims) + length (columns r.dims) = simp length-append (omega arith) in
    let g : length idx ≡ length lead + (outer_axes l.dims + outer_axes r.dims) = e ∙ f ∙ (let h = a in let k = b in omega (arith, a, b)) in
    let n : ℕ = outer_axes l.dims + outer_axes r.dims in
    taken_off (length idx) (length lead) n g

pub product_batches : (l r i : NodeInfo) (idx : List ℕ) → typed_matmul l r ≡ Ok i → length idx ≡ length i.dims
    → (length (batch_of l.dims) ≤ batch_axes l.dims r.dims idx) × (length (batch_of r.dims) ≤ batch_axes l.dims r.dims idx)
product_batches l r i idx h e =
    let w = (product_passed l r i h).1 in
    let lead = w.0 in
    let p = w.1 in
    let P : NodeInfo → Type 0 = λ j. GoesInto j.dims lead in
    let left : GoesInto (leading l.dims) lead = All-head P (leading_array l) (leading_array r ∷ []) p.broadcast in
    let right : GoesInto (leading r.dims) lead = All-head P (leading_array r) [] (All-tail P (leading_array l) (leading_array r ∷ []) p.broadcast) in
    let a = product_lead lead l r idx (e ∙ ap (λ (j : NodeInfo). length j.dims) p.array) in
    rw a (left.rank, right.rank)

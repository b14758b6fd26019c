-- An array in a new shape has the type of the array and as many elements.
use Rattle.std.proofs.Common.{◌≡◌, ◌∙◌, ℕ, ◌+◌, ◌*◌, ◌≤◌, ◌==◌, not, ◌||◌, Bool, true, false, List, [], ◌∷◌, ◌++◌, length, take, drop, ℤ, pos, Ok, refl, ap, sym, arith}
use Rattle.std.specs.Prelude.{insert, nat_le, int_lt, count_by}
use Rattle.std.specs.List.{list_all}
use Rattle.std.proofs.lemmas.Bool.{and_parts, eqb-true, leb-true}
use Rattle.std.proofs.lemmas.List.{take-append-drop}
use Rattle.cu_result.specs.Results.{◌>>=◌, check}
use Rattle.cu_result.proofs.ResultSteps.{check_step_ok, need_step_ok}
use Rattle.cu_num.specs.declared.types.Dtype.{Dtype}
use Rattle.cu_shape.specs.Index.{product}
use Rattle.cu_node.specs.Axes.{axis_of, marked_of}
use Rattle.cu_node.specs.Fault.{fault}
use Rattle.cu_node.specs.Limited.{limited}
use Rattle.cu_node.specs.NewShape.{is_new_size, is_new_shape}
use Rattle.cu_node.specs.declared.faults.FaultCode.TheVariants.{Axis, ReshapeSize}
use Rattle.cu_node.specs.declared.info.NodeInfo.{NodeInfo}
use Rattle.cu_node.specs.declared.new_shape.NewShape.{NewShape}
use Rattle.cu_node.proofs.KeptLimits.{given}
use Rattle.cu_typing_view.specs.NewShapes.{typed_expand, unless_marked, unmarked, are_single, typed_squeeze, typed_new_shape}
use Rattle.cu_typing_view.specs.Reshaped.{can_hold, reshaped_sizes, chunk_of, typed_reshape}
use Rattle.cu_typing_view.proofs.HeldElements.{holds_all}

-- the array has this type and so many elements
abbrev HasElements : Dtype → ℕ → NodeInfo → Type 0
HasElements t count i = (product i.dims ≡ count) × (i.dtype ≡ t)

limited_elements : (t : Dtype) (shape chunk : List ℕ) (i : NodeInfo) → limited t shape chunk ≡ Ok i → HasElements t (product shape) i
limited_elements t shape chunk i h = let g = given true t shape chunk i h in (ap (λ (j : NodeInfo). product j.dims) g, ap (λ (j : NodeInfo). j.dtype) g)

-- where typing goes on with an array of as many elements, its result has them
with_count : (t : Dtype) (shape chunk : List ℕ) (count : ℕ) (i : NodeInfo) → product shape ≡ count → limited t shape chunk ≡ Ok i → HasElements t count i
with_count t shape chunk count i same h = let e = limited_elements t shape chunk i h in (e.0 ∙ same, e.1)

-- ---- the sizes that are written

reshaped_elements : (a : NodeInfo) (sizes : List ℤ) (i : NodeInfo) → count_by (λ n. int_lt n (pos 0)) sizes ≤ 1 → typed_reshape a sizes ≡ Ok i → HasElements a.dtype (product a.dims) i
reshaped_elements a sizes i one h =
    let shape = reshaped_sizes (product a.dims) sizes in
    let p = check_step_ok (can_hold (product a.dims) sizes) (fault ReshapeSize) (λ _. limited a.dtype shape (chunk_of (product a.chunk) shape)) i h in
    with_count a.dtype shape (chunk_of (product a.chunk) shape) (product a.dims) i (holds_all (product a.dims) sizes one p.0) p.1

reshaped_type : (a : NodeInfo) (sizes : List ℤ) (i : NodeInfo) → typed_reshape a sizes ≡ Ok i → i.dtype ≡ a.dtype
reshaped_type a sizes i h =
    let shape = reshaped_sizes (product a.dims) sizes in
    let p = check_step_ok (can_hold (product a.dims) sizes) (fault ReshapeSize) (λ _. limited a.dtype shape (chunk_of (product a.chunk) shape)) i h in
    (limited_elements a.dtype shape (chunk_of (product a.chunk) shape) i p.1).1

-- ---- axes of size 1 put in and taken out

product-append : (xs ys : List ℕ) → product (xs ++ ys) ≡ product xs * product ys
product-append [] ys = omega arith
product-append (x ∷ xs) ys = let e = product-append xs ys in rw e (omega arith)

product-one : (xs : List ℕ) (k : ℕ) → product (insert xs k 1) ≡ product xs
product-one xs k =
    let e : product (1 ∷ drop k xs) ≡ product (drop k xs) = omega arith in
    product-append (take k xs) (1 ∷ drop k xs) ∙ ap (λ n. product (take k xs) * n) e ∙ sym (product-append (take k xs) (drop k xs)) ∙ ap product (take-append-drop k xs)

expanded_elements : (a : NodeInfo) (number : ℤ) (i : NodeInfo) → typed_expand a number ≡ Ok i → HasElements a.dtype (product a.dims) i
expanded_elements a number i h =
    let p = need_step_ok (axis_of number (length a.dims + 1)) (fault Axis) (λ axis. limited a.dtype (insert a.dims axis 1) (insert a.chunk axis 1)) i h in
    with_count a.dtype (insert a.dims p.0 1) (insert a.chunk p.0 1) (product a.dims) i (product-one a.dims p.0) p.2

single : (m : Bool) (n p : ℕ) → (not m || n == 1) ≡ true → product (unless_marked m n) * p ≡ n * p
single true n p h = let e : n ≡ 1 = eqb-true n 1 h in rw e (omega arith)
single false n p h = omega arith

product-unmarked : (ns : List ℕ) (ms : List Bool) → are_single ns ms ≡ true → product (unmarked ns ms) ≡ product ns
product-unmarked [] ms h = refl
product-unmarked (n ∷ ns) [] h = refl
product-unmarked (n ∷ ns) (m ∷ ms) h =
    let both = and_parts (not m || n == 1) (are_single ns ms) h in
    product-append (unless_marked m n) (unmarked ns ms) ∙ ap (λ p. product (unless_marked m n) * p) (product-unmarked ns ms both.1) ∙ single m n (product ns) both.0

squeezed_elements : (a : NodeInfo) (axes : List ℤ) (i : NodeInfo) → typed_squeeze a axes ≡ Ok i → HasElements a.dtype (product a.dims) i
squeezed_elements a axes i h =
    let p = need_step_ok (marked_of (length a.dims) axes) (fault Axis) (λ marks. check (are_single a.dims marks) (fault Axis) >>= λ _. limited a.dtype (unmarked a.dims marks) (unmarked a.chunk marks)) i h in
    let q = check_step_ok (are_single a.dims p.0) (fault Axis) (λ _. limited a.dtype (unmarked a.dims p.0) (unmarked a.chunk p.0)) i p.2 in
    with_count a.dtype (unmarked a.dims p.0) (unmarked a.chunk p.0) (product a.dims) i (product-unmarked a.dims p.0 q.0) q.1

-- ---- each by what is written

pub new_shape_count : (a i : NodeInfo) (shape : NewShape) → is_new_shape shape ≡ true → typed_new_shape a shape ≡ Ok i → product a.dims ≡ product i.dims
new_shape_count a i (NewShape.Sizes sizes) few h =
    let one = leb-true _ 1 (and_parts (list_all is_new_size sizes) (nat_le (count_by (λ n. int_lt n (pos 0)) sizes) 1) few).1 in
    sym (reshaped_elements a sizes i one h).0
new_shape_count a i (NewShape.Expanded axis) few h = sym (expanded_elements a axis i h).0
new_shape_count a i (NewShape.Squeezed axes) few h = sym (squeezed_elements a axes i h).0

pub new_shape_type : (a i : NodeInfo) (shape : NewShape) → typed_new_shape a shape ≡ Ok i → i.dtype ≡ a.dtype
new_shape_type a i (NewShape.Sizes sizes) h = reshaped_type a sizes i h
new_shape_type a i (NewShape.Expanded axis) h = (expanded_elements a axis i h).1
new_shape_type a i (NewShape.Squeezed axes) h = (squeezed_elements a axes i h).1

-- The indices over which is reduced.
use Rattle.std.proofs.Common.{◌≡◌, ◌<◌, ◌≤◌, ◌^◌, max, zero, suc, ℕ, ℤ, List, [], ◌∷◌, Bool, true, false, length, get_or, All, Option, refl, sym, ◌∙◌, arith, inl, inr}
use Rattle.std.specs.Prelude.{◌⊎◌, slice_index, if◌then◌else◌}
use Rattle.std.proofs.Math.Nat.{mul-le-mul}
use Rattle.std.proofs.lemmas.List.{get_or-map, length-map}
use Rattle.std.proofs.lemmas.List.FromFn.{length-map-range_with_len, get_or-map-range_with_len}
use Rattle.cu_shape.specs.Counts.{at_least_one}
use Rattle.cu_shape.specs.Index.{product}
use Rattle.cu_form.specs.declared.args.Arg.{Arg}
use Rattle.cu_node.specs.Info.{IsInfo}
use Rattle.cu_node.specs.declared.info.NodeInfo.{NodeInfo}
use Rattle.cu_semantics.specs.Argument.{source_shape}
use Rattle.cu_semantics.specs.Index.{is_named}
use Rattle.cu_semantics.specs.Reduction.{kept_before, reduced_box, reduced_start}
use Rattle.cu_expr.proofs.ToldArguments.{info_kept}
use Rattle.cu_mean.specs.Reductions.{IsFirstOrSingle}

-- the shape of an argument keeps the limit
pub source_small : (infos : List NodeInfo) (args : List Arg) (j : ℕ) → All IsInfo infos → product (at_least_one (source_shape infos args j)) ≤ 2 ^ 40
source_small infos [] j h = omega arith
source_small infos (Arg.Node n ∷ args) zero h = (info_kept infos n h).elements
source_small infos (Arg.Int x ∷ args) zero h = omega arith
source_small infos (Arg.Truth b ∷ args) zero h = omega arith
source_small infos (arg ∷ args) (suc j) h = source_small infos args j h

product_grows : (xs ys : List ℕ) → length xs ≡ length ys → ((k : ℕ) → k < length xs → get_or xs k 0 ≤ get_or ys k 0) → product xs ≤ product ys
product_grows [] [] e h = omega arith
product_grows [] (y ∷ ys) e h = absurd (omega arith)
product_grows (x ∷ xs) [] e h = absurd (omega arith)
product_grows (x ∷ xs) (y ∷ ys) e h = mul-le-mul (h 0 (omega arith)) (product_grows xs ys (omega arith) (λ k lt. h (suc k) (omega arith)))

on_axis : (named : Bool) (n m : ℕ) → m ≡ max 1 n → (if named then n else 1) ≤ m
on_axis true n m e = omega arith
on_axis false n m e = omega arith

pub box_small : (axes : Option (List ℤ)) (shape : List ℕ) → product (reduced_box axes shape) ≤ product (at_least_one shape)
box_small axes shape =
    let f : ℕ → ℕ = λ d. if is_named (length shape) axes d then slice_index shape d else 1 in
    let count : length (reduced_box axes shape) ≡ length shape = length-map-range_with_len f 0 (length shape) in
    product_grows (reduced_box axes shape) (at_least_one shape) (count ∙ sym (length-map shape (λ n. max 1 n)))
    (λ k lt.
    let within : k < length shape = omega arith in
    let at : get_or (reduced_box axes shape) k 0 ≡ f k = get_or-map-range_with_len f 0 (length shape) k k 0 within (omega arith) in
    let m : get_or (at_least_one shape) k 0 ≡ max 1 (get_or shape k 0) = get_or-map (λ n. max 1 n) shape k 0 0 within in
    rw at (on_axis (is_named (length shape) axes k) (slice_index shape k) _ m))

apart_on : (named : Bool) (n i : ℕ) → ((if named then 0 else i) ≡ 0) ⊎ ((if named then n else 1) ≡ 1)
apart_on true n i = inl refl
apart_on false n i = inr refl

pub start_apart : (axes : Option (List ℤ)) (keepdims : Bool) (shape idx : List ℕ) → IsFirstOrSingle (reduced_start axes keepdims (length shape) idx) (reduced_box axes shape)
start_apart axes keepdims shape idx k lt =
    let f : ℕ → ℕ = λ d. if is_named (length shape) axes d then slice_index shape d else 1 in
    let g : ℕ → ℕ = λ d. if is_named (length shape) axes d then 0 else slice_index idx (if keepdims then d else kept_before (length shape) axes d) in
    let count : length (reduced_start axes keepdims (length shape) idx) ≡ length shape = length-map-range_with_len g 0 (length shape) in
    let within : k < length shape = omega arith in
    let a : get_or (reduced_start axes keepdims (length shape) idx) k 0 ≡ g k = get_or-map-range_with_len g 0 (length shape) k k 0 within (omega arith) in
    let b : get_or (reduced_box axes shape) k 0 ≡ f k = get_or-map-range_with_len f 0 (length shape) k k 0 within (omega arith) in
    rw (a, b) (apart_on (is_named (length shape) axes k) (slice_index shape k) (slice_index idx (if keepdims then k else kept_before (length shape) axes k)))

pub same_ranks : (axes : Option (List ℤ)) (keepdims : Bool) (shape idx : List ℕ) → length (reduced_box axes shape) ≡ length (reduced_start axes keepdims (length shape) idx)
same_ranks axes keepdims shape idx =
    length-map-range_with_len (λ d. if is_named (length shape) axes d then slice_index shape d else 1) 0 (length shape)
    ∙ sym (length-map-range_with_len (λ d. if is_named (length shape) axes d then 0 else slice_index idx (if keepdims then d else kept_before (length shape) axes d)) 0 (length shape))

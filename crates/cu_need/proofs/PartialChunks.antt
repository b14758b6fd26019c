-- The chunks of partial results.
use Rattle.std.proofs.Common.{◌≡◌, ℕ, suc, ◌+◌, ◌<◌, ◌≤◌, ◌*◌, ◌^◌, Bool, true, false, List, [], ◌∷◌, ◌++◌, length, get_or, All, if◌then◌else◌, refl, ap, sym, ◌∙◌, subst, arith}
use Rattle.std.proofs.lemmas.Nat.{mul-le}
use Rattle.std.proofs.lemmas.Bool.{le-leb}
use Rattle.std.proofs.lemmas.List.Elements.{All-head, All-tail}
use Rattle.cu_num.specs.Dtype.{size_of}
use Rattle.cu_num.specs.declared.types.Dtype.{Dtype}
use Rattle.cu_shape.specs.Index.{product}
use Rattle.cu_origin.specs.Pull.{has_axis}
use Rattle.cu_origin.specs.declared.axes.Axes.{Axes}
use Rattle.cu_node.specs.Info.{IsInfo}
use Rattle.cu_node.specs.Limited.{is_chunk_within}
use Rattle.cu_node.specs.declared.info.NodeInfo.{NodeInfo}
use Rattle.cu_typing.specs.Reduction.{kept_size, kept_sizes}
use Rattle.cu_tree.specs.Partials.{partial_chunk_from}

-- ---- a chunk of partial results is at most one of the source

one_axis : (b : Bool) (c : ℕ) → 0 < c → (if b then 1 else c) ≤ c
one_axis true c h = h
one_axis false c h = omega arith

pub less_from : (axes : Axes) (first : ℕ) (cs : List ℕ) → All (λ c. 0 < c) cs → product (partial_chunk_from axes first cs) ≤ product cs
less_from axes first [] h = omega arith
less_from axes first (c ∷ cs) h =
    mul-le (if has_axis axes first then 1 else c) (product (partial_chunk_from axes (first + 1) cs)) c (product cs) (one_axis (has_axis axes first) c (All-head (λ x. 0 < x) c cs h))
    (less_from axes (first + 1) cs (All-tail (λ x. 0 < x) c cs h))

pub own_bytes : (axes : Axes) (source : NodeInfo) → IsInfo source → product (partial_chunk_from axes 0 source.chunk) * size_of source.dtype ≤ 2 ^ 28
own_bytes axes source info =
    let less = less_from axes 0 source.chunk info.positive in
    let p : product (partial_chunk_from axes 0 source.chunk) * size_of source.dtype ≤ product source.chunk * size_of source.dtype =
    mul-le (product (partial_chunk_from axes 0 source.chunk)) (size_of source.dtype) (product source.chunk) (size_of source.dtype) less (omega arith) in
    let q = info.bytes in
    omega (arith, p, q)

-- ---- and it has as many elements as a chunk of the result

Marked : Axes → ℕ → List Bool → List ℕ → Type 0
Marked axes first ms cs = (i : ℕ) → i < length cs → has_axis axes (first + i) ≡ get_or ms i false

marked_rest : (axes : Axes) (first : ℕ) (m : Bool) (ms : List Bool) (c : ℕ) (cs : List ℕ) → Marked axes first (m ∷ ms) (c ∷ cs) → Marked axes (first + 1) ms cs
unfolding Marked
marked_rest axes first m ms c cs h i l = subst (λ (d : ℕ). has_axis axes d ≡ get_or ms i false) (let e : first + suc i ≡ first + 1 + i = omega arith in e) (h (suc i) (omega arith))

unmarked_rest : (axes : Axes) (first : ℕ) (c : ℕ) (cs : List ℕ) → Marked axes first [] (c ∷ cs) → Marked axes (first + 1) [] cs
unfolding Marked
unmarked_rest axes first c cs h i l = subst (λ (d : ℕ). has_axis axes d ≡ false) (let e : first + suc i ≡ first + 1 + i = omega arith in e) (h (suc i) (omega arith))

marked_here : (axes : Axes) (first : ℕ) (ms : List Bool) (c : ℕ) (cs : List ℕ) → Marked axes first ms (c ∷ cs) → has_axis axes first ≡ get_or ms 0 false
unfolding Marked
marked_here axes first ms c cs h = subst (λ (d : ℕ). has_axis axes d ≡ get_or ms 0 false) (let e : first + 0 ≡ first = omega arith in e) (h 0 (omega arith))

kept_one : (keepdims m : Bool) (c : ℕ) (rest : List ℕ) (n : ℕ) → product rest ≡ n → product (kept_size keepdims m c ++ rest) ≡ (if m then 1 else c) * n
kept_one true true c rest n e = ap (λ p. 1 * p) e
kept_one false true c rest n e = e ∙ (let one : n ≡ 1 * n = omega arith in one)
kept_one keepdims false c rest n e = ap (λ p. c * p) e

all_kept : (axes : Axes) (first : ℕ) (cs : List ℕ) → Marked axes first [] cs → product (partial_chunk_from axes first cs) ≡ product cs
all_kept axes first [] h = refl
all_kept axes first (c ∷ cs) h =
    let here = marked_here axes first [] c cs h in
    rw here (ap (λ p. c * p) (all_kept axes (first + 1) cs (unmarked_rest axes first c cs h)))

same_elements : (axes : Axes) (keepdims : Bool) (first : ℕ) (ms : List Bool) (cs : List ℕ) → Marked axes first ms cs → product (partial_chunk_from axes first cs) ≡ product (kept_sizes keepdims cs ms)
same_elements axes keepdims first ms [] h = refl
same_elements axes keepdims first [] (c ∷ cs) h = all_kept axes first (c ∷ cs) h
same_elements axes keepdims first (m ∷ ms) (c ∷ cs) h =
    let here = marked_here axes first (m ∷ ms) c cs h in
    let rest = same_elements axes keepdims (first + 1) ms cs (marked_rest axes first m ms c cs h) in
    rw here (sym (kept_one keepdims m c (kept_sizes keepdims cs ms) (product (partial_chunk_from axes (first + 1) cs)) (sym rest)))

-- where these marks are the axes', the limit of bytes of the result's chunk is that of its partial results
pub partial_within : (axes : Axes) (t : Dtype) (keepdims : Bool) (marks : List Bool) (cs : List ℕ) → ((i : ℕ) → i < length cs → has_axis axes i ≡ get_or marks i false)
    → product (kept_sizes keepdims cs marks) * size_of t ≤ 2 ^ 28 → is_chunk_within t (partial_chunk_from axes 0 cs) ≡ true
unfolding Marked
partial_within axes t keepdims marks cs h fits =
    let same = same_elements axes keepdims 0 marks cs (λ i l. subst (λ (d : ℕ). has_axis axes d ≡ get_or marks i false) (let e : i ≡ 0 + i = omega arith in e) (h i l)) in
    le-leb (product (partial_chunk_from axes 0 cs) * size_of t) (2 ^ 28) (rw same fits)

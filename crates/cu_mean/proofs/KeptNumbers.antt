-- The elements of arrays that are made from nothing, and the places of a reduction, are numbers of their types.
use Rattle.std.proofs.Common.{◌≡◌, ℕ, suc, ◌+◌, ◌*◌, ◌-◌, ◌<◌, ◌≤◌, ◌==◌, ℤ, pos, negsuc, ◌+ℤ◌, ◌*ℤ◌, ◌≤ℤ◌, Bool, true, false, List, [], ◌∷◌, length, map, max, get_or, slice_index, Option, Ok, ap, arith}
use Rattle.std.specs.Prelude.{if◌then◌else◌, not, ◌&&◌, option_map}
use Rattle.std.specs.Ordering.{int_eq}
use Rattle.std.specs.List.{range_with_len}
use Rattle.std.proofs.lemmas.Bool.{and_parts, ltb-true, ne_eqb}
use Rattle.std.proofs.lemmas.Int.{ints}
use Rattle.std.proofs.lemmas.Nat.{mul-le}
use Rattle.std.proofs.Math.IntN.{pos-*ℤ-pos}
use Rattle.cu_result.specs.Results.{◌>>=◌, check}
use Rattle.cu_result.proofs.ResultSteps.{check_step_ok}
use Rattle.cu_num.specs.Dtype.{InRange, least, greatest}
use Rattle.cu_num.specs.declared.types.Dtype.{Dtype}
use Rattle.cu_num.specs.declared.types.Dtype.TheVariants.{Int64}
use Rattle.cu_shape.specs.Counts.{at_least_one}
use Rattle.cu_shape.specs.Index.{product, is_inside}
use Rattle.cu_node.specs.Fault.{fault}
use Rattle.cu_node.specs.Info.{info_of}
use Rattle.cu_node.specs.Literal.{literal_number, suits}
use Rattle.cu_node.specs.Limited.{limited}
use Rattle.cu_node.specs.Types.{is_integer, in_range}
use Rattle.cu_node.specs.declared.faults.FaultCode.TheVariants.{Kind, Scalar, Index, Shape}
use Rattle.cu_node.specs.declared.info.NodeInfo.{NodeInfo}
use Rattle.cu_node.specs.declared.literal.Literal.{Literal}
use Rattle.cu_node.proofs.KeptLimits.{given}
use Rattle.cu_typing.specs.Reduction.{place_rule, typed_arg_place}
use Rattle.cu_typing.proofs.PassedTogether.{reduction_passed}
use Rattle.cu_typing_view.specs.Creation.{arange_count, arange_element, holds_ends, typed_full, typed_numbers, typed_arange}
use Rattle.cu_expr.proofs.Kernels.{in_range_true, suits_in_range}
use Rattle.cu_semantics.specs.Index.{is_named}
use Rattle.cu_semantics.specs.Reduction.{reduced_box}
use Rattle.cu_semantics.specs.View as view
use Rattle.cu_mean.proofs.KeptViews.{checked_type}

-- ---- one value

pub full_fits : (shape : List ℕ) (t : Dtype) (v : Literal) (chunk : List ℕ) (i : NodeInfo) → typed_full shape t v chunk ≡ Ok i → InRange i.dtype (literal_number v)
full_fits shape t v chunk i h =
    let a = check_step_ok (suits t v) (fault Scalar) (λ _. check (length chunk == length shape) (fault Shape) >>= λ _. limited t shape chunk) i h in
    let own = checked_type (length chunk == length shape) (fault Shape) t shape chunk i a.1 in
    rw own (suits_in_range t v a.0)

-- ---- numbers at equal steps

-- what lies between the first and the last of them
between_up : (lo hi start : ℤ) (s k m : ℕ) → k ≤ m → (lo ≤ℤ (start +ℤ pos 0 *ℤ pos s)) → ((start +ℤ pos m *ℤ pos s) ≤ℤ hi) → (lo ≤ℤ (start +ℤ pos k *ℤ pos s)) × ((start +ℤ pos k *ℤ pos s) ≤ℤ hi)
between_up lo hi start s k m le low high =
    let p : k * s ≤ m * s = mul-le k s m s le (omega arith) in
    let first = rw (pos-*ℤ-pos 0 s) at low in
    let last = rw (pos-*ℤ-pos m s) at high in
    rw (pos-*ℤ-pos k s) (omega (arith, ints), omega (arith, ints))

between : (lo hi start step : ℤ) (k m : ℕ) → k ≤ m → (lo ≤ℤ (start +ℤ pos 0 *ℤ step)) × ((start +ℤ pos 0 *ℤ step) ≤ℤ hi) → (lo ≤ℤ (start +ℤ pos m *ℤ step)) × ((start +ℤ pos m *ℤ step) ≤ℤ hi)
    → (lo ≤ℤ (start +ℤ pos k *ℤ step)) × ((start +ℤ pos k *ℤ step) ≤ℤ hi)
between lo hi start (pos s) k m le first last = between_up lo hi start s k m le first.0 last.1
between lo hi start (negsuc s) k m le first last =
    let p : k * suc s ≤ m * suc s = mul-le k (suc s) m (suc s) le (omega arith) in
    let a = first.1 in
    let b = last.0 in
    (omega (arith, ints), omega (arith, ints))

number_fits : (t : Dtype) (start step : ℤ) (n k : ℕ) → holds_ends t start step n ≡ true → k < n → InRange t (start +ℤ pos k *ℤ step)
unfolding holds_ends
number_fits t start step n k h l =
    let some : (n == 0) ≡ false = ne_eqb n 0 (λ none. let never : ⊥ = omega arith in never) in
    let ends : (in_range t (arange_element start step 0) && in_range t (arange_element start step (n - 1))) ≡ true = rw some at h in
    let both = and_parts (in_range t (arange_element start step 0)) (in_range t (arange_element start step (n - 1))) ends in
    between (least t) (greatest t) start step k (n - 1) (omega arith) (in_range_true t (arange_element start step 0) both.0) (in_range_true t (arange_element start step (n - 1)) both.1)

inside_one : (n : ℕ) (idx : List ℕ) → is_inside (n ∷ []) idx ≡ true → slice_index idx 0 < n
inside_one n [] h = cc
inside_one n (k ∷ ks) h = let both = and_parts _ _ h in ltb-true k n both.0

numbers_given : (start step : ℤ) (n : ℕ) (t : Dtype) (chunk : List ℕ) (i : NodeInfo) → typed_numbers start step n t chunk ≡ Ok i → (holds_ends t start step n ≡ true) × (i ≡ info_of t (n ∷ []) chunk)
numbers_given start step n t chunk i h =
    let whole : Bool = not (int_eq step (pos 0)) in
    let b = check_step_ok (holds_ends t start step n) (fault Scalar) (λ _. check whole (fault Index) >>= λ _. check (length chunk == 1) (fault Shape) >>= λ _. limited t (n ∷ []) chunk) i h in
    let c = check_step_ok whole (fault Index) (λ _. check (length chunk == 1) (fault Shape) >>= λ _. limited t (n ∷ []) chunk) i b.1 in
    let d = check_step_ok (length chunk == 1) (fault Shape) (λ _. limited t (n ∷ []) chunk) i c.1 in
    (b.0, given true t (n ∷ []) chunk i d.1)

pub arange_fits : (start stop step : ℤ) (t : Dtype) (chunk : List ℕ) (i : NodeInfo) → typed_arange start stop step t chunk ≡ Ok i → (idx : List ℕ) → is_inside i.dims idx ≡ true → InRange i.dtype (view.arange_at start step idx)
arange_fits start stop step t chunk i h idx inside =
    let n = arange_count start stop step in
    let a = check_step_ok (is_integer t) (fault Kind) (λ _. typed_numbers start step n t chunk) i h in
    let g = numbers_given start step n t chunk i a.1 in
    let dims : i.dims ≡ n ∷ [] = ap (λ (x : NodeInfo). x.dims) g.1 in
    let own : i.dtype ≡ t = ap (λ (x : NodeInfo). x.dtype) g.1 in
    rw own (number_fits t start step n (slice_index idx 0) g.0 (inside_one n idx (rw dims at inside)))

-- ---- the indices of a reduction

box_within : (f : ℕ → ℕ) (ns : List ℕ) (first : ℕ) → ((k : ℕ) → k < length ns → f (first + k) ≤ max 1 (get_or ns k 0)) → product (map f (range_with_len first (length ns))) ≤ product (at_least_one ns)
box_within f [] first h = omega arith
box_within f (n ∷ ns) first h =
    let own : f first ≤ max 1 n = let w = h 0 (omega arith) in let e : first + 0 ≡ first = omega arith in rw e at w in
    let rest = box_within f ns (first + 1) (λ k l. let w = h (suc k) (omega arith) in let e : first + suc k ≡ first + 1 + k = omega arith in rw e at w) in
    mul-le (f first) (product (map f (range_with_len (first + 1) (length ns)))) (max 1 n) (product (at_least_one ns)) own rest

size_or_one : (b : Bool) (n : ℕ) → (if b then n else 1) ≤ max 1 n
size_or_one true n = omega arith
size_or_one false n = omega arith

pub reduced_within : (axes : Option (List ℤ)) (shape : List ℕ) → product (reduced_box axes shape) ≤ product (at_least_one shape)
reduced_within axes shape = box_within (λ d. if is_named (length shape) axes d then slice_index shape d else 1) shape 0 (λ k l. let e : 0 + k ≡ k = omega arith in rw e (size_or_one (is_named (length shape) axes k) (slice_index shape k)))

pub place_type : (axis : Option ℤ) (keepdims : Bool) (a i : NodeInfo) → typed_arg_place axis keepdims a ≡ Ok i → i.dtype ≡ Int64
place_type axis keepdims a i h =
    let p = reduction_passed (place_rule a.dtype) (option_map (λ d. d ∷ []) axis) keepdims a i h in
    ap (λ (x : NodeInfo). x.dtype) p.1.array

-- Arrays of sums keep the limits of an array inside a plan, and have few chunks.
use Rattle.std.proofs.Common.{◌≡◌, ℕ, suc, ◌+◌, ◌*◌, ◌<◌, ◌≤◌, ◌^◌, Bool, true, false, if◌then◌else◌, List, [], ◌∷◌, length, get_or, drop, All, max, Some, refl, ap, sym, arith}
use Rattle.std.specs.Int.{div_ceil}
use Rattle.std.proofs.lemmas.Nat.{mul-le}
use Rattle.std.proofs.lemmas.List.{drop_more}
use Rattle.std.proofs.lemmas.Nat.Bits.{bit_at-pow_same}
use Rattle.cu_num.specs.Dtype.{size_of}
use Rattle.cu_shape.specs.Counts.{counts_of}
use Rattle.cu_shape.specs.Index.{product}
use Rattle.cu_shape.proofs.Axes.{length-axis_by_axis}
use Rattle.cu_shape.proofs.Products.{size_within}
use Rattle.cu_shape.proofs.Rounded.{counts_below}
use Rattle.cu_origin.specs.Pull.{has_axis}
use Rattle.cu_origin.specs.declared.axes.Axes.{Axes}
use Rattle.cu_node.specs.declared.info.NodeInfo.{NodeInfo}
use Rattle.cu_tree.specs.Marks.{sought_axes}
use Rattle.cu_tree.specs.Partials.{partial_chunk_from, merged, IsMiddle}
use Rattle.cu_tree.specs.Sums.{sums_array, sums_count, IsSummed, AreSumRounds}
use Rattle.cu_tree.specs.declared.round.Round.{Round}
use Rattle.cu_tree.proofs.Middles.{of_first, of_merged}
use Rattle.cu_tree.proofs.Sizes.{size_at, length-dims}

-- ---- the first

-- its chunks have no more elements than those of the array
chunk_within : (axes : Axes) (first : ℕ) (cs : List ℕ) → All (λ c. 0 < c) cs → product (partial_chunk_from axes first cs) ≤ product cs
chunk_within axes first [] h = omega arith
chunk_within axes first (c ∷ cs) h =
    mul-le (if has_axis axes first then 1 else c) (product (partial_chunk_from axes (first + 1) cs)) c (product cs) (by_axis (has_axis axes first) (h 0 0 (omega arith)))
    (chunk_within axes (first + 1) cs (λ k d l. h (suc k) d (omega arith)))
  where
    by_axis : (b : Bool) → 0 < c → (if b then 1 else c) ≤ c
    by_axis true p = p
    by_axis false p = omega arith

pub first_bytes : (made source : NodeInfo) (axis : ℕ) → IsSummed made source axis → product (sums_array made source axis).chunk * size_of made.dtype ≤ 2 ^ 28
first_bytes made source axis h =
    let w = chunk_within (sought_axes (Some axis)) 0 source.chunk h.source_info.positive in
    let e : product made.chunk ≡ product source.chunk = ap product h.chunk in
    let m : product (partial_chunk_from (sought_axes (Some axis)) 0 source.chunk) * size_of made.dtype ≤ product made.chunk * size_of made.dtype = mul-le (product (partial_chunk_from (sought_axes (Some axis)) 0 source.chunk)) (size_of made.dtype) (product made.chunk) (size_of made.dtype) (omega arith) (omega arith) in
    let b = h.made_info.bytes in
    omega arith

pub of_sums : (made source : NodeInfo) (axis : ℕ) → IsSummed made source axis → IsMiddle (sums_array made source axis)
of_sums made source axis h = of_first made.dtype (sought_axes (Some axis)) source h.source_info (first_bytes made source axis h)

pub axis_below : (made source : NodeInfo) (axis : ℕ) → IsSummed made source axis → axis < length (sums_array made source axis).dims
axis_below made source axis h =
    let l = length-dims (has_axis (sought_axes (Some axis))) 0 source.dims source.chunk h.source_info.ranks in
    let a = h.along in
    omega arith

pub count_is : (made source : NodeInfo) (axis : ℕ) → IsSummed made source axis → sums_count made source axis ≡ max 1 (get_or (counts_of source.dims source.chunk) axis 0)
count_is made source axis h =
    size_at (sought_axes (Some axis)) 0 source.dims source.chunk axis h.source_info.ranks h.along (let z : 0 + axis ≡ axis = omega arith in rw (z, bit_at-pow_same axis) refl)

pub few_sums : (made source : NodeInfo) (axis : ℕ) → IsSummed made source axis → sums_count made source axis ≤ 65536
few_sums made source axis h =
    let c = count_is made source axis h in
    let l = length-axis_by_axis div_ceil source.dims source.chunk (sym h.source_info.ranks) in
    let a = h.along in
    let w = size_within (counts_of source.dims source.chunk) axis (omega arith) in
    let f = h.source_info.chunks in
    omega arith

-- ---- after a round

pub lessened : (g axis : ℕ) (sums : NodeInfo) (r : Round) (rs : List Round) → 2 ≤ g → AreSumRounds g axis sums.dims (r ∷ rs) → r.to ≤ get_or sums.dims r.axis 0
lessened g axis sums r rs h rule =
    let w = rule.0 in
    let t = w.to in
    let f = w.from in
    let a = w.axis in
    let b = counts_below r.from g (omega arith) in
    rw a (omega arith)

pub sums_within : (g axis : ℕ) (sums : NodeInfo) (r : Round) (rs : List Round) → AreSumRounds g axis sums.dims (r ∷ rs) → r.axis < length sums.dims
sums_within g axis sums r rs rule = let w = rule.0 in let a = w.axis in let i = w.inside in omega arith

pub next_sums : (g axis : ℕ) (sums : NodeInfo) (r : Round) (rs : List Round) → 2 ≤ g → AreSumRounds g axis sums.dims (r ∷ rs) → IsMiddle sums → IsMiddle (merged r sums)
next_sums g axis sums r rs h rule m = of_merged r sums (sums_within g axis sums r rs rule) (lessened g axis sums r rs h rule) m

-- ---- the loop over them

pub behind : (g axis : ℕ) (sums : NodeInfo) (rounds : List Round) (k : ℕ) (d : Round) → k < length rounds → AreSumRounds g axis sums.dims (drop k rounds)
    → AreSumRounds g axis sums.dims (get_or rounds k d ∷ drop (k + 1) rounds)
behind g axis sums rounds k d h rule = rw (drop_more rounds k d h) at rule

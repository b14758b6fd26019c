-- Arrays of partial results keep the limits of an array inside a plan.
use Rattle.std.proofs.Common.{◌≡◌, ℕ, zero, suc, ◌-◌, ◌*◌, ◌<◌, ◌≤◌, ◌^◌, List, [], ◌∷◌, length, get_or, set, All, max, arith, inl, inr}
use Rattle.std.specs.Int.{div_ceil}
use Rattle.std.proofs.lemmas.Nat.{mul-le}
use Rattle.std.proofs.lemmas.List.{length-append, get_or-set_same, get_or-set_other}
use Rattle.std.proofs.Math.ListN.{length-set}
use Rattle.std.proofs.lemmas.List.Elements.{All-append, All-get_or}
use Rattle.std.proofs.lemmas.Bool.Decides.{eqb_tells}
use Rattle.cu_num.specs.Dtype.{size_of}
use Rattle.cu_num.specs.declared.types.Dtype.{Dtype}
use Rattle.cu_shape.specs.Counts.{counts_of, at_least_one}
use Rattle.cu_shape.specs.Index.{product}
use Rattle.cu_shape.proofs.Axes.{length-axis_by_axis, get_or-axis_by_axis}
use Rattle.cu_grid.proofs.Covers.{product_most}
use Rattle.cu_origin.specs.Pull.{has_axis}
use Rattle.cu_origin.specs.declared.axes.Axes.{Axes}
use Rattle.cu_node.specs.Info.{IsInfo}
use Rattle.cu_node.specs.declared.info.NodeInfo.{NodeInfo}
use Rattle.cu_tree.specs.Partials.{partial_chunk_from, first_partial, inner_count, product_partial, merged, IsMiddle}
use Rattle.cu_tree.specs.declared.round.Round.{Round}
use Rattle.cu_tree.proofs.Sizes.{size_positive, div_ceil_least, over_one, at_least_one-append, product-append, counts_of-append, length-dims, length-chunk, chunk_positive, dims_within, chunks_same, count_few}

-- a chunk has no more elements than bytes
elements_of : (t : Dtype) (p limit : ℕ) → p * size_of t ≤ limit → p ≤ limit
elements_of t p limit h =
    let s : p * 1 ≤ p * size_of t = mul-le p 1 p (size_of t) (omega arith) (size_positive t) in
    omega arith

pub of_info : (i : NodeInfo) → IsInfo i → IsMiddle i
of_info i h =
    let b = h.bytes in
    let n = h.elements in
    let c = h.chunks in
    let p = elements_of i.dtype (product i.chunk) (2 ^ 28) b in
    record {
      grid = record { ranks = h.ranks; short = h.short; positive = h.positive; elements = omega arith; chunk_elements = omega arith };
      chunks = omega arith;
      bytes = b;
    }

pub of_first : (t : Dtype) (axes : Axes) (i : NodeInfo) → IsInfo i → product (partial_chunk_from axes 0 i.chunk) * size_of t ≤ 2 ^ 28 → IsMiddle (first_partial t axes i)
of_first t axes i h b =
    let r = h.ranks in
    let s = h.short in
    let n = h.elements in
    let l = length-dims (has_axis axes) 0 i.dims i.chunk r in
    let m = length-chunk axes 0 i.chunk in
    let w = dims_within (has_axis axes) 0 i.dims i.chunk r h.positive in
    let p = elements_of t (product (partial_chunk_from axes 0 i.chunk)) (2 ^ 28) b in
    record {
      grid = record { ranks = omega arith; short = omega arith; positive = chunk_positive axes 0 i.chunk h.positive; elements = omega arith; chunk_elements = omega arith };
      chunks = rw (chunks_same axes 0 i.dims i.chunk r) (let c = h.chunks in omega arith);
      bytes = b;
    }

pub of_product : (left made : NodeInfo) → IsInfo left → 1 ≤ length left.dims → IsInfo made → length made.dims < 6 → IsMiddle (product_partial left made)
of_product left made hl rank hm room =
    let few = inner_few left hl rank in
    let r = hm.ranks in
    let d = length-append made.dims (max 1 (inner_count left) ∷ []) in
    let e = length-append made.chunk (1 ∷ []) in
    let p = elements_of made.dtype (product made.chunk) (2 ^ 28) hm.bytes in
    record {
      grid = record {
        ranks = omega arith;
        short = omega arith;
        positive = All-append (λ (c : ℕ). 0 < c) made.chunk (1 ∷ []) hm.positive one;
        elements = rw (at_least_one-append made.dims (max 1 (inner_count left))) (bounded (product (at_least_one made.dims)) (2 ^ 40) (2 ^ 56) hm.elements (omega arith));
        chunk_elements = rw (product-append made.chunk 1) (omega arith);
      };
      chunks = rw (counts_of-append made.dims made.chunk (max 1 (inner_count left)) 1 r, at_least_one-append (counts_of made.dims made.chunk) (div_ceil (max 1 (inner_count left)) 1), over_one (max 1 (inner_count left)))
          (bounded (product (at_least_one (counts_of made.dims made.chunk))) 65536 (2 ^ 32) hm.chunks (omega arith));
      bytes = rw (product-append made.chunk 1) (let b = hm.bytes in let o : product made.chunk * 1 ≡ product made.chunk = omega arith in rw o b);
    }
  where
    inner_few : (left : NodeInfo) → IsInfo left → 1 ≤ length left.dims → inner_count left ≤ 65536
    inner_few left i h = let r = i.ranks in let w = count_few left (length left.dims - 1) i (omega arith) in rw r w

    one : All (λ (c : ℕ). 0 < c) (1 ∷ [])
    one zero d l = omega arith
    one (suc k) d l = absurd (omega arith)

    bounded : (n limit most : ℕ) → n ≤ limit → limit * 65536 ≤ most → n * max 1 (max 1 (inner_count left)) ≤ most
    bounded n limit most h k =
        let few = inner_few left hl rank in
        let m : n * max 1 (max 1 (inner_count left)) ≤ limit * 65536 = mul-le n (max 1 (max 1 (inner_count left))) limit 65536 h (omega arith) in
        omega arith

-- ---- after a round

set_within : (ns : List ℕ) (axis to : ℕ) → axis < length ns → to ≤ get_or ns axis 0 → (k : ℕ) → k < length (set ns axis to) → get_or (set ns axis to) k 0 ≤ get_or ns k 0
set_within ns axis to h le k b =
    elim (eqb_tells k axis) [
      | inl p ↦ let e = p.1 in rw (e, get_or-set_same ns axis to 0 h) le
      | inr p ↦ rw (get_or-set_other ns axis k to 0 p.1) (omega arith)
    ]

-- it has no more chunks than before
pub merged_chunks : (r : Round) (i : NodeInfo) → r.axis < length i.dims → r.to ≤ get_or i.dims r.axis 0 → IsMiddle i
    → product (at_least_one (counts_of (merged r i).dims (merged r i).chunk)) ≤ product (at_least_one (counts_of i.dims i.chunk))
merged_chunks r i inside le h =
    let g = h.grid in
    let ranks = g.ranks in
    let l = length-set i.dims r.axis r.to in
    let a = length-axis_by_axis div_ceil (set i.dims r.axis r.to) i.chunk (omega arith) in
    let b = length-axis_by_axis div_ceil i.dims i.chunk (omega arith) in
    product_most (counts_of (set i.dims r.axis r.to) i.chunk) (counts_of i.dims i.chunk) (omega arith) (λ k m. fewer k (omega arith))
  where
    fewer : (k : ℕ) → k < length i.dims → get_or (counts_of (set i.dims r.axis r.to) i.chunk) k 0 ≤ get_or (counts_of i.dims i.chunk) k 0
    fewer k m =
        let ranks = h.grid.ranks in
        let l = length-set i.dims r.axis r.to in
        rw (get_or-axis_by_axis div_ceil (set i.dims r.axis r.to) i.chunk k (omega arith) (omega arith), get_or-axis_by_axis div_ceil i.dims i.chunk k m (omega arith))
        (div_ceil_least (get_or (set i.dims r.axis r.to) k 0) (get_or i.dims k 0) (get_or i.chunk k 0) (All-get_or (λ (n : ℕ). 0 < n) i.chunk k 0 (omega arith) h.grid.positive)
        (set_within i.dims r.axis r.to inside le k (omega arith)))

pub of_merged : (r : Round) (i : NodeInfo) → r.axis < length i.dims → r.to ≤ get_or i.dims r.axis 0 → IsMiddle i → IsMiddle (merged r i)
of_merged r i inside le h =
    let g = h.grid in
    let ranks = g.ranks in
    let l = length-set i.dims r.axis r.to in
    let w = product_most (set i.dims r.axis r.to) i.dims l (set_within i.dims r.axis r.to inside le) in
    let n = g.elements in
    let c = h.chunks in
    let s = g.short in
    let v = merged_chunks r i inside le h in
    record {
      grid = record { ranks = omega arith; short = omega arith; positive = g.positive; elements = omega arith; chunk_elements = g.chunk_elements };
      chunks = omega arith;
      bytes = h.bytes;
    }

-- Limits that are exceeded or kept.
use Rattle.std.proofs.Common.{◌≡◌, ℕ, ◌<◌, ◌≤◌, ◌^◌, List, length, get_or, true, ℤ, Err, refl, inl, inr, arith}
use Rattle.std.proofs.lemmas.Bool.{lt-leb, cases_lt}
use Rattle.std.proofs.Math.ListN.{get_or-eq_default}
use Rattle.cu_num.specs.declared.types.Dtype.{Dtype}
use Rattle.cu_shape.specs.Index.{product}
use Rattle.cu_shape.proofs.Products.{size_within, product_within}
use Rattle.cu_node.specs.Info.{IsInfo}
use Rattle.cu_node.specs.Limited.{limit, limited}
use Rattle.cu_typing_view.specs.Reshaped.{can_hold, reshaped_sizes, chunk_of, typed_reshape}
use Rattle.cu_typing_view.proofs.PositiveSizes.{length-filled}
use Rattle.cu_node.specs.declared.info.NodeInfo.{NodeInfo}

-- more axes than an array has
pub rank_limit : (t : Dtype) (shape chunk : List ℕ) → 6 < length shape → limited t shape chunk ≡ Err (limit 1)
rank_limit t shape chunk more = rw (lt-leb (length shape) 6 more) refl

-- a size of an array that keeps the limits, and 0 on an axis that it lacks
pub size_small : (i : NodeInfo) (k : ℕ) → IsInfo i → get_or i.dims k 0 ≤ 2 ^ 40
size_small i k h =
    let e = h.elements in
    elim (cases_lt k (length i.dims)) [
      | inl here ↦ let w = size_within i.dims k here in omega arith
      | inr past ↦ rw (get_or-eq_default i.dims 0 past) (omega arith)
    ]

pub elements_small : (i : NodeInfo) → IsInfo i → product i.dims ≤ 2 ^ 40
elements_small i h = let w = product_within i.dims in let e = h.elements in omega arith

-- a shape of more axes than an array has, that holds the elements
pub reshape_limit : (a : NodeInfo) (shape : List ℤ) → can_hold (product a.dims) shape ≡ true → 6 < length shape → typed_reshape a shape ≡ Err (limit 1)
reshape_limit a shape holds more =
    let sizes = reshaped_sizes (product a.dims) shape in
    let long : length sizes ≡ length shape = length-filled _ shape in
    rw holds (rank_limit a.dtype sizes (chunk_of (product a.chunk) sizes) (omega arith))

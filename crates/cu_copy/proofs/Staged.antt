-- A copy has stages exactly where its need is within what is allowed.
use Rattle.std.proofs.Common.{◌<◌, ◌≤◌, ◌+◌, ◌-◌, ◌*◌, ◌/◌, ◌↔◌, ℕ, arith}
use Rattle.std.proofs.lemmas.Nat.{mul-le}
use Rattle.cu_num.specs.Dtype.{size_of}
use Rattle.cu_num.specs.declared.types.Dtype.{Dtype}
use Rattle.cu_num.specs.declared.types.Dtype.TheVariants.{Bool, Int8, Int16, Int32, Int64, Uint8, Uint16, Uint32, Uint64}
use Rattle.cu_shape.specs.Index.{product}
use Rattle.cu_shape.proofs.Places.{product_positive}
use Rattle.cu_rechunk.specs.Tiles.{Tiles}
use Rattle.cu_rechunk.proofs.Copies.{planned, room_of, tiles_of}
use Rattle.cu_copy.specs.Copies.{IsRechunk, greater_chunk, max_mem, rechunk_need, staging}
use Rattle.cu_copy.specs.declared.copies.Rechunk.{Rechunk}
use Rattle.cu_node.specs.Info.{chunk_bytes}

size_positive : (t : Dtype) → 0 < size_of t
size_positive Bool = omega arith
size_positive Int8 = omega arith
size_positive Int16 = omega arith
size_positive Int32 = omega arith
size_positive Int64 = omega arith
size_positive Uint8 = omega arith
size_positive Uint16 = omega arith
size_positive Uint32 = omega arith
size_positive Uint64 = omega arith

product_of_two : (a b : ℕ) → 0 < a → 0 < b → 0 < a * b
product_of_two a b p q = let h : 1 * 1 ≤ a * b = mul-le 1 1 a b (omega arith) (omega arith) in omega (arith, h)

some_bytes : (r : Rechunk) → IsRechunk r → 0 < greater_chunk r
some_bytes r is =
    let p = product_of_two (product r.source.chunk) (size_of r.source.dtype) (product_positive r.source.chunk is.source.positive) (size_positive r.source.dtype) in
    let q : chunk_bytes r.source ≤ greater_chunk r = omega arith in
    omega (arith, p, q)

halved : (allowed reserved g : ℕ) → 0 < g → (g ≤ (allowed - reserved) / 2) ↔ (reserved + 2 * g ≤ allowed)
halved allowed reserved g some = ((λ h. omega (arith, h)), (λ h. omega (arith, h)))

pub staged_exactly : (allowed reserved : ℕ) (r : Rechunk) → IsRechunk r → (greater_chunk r ≤ max_mem allowed reserved) ↔ (rechunk_need reserved r ≤ allowed)
staged_exactly allowed reserved r is = halved allowed reserved (greater_chunk r) (some_bytes r is)

-- the stages of a rechunk whose chunks fit tile
pub staged_tiles : (most : ℕ) (r : Rechunk) → IsRechunk r → greater_chunk r ≤ most
    → Tiles r.source.dims r.chunk (size_of r.source.dtype) most (staging most r)
staged_tiles most r is fits =
    let item = size_of r.source.dtype in
    let some = size_positive r.source.dtype in
    let source : product r.source.chunk * item ≤ greater_chunk r = omega arith in
    let target : product r.chunk * item ≤ greater_chunk r = omega arith in
    tiles_of r.source.dims r.source.chunk r.chunk item most is.ranks
    (planned r.source.dims r.source.chunk r.chunk (most / item) is.source.ranks is.ranks is.source.positive is.positive
    (room_of (product r.source.chunk) item most some (omega (arith, source, fits))) (room_of (product r.chunk) item most some (omega (arith, target, fits))))

-- How many bytes chunks have at most.
use Rattle.cu_num.specs.Dtype.{size_of}
use Rattle.cu_num.specs.declared.types.Dtype.{Dtype}
use Rattle.cu_op.specs.Arrays.{grid_at, no_array, type_at, chunk_room}
use Rattle.cu_op.specs.Layout.{IsArray}
use Rattle.cu_op.specs.declared.layout.ArrayInfo.{ArrayInfo}
use Rattle.cu_shape.specs.Counts.{largest}
use Rattle.cu_shape.specs.Index.{product}
use Rattle.std.proofs.Common.{◌≡◌, ℕ, zero, suc, ◌+◌, ◌<◌, List, [], ◌∷◌, length, map, All, arith, ◌≤◌, ◌*◌, ◌^◌}
use Rattle.std.proofs.Math.Nat.{mul-le-mul_right, mul-le-mul_left}
use Rattle.std.proofs.lemmas.List.Elements.{All-head, All-tail}
use Rattle.cu_num.specs.declared.types.Dtype.TheVariants as types

-- a chunk of an array has at most 2^43 bytes
pub size_few : (t : Dtype) → size_of t ≤ 8
size_few types.Bool = omega arith
size_few types.Int8 = omega arith
size_few types.Int16 = omega arith
size_few types.Int32 = omega arith
size_few types.Int64 = omega arith
size_few types.Uint8 = omega arith
size_few types.Uint16 = omega arith
size_few types.Uint32 = omega arith
size_few types.Uint64 = omega arith

pub times_few : (n s : ℕ) → n ≤ 2 ^ 40 → s ≤ 8 → n * s ≤ 2 ^ 43
times_few n s h k = let w : n * s ≤ n * 8 = mul-le-mul_left n k in omega arith

pub room_few : (arrays : List ArrayInfo) (a : ℕ) → All IsArray arrays → a < length arrays → chunk_room arrays a ≤ 2 ^ 43
room_few arrays a ok h = times_few (product (grid_at arrays a).chunk) (size_of (type_at arrays a)) (ok a no_array h).grid.chunk_elements (size_few (type_at arrays a))

-- past the end stands an array of one element
chunk_few : (arrays : List ArrayInfo) (a : ℕ) → All IsArray arrays → product (grid_at arrays a).chunk ≤ 2 ^ 40
chunk_few [] a ok = omega arith
chunk_few (x ∷ xs) zero ok = (ok 0 no_array (omega arith)).grid.chunk_elements
chunk_few (x ∷ xs) (suc a) ok = chunk_few xs a (All-tail IsArray x xs ok)

pub any_room_few : (arrays : List ArrayInfo) (a t : ℕ) → All IsArray arrays → product (grid_at arrays a).chunk * size_of (type_at arrays t) ≤ 2 ^ 43
any_room_few arrays a t ok = times_few (product (grid_at arrays a).chunk) (size_of (type_at arrays t)) (chunk_few arrays a ok) (size_few (type_at arrays t))

pub greatest_few : (f : ℕ → ℕ) (m : ℕ) (xs : List ℕ) → All (λ x. f x ≤ m) xs → largest (map f xs) ≤ m
greatest_few f m [] h = omega arith
greatest_few f m (x ∷ xs) h =
    let first = All-head (λ y. f y ≤ m) x xs h in
    let rest = greatest_few f m xs (All-tail (λ y. f y ≤ m) x xs h) in
    omega (arith, first, rest)

pub group_few : (group room : ℕ) → group ≤ 65536 → room ≤ 2 ^ 44 → group * room ≤ 2 ^ 60
group_few group room g r =
    let a : group * room ≤ group * 2 ^ 44 = mul-le-mul_left group r in
    let b : group * 2 ^ 44 ≤ 65536 * 2 ^ 44 = mul-le-mul_right (2 ^ 44) g in
    omega (arith, a, b)

-- and one more of them
pub next_few : (group room : ℕ) → group ≤ 65536 → room ≤ 2 ^ 43 → (group + 1) * room ≤ 2 ^ 60
next_few group room g r =
    let a : group * room ≤ group * 2 ^ 43 = mul-le-mul_left group r in
    let b : group * 2 ^ 43 ≤ 65536 * 2 ^ 43 = mul-le-mul_right (2 ^ 43) g in
    let e : (group + 1) * room ≡ group * room + room = omega arith in
    omega (arith, a, b, e)

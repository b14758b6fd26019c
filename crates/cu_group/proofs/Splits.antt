-- The place of an index by the axes before an axis, the axis, and those behind it.
use Rattle.std.proofs.Common.{◌≡◌, ℕ, zero, suc, ◌+◌, ◌*◌, ◌<◌, List, [], ◌∷◌, length, take, drop, ap, ◌∙◌, arith}
use Rattle.std.specs.Prelude.{slice_index, slice_set}
use Rattle.cu_shape.proofs.Places.{inside-length}
use Rattle.cu_shape.specs.Index.{product, place_of, IsInside}
use Rattle.cu_pairs.proofs.WholeGroups.{product_split as product_whole}

pub product_split : (axis g : ℕ) (ns : List ℕ) → axis < length ns
    → product (slice_set ns axis g) ≡ product (take axis ns) * g * product (drop (suc axis) ns)
product_split axis g [] h = absurd (omega arith)
product_split zero g (n ∷ ns) h = let e : g * product ns ≡ 1 * g * product ns = omega arith in e
product_split (suc axis) g (n ∷ ns) h =
    ap (λ p. n * p) (product_split axis g ns (omega arith))
    ∙ (let e : n * (product (take axis ns) * g * product (drop (suc axis) ns))
    ≡ n * product (take axis ns) * g * product (drop (suc axis) ns) = omega arith in e)

pub place_split : (axis g : ℕ) (ns is : List ℕ) → axis < length ns → length is ≡ length ns
    → place_of (slice_set ns axis g) is
    ≡ (place_of (take axis ns) (take axis is) * g + slice_index is axis) * product (drop
    (suc axis) ns) + place_of (drop (suc axis) ns) (drop (suc axis) is)
place_split axis g [] is h e = absurd (omega arith)
place_split axis g (n ∷ ns) [] h e = absurd (omega arith)
place_split zero g (n ∷ ns) (i ∷ is) h e =
    let s : i * product ns + place_of ns is
    ≡ (0 * g + i) * product ns + place_of ns is = omega arith in s
place_split (suc axis) g (n ∷ ns) (i ∷ is) h e =
    let before = product (take axis ns) in
    let behind = product (drop (suc axis) ns) in
    let place = place_of (take axis ns) (take axis is) in
    let q = slice_index is axis in
    let rest = place_of (drop (suc axis) ns) (drop (suc axis) is) in
    let s : i * (before * g * behind) + ((place * g + q) * behind + rest)
    ≡ ((i * before + place) * g + q) * behind + rest = omega arith in
    (λ j. i * product_split axis g ns (omega arith) j + place_split axis g ns is (omega arith)
    (omega arith) j) ∙ s

right_some : (a b : ℕ) → 0 < a * b → 0 < b
right_some a zero h = absurd (let e : a * 0 ≡ 0 = omega arith in omega (arith, e, h))
right_some a (suc b) h = omega arith

-- the size behind an axis, of a buffer that isn't empty
pub behind_some : (axis g size long : ℕ) (ns : List ℕ) → axis < length ns
    → long ≡ product (slice_set ns axis g) * size → 0 < long → 0 < product (drop (suc axis) ns)
behind_some axis g size long ns h e s =
    let t = product (take axis ns) in
    let i = product (drop (suc axis) ns) in
    let all : long ≡ t * g * size * i =
    e ∙ ap (λ p. p * size) (product_split axis g ns h)
    ∙ (let f : t * g * i * size ≡ t * g * size * i = omega arith in f) in
    right_some (t * g * size) i (omega (arith, all, s))

pub place_own : (axis k : ℕ) (ns is : List ℕ) → axis < length ns → length is ≡ length ns
    → place_of ns (slice_set is axis k)
    ≡ (place_of (take axis ns) (take axis is) * slice_index ns axis + k) * product (drop
    (suc axis) ns) + place_of (drop (suc axis) ns) (drop (suc axis) is)
place_own axis k [] is h e = absurd (omega arith)
place_own axis k (n ∷ ns) [] h e = absurd (omega arith)
place_own zero k (n ∷ ns) (i ∷ is) h e = let s : k * product ns + place_of ns is
    ≡ (0 * n + k) * product ns + place_of ns is = omega arith in s
place_own (suc axis) k (n ∷ ns) (i ∷ is) h e =
    let before = product (take axis ns) in
    let behind = product (drop (suc axis) ns) in
    let place = place_of (take axis ns) (take axis is) in
    let m = slice_index ns axis in
    let rest = place_of (drop (suc axis) ns) (drop (suc axis) is) in
    let s : i * (before * m * behind) + ((place * m + k) * behind + rest)
    ≡ ((i * before + place) * m + k) * behind + rest = omega arith in
    (λ j. i * product_whole ns axis (omega arith) j + place_own axis k ns is (omega arith)
    (omega arith) j) ∙ s

pub inside_parts : (axis g : ℕ) (ns is : List ℕ) → axis < length ns
    → IsInside (slice_set ns axis g) is
    → (length is ≡ length ns) × IsInside (take axis ns) (take axis is)
    × (slice_index is axis < g) × IsInside (drop (suc axis) ns) (drop (suc axis) is)
inside_parts axis g [] is h b = absurd (omega arith)
inside_parts zero g (n ∷ ns) [] h b = absurd b
inside_parts (suc axis) g (n ∷ ns) [] h b = absurd b
inside_parts zero g (n ∷ ns) (i ∷ is) h b = (ap suc (inside-length ns is b.1), tt, b.0, b.1)
inside_parts (suc axis) g (n ∷ ns) (i ∷ is) h b =
    let rest = inside_parts axis g ns is (omega arith) b.1 in
    (ap suc rest.0, (b.0, rest.1), rest.2, rest.3)

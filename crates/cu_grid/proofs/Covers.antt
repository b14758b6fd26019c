-- Boxes of chunks: how many chunks a region meets on each axis.
use Rattle.std.proofs.Common.{◌≡◌, ◌<◌, ◌≤◌, ◌⊎◌, ℕ, zero, suc, ◌+◌, ◌-◌, ◌^◌, ◌/◌, Bool, true, false, nat_lt, List, [], ◌∷◌, length, max, get_or, refl, ap, ◌∙◌, sym, arith, inl, inr}
use Rattle.std.specs.Int.{div_ceil}
use Rattle.std.proofs.Math.Nat.{div-le_self}
use Rattle.std.proofs.lemmas.Bool.{ltb-true, ltb-false}
use Rattle.std.proofs.lemmas.Nat.{mul-le}
use Rattle.std.proofs.lemmas.List.{ext_get_or, get_or_past}
use Rattle.std.proofs.lemmas.List.Elements.{All-get_or}
use Rattle.cu_shape.specs.Index.{product, index_at, quotients, sums}
use Rattle.cu_shape.proofs.Axes.{length-axis_by_axis, get_or-axis_by_axis}
use Rattle.cu_grid.specs.Counts.{at_least_one, IsRegion}
use Rattle.cu_grid.specs.Cover.{span_on, spans_of, coordinates_from, IsWalk}
use Rattle.cu_grid.specs.Grid.{IsGrid}
use Rattle.cu_shape.proofs.Rounded.{counts_below}
use Rattle.cu_shape.proofs.Products.{size_within, product_within}

-- an interval that is empty meets no chunk
pub span_cases : (l h c : ℕ) → ((l < h) × (span_on l h c ≡ div_ceil h c - l / c)) ⊎ ((h ≤ l) × (span_on l h c ≡ 0))
span_cases l h c = by_test (nat_lt l h) refl
  where
    by_test : (b : Bool) → nat_lt l h ≡ b → ((l < h) × (span_on l h c ≡ div_ceil h c - l / c)) ⊎ ((h ≤ l) × (span_on l h c ≡ 0))
    by_test true e = inl (ltb-true l h e, rw e refl)
    by_test false e = inr (ltb-false l h e, rw e refl)

pub span_below : (n l h c : ℕ) → 0 < c → h ≤ n → span_on l h c ≤ n
span_below n l h c p q =
    let b = counts_below h c p in
    elim (span_cases l h c) [ inl s ↦ (let e = s.1 in omega arith) | inr s ↦ (let e = s.1 in omega arith) ]

pub length-spans_of : (lo hi chunk : List ℕ) → length lo ≡ length chunk → length hi ≡ length chunk → length (spans_of lo hi chunk) ≡ length chunk
length-spans_of [] hi [] p q = refl
length-spans_of [] hi (c ∷ cs) p q = absurd (omega arith)
length-spans_of (l ∷ ls) hi [] p q = absurd (omega arith)
length-spans_of (l ∷ ls) [] (c ∷ cs) p q = absurd (omega arith)
length-spans_of (l ∷ ls) (h ∷ hs) (c ∷ cs) p q = ap suc (length-spans_of ls hs cs (omega arith) (omega arith))

pub get_or-spans_of : (lo hi chunk : List ℕ) (k : ℕ) → length lo ≡ length chunk → length hi ≡ length chunk → k < length chunk → get_or (spans_of lo hi chunk) k 0 ≡ span_on (get_or lo k 0) (get_or hi k 0) (get_or chunk k 0)
get_or-spans_of [] hi [] k p q b = absurd (omega arith)
get_or-spans_of [] hi (c ∷ cs) k p q b = absurd (omega arith)
get_or-spans_of (l ∷ ls) hi [] k p q b = absurd (omega arith)
get_or-spans_of (l ∷ ls) [] (c ∷ cs) k p q b = absurd (omega arith)
get_or-spans_of (l ∷ ls) (h ∷ hs) (c ∷ cs) zero p q b = refl
get_or-spans_of (l ∷ ls) (h ∷ hs) (c ∷ cs) (suc k) p q b = get_or-spans_of ls hs cs k (omega arith) (omega arith) (omega arith)

pub spans_from : (r lo hi chunk : List ℕ) → length r ≡ length chunk → length lo ≡ length chunk → length hi ≡ length chunk → ((k : ℕ) → k < length chunk → get_or r k 0 ≡ span_on (get_or lo k 0) (get_or hi k 0) (get_or chunk k 0)) → r ≡ spans_of lo hi chunk
spans_from r lo hi chunk e p q h =
    let l = length-spans_of lo hi chunk p q in
    ext_get_or 0 r (spans_of lo hi chunk) (e ∙ sym l) (λ k b. h k (omega arith) ∙ sym (get_or-spans_of lo hi chunk k p q (omega arith)))

-- a region read at an axis
pub record Bounds (shape lo hi : List ℕ) : Type 0 where
  pub lo_rank : length lo ≡ length shape
  pub hi_rank : length hi ≡ length shape
  pub at : (k : ℕ) → k < length shape → (get_or lo k 0 ≤ get_or hi k 0) × (get_or hi k 0 ≤ get_or shape k 0)

bounds_more : (ns ls hs : List ℕ) (n l h : ℕ) → l ≤ h → h ≤ n → Bounds ns ls hs → Bounds (n ∷ ns) (l ∷ ls) (h ∷ hs)
bounds_more ns ls hs n l h p q b = record {
  lo_rank = ap suc b.lo_rank;
  hi_rank = ap suc b.hi_rank;
  at = at;
}
  where
    at : (k : ℕ) → k < length (n ∷ ns) → (get_or (l ∷ ls) k 0 ≤ get_or (h ∷ hs) k 0) × (get_or (h ∷ hs) k 0 ≤ get_or (n ∷ ns) k 0)
    at zero m = (p, q)
    at (suc k) m = b.at k (omega arith)

pub bounds_of : (shape lo hi : List ℕ) → IsRegion shape lo hi → Bounds shape lo hi
bounds_of [] [] [] r = record { lo_rank = refl; hi_rank = refl; at = λ k b. absurd (omega arith) }
bounds_of [] [] (h ∷ hs) r = absurd r
bounds_of [] (l ∷ ls) hi r = absurd r
bounds_of (n ∷ ns) [] hi r = absurd r
bounds_of (n ∷ ns) (l ∷ ls) [] r = absurd r
bounds_of (n ∷ ns) (l ∷ ls) (h ∷ hs) r = bounds_more ns ls hs n l h r.0 r.1 (bounds_of ns ls hs r.2)

-- sizes that are each at most others have at most their product
pub product_most : (xs ys : List ℕ) → length xs ≡ length ys → ((k : ℕ) → k < length xs → get_or xs k 0 ≤ get_or ys k 0) → product (at_least_one xs) ≤ product (at_least_one ys)
product_most [] [] e h = omega arith
product_most [] (y ∷ ys) e h = absurd (omega arith)
product_most (x ∷ xs) [] e h = absurd (omega arith)
product_most (x ∷ xs) (y ∷ ys) e h =
    mul-le (max 1 x) (product (at_least_one xs)) (max 1 y) (product (at_least_one ys)) (let p = h 0 (omega arith) in omega arith)
    (product_most xs ys (omega arith) (λ k b. h (suc k) (omega arith)))

pub spans_below : (shape chunk lo hi : List ℕ) (k : ℕ) → IsGrid (record { shape = shape; chunk = chunk }) → IsRegion shape lo hi → k < length shape → get_or (spans_of lo hi chunk) k 0 ≤ get_or shape k 0
spans_below shape chunk lo hi k g r l =
    let b = bounds_of shape lo hi r in
    let e = g.ranks in
    let lr = b.lo_rank in
    let hr = b.hi_rank in
    rw (get_or-spans_of lo hi chunk k (omega arith) (omega arith) (omega arith))
    (span_below (get_or shape k 0) (get_or lo k 0) (get_or hi k 0) (get_or chunk k 0) (All-get_or (λ (n : ℕ). 0 < n) chunk k 0 (omega arith) g.positive) (b.at k l).1)

pub spans_within : (shape chunk lo hi : List ℕ) → IsGrid (record { shape = shape; chunk = chunk }) → IsRegion shape lo hi → product (at_least_one (spans_of lo hi chunk)) ≤ 2 ^ 56
spans_within shape chunk lo hi g r =
    let b = bounds_of shape lo hi r in
    let e = g.ranks in
    let lr = b.lo_rank in
    let hr = b.hi_rank in
    let n = length-spans_of lo hi chunk (omega arith) (omega arith) in
    let p = product_most (spans_of lo hi chunk) shape (omega arith) (λ k l. spans_below shape chunk lo hi k g r (omega arith)) in
    let m = g.elements in
    omega arith

corner_small : (shape chunk lo hi : List ℕ) (k : ℕ) → IsGrid (record { shape = shape; chunk = chunk }) → IsRegion shape lo hi → k < length shape → get_or (quotients lo chunk) k 0 + get_or (spans_of lo hi chunk) k 0 < 2 ^ 64
corner_small shape chunk lo hi k g r l =
    let b = bounds_of shape lo hi r in
    let e = g.ranks in
    let lr = b.lo_rank in
    let s = spans_below shape chunk lo hi k g r l in
    let q = get_or-axis_by_axis (λ i c. i / c) lo chunk k (omega arith) (omega arith) in
    let d = div-le_self (get_or lo k 0) (get_or chunk k 0) in
    let a = b.at k l in
    let n = size_within shape k l in
    let m = g.elements in
    rw q (let a0 = a.0 in let a1 = a.1 in omega arith)

-- the walk over the chunks that a region meets
pub walk_of : (shape chunk lo hi : List ℕ) → IsGrid (record { shape = shape; chunk = chunk }) → IsRegion shape lo hi → IsWalk (quotients lo chunk) (spans_of lo hi chunk) 0 (product (spans_of lo hi chunk))
walk_of shape chunk lo hi g r =
    let b = bounds_of shape lo hi r in
    let e = g.ranks in
    let lr = b.lo_rank in
    let hr = b.hi_rank in
    let n = length-spans_of lo hi chunk (omega arith) (omega arith) in
    let m = length-axis_by_axis (λ i c. i / c) lo chunk (omega arith) in
    let w = spans_within shape chunk lo hi g r in
    let p = product_within (spans_of lo hi chunk) in
    record {
      ranks = omega arith;
      rest = omega arith;
      places = omega arith;
      coordinates = λ k. small k (nat_lt k (length shape)) refl;
    }
  where
    small : (k : ℕ) (t : Bool) → nat_lt k (length shape) ≡ t → get_or (quotients lo chunk) k 0 + get_or (spans_of lo hi chunk) k 0 < 2 ^ 64
    small k true t = corner_small shape chunk lo hi k g r (ltb-true k (length shape) t)
    small k false t =
        let b = bounds_of shape lo hi r in
        let e = g.ranks in
        let lr = b.lo_rank in
        let hr = b.hi_rank in
        let past = ltb-false k (length shape) t in
        let n = length-spans_of lo hi chunk (omega arith) (omega arith) in
        let m = length-axis_by_axis (λ i c. i / c) lo chunk (omega arith) in
        rw (get_or_past (quotients lo chunk) k 0 (omega arith), get_or_past (spans_of lo hi chunk) k 0 (omega arith)) (omega arith)

-- the first coordinate that is left, and the others
pub walk_more : (corner spans : List ℕ) (place left : ℕ) → 0 < left → coordinates_from corner spans place left ≡ sums corner (index_at spans place) ∷ coordinates_from corner spans (place + 1) (left - 1)
walk_more corner spans place zero h = absurd (omega arith)
walk_more corner spans place (suc left) h = let e : suc left - 1 ≡ left = omega arith in rw e refl

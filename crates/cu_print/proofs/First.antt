-- The first index of a region that lies in a chunk, and the elements before it.
use Rattle.std.proofs.Common.{◌≡◌, ◌⊎◌, ℕ, suc, ◌+◌, ◌-◌, ◌*◌, ◌/◌, ◌<◌, ◌≤◌, List, [], ◌∷◌, All, max, inl, inr, ap, arith, length}
use Rattle.std.proofs.lemmas.Bool.{cases_lt}
use Rattle.std.proofs.lemmas.Nat.{mul-le, div_below, le-div}
use Rattle.cu_shape.specs.Index.{product, place_of, axis_by_axis, quotients, differences, IsInside}
use Rattle.cu_shape.proofs.Places.{place-below}
use Rattle.cu_grid.specs.Counts.{chunk_lo, chunk_hi, IsWithin}
use Rattle.cu_grid.proofs.Meeting.{within_of}
use Rattle.cu_codec.specs.Parts.{place_within}
use Rattle.cu_codec.proofs.Shared.{within_sizes}

-- the first index that two boxes share, where they share one, lies in both
pub first_within : (a b lo hi idx : List ℕ) → IsWithin a b idx → IsWithin lo hi idx → IsWithin lo hi (axis_by_axis max a lo) × IsWithin a b (axis_by_axis max a lo)
first_within [] [] [] [] [] v w = (tt, tt)
first_within (a ∷ us) (b ∷ vs) (l ∷ ls) (h ∷ hs) (i ∷ is) v w =
    let rest = first_within us vs ls hs is v.2 w.2 in
    let v0 = v.0 in
    let v1 = v.1 in
    let w0 = w.0 in
    let w1 = w.1 in
    ((omega arith, omega arith, rest.0), (omega arith, omega arith, rest.1))
first_within a b lo hi idx v w =
    let p = within_of a b idx v in
    let q = within_of lo hi idx w in
    let p1 = p.lo_rank in
    let p2 = p.hi_rank in
    let q1 = q.lo_rank in
    let q2 = q.hi_rank in
    absurd (omega arith)

tail_positive : (c : ℕ) (cs : List ℕ) → All (λ n. 0 < n) (c ∷ cs) → All (λ n. 0 < n) cs
tail_positive c cs p k d l = p (suc k) d (omega arith)

-- of two numbers with a digit below p behind them, the less has the less front, or the same front and the less digit
less_front : (a b r t p : ℕ) → r < p → t < p → a * p + r < b * p + t → (a < b) ⊎ ((a ≡ b) × (r < t))
less_front a b r t p hr ht h =
    elim (cases_lt a b) [
      | inl l ↦ inl l
      | inr m ↦ elim (cases_lt b a) [
        | inl l ↦ absurd (let q : (b + 1) * p ≤ a * p = mul-le (b + 1) p a p (omega arith) (omega arith) in omega arith)
        | inr n ↦ let e : a ≡ b = omega arith in let q : a * p ≡ b * p = ap (λ x. x * p) e in inr (e, omega arith)
      ]
    ]

front_less : (a b r t p : ℕ) → r < p → a < b → a * p + r < b * p + t
front_less a b r t p hr less = let q : (a + 1) * p ≤ b * p = mul-le (a + 1) p b p (omega arith) (omega arith) in omega arith

-- lists with a number for each axis of an index
pub record Ranks (ns ms cs ls hs qs idx : List ℕ) : Type 0 where
  pub shape : length ns ≡ length idx
  pub counts : length ms ≡ length idx
  pub chunk : length cs ≡ length idx
  pub lo : length ls ≡ length idx
  pub hi : length hs ≡ length idx
  pub coord : length qs ≡ length idx

-- where an index of a region comes before the first one of a chunk, its own chunk comes before that chunk
pub earlier : (shape counts chunk lo hi coord idx : List ℕ) → Ranks shape counts chunk lo hi coord idx → All (λ c. 0 < c) chunk → IsInside counts (quotients idx chunk) → IsWithin lo hi idx
    → IsWithin lo hi (axis_by_axis max (chunk_lo chunk coord) lo) → IsWithin (chunk_lo chunk coord) (chunk_hi shape chunk coord) (axis_by_axis max (chunk_lo chunk coord) lo)
    → place_within lo hi idx < place_within lo hi (axis_by_axis max (chunk_lo chunk coord) lo) → place_of counts (quotients idx chunk) < place_of counts coord
earlier [] [] [] [] [] [] [] ranks p own w first in_chunk less = absurd (omega arith)
earlier (n ∷ ns) (m ∷ ms) (c ∷ cs) (l ∷ ls) (h ∷ hs) (q ∷ qs) (i ∷ is) ranks p own w first in_chunk less =
    let positive : 0 < c = p 0 0 (omega arith) in
    let w0 = w.0 in
    let w1 = w.1 in
    let f1 = in_chunk.1 in
    let below = place-below ms (quotients is cs) own.1 in
    let r = place-below (differences hs ls) (differences is ls) (within_sizes ls hs is w.2) in
    let t = place-below (differences hs ls) (differences (axis_by_axis max (chunk_lo cs qs) ls) ls) (within_sizes ls hs (axis_by_axis max (chunk_lo cs qs) ls) first.2) in
    elim (less_front (i - l) (max (q * c) l - l) (place_within ls hs is) (place_within ls hs (axis_by_axis max (chunk_lo cs qs) ls)) (product (differences hs ls)) r t less) [
      | inl front ↦ front_less (i / c) q (place_of ms (quotients is cs)) (place_of ms qs) (product ms) below (div_below i c q positive (omega arith))
      | inr same ↦
          let e : i ≡ max (q * c) l = let s = same.0 in omega arith in
          let low : q ≤ i / c = le-div q i c positive (omega arith) in
          let high : i / c < q + 1 = div_below i c (q + 1) positive (omega arith) in
          let on : i / c ≡ q = omega arith in
          let r0 = ranks.shape in
          let r1 = ranks.counts in
          let r2 = ranks.chunk in
          let r3 = ranks.lo in
          let r4 = ranks.hi in
          let r5 = ranks.coord in
          let fewer : Ranks ns ms cs ls hs qs is = record { shape = omega arith; counts = omega arith; chunk = omega arith; lo = omega arith; hi = omega arith; coord = omega arith } in
          let rest = earlier ns ms cs ls hs qs is fewer (tail_positive c cs p) own.1 w.2 first.2 in_chunk.2 same.1 in
          let front : i / c * product ms ≡ q * product ms = ap (λ x. x * product ms) on in
          omega arith
    ]
earlier shape counts chunk lo hi coord idx ranks p own w first in_chunk less =
    let r0 = ranks.shape in
    let r1 = ranks.counts in
    let r2 = ranks.chunk in
    let r3 = ranks.lo in
    let r4 = ranks.hi in
    let r5 = ranks.coord in
    absurd (omega arith)

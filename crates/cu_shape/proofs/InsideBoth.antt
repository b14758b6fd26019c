-- What is read through broadcasting lies inside the array.
use Rattle.std.proofs.Common.{◌≡◌, ◌<◌, ◌≤◌, ◌==◌, if◌then◌else◌, ℕ, zero, suc, ◌+◌, ◌-◌, false, None, List, [], ◌∷◌, ◌++◌, length, replicate, drop, refl, ap, subst, ◌∙◌, sym, arith, inl, inr}
use Rattle.std.proofs.lemmas.Bool.Decides.{eqb_tells}
use Rattle.cu_shape.specs.Index.{IsInside, back_along, back}
use Rattle.cu_shape.specs.Broadcast.{aligned, rank_of, broadcast_size, broadcast_sizes, are_apart, last_apart, broadcast_of, mismatch_of}
use Rattle.cu_shape.proofs.Places.{inside-length}
use Rattle.cu_shape.proofs.Broadcasts.{length-aligned, none_step}

left_axis : (n m i : ℕ) → i < broadcast_size n m → (if n == 1 then 0 else i) < n
left_axis n m i h =
    elim (eqb_tells n 1) [
      | inl p ↦ let e = p.1 in rw p.0 (omega arith)
      | inr p ↦ let w = rw p.0 at h in rw p.0 w
    ]

right_axis : (n m i : ℕ) → are_apart n m ≡ false → i < broadcast_size n m → (if m == 1 then 0 else i) < m
right_axis n m i a h =
    elim (eqb_tells m 1) [
      | inl p ↦ let e = p.1 in rw p.0 (omega arith)
      | inr p ↦ elim (eqb_tells n 1) [
        | inl q ↦ let w = rw q.0 at h in rw p.0 w
        | inr q ↦ elim (eqb_tells n m) [
          | inl r ↦ let e = r.1 in let w = rw q.0 at h in rw p.0 (omega arith)
          | inr r ↦ absurd (let w = rw (p.0, q.0, r.0) at a in cc)
        ]
      ]
    ]

left_inside : (A B is : List ℕ) → length A ≡ length B → IsInside (broadcast_sizes A B) is → IsInside A (back_along A is)
left_inside [] [] [] e h = tt
left_inside [] [] (i ∷ is) e h = absurd h
left_inside [] (m ∷ ms) is e h = absurd (omega arith)
left_inside (n ∷ ns) [] is e h = absurd (omega arith)
left_inside (n ∷ ns) (m ∷ ms) [] e h = absurd h
left_inside (n ∷ ns) (m ∷ ms) (i ∷ is) e h = (left_axis n m i h.0, left_inside ns ms is (omega arith) h.1)

right_inside : (A B is : List ℕ) (first : ℕ) → length A ≡ length B → last_apart A B first ≡ None → IsInside (broadcast_sizes A B) is → IsInside B (back_along B is)
right_inside [] [] [] first e a h = tt
right_inside [] [] (i ∷ is) first e a h = absurd h
right_inside [] (m ∷ ms) is first e a h = absurd (omega arith)
right_inside (n ∷ ns) [] is first e a h = absurd (omega arith)
right_inside (n ∷ ns) (m ∷ ms) [] first e a h = absurd h
right_inside (n ∷ ns) (m ∷ ms) (i ∷ is) first e a h =
    let z = none_step ns ms n m first a in
    (right_axis n m i z.0 h.0, right_inside ns ms is (first + 1) (omega arith) z.1 h.1)

-- the leading axes that the array lacks fall away
without_lead : (d : ℕ) (shape is : List ℕ) → IsInside (replicate d 1 ++ shape) (back_along (replicate d 1 ++ shape) is) → IsInside shape (back_along shape (drop d is))
without_lead zero shape is h = h
without_lead (suc d) shape [] h = absurd h
without_lead (suc d) shape (i ∷ is) h = without_lead d shape is h.1

back_of : (shape is : List ℕ) (rank : ℕ) → length is ≡ rank → length shape ≤ rank → IsInside (aligned rank shape) (back_along (aligned rank shape) is) → IsInside shape (back shape is)
back_of shape is rank e l h =
    let w = without_lead (rank - length shape) shape is h in
    subst (λ (r : ℕ). IsInside shape (back_along shape (drop (r - length shape) is))) (sym e) w

length-sizes_of : (A B : List ℕ) → length A ≡ length B → length (broadcast_sizes A B) ≡ length A
length-sizes_of [] B e = refl
length-sizes_of (n ∷ ns) [] e = absurd (omega arith)
length-sizes_of (n ∷ ns) (m ∷ ms) e = ap suc (length-sizes_of ns ms (omega arith))

pub length-broadcast_of : (a b : List ℕ) → length (broadcast_of a b) ≡ rank_of a b
length-broadcast_of a b =
    let p = length-aligned (rank_of a b) a (omega arith) in
    let q = length-aligned (rank_of a b) b (omega arith) in
    length-sizes_of (aligned (rank_of a b) a) (aligned (rank_of a b) b) (p ∙ sym q) ∙ p

pub back_left : (a b is : List ℕ) → IsInside (broadcast_of a b) is → IsInside a (back a is)
back_left a b is h =
    let p = length-aligned (rank_of a b) a (omega arith) in
    let q = length-aligned (rank_of a b) b (omega arith) in
    back_of a is (rank_of a b) (inside-length (broadcast_of a b) is h ∙ length-broadcast_of a b) (omega arith)
    (left_inside (aligned (rank_of a b) a) (aligned (rank_of a b) b) is (p ∙ sym q) h)

pub back_right : (a b is : List ℕ) → mismatch_of a b ≡ None → IsInside (broadcast_of a b) is → IsInside b (back b is)
back_right a b is m h =
    let p = length-aligned (rank_of a b) a (omega arith) in
    let q = length-aligned (rank_of a b) b (omega arith) in
    back_of b is (rank_of a b) (inside-length (broadcast_of a b) is h ∙ length-broadcast_of a b) (omega arith)
    (right_inside (aligned (rank_of a b) a) (aligned (rank_of a b) b) is 0 (p ∙ sym q) m h)

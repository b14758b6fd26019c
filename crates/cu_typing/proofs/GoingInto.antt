-- Shapes that are broadcast together go into the result's.
use Rattle.std.proofs.Common.{◌≡◌, ℕ, zero, suc, ◌+◌, ◌-◌, ◌<◌, ◌≤◌, ◌⊎◌, List, [], ◌∷◌, length, get_or, replicate, None, Ok, All, refl, ap, sym, ◌∙◌, inl, inr, arith}
use Rattle.std.proofs.lemmas.Bool.Decides.{eqb_tells}
use Rattle.std.proofs.lemmas.List.{length-replicate, get_or-append_right}
use Rattle.std.proofs.lemmas.List.Elements.{All-cons, All-nil}
use Rattle.cu_result.proofs.ResultSteps.{step_ok}
use Rattle.cu_shape.specs.Broadcast.{aligned, rank_of, broadcast_size, broadcast_sizes, mismatch_of, broadcast_of, IsApart}
use Rattle.cu_shape.proofs.InsideBoth.{length-broadcast_of}
use Rattle.cu_shape.proofs.Broadcasts.{length-aligned, none_apart}
use Rattle.cu_node.specs.declared.info.NodeInfo.{NodeInfo}
use Rattle.cu_typing.specs.Accepted.{GoesInto}
use Rattle.cu_typing.specs.Joined.{joined_rank, joined_with, joined_after, joined_shape}
use Rattle.cu_typing.proofs.Together.{joined_two}

get_or-sizes_of : (A B : List ℕ) (k : ℕ) → k < length A → k < length B → get_or (broadcast_sizes A B) k 0 ≡ broadcast_size (get_or A k 0) (get_or B k 0)
get_or-sizes_of [] B k p q = absurd (omega arith)
get_or-sizes_of (n ∷ ns) [] k p q = absurd (omega arith)
get_or-sizes_of (n ∷ ns) (m ∷ ms) zero p q = refl
get_or-sizes_of (n ∷ ns) (m ∷ ms) (suc k) p q = get_or-sizes_of ns ms k (omega arith) (omega arith)

-- an axis of an aligned shape is one of the shape
get_or-aligned : (rank : ℕ) (shape : List ℕ) (k : ℕ) → length shape ≤ rank → get_or (aligned rank shape) (k + (rank - length shape)) 0 ≡ get_or shape k 0
get_or-aligned rank shape k h =
    let lead = rank - length shape in
    let e : k + lead - lead ≡ k = omega arith in
    get_or-append_right (replicate lead 1) shape lead (k + lead) 0 (length-replicate lead 1) (omega arith) ∙ ap (λ j. get_or shape j 0) e

left_size : (n m : ℕ) → (n ≡ broadcast_size n m) ⊎ (n ≡ 1)
left_size n m =
    elim (eqb_tells n 1) [
      | inl p ↦ inr p.1
      | inr p ↦ inl (rw p.0 refl)
    ]

right_size : (n m : ℕ) → ¬ IsApart n m → (m ≡ broadcast_size n m) ⊎ (m ≡ 1)
right_size n m h =
    elim (eqb_tells n 1) [
      | inl p ↦ inl (rw p.0 refl)
      | inr p ↦ elim (eqb_tells m 1) [
        | inl q ↦ inr q.1
        | inr q ↦ elim (eqb_tells n m) [
          | inl r ↦ inl (rw p.0 (sym r.1))
          | inr r ↦ absurd (h (r.1, p.1, q.1))
        ]
      ]
    ]

pub left_goes_into : (a b : List ℕ) → GoesInto a (broadcast_of a b)
left_goes_into a b = record {
  rank = let e = length-broadcast_of a b in omega arith;
  axes = λ k l. axis k l;
}
  where
    axis : (k : ℕ) → k < length a → (get_or a k 0 ≡ get_or (broadcast_of a b) (k + (length (broadcast_of a b) - length a)) 0) ⊎ (get_or a k 0 ≡ 1)
    axis k l =
        let rank = rank_of a b in
        let j = k + (rank - length a) in
        let A = aligned rank a in
        let B = aligned rank b in
        let la : length A ≡ rank = length-aligned rank a (omega arith) in
        let lb : length B ≡ rank = length-aligned rank b (omega arith) in
        let below : j < rank = omega arith in
        let own : get_or A j 0 ≡ get_or a k 0 = get_or-aligned rank a k (omega arith) in
        let whole : get_or (broadcast_of a b) j 0 ≡ broadcast_size (get_or A j 0) (get_or B j 0) = get_or-sizes_of A B j (omega arith) (omega arith) in
        rw (length-broadcast_of a b) (rw whole (rw (← own) (left_size (get_or A j 0) (get_or B j 0))))

pub right_goes_into : (a b : List ℕ) → mismatch_of a b ≡ None → GoesInto b (broadcast_of a b)
right_goes_into a b h = record {
  rank = let e = length-broadcast_of a b in omega arith;
  axes = λ k l. axis k l;
}
  where
    axis : (k : ℕ) → k < length b → (get_or b k 0 ≡ get_or (broadcast_of a b) (k + (length (broadcast_of a b) - length b)) 0) ⊎ (get_or b k 0 ≡ 1)
    axis k l =
        let rank = rank_of a b in
        let j = k + (rank - length b) in
        let A = aligned rank a in
        let B = aligned rank b in
        let la : length A ≡ rank = length-aligned rank a (omega arith) in
        let lb : length B ≡ rank = length-aligned rank b (omega arith) in
        let below : j < rank = omega arith in
        let own : get_or B j 0 ≡ get_or b k 0 = get_or-aligned rank b k (omega arith) in
        let whole : get_or (broadcast_of a b) j 0 ≡ broadcast_size (get_or A j 0) (get_or B j 0) = get_or-sizes_of A B j (omega arith) (omega arith) in
        rw (length-broadcast_of a b) (rw whole (rw (← own) (right_size (get_or A j 0) (get_or B j 0) (none_apart A B 0 h j (omega arith) (omega arith)))))

pub goes_further : (a b c : List ℕ) → GoesInto a b → GoesInto b c → GoesInto a c
goes_further a b c p q = record {
  rank = let x = p.rank in let y = q.rank in omega arith;
  axes = λ k l. axis k l;
}
  where
    axis : (k : ℕ) → k < length a → (get_or a k 0 ≡ get_or c (k + (length c - length a)) 0) ⊎ (get_or a k 0 ≡ 1)
    axis k l =
        let x = p.rank in
        let y = q.rank in
        let j = k + (length b - length a) in
        let e : j + (length c - length b) ≡ k + (length c - length a) = omega arith in
        let far = ap (λ n. get_or c n 0) e in
        elim (p.axes k l) [
          | inl s ↦ elim (q.axes j (omega arith)) [
            | inl t ↦ inl (s ∙ (t ∙ far))
            | inr t ↦ inr (s ∙ t)
          ]
          | inr s ↦ inr s
        ]

same_goes_into : (a : List ℕ) → GoesInto a a
same_goes_into a = record {
  rank = omega arith;
  axes = λ k l. inl (let e : k ≡ k + (length a - length a) = omega arith in ap (λ n. get_or a n 0) e);
}

all_go_into : (shape : List ℕ) (is : List NodeInfo) (joined : List ℕ) → joined_after shape is ≡ Ok joined → GoesInto shape joined × All (λ i. GoesInto i.dims joined) is
all_go_into shape [] joined h = let e : joined ≡ shape = cc in (rw e (same_goes_into shape), All-nil (λ (i : NodeInfo). GoesInto i.dims joined))
all_go_into shape (i ∷ is) joined h =
    let s = step_ok (joined_with shape i.dims) (λ joined. joined_after joined is) joined h in
    let two = joined_two (mismatch_of shape i.dims) (broadcast_of shape i.dims) s.0 s.1 in
    let rest = all_go_into s.0 is joined s.2 in
    let front : GoesInto (broadcast_of shape i.dims) joined = rw two.1 at rest.0 in (
      goes_further shape (broadcast_of shape i.dims) joined (left_goes_into shape i.dims) front,
      All-cons (λ (i : NodeInfo). GoesInto i.dims joined) i is (goes_further i.dims (broadcast_of shape i.dims) joined (right_goes_into shape i.dims two.0) front) rest.1,
    )

pub joined_go_into : (is : List NodeInfo) (joined : List ℕ) → joined_shape is ≡ Ok joined → All (λ i. GoesInto i.dims joined) is
joined_go_into is joined h = (all_go_into (replicate (joined_rank is) 1) is joined h).1

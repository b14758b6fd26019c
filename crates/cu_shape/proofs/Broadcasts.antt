-- The last axis on which two aligned shapes are apart.
use Rattle.std.proofs.Common.{sym, ◌∙◌, ◌≡◌, ◌<◌, ◌≤◌, ℕ, zero, suc, ◌+◌, ◌-◌, Bool, true, false, Option, None, Some, List, [], ◌∷◌, length, replicate, get_or, drop, set, refl, ap, ◌∙◌, subst, if◌then◌else◌, inl, inr, arith, add-zero}
use Rattle.std.specs.Option.{option_or}
use Rattle.std.proofs.lemmas.Bool.Decides.{eqb_tells}
use Rattle.std.proofs.lemmas.List.{drop_more, length-append, length-replicate, drop-set}
use Rattle.cu_shape.specs.Broadcast.{aligned, rank_of, broadcast_size, are_apart, broadcast_sizes, last_apart, mismatch_of, IsApart, IsLastMismatch}

pub length-aligned : (rank : ℕ) (shape : List ℕ) → length shape ≤ rank → length (aligned rank shape) ≡ rank
length-aligned rank shape h =
    length-append (replicate (rank - length shape) 1) shape ∙ (ap (λ n. n + length shape) (length-replicate (rank - length shape) 1) ∙ omega arith)

pub apart_yes : (n m : ℕ) → IsApart n m → are_apart n m ≡ true
apart_yes n m h =
    elim (eqb_tells n m) [
      | inl p ↦ absurd (h.0 p.1)
      | inr p ↦ elim (eqb_tells n 1) [
        | inl q ↦ absurd (h.1 q.1)
        | inr q ↦ elim (eqb_tells m 1) [
          | inl r ↦ absurd (h.2 r.1)
          | inr r ↦ rw (p.0, q.0, r.0) refl
        ]
      ]
    ]

pub apart_no : (n m : ℕ) → ¬ IsApart n m → are_apart n m ≡ false
apart_no n m h =
    elim (eqb_tells n m) [
      | inl p ↦ rw p.0 refl
      | inr p ↦ elim (eqb_tells n 1) [
        | inl q ↦ rw (p.0, q.0) refl
        | inr q ↦ elim (eqb_tells m 1) [
          | inl r ↦ rw (p.0, q.0, r.0) refl
          | inr r ↦ absurd (h (p.1, q.1, r.1))
        ]
      ]
    ]

pub apart_from_test : (n m : ℕ) → are_apart n m ≡ true → IsApart n m
apart_from_test n m h =
    elim (eqb_tells n m) [
      | inl p ↦ absurd (let w = rw p.0 at h in cc)
      | inr p ↦ elim (eqb_tells n 1) [
        | inl q ↦ absurd (let w = rw (p.0, q.0) at h in cc)
        | inr q ↦ elim (eqb_tells m 1) [
          | inl r ↦ absurd (let w = rw (p.0, q.0, r.0) at h in cc)
          | inr r ↦ (p.1, q.1, r.1)
        ]
      ]
    ]

-- one axis more, on which the sizes are not apart
pub agree_step : (A B : List ℕ) (k : ℕ) → k < length A → k < length B → are_apart (get_or A k 0) (get_or B k 0) ≡ false → last_apart (drop (k + 1) A) (drop (k + 1) B) (k + 1) ≡ None → last_apart (drop k A) (drop k B) k ≡ None
agree_step A B k p q f e = rw (drop_more A k 0 p, drop_more B k 0 q) (rw (e, f) refl)

pub apart_step : (A B : List ℕ) (k : ℕ) → k < length A → k < length B → are_apart (get_or A k 0) (get_or B k 0) ≡ true → last_apart (drop (k + 1) A) (drop (k + 1) B) (k + 1) ≡ None → last_apart (drop k A) (drop k B) k ≡ Some k
apart_step A B k p q f e = rw (drop_more A k 0 p, drop_more B k 0 q) (rw (e, f) refl)

pub sizes_step : (A B r : List ℕ) (k v : ℕ) → k < length A → k < length B → k < length r → drop (k + 1) r ≡ broadcast_sizes (drop (k + 1) A) (drop (k + 1) B) → v ≡ broadcast_size (get_or A k 0) (get_or B k 0) → drop k (set r k v) ≡ broadcast_sizes (drop k A) (drop k B)
sizes_step A B r k v p q h e f = rw (drop_more A k 0 p, drop_more B k 0 q) (drop-set r k v h ∙ rw (e, f) refl)

last_apart-nil : (A : List ℕ) (first : ℕ) → last_apart A [] first ≡ None
last_apart-nil [] first = refl
last_apart-nil (n ∷ ns) first = refl

drop-nil : (k : ℕ) → drop {A = ℕ} k [] ≡ []
drop-nil zero = refl
drop-nil (suc k) = refl

-- the last axis of the rest that is apart is the last one of the whole
apart_from : (A B : List ℕ) (k first j : ℕ) → last_apart (drop k A) (drop k B) (first + k) ≡ Some j → last_apart A B first ≡ Some j
apart_from A B zero first j h = rw (add-zero first) at h
apart_from [] B (suc k) first j h = absurd (cc h)
apart_from (n ∷ ns) [] (suc k) first j h = absurd (let w = rw (last_apart-nil (drop k ns) (first + suc k)) at h in cc)
apart_from (n ∷ ns) (m ∷ ms) (suc k) first j h =
    let e : first + suc k ≡ first + 1 + k = omega arith in
    let w : last_apart ns ms (first + 1) ≡ Some j = apart_from ns ms k (first + 1) j (rw e at h) in
    rw w refl

pub apart_in_whole : (A B : List ℕ) (k j : ℕ) → last_apart (drop k A) (drop k B) k ≡ Some j → last_apart A B 0 ≡ Some j
apart_in_whole A B k j h = let e : k ≡ 0 + k = omega arith in apart_from A B k 0 j (let P : ℕ → Type 0 = λ n. last_apart (drop k A) (drop k B) n ≡ Some j in subst P e h)

-- where no axis is apart
option_or_none : (a b : Option ℕ) → option_or a b ≡ None → (a ≡ None) × (b ≡ None)
option_or_none None b h = (refl, h)
option_or_none (Some x) b h = absurd (cc h)

test_none : (t : Bool) (x : ℕ) → (if t then Some x else None) ≡ None → t ≡ false
test_none true x h = absurd (cc h)
test_none false x h = refl

-- where no axis is apart, the first isn't, and none of the others is
pub none_step : (ns ms : List ℕ) (n m first : ℕ) → last_apart (n ∷ ns) (m ∷ ms) first ≡ None → (are_apart n m ≡ false) × (last_apart ns ms (first + 1) ≡ None)
none_step ns ms n m first h = let w = option_or_none _ _ h in (test_none (are_apart n m) first w.1, w.0)

-- no axis is apart
pub none_apart : (A B : List ℕ) (first : ℕ) → last_apart A B first ≡ None → (k : ℕ) → k < length A → k < length B → ¬ IsApart (get_or A k 0) (get_or B k 0)
none_apart [] B first h k p q = absurd (omega arith)
none_apart (n ∷ ns) [] first h k p q = absurd (omega arith)
none_apart (n ∷ ns) (m ∷ ms) first h zero p q = λ a. cc (sym (apart_yes n m a) ∙ (none_step ns ms n m first h).0)
none_apart (n ∷ ns) (m ∷ ms) first h (suc k) p q = none_apart ns ms (first + 1) (none_step ns ms n m first h).1 k (omega arith) (omega arith)

-- what it says of an axis that it is the last that is apart
record IsLast (A B : List ℕ) (i : ℕ) : Type 0 where
  left : i < length A
  right : i < length B
  apart : IsApart (get_or A i 0) (get_or B i 0)
  last : (k : ℕ) → i < k → k < length A → k < length B → ¬ IsApart (get_or A k 0) (get_or B k 0)

last_more : (ns ms : List ℕ) (n m i : ℕ) → IsLast ns ms i → IsLast (n ∷ ns) (m ∷ ms) (suc i)
last_more ns ms n m i h = record {
  left = let p = h.left in omega arith;
  right = let p = h.right in omega arith;
  apart = h.apart;
  last = λ k. after k;
}
  where
    after : (k : ℕ) → suc i < k → k < length (n ∷ ns) → k < length (m ∷ ms) → ¬ IsApart (get_or (n ∷ ns) k 0) (get_or (m ∷ ms) k 0)
    after zero a b d = absurd (omega arith)
    after (suc k) a b d = h.last k (omega arith) (omega arith) (omega arith)

last_here : (ns ms : List ℕ) (n m first : ℕ) → are_apart n m ≡ true → last_apart ns ms first ≡ None → IsLast (n ∷ ns) (m ∷ ms) 0
last_here ns ms n m first t h = record {
  left = omega arith;
  right = omega arith;
  apart = apart_from_test n m t;
  last = λ k. after k;
}
  where
    after : (k : ℕ) → 0 < k → k < length (n ∷ ns) → k < length (m ∷ ms) → ¬ IsApart (get_or (n ∷ ns) k 0) (get_or (m ∷ ms) k 0)
    after zero a b d = absurd (omega arith)
    after (suc k) a b d = none_apart ns ms first h k (omega arith) (omega arith)

last_some : (A B : List ℕ) (first j : ℕ) → last_apart A B first ≡ Some j → (i : ℕ) × (j ≡ first + i) × IsLast A B i
last_some [] B first j h = absurd (cc h)
last_some (n ∷ ns) [] first j h = absurd (cc h)
last_some (n ∷ ns) (m ∷ ms) first j h = last_cases ns ms n m first j (last_apart ns ms (first + 1)) (are_apart n m) refl refl (λ j' e. last_some ns ms (first + 1) j' e) h
  where
    last_cases : (ns ms : List ℕ) (n m first j : ℕ) (o : Option ℕ) (t : Bool) → last_apart ns ms (first + 1) ≡ o → are_apart n m ≡ t → ((j' : ℕ) → last_apart ns ms (first + 1) ≡ Some j' → (i : ℕ) × (j' ≡ first + 1 + i) × IsLast ns ms i) → option_or o (if t then Some first else None) ≡ Some j → (i : ℕ) × (j ≡ first + i) × IsLast (n ∷ ns) (m ∷ ms) i
    last_cases ns ms n m first j (Some j') t eo et ih h =
        let e : j' ≡ j = cc in
        let w = ih j' eo in
        (suc w.0, (let q = w.1 in omega arith), last_more ns ms n m w.0 w.2)
    last_cases ns ms n m first j None true eo et ih h = let e : first ≡ j = cc in (0, omega arith, last_here ns ms n m (first + 1) et eo)
    last_cases ns ms n m first j None false eo et ih h = absurd (cc h)

short_left : (a b : List ℕ) → length (aligned (rank_of a b) a) ≡ rank_of a b
short_left a b = length-aligned (rank_of a b) a (omega arith)

short_right : (a b : List ℕ) → length (aligned (rank_of a b) b) ≡ rank_of a b
short_right a b = length-aligned (rank_of a b) b (omega arith)

-- the mismatch is the last axis on which the sizes are apart
pub mismatch_is_last : (a b : List ℕ) (axis : ℕ) → mismatch_of a b ≡ Some axis → IsLastMismatch a b axis
mismatch_is_last a b axis h =
    let w = last_some (aligned (rank_of a b) a) (aligned (rank_of a b) b) 0 axis h in
    let e : axis ≡ w.0 = let q = w.1 in omega arith in
    let l = short_left a b in
    let r = short_right a b in
    let i = w.2 in
    rw e (record { below = let p = i.left in omega arith; apart = i.apart; last = λ k p q. i.last k p (omega arith) (omega arith) })

-- the axis at which a walk from the last axis stops
pub found : (a b : List ℕ) (r ax k n m : ℕ) → r ≡ rank_of a b → ax ≡ k + 1 → k < r → last_apart (drop ax (aligned r a)) (drop ax (aligned r b)) ax ≡ None → n ≡ get_or (aligned r a) k 0 → m ≡ get_or (aligned r b) k 0 → are_apart n m ≡ true → mismatch_of a b ≡ Some k
found a b r ax k n m er ek h e en em t =
    let e1 = rw (ek, er) at e in
    let t1 = rw (en, em) at t in
    let t2 = rw er at t1 in
    let la = short_left a b in
    let lb = short_right a b in
    apart_in_whole (aligned (rank_of a b) a) (aligned (rank_of a b) b) k k
    (apart_step (aligned (rank_of a b) a) (aligned (rank_of a b) b) k (omega arith) (omega arith) t2 e1)

-- A shape stretches to another exactly where broadcasting them gives the other.
use Rattle.std.proofs.Common.{◌≡◌, ◌↔◌, ◌∙◌, ℕ, zero, suc, ◌+◌, ◌-◌, ◌≤◌, ◌==◌, ◌||◌, true, false, None, List, [], ◌∷◌, ◌++◌, length, replicate, drop, refl, ap, sym, inl, inr, arith}
use Rattle.std.proofs.lemmas.Bool.{le-leb, leb-true, and_parts}
use Rattle.std.proofs.lemmas.Bool.Decides.{eqb_tells}
use Rattle.cu_shape.specs.Broadcast.{aligned, rank_of, broadcast_size, are_apart, broadcast_sizes, last_apart, broadcast_of, mismatch_of}
use Rattle.cu_shape.proofs.Broadcasts.{length-aligned}
use Rattle.cu_shape.proofs.InsideBoth.{length-broadcast_of}
use Rattle.cu_typing_view.specs.Reshaped.{are_stretched, stretches_to}

-- on an axis
agrees : (n m : ℕ) → (n == 1 || n == m) ≡ true → (are_apart n m ≡ false) × (broadcast_size n m ≡ m)
agrees n m h =
    elim (eqb_tells n 1) [
      | inl p ↦ elim (eqb_tells n m) [
        | inl q ↦ (rw (q.0) refl, rw (p.0) refl)
        | inr q ↦ (rw (q.0, p.0) refl, rw (p.0) refl)
      ]
      | inr p ↦ elim (eqb_tells n m) [
        | inl q ↦ (rw (q.0) refl, rw (p.0) q.1)
        | inr q ↦ absurd (let w = rw (p.0, q.0) at h in cc)
      ]
    ]

meets : (n m : ℕ) → broadcast_size n m ≡ m → (n == 1 || n == m) ≡ true
meets n m h =
    elim (eqb_tells n 1) [
      | inl p ↦ rw (p.0) refl
      | inr p ↦ elim (eqb_tells n m) [
        | inl q ↦ rw (p.0, q.0) refl
        | inr q ↦ absurd (q.1 (let w = rw (p.0) at h in w))
      ]
    ]

agree_all : (A B : List ℕ) (first : ℕ) → are_stretched A B ≡ true → (last_apart A B first ≡ None) × (broadcast_sizes A B ≡ B)
agree_all [] [] first h = (refl, refl)
agree_all [] (m ∷ ms) first h = cc
agree_all (n ∷ ns) [] first h = cc
agree_all (n ∷ ns) (m ∷ ms) first h =
    let both = and_parts (n == 1 || n == m) (are_stretched ns ms) h in
    let here = agrees n m both.0 in
    let rest = agree_all ns ms (first + 1) both.1 in
    (rw (here.0, rest.0) refl, rw (here.1, rest.1) refl)

meet_all : (A B : List ℕ) → length A ≡ length B → broadcast_sizes A B ≡ B → are_stretched A B ≡ true
meet_all [] [] e h = refl
meet_all [] (m ∷ ms) e h = absurd (omega arith)
meet_all (n ∷ ns) [] e h = absurd (omega arith)
meet_all (n ∷ ns) (m ∷ ms) e h =
    let here : broadcast_size n m ≡ m = cc in
    let rest : broadcast_sizes ns ms ≡ ms = cc in
    rw (meets n m here, meet_all ns ms (omega arith) rest) refl

-- the axes that a shape lacks are stretched
with_lead : (d : ℕ) (a b : List ℕ) → d ≤ length b → are_stretched (replicate d 1 ++ a) b ≡ are_stretched a (drop d b)
with_lead zero a b h = refl
with_lead (suc d) a [] h = absurd (omega arith)
with_lead (suc d) a (m ∷ ms) h = with_lead d a ms (omega arith)

whole : (b : List ℕ) → aligned (length b) b ≡ b
whole b = let e : length b - length b ≡ 0 = omega arith in rw e refl

second_rank : (a b : List ℕ) → length a ≤ length b → rank_of a b ≡ length b
second_rank a b h = omega arith

result_is : (a b : List ℕ) → length a ≤ length b → broadcast_of a b ≡ broadcast_sizes (aligned (length b) a) b
result_is a b h =
    ap (λ r. broadcast_sizes (aligned r a) (aligned r b)) (second_rank a b h) ∙ ap (λ xs. broadcast_sizes (aligned (length b) a) xs) (whole b)

pub stretched_gives : (a b : List ℕ) → stretches_to a b ≡ true → (mismatch_of a b ≡ None) × (broadcast_of a b ≡ b)
stretched_gives a b h =
    let both = and_parts _ (are_stretched a (drop (length b - length a) b)) h in
    let within = leb-true (length a) (length b) both.0 in
    let all = agree_all (aligned (length b) a) b 0 (with_lead (length b - length a) a b (omega arith) ∙ both.1) in
    (ap (λ r. last_apart (aligned r a) (aligned r b) 0) (second_rank a b within) ∙ (ap (λ xs. last_apart (aligned (length b) a) xs 0) (whole b) ∙ all.0), result_is a b within ∙ all.1)

pub given_stretched : (a b : List ℕ) → broadcast_of a b ≡ b → stretches_to a b ≡ true
given_stretched a b h =
    let long : rank_of a b ≡ length b = sym (length-broadcast_of a b) ∙ ap length h in
    let within : length a ≤ length b = omega arith in
    let all = meet_all (aligned (length b) a) b (length-aligned (length b) a within) (sym (result_is a b within) ∙ h) in
    rw (le-leb (length a) (length b) within) (sym (with_lead (length b - length a) a b (omega arith)) ∙ all)

pub stretched_exactly : (a b : List ℕ) → (stretches_to a b ≡ true) ↔ ((mismatch_of a b ≡ None) × (broadcast_of a b ≡ b))
stretched_exactly a b = (stretched_gives a b, λ both. given_stretched a b both.1)

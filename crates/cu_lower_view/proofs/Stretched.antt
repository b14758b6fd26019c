-- Broadcasting doesn't depend on the order of the shapes.
use Rattle.std.proofs.Common.{◌≡◌, ◌∙◌, ℕ, ◌+◌, ◌==◌, ◌&&◌, not, Bool, true, false, Option, None, Some, List, [], ◌∷◌, length, refl, ap, sym, inl, inr, if◌then◌else◌}
use Rattle.std.specs.Option.{option_or}
use Rattle.std.proofs.Math.Bool.{and_comm}
use Rattle.std.proofs.Math.Nat.{max_comm}
use Rattle.std.proofs.lemmas.Bool.{eq-eqb, ne_eqb}
use Rattle.std.proofs.lemmas.Bool.Decides.{eqb_tells}
use Rattle.cu_shape.specs.Broadcast.{aligned, rank_of, broadcast_size, are_apart, broadcast_sizes, last_apart, broadcast_of, mismatch_of}
use Rattle.cu_typing_view.specs.Reshaped.{stretches_to}
use Rattle.cu_typing_view.proofs.Stretched.{stretched_gives}

equal_comm : (n m : ℕ) → (n == m) ≡ (m == n)
equal_comm n m =
    elim (eqb_tells n m) [
      | inl p ↦ p.0 ∙ sym (eq-eqb m n (sym p.1))
      | inr p ↦ p.0 ∙ sym (ne_eqb m n (λ e. p.1 (sym e)))
    ]

apart_comm : (n m : ℕ) → are_apart n m ≡ are_apart m n
apart_comm n m = rw (equal_comm n m) (ap (λ b. not (m == n) && b) (and_comm (not (n == 1)) (not (m == 1))))

apart_last_comm : (A B : List ℕ) (first : ℕ) → last_apart A B first ≡ last_apart B A first
apart_last_comm [] [] first = refl
apart_last_comm [] (m ∷ ms) first = refl
apart_last_comm (n ∷ ns) [] first = refl
apart_last_comm (n ∷ ns) (m ∷ ms) first = rw (apart_comm n m, apart_last_comm ns ms (first + 1)) refl

-- on an axis on which the sizes aren't apart
size_comm : (n m : ℕ) → are_apart n m ≡ false → broadcast_size n m ≡ broadcast_size m n
size_comm n m h =
    elim (eqb_tells n 1) [
      | inl p ↦ elim (eqb_tells m 1) [
        | inl q ↦ rw (p.0, q.0) (q.1 ∙ sym p.1)
        | inr q ↦ rw (p.0, q.0) refl
      ]
      | inr p ↦ elim (eqb_tells m 1) [
        | inl q ↦ rw (p.0, q.0) refl
        | inr q ↦ elim (eqb_tells n m) [
          | inl s ↦ rw (p.0, q.0) s.1
          | inr s ↦ absurd (let w = rw (s.0, p.0, q.0) at h in cc)
        ]
      ]
    ]

none_of : (o : Option ℕ) (b : Bool) (k : ℕ) → option_or o (if b then Some k else None) ≡ None → (o ≡ None) × (b ≡ false)
none_of (Some x) b k h = cc
none_of None true k h = cc
none_of None false k h = (refl, refl)

sizes_comm : (A B : List ℕ) (first : ℕ) → last_apart A B first ≡ None → broadcast_sizes A B ≡ broadcast_sizes B A
sizes_comm [] [] first h = refl
sizes_comm [] (m ∷ ms) first h = refl
sizes_comm (n ∷ ns) [] first h = refl
sizes_comm (n ∷ ns) (m ∷ ms) first h =
    let both = none_of (last_apart ns ms (first + 1)) (are_apart n m) first h in
    rw (size_comm n m both.1, sizes_comm ns ms (first + 1) both.0) refl

mismatch_comm : (a b : List ℕ) → mismatch_of b a ≡ mismatch_of a b
mismatch_comm a b =
    ap (λ r. last_apart (aligned r b) (aligned r a) 0) (max_comm (length b) (length a)) ∙ apart_last_comm (aligned (rank_of a b) b) (aligned (rank_of a b) a) 0

broadcast_comm : (a b : List ℕ) → mismatch_of a b ≡ None → broadcast_of b a ≡ broadcast_of a b
broadcast_comm a b h =
    ap (λ r. broadcast_sizes (aligned r b) (aligned r a)) (max_comm (length b) (length a)) ∙ sym (sizes_comm (aligned (rank_of a b) a) (aligned (rank_of a b) b) 0 h)

-- a shape that stretches to another is broadcast to it
pub stretched_to : (source shape : List ℕ) → stretches_to source shape ≡ true → (mismatch_of shape source ≡ None) × (broadcast_of shape source ≡ shape)
stretched_to source shape h =
    let g = stretched_gives source shape h in
    (mismatch_comm source shape ∙ g.0, broadcast_comm source shape g.0 ∙ g.1)

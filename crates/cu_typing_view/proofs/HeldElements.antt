-- A shape that is accepted has as many elements as the array.
use Rattle.std.proofs.Common.{◌≡◌, ◌∙◌, ℕ, zero, suc, ◌+◌, ◌*◌, ◌/◌, ◌%◌, ◌≤◌, ◌==◌, not, cond, ◌⊎◌, Bool, true, false, List, [], ◌∷◌, ℤ, pos, negsuc, refl, ap, sym, inl, inr, arith}
use Rattle.std.specs.Prelude.{count_by, int_lt}
use Rattle.std.proofs.lemmas.Bool.{and_parts}
use Rattle.std.proofs.lemmas.Bool.Decides.{eqb_tells}
use Rattle.std.proofs.lemmas.List.Sums.{sum_by-cons}
use Rattle.std.proofs.lemmas.Nat.{div-add-mod'}
use Rattle.std.proofs.Math.Nat.{mul_assoc, mul_comm}
use Rattle.std.proofs.lemmas.Int.{ints}
use Rattle.cu_shape.specs.Index.{product}
use Rattle.cu_typing_view.specs.Reshaped.{given, leaves_one, filled, can_hold, reshaped_sizes}

abbrev is_left : ℤ → Bool
is_left n = int_lt n (pos 0)

not_left : (n : ℕ) → is_left (pos n) ≡ false
not_left n = grind (arith, ints)

abbrev count_left : List ℤ → ℕ
count_left ns = count_by is_left ns

given_more : (n : ℕ) (ns : List ℤ) → count_left (pos n ∷ ns) ≡ count_left ns
given_more n ns = sum_by-cons (λ x. cond (is_left x) 1 0) (pos n) ns ∙ rw (not_left n) (omega arith)

left_more : (d : ℕ) (ns : List ℤ) → count_left (negsuc d ∷ ns) ≡ 1 + count_left ns
left_more d ns = sum_by-cons (λ x. cond (is_left x) 1 0) (negsuc d) ns

-- none is left
all_given : (left : ℕ) (ns : List ℤ) → count_left ns ≡ 0 → (filled left ns ≡ given ns) × (leaves_one ns ≡ false)
all_given left [] h = (refl, refl)
all_given left (pos n ∷ ns) h = let rest = all_given left ns (sym (given_more n ns) ∙ h) in (ap (λ xs. n ∷ xs) rest.0, rw (not_left n) rest.1)
all_given left (negsuc d ∷ ns) h = absurd (let m = left_more d ns in omega arith)

-- one is left
one_left : (left : ℕ) (ns : List ℤ) → count_left ns ≡ 1 → (product (filled left ns) ≡ left * product (given ns)) × (leaves_one ns ≡ true)
one_left left [] h = cc
one_left left (pos n ∷ ns) h =
    let rest = one_left left ns (sym (given_more n ns) ∙ h) in
    let p = product (given ns) in
    (rw rest.0 (sym (mul_assoc n left p) ∙ (ap (λ m. m * p) (mul_comm n left) ∙ mul_assoc left n p)), rw (not_left n) rest.1)
one_left left (negsuc d ∷ ns) h =
    let none = all_given left ns (let m = left_more d ns in omega arith) in
    (ap (λ xs. left * product xs) none.0, refl)

tells : (a b : ℕ) → (a == b) ≡ true → a ≡ b
tells a b h = elim (eqb_tells a b) [ inl p ↦ p.1 | inr p ↦ absurd (let q = p.0 in cc) ]

none_or_one : (n : ℕ) → n ≤ 1 → (n ≡ 0) ⊎ (n ≡ 1)
none_or_one zero h = inl refl
none_or_one (suc zero) h = inr refl
none_or_one (suc (suc n)) h = absurd (omega arith)

pub holds_all : (count : ℕ) (shape : List ℤ) → count_left shape ≤ 1 → can_hold count shape ≡ true → product (reshaped_sizes count shape) ≡ count
holds_all count shape most h =
    let p = product (given shape) in
    elim (none_or_one (count_left shape) most) [
      | inl none ↦
          let all = all_given (count / p) shape none in
          ap product all.0 ∙ tells p count (rw all.1 at h)
      | inr one ↦
          let all = one_left (count / p) shape one in
          let both = and_parts (not (p == 0)) (count % p == 0) (rw all.1 at h) in
          let whole : count % p ≡ 0 = tells (count % p) 0 both.1 in
          let e : count / p * p + count % p ≡ count = div-add-mod' count p in
          all.0 ∙ omega arith
    ]

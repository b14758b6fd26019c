-- Whether a number stands in a list.
use Rattle.std.proofs.Common.{◌≡◌, ◌⊎◌, inl, inr, ℕ, zero, suc, ◌<◌, ◌==◌, true, false, List, [], ◌∷◌, length, Contains, refl, arith, Bool}
use Rattle.std.proofs.lemmas.Bool.Decides.{eqb_tells}
use Rattle.std.specs.List.{list_any}

pub contains_any : (xs : List ℕ) (a : ℕ) → Contains xs a → list_any (λ b. b == a) xs ≡ true
contains_any [] a (k, l, e) = absurd (omega arith)
contains_any (x ∷ xs) a (zero, l, e) = elim (eqb_tells x a) [ inl p ↦ rw p.0 refl | inr p ↦ absurd (p.1 e) ]
contains_any (x ∷ xs) a (suc k, l, e) =
    let rest = contains_any xs a (k, (let w : suc k < suc (length xs) = l in omega arith), e) in
    elim (eqb_tells x a) [ inl p ↦ rw p.0 refl | inr p ↦ rw (p.0, rest) refl ]

pub any_contains : (xs : List ℕ) (a : ℕ) → list_any (λ b. b == a) xs ≡ true → Contains xs a
any_contains [] a h = cc
any_contains (x ∷ xs) a h =
    elim (eqb_tells x a) [
      | inl p ↦ (0, omega arith, p.1)
      | inr p ↦ let rest = any_contains xs a (rw p.0 at h) in (suc rest.0, (let l = rest.1 in omega arith), rest.2)
    ]

pub bool_cases : (b : Bool) → (b ≡ true) ⊎ (b ≡ false)
bool_cases true = inl refl
bool_cases false = inr refl

pub not_any : (xs : List ℕ) (a : ℕ) → (Contains xs a → ⊥) → list_any (λ b. b == a) xs ≡ false
not_any xs a never = elim (bool_cases (list_any (λ b. b == a) xs)) [ inl t ↦ absurd (never (any_contains xs a t)) | inr f ↦ f ]

-- the only member of a list
pub only_member : {A : Type 0} (x w : A) → Contains (x ∷ []) w → x ≡ w
only_member x w (zero, l, e) = e
only_member x w (suc k, l, e) = absurd (omega arith)

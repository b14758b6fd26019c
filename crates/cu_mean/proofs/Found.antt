-- Look-ups in lists.
use Rattle.std.proofs.Common.{◌≡◌, ◌<◌, ◌≤◌, zero, suc, ℕ, List, [], ◌∷◌, ◌++◌, length, get_or, Some, None, refl, arith}
use Rattle.std.specs.Prelude.{slice_get}

pub there : {X : Type 0} (xs : List X) (k : ℕ) → k < length xs → (x : X) × (slice_get xs k ≡ Some x)
there [] k lt = absurd (omega arith)
there (x ∷ xs) zero lt = (x, refl)
there (x ∷ xs) (suc k) lt = there xs k (omega arith)

pub within : {X : Type 0} (xs : List X) (k : ℕ) (x : X) → slice_get xs k ≡ Some x → k < length xs
within [] k x h = cc
within (y ∷ xs) zero x h = omega arith
within (y ∷ xs) (suc k) x h = let rest : k < length xs = within xs k x h in omega arith

pub read_or : {X : Type 0} (xs : List X) (k : ℕ) (x d : X) → slice_get xs k ≡ Some x → get_or xs k d ≡ x
read_or [] k x d h = cc
read_or (y ∷ xs) zero x d h = cc
read_or (y ∷ xs) (suc k) x d h = read_or xs k x d h

pub found : {X : Type 0} (xs : List X) (k : ℕ) (d : X) → k < length xs → slice_get xs k ≡ Some (get_or xs k d)
found [] k d lt = absurd (omega arith)
found (x ∷ xs) zero d lt = refl
found (x ∷ xs) (suc k) d lt = found xs k d (omega arith)

pub past : {X : Type 0} (xs : List X) (k : ℕ) → length xs ≤ k → slice_get xs k ≡ None
past [] k le = refl
past (x ∷ xs) zero le = absurd (omega arith)
past (x ∷ xs) (suc k) le = past xs k (omega arith)

-- one more in behind
pub pushed_last : {X : Type 0} (xs : List X) (k : ℕ) (x : X) → k ≡ length xs → slice_get (xs ++ x ∷ []) k ≡ Some x
pushed_last [] zero x e = refl
pushed_last [] (suc k) x e = absurd (omega arith)
pushed_last (y ∷ xs) zero x e = absurd (omega arith)
pushed_last (y ∷ xs) (suc k) x e = pushed_last xs k x (omega arith)

pub pushed_before : {X : Type 0} (xs : List X) (k : ℕ) (x : X) → k < length xs → slice_get (xs ++ x ∷ []) k ≡ slice_get xs k
pushed_before [] k x lt = absurd (omega arith)
pushed_before (y ∷ xs) zero x lt = refl
pushed_before (y ∷ xs) (suc k) x lt = pushed_before xs k x (omega arith)

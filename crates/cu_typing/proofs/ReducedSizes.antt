-- Sizes of the axes that a reduction keeps.
use Rattle.std.proofs.Common.{◌≡◌, ℕ, zero, suc, ◌+◌, ◌*◌, ◌==◌, ◌<◌, Bool, true, false, List, [], ◌∷◌, length, All, drop, get_or, refl, sym, ◌∙◌, arith}
use Rattle.std.specs.Prelude.{◌&&◌}
use Rattle.std.proofs.lemmas.Bool.{eq-eqb, ne_eqb}
use Rattle.std.proofs.lemmas.List.{drop_more}
use Rattle.std.proofs.lemmas.List.Elements.{All-cons, All-head, All-tail}
use Rattle.cu_shape.specs.Index.{product}
use Rattle.cu_typing.specs.Reduction.{kept_sizes, reduced_sizes}

-- the shape and the chunk shape keep as many axes
pub length-kept_sizes : (keepdims : Bool) (xs ys : List ℕ) (ms : List Bool) → length xs ≡ length ys → length (kept_sizes keepdims xs ms) ≡ length (kept_sizes keepdims ys ms)
length-kept_sizes keepdims [] [] ms e = refl
length-kept_sizes keepdims [] (y ∷ ys) ms e = absurd (omega arith)
length-kept_sizes keepdims (x ∷ xs) [] ms e = absurd (omega arith)
length-kept_sizes keepdims (x ∷ xs) (y ∷ ys) [] e = omega arith
length-kept_sizes true (x ∷ xs) (y ∷ ys) (true ∷ ms) e = let r = length-kept_sizes true xs ys ms (omega arith) in omega arith
length-kept_sizes false (x ∷ xs) (y ∷ ys) (true ∷ ms) e = length-kept_sizes false xs ys ms (omega arith)
length-kept_sizes keepdims (x ∷ xs) (y ∷ ys) (false ∷ ms) e = let r = length-kept_sizes keepdims xs ys ms (omega arith) in omega arith

-- sizes above 0 stay above 0
pub kept_sizes-positive : (keepdims : Bool) (xs : List ℕ) (ms : List Bool) → All (λ c. 0 < c) xs → All (λ c. 0 < c) (kept_sizes keepdims xs ms)
kept_sizes-positive keepdims [] ms h = h
kept_sizes-positive keepdims (x ∷ xs) [] h = h
kept_sizes-positive true (x ∷ xs) (true ∷ ms) h = All-cons (λ (c : ℕ). 0 < c) 1 _ (omega arith) (kept_sizes-positive true xs ms (All-tail (λ (c : ℕ). 0 < c) x xs h))
kept_sizes-positive false (x ∷ xs) (true ∷ ms) h = kept_sizes-positive false xs ms (All-tail (λ (c : ℕ). 0 < c) x xs h)
kept_sizes-positive keepdims (x ∷ xs) (false ∷ ms) h = All-cons (λ (c : ℕ). 0 < c) x _ (All-head (λ (c : ℕ). 0 < c) x xs h) (kept_sizes-positive keepdims xs ms (All-tail (λ (c : ℕ). 0 < c) x xs h))

-- an axis that is not reduced, or not of size 0, doesn't decide whether there are elements
not_emptied : (m : Bool) (n : ℕ) (ns : List ℕ) (ms : List Bool) → (m && n == 0) ≡ false → (product (reduced_sizes ns ms) == 0) ≡ (product (reduced_sizes (n ∷ ns) (m ∷ ms)) == 0)
not_emptied false n ns ms h = refl
not_emptied true n ns ms h =
    let p : ¬ (n ≡ 0) = λ e. cc (sym (eq-eqb n 0 e) ∙ h) in
    scaled n (product (reduced_sizes ns ms)) p
  where
    scaled : (n p : ℕ) → ¬ (n ≡ 0) → (p == 0) ≡ (n * p == 0)
    scaled n zero h = let e : n * 0 ≡ 0 = omega arith in rw e refl
    scaled zero (suc p) h = absurd (h refl)
    scaled (suc n) (suc p) h =
        let whole : suc n * suc p ≡ suc (n * suc p + p) = omega arith in
        ne_eqb (suc p) 0 (λ e. omega arith) ∙ sym (ne_eqb (suc n * suc p) 0 (λ e. omega arith))

pub emptied_step : (dims : List ℕ) (marks : List Bool) (k : ℕ) → k < length dims → k < length marks → (get_or marks k false && get_or dims k 0 == 0) ≡ false → (product (reduced_sizes (drop (k + 1) dims) (drop (k + 1) marks)) == 0) ≡ (product (reduced_sizes (drop k dims) (drop k marks)) == 0)
emptied_step dims marks k p q h = rw (drop_more dims k 0 p) (rw (drop_more marks k false q) (not_emptied (get_or marks k false) (get_or dims k 0) (drop (k + 1) dims) (drop (k + 1) marks) h))

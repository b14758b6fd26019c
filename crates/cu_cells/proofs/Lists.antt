-- A list that is mapped in place, from the front on.
use Rattle.std.proofs.Common.{◌≡◌, ℕ, ◌+◌, ◌<◌, zero, suc, List, [], ◌∷◌, ◌++◌, length, map, set, get_or, take, drop, sym, ◌∙◌, ap, arith, add-one}

mapped_at : {A : Type 0} (f : A → A) (xs : List A) (i : ℕ) (x : A) → i < length xs → x ≡ get_or (map f (take i xs) ++ drop i xs) i x → set (map f (take i xs) ++ drop i xs) i (f x) ≡ map f (take (suc i) xs) ++ drop (suc i) xs
mapped_at f [] i x within here = absurd (omega arith)
mapped_at f (y ∷ ys) zero x within here = ap (λ z. f z ∷ ys) here
mapped_at f (y ∷ ys) (suc i) x within here = ap (λ zs. f y ∷ zs) (mapped_at f ys i x (omega arith) here)

-- the element behind those that are mapped is mapped too
pub mapped_more : {A : Type 0} (f : A → A) (xs now : List A) (i : ℕ) (x y : A) → i < length xs → now ≡ map f (take i xs) ++ drop i xs → x ≡ get_or now i x → y ≡ f (get_or now i x) → set now i y ≡ map f (take (i + 1) xs) ++ drop (i + 1) xs
mapped_more f xs now i x y within so_far here mapped =
    rw (add-one, so_far, mapped ∙ ap f (sym here)) (mapped_at f xs i x within (here ∙ ap (λ zs. get_or zs i x) so_far))

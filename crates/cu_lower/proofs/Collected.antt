-- Lists that a loop collects, one element a turn: by their numbers, behind what was there, or by what a function makes of each of a list.
use Rattle.std.proofs.Common.{◌≡◌, ℕ, zero, suc, ◌<◌, ◌≤◌, ◌+◌, List, [], ◌∷◌, ◌++◌, Some, length, drop, get_or, map, take, refl, ap, sym, ◌∙◌, arith}
use Rattle.std.specs.Prelude.{slice_get}
use Rattle.std.proofs.lemmas.List.{append-nil, append_assoc, map_more, take_all}

next_of : {A : Type 0} (all : List A) (at : ℕ) (x : A) → slice_get all at ≡ Some x → drop at all ≡ x ∷ drop (at + 1) all
next_of [] at x is = cc
next_of (y ∷ ys) zero x is = let same : y ≡ x = cc in ap (λ z. z ∷ ys) same
next_of (y ∷ ys) (suc at) x is = next_of ys at x is ∙ ap (λ n. x ∷ drop n (y ∷ ys)) (let z : suc (at + 1) ≡ suc at + 1 = omega arith in z)

pub one_more : {A : Type 0} {whole : List A} (all some : List A) (at : ℕ) (x : A) → some ++ drop at all ≡ whole → slice_get all at ≡ Some x → (some ++ x ∷ []) ++ drop (at + 1) all ≡ whole
one_more all some at x known is = append_assoc some (x ∷ []) (drop (at + 1) all) ∙ ap (λ l. some ++ l) (sym (next_of all at x is)) ∙ known

none_behind : {A : Type 0} (all : List A) (at : ℕ) → length all ≤ at → drop at all ≡ []
none_behind [] zero past = refl
none_behind [] (suc at) past = refl
none_behind (y ∷ ys) zero past = absurd (omega arith)
none_behind (y ∷ ys) (suc at) past = none_behind ys at (omega arith)

pub all_collected : {A : Type 0} {whole : List A} (all some : List A) (at : ℕ) → some ++ drop at all ≡ whole → length all ≤ at → some ≡ whole
all_collected all some at known past = sym (append-nil some) ∙ ap (λ l. some ++ l) (sym (none_behind all at past)) ∙ known

pub one_more_made : {A B : Type 0} (f : A → B) (xs : List A) (i : ℕ) (x : A) (y : B) (made more : List B) → i < length xs → x ≡ get_or xs i x → y ≡ f x → more ≡ made ++ y ∷ []
    → made ≡ map f (take i xs) → more ≡ map f (take (i + 1) xs)
one_more_made f xs i x y made more below at is pushed known =
    pushed ∙ ap (λ b. made ++ b ∷ []) (is ∙ ap f at) ∙ ap (λ bs. bs ++ f (get_or xs i x) ∷ []) known ∙ sym (map_more f xs i x below)

pub all_made_of : {A B : Type 0} (f : A → B) (xs : List A) (i : ℕ) (made : List B) → length xs ≤ i → made ≡ map f (take i xs) → made ≡ map f xs
all_made_of f xs i made past known = known ∙ ap (map f) (take_all i xs past)

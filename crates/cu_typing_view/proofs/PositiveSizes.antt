-- Chunk sizes stay above 0, and chunk shapes keep their ranks.
use Rattle.std.proofs.Common.{◌≡◌, ℕ, suc, ◌<◌, Bool, true, false, List, [], ◌∷◌, length, take, drop, All, refl, ap, arith}
use Rattle.std.proofs.lemmas.List.{length-append}
use Rattle.std.specs.Prelude.{insert, ℤ, pos, negsuc}
use Rattle.std.proofs.lemmas.List.Elements.{All-head, All-tail, All-cons, All-append, All-take, All-drop}
use Rattle.cu_typing_view.specs.NewShapes.{unless_marked, unmarked}
use Rattle.cu_typing_view.specs.Reshaped.{chunk_size, left_before, chunk_of, filled}

abbrev pub Positive : List ℕ → Type 0
Positive xs = All (λ n. 0 < n) xs

pub none_positive : Positive []
none_positive = λ k d h. absurd (omega arith)

length-unless_marked : (m : Bool) (x y : ℕ) → length (unless_marked m x) ≡ length (unless_marked m y)
length-unless_marked true x y = refl
length-unless_marked false x y = refl

pub length-unmarked : (xs ys : List ℕ) (ms : List Bool) → length xs ≡ length ys → length (unmarked xs ms) ≡ length (unmarked ys ms)
length-unmarked [] [] ms e = refl
length-unmarked [] (y ∷ ys) ms e = absurd (omega arith)
length-unmarked (x ∷ xs) [] ms e = absurd (omega arith)
length-unmarked (x ∷ xs) (y ∷ ys) [] e = e
length-unmarked (x ∷ xs) (y ∷ ys) (m ∷ ms) e =
    let here = length-unless_marked m x y in
    let rest = length-unmarked xs ys ms (omega arith) in
    let a = length-append (unless_marked m x) (unmarked xs ms) in
    let b = length-append (unless_marked m y) (unmarked ys ms) in
    omega arith

one_positive : (m : Bool) (x : ℕ) → 0 < x → Positive (unless_marked m x)
one_positive true x h = none_positive
one_positive false x h = All-cons (λ n. 0 < n) x [] h none_positive

pub positive-unmarked : (xs : List ℕ) (ms : List Bool) → Positive xs → Positive (unmarked xs ms)
positive-unmarked [] ms h = none_positive
positive-unmarked (x ∷ xs) [] h = h
positive-unmarked (x ∷ xs) (m ∷ ms) h =
    All-append (λ n. 0 < n) (unless_marked m x) (unmarked xs ms) (one_positive m x (All-head (λ n. 0 < n) x xs h)) (positive-unmarked xs ms (All-tail (λ n. 0 < n) x xs h))

pub positive-chunk_of : (count : ℕ) (ns : List ℕ) → Positive (chunk_of count ns)
positive-chunk_of count [] = none_positive
positive-chunk_of count (n ∷ ns) = All-cons (λ n. 0 < n) (chunk_size (left_before count ns) n) (chunk_of count ns) (omega arith) (positive-chunk_of count ns)

pub positive-insert : (xs : List ℕ) (k n : ℕ) → 0 < n → Positive xs → Positive (insert xs k n)
positive-insert xs k n h all =
    All-append (λ n. 0 < n) (take k xs) (n ∷ drop k xs) (All-take (λ n. 0 < n) k xs all) (All-cons (λ n. 0 < n) n (drop k xs) h (All-drop (λ n. 0 < n) k xs all))

pub length-filled : (left : ℕ) (shape : List ℤ) → length (filled left shape) ≡ length shape
length-filled left [] = refl
length-filled left (pos n ∷ ns) = ap suc (length-filled left ns)
length-filled left (negsuc d ∷ ns) = ap suc (length-filled left ns)

-- Sums and products modulo 2 ^ 64.
use Rattle.std.proofs.Common.{◌≡◌, ℕ, ◌+◌, ◌*◌, ◌%◌, ◌^◌, ◌<◌, ◌≤◌, List, [], ◌∷◌, length, take, get_or, refl, ap, sym, ◌∙◌, arith}
use Rattle.std.specs.List.{sum}
use Rattle.std.specs.Simd.Lanes.{zip2, sum_l, fold_l, chunk}
use Rattle.std.proofs.lemmas.Nat.{mul-mod_first}
use Rattle.std.proofs.lemmas.List.{drop-take, take-take}
use Rattle.std.proofs.lemmas.Simd.{length-chunk}
use Rattle.std.proofs.lemmas.List.Sums.{sum_by-cons, sum_by-take-drop, sum_by_more, fold_more}
use Rattle.cu_lane.specs.Folds.{product_of_words}

-- one word more
pub sum_more : (xs : List ℕ) (k total : ℕ) → k < length xs → total ≡ sum (take k xs) % 2 ^ 64 → (total + get_or xs k 0) % 2 ^ 64 ≡ sum (take (k + 1) xs) % 2 ^ 64
sum_more xs k total b e =
    let more : sum (take (k + 1) xs) ≡ sum (take k xs) + get_or xs k 0 = sum_by_more (λ x. x) xs k 0 b in
    omega arith

pub product_more : (xs : List ℕ) (k total : ℕ) → k < length xs → total ≡ product_of_words (take k xs) % 2 ^ 64 → (total * get_or xs k 0) % 2 ^ 64 ≡ product_of_words (take (k + 1) xs) % 2 ^ 64
product_more xs k total b e =
    ap (λ p. (p * get_or xs k 0) % 2 ^ 64) e ∙ mul-mod_first (product_of_words (take k xs)) (get_or xs k 0) (2 ^ 64)
    ∙ ap (λ p. p % 2 ^ 64) (sym (fold_more (λ a x. a * x) 1 xs k 0 b))

sum_of_lanes : (xs : List ℕ) → sum_l xs ≡ sum xs
sum_of_lanes [] = refl
sum_of_lanes (x ∷ xs) = ap (λ s. x + s) (sum_of_lanes xs) ∙ sym (sum_by-cons (λ y. y) x xs)

-- eight sums more
added_lanes : (xs ys : List ℕ) → length xs ≡ length ys → sum_l (zip2 (λ a b. (a + b) % 2 ^ 64) xs ys) % 2 ^ 64 ≡ (sum_l xs + sum_l ys) % 2 ^ 64
added_lanes [] [] e = refl
added_lanes [] (y ∷ ys) e = absurd (omega arith)
added_lanes (x ∷ xs) [] e = absurd (omega arith)
added_lanes (x ∷ xs) (y ∷ ys) e = let rest = added_lanes xs ys (omega arith) in omega arith

-- the first i + n are the first i and n more
sum_of_parts : (xs : List ℕ) (i n : ℕ) → sum (take (i + n) xs) ≡ sum (take i xs) + sum (chunk i n xs)
sum_of_parts xs i n =
    sym (sum_by-take-drop (λ x. x) (take (i + n) xs) i)
    ∙ (λ j. sum (take-take i (i + n) xs (omega arith) j) + sum (drop-take i n xs j))

pub block_more : (xs all : List ℕ) (at : ℕ) → length all ≡ 8 → at * 8 + 8 ≤ length xs → sum_l all % 2 ^ 64 ≡ sum (take (at * 8) xs) % 2 ^ 64
    → sum_l (zip2 (λ a b. (a + b) % 2 ^ 64) all (chunk (at * 8) 8 xs)) % 2 ^ 64 ≡ sum (take ((at + 1) * 8) xs) % 2 ^ 64
block_more xs all at e room h =
    let long : length all ≡ length (chunk (at * 8) 8 xs) = e ∙ sym (length-chunk (at * 8) 8 xs room) in
    let lanes = added_lanes all (chunk (at * 8) 8 xs) long in
    let own = sum_of_lanes (chunk (at * 8) 8 xs) in
    let parts = sum_of_parts xs (at * 8) 8 in
    let far : (at + 1) * 8 ≡ at * 8 + 8 = omega arith in
    let ends : sum (take ((at + 1) * 8) xs) ≡ sum (take (at * 8 + 8) xs) = ap (λ n. sum (take n xs)) far in
    omega arith

-- the sum of all lanes
pub folded : (xs : List ℕ) (a : ℕ) → a < 2 ^ 64 → fold_l (λ s x. (s + x) % 2 ^ 64) a xs ≡ (a + sum_l xs) % 2 ^ 64
folded [] a h = omega arith
folded (x ∷ xs) a h = folded xs ((a + x) % 2 ^ 64) (omega arith) ∙ (omega arith)

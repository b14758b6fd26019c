-- The numbers below one more that pass a test, and what is made of them.
use Rattle.std.proofs.Common.{◌≡◌, ℕ, ◌+◌, Bool, List, [], ◌∷◌, ◌++◌, cond, filter, map, max, true, false, refl, ap, sym, ◌∙◌, arith}
use Rattle.std.specs.List.{flat_map, range_with_len}
use Rattle.std.proofs.lemmas.Grind.{flat_map-append}
use Rattle.std.proofs.lemmas.List.FromFn.{filter_of_map_range_with_len_more}
use Rattle.std.proofs.lemmas.List.{append-nil, map-append}
use Rattle.cu_shape.specs.Counts.{largest}

map_same : (xs : List ℕ) → map (λ (x : ℕ). x) xs ≡ xs
map_same [] = refl
map_same (x ∷ xs) = ap (λ (ys : List ℕ). x ∷ ys) (map_same xs)

filter_more : (p : ℕ → Bool) (n : ℕ) → filter p (range_with_len 0 (n + 1)) ≡ filter p (range_with_len 0 n) ++ cond (p n) (n ∷ []) []
filter_more p n =
    ap (filter p) (sym (map_same (range_with_len 0 (n + 1))))
    ∙ filter_of_map_range_with_len_more p (λ (x : ℕ). x) 0 n n (omega arith)
    ∙ ap (λ (xs : List ℕ). filter p xs ++ cond (p n) (n ∷ []) []) (map_same (range_with_len 0 n))

passed_over : (p : ℕ → Bool) (n : ℕ) → p n ≡ false → filter p (range_with_len 0 n) ≡ filter p (range_with_len 0 (n + 1))
passed_over p n fails =
    sym (filter_more p n ∙ ap (λ (b : Bool). filter p (range_with_len 0 n) ++ cond b (n ∷ []) []) fails ∙ append-nil (filter p (range_with_len 0 n)))

taken_up : (p : ℕ → Bool) (n : ℕ) → p n ≡ true → filter p (range_with_len 0 n) ++ n ∷ [] ≡ filter p (range_with_len 0 (n + 1))
taken_up p n passes =
    sym (filter_more p n ∙ ap (λ (b : Bool). filter p (range_with_len 0 n) ++ cond b (n ∷ []) []) passes)

-- what is made of the list stays where the number fails
pub made_same : {T : Type 0} (F : List ℕ → T) (p : ℕ → Bool) (n : ℕ) (x : T) → x ≡ F (filter p (range_with_len 0 n)) → p n ≡ false
    → x ≡ F (filter p (range_with_len 0 (n + 1)))
made_same F p n x is fails = is ∙ ap F (passed_over p n fails)

-- ---- where it passes

pub lines_more : (f : ℕ → List ℕ) (p : ℕ → Bool) (n : ℕ) (text longer : List ℕ) → text ≡ flat_map f (filter p (range_with_len 0 n)) → p n ≡ true
    → longer ≡ text ++ f n → longer ≡ flat_map f (filter p (range_with_len 0 (n + 1)))
lines_more f p n text longer is passes more =
    let xs = filter p (range_with_len 0 n) in
    more ∙ ap (λ (t : List ℕ). t ++ f n) is ∙ ap (λ (t : List ℕ). flat_map f xs ++ t) (sym (append-nil (f n)))
    ∙ sym (flat_map-append f xs (n ∷ [])) ∙ ap (flat_map f) (taken_up p n passes)

pub numbers_more : (f : ℕ → ℕ) (p : ℕ → Bool) (n : ℕ) (numbers longer : List ℕ) → numbers ≡ map f (filter p (range_with_len 0 n)) → p n ≡ true
    → longer ≡ numbers ++ f n ∷ [] → longer ≡ map f (filter p (range_with_len 0 (n + 1)))
numbers_more f p n numbers longer is passes more =
    let xs = filter p (range_with_len 0 n) in
    more ∙ ap (λ (t : List ℕ). t ++ f n ∷ []) is ∙ sym (map-append f xs (n ∷ [])) ∙ ap (map f) (taken_up p n passes)

most_push : (ns : List ℕ) (n : ℕ) → largest (ns ++ n ∷ []) ≡ max n (largest ns)
most_push [] n = refl
most_push (m ∷ ms) n = let e = most_push ms n in rw e (omega arith)

pub peak_more : (f : ℕ → ℕ) (p : ℕ → Bool) (n peak higher : ℕ) → peak ≡ largest (map f (filter p (range_with_len 0 n))) → p n ≡ true
    → higher ≡ max (f n) peak → higher ≡ largest (map f (filter p (range_with_len 0 (n + 1))))
peak_more f p n peak higher is passes more =
    let xs = filter p (range_with_len 0 n) in
    more ∙ ap (max (f n)) is ∙ sym (most_push (map f xs) (f n)) ∙ ap largest (sym (map-append f xs (n ∷ [])))
    ∙ ap (λ (ys : List ℕ). largest (map f ys)) (taken_up p n passes)

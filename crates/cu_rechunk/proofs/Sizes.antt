-- Sizes that are on each axis at most those of another list, and their products.
use Rattle.std.proofs.Common.{◌≡◌, ℕ, zero, suc, ◌+◌, ◌<◌, ◌≤◌, ◌*◌, List, [], ◌∷◌, ◌++◌, length, take, get_or, min, max, All, refl, ap, sym, ◌∙◌, arith}
use Rattle.std.proofs.Math.Nat.{mul_assoc}
use Rattle.std.proofs.lemmas.Nat.{mul-le}
use Rattle.std.proofs.lemmas.List.{take_more}
use Rattle.std.proofs.lemmas.List.Elements.{All-head, All-tail, All-cons}
use Rattle.cu_shape.specs.Index.{product}
use Rattle.cu_shape.proofs.Places.{mul_positive}
use Rattle.cu_shape.specs.Counts.{at_least_one}
use Rattle.cu_rechunk.specs.Stages.{cut}

-- on each axis the first is at most the second
abbrev pub AreWithin : List ℕ → List ℕ → Type 0
AreWithin [] [] = Unit {0}
AreWithin (x ∷ xs) (y ∷ ys) = (x ≤ y) × AreWithin xs ys
AreWithin [] (y ∷ ys) = ⊥
AreWithin (x ∷ xs) [] = ⊥

pub product_of_within : (xs ys : List ℕ) → AreWithin xs ys → product xs ≤ product ys
product_of_within [] [] h = omega arith
product_of_within [] (y ∷ ys) h = absurd h
product_of_within (x ∷ xs) [] h = absurd h
product_of_within (x ∷ xs) (y ∷ ys) h = mul-le x (product xs) y (product ys) h.0 (product_of_within xs ys h.1)

pub within_more : (xs ys zs : List ℕ) → AreWithin xs ys → AreWithin ys zs → AreWithin xs zs
within_more [] [] zs h k = k
within_more [] (y ∷ ys) zs h k = absurd h
within_more (x ∷ xs) [] zs h k = absurd h
within_more (x ∷ xs) (y ∷ ys) [] h k = absurd k
within_more (x ∷ xs) (y ∷ ys) (z ∷ zs) h k = ((let a = h.0 in let b = k.0 in omega arith), within_more xs ys zs h.1 k.1)

pub product_positive : (xs : List ℕ) → All (λ c. 0 < c) xs → 0 < product xs
product_positive [] h = omega arith
product_positive (x ∷ xs) h = mul_positive x (product xs) (All-head (λ c. 0 < c) x xs h) (product_positive xs (All-tail (λ c. 0 < c) x xs h))

-- the product of the front with one size more
pub product_append : (xs : List ℕ) (x : ℕ) → product (xs ++ x ∷ []) ≡ product xs * x
product_append [] x = omega arith
product_append (y ∷ xs) x = ap (λ p. y * p) (product_append xs x) ∙ sym (mul_assoc y (product xs) x)

pub product_take_more : (xs : List ℕ) (k : ℕ) → k < length xs → product (take (k + 1) xs) ≡ product (take k xs) * get_or xs k 0
product_take_more xs k h = ap product (take_more xs k 0 h) ∙ product_append (take k xs) (get_or xs k 0)

pub product_take_positive : (xs : List ℕ) (k : ℕ) → All (λ c. 0 < c) xs → 0 < product (take k xs)
product_take_positive xs zero h = omega arith
product_take_positive [] (suc k) h = omega arith
product_take_positive (x ∷ xs) (suc k) h = mul_positive x (product (take k xs)) (All-head (λ c. 0 < c) x xs h) (product_take_positive xs k (All-tail (λ c. 0 < c) x xs h))

-- ---- a chunk cut to the array

pub record IsCut (ns cs xs : List ℕ) : Type 0 where
  pub ranks : length xs ≡ length ns
  pub positive : All (λ c. 0 < c) xs
  pub chunk : AreWithin xs cs
  pub shape : AreWithin xs (at_least_one ns)

pub cut_kept : (ns cs : List ℕ) → length cs ≡ length ns → All (λ c. 0 < c) cs → IsCut ns cs (cut ns cs)
cut_kept [] [] e p = record { ranks = refl; positive = p; chunk = tt; shape = tt }
cut_kept [] (c ∷ cs) e p = absurd (omega arith)
cut_kept (n ∷ ns) [] e p = absurd (omega arith)
cut_kept (n ∷ ns) (c ∷ cs) e p =
    let h = cut_kept ns cs (omega arith) (All-tail (λ x. 0 < x) c cs p) in
    let q : 0 < c = All-head (λ x. 0 < x) c cs p in
    record {
      ranks = ap suc h.ranks;
      positive = All-cons (λ x. 0 < x) (min c (max n 1)) (cut ns cs) (omega arith) h.positive;
      chunk = (omega arith, h.chunk);
      shape = (omega arith, h.shape);
    }

-- Products of sizes, and chunks on one axis.
use Rattle.std.proofs.Common.{◌≡◌, ◌⊎◌, inl, inr, ◌<◌, ◌≤◌, ℕ, zero, suc, ◌+◌, ◌-◌, ◌^◌, ◌*◌, ◌/◌, ◌%◌, List, [], ◌∷◌, length, max, min, get_or, drop, All, refl, ap, sym, ◌∙◌, arith}
use Rattle.std.specs.Int.{div_ceil}
use Rattle.std.proofs.Math.Nat.{div-lt_iff_lt-mul, le-mul_of_pos_right, mul_assoc}
use Rattle.std.proofs.lemmas.Nat.{mul-le, div-add-mod'}
use Rattle.std.proofs.lemmas.List.{drop_more}
use Rattle.cu_shape.specs.Index.{product}
use Rattle.cu_shape.proofs.Places.{mul_positive, product_over}
use Rattle.cu_shape.proofs.Rounded.{counts_below}
use Rattle.cu_shape.specs.Counts.{counts_of, at_least_one}

-- a product of sizes counted as at least one is not 0
pub at_least_one-positive : (xs : List ℕ) → 0 < product (at_least_one xs)
at_least_one-positive [] = omega arith
at_least_one-positive (x ∷ xs) = mul_positive (max 1 x) (product (at_least_one xs)) (omega arith) (at_least_one-positive xs)

-- it is at least each size, and at least the product of the sizes
pub size_within : (xs : List ℕ) (k : ℕ) → k < length xs → get_or xs k 0 ≤ product (at_least_one xs)
size_within [] k h = omega arith
size_within (x ∷ xs) zero h =
    let p : max 1 x ≤ max 1 x * product (at_least_one xs) = le-mul_of_pos_right (max 1 x) (at_least_one-positive xs) in
    omega arith
size_within (x ∷ xs) (suc k) h =
    let i = size_within xs k (omega arith) in
    let p : 1 * product (at_least_one xs) ≤ max 1 x * product (at_least_one xs) = mul-le 1 (product (at_least_one xs)) (max 1 x) (product (at_least_one xs)) (omega arith) (omega arith) in
    omega arith

pub product_within : (xs : List ℕ) → product xs ≤ product (at_least_one xs)
product_within [] = omega arith
product_within (x ∷ xs) = mul-le x (product xs) (max 1 x) (product (at_least_one xs)) (omega arith) (product_within xs)

-- where no size is 0 the sizes count as they are
pub at_least_one_same : (xs : List ℕ) → All (λ n. 0 < n) xs → at_least_one xs ≡ xs
at_least_one_same [] h = refl
at_least_one_same (x ∷ xs) h =
    let p : 0 < x = h 0 0 (omega arith) in
    let e : max 1 x ≡ x = omega arith in
    rw e (ap (λ ys. x ∷ ys) (at_least_one_same xs (λ k d l. h (suc k) d (omega arith))))

-- the chunks of an array, an axis of size 0 counting as one, are at most its elements
pub counts_within : (shape chunk : List ℕ) → All (λ c. 0 < c) chunk → length chunk ≡ length shape → product (at_least_one (counts_of shape chunk)) ≤ product (at_least_one shape)
counts_within [] chunk h e = omega arith
counts_within (n ∷ ns) [] h e = absurd (omega arith)
counts_within (n ∷ ns) (c ∷ cs) h e =
    let p : div_ceil n c ≤ n = counts_below n c (h 0 0 (omega arith)) in
    mul-le (max 1 (div_ceil n c)) (product (at_least_one (counts_of ns cs))) (max 1 n) (product (at_least_one ns)) (omega arith)
    (counts_within ns cs (λ k d l. h (suc k) d (omega arith)) (omega arith))

-- one axis more of a product that counts 0 as one
pub at_least_one_step : (xs : List ℕ) (k count : ℕ) → k < length xs → count * product (at_least_one (drop k xs)) ≡ count * max 1 (get_or xs k 0) * product (at_least_one (drop (k + 1) xs))
at_least_one_step xs k count h = rw (drop_more xs k 0 h) (omega arith)

-- a size that the limit over the count does not hold makes the product exceed the limit
pub over : (xs : List ℕ) (k count limit size : ℕ) → k < length xs → 0 < count → size ≡ max 1 (get_or xs k 0) → limit / count < size → product (at_least_one xs) ≡ count * product (at_least_one (drop k xs)) → limit < product (at_least_one xs)
over xs k count limit size h hc es hs e =
    let s = at_least_one_step xs k count h in
    let o : limit < count * (size * product (at_least_one (drop (k + 1) xs))) = product_over count size (product (at_least_one (drop (k + 1) xs))) limit hc (at_least_one-positive (drop (k + 1) xs)) hs in
    let w = rw es at o in
    omega arith

-- the same with a factor behind: how a limit on bytes bounds elements
pub bytes_over : (p size limit : ℕ) → 0 < size → limit / size < p → limit < p * size
bytes_over p size limit h o = (div-lt_iff_lt-mul {k = size} {x = limit} {y = p} h).0 o

pub bytes_within : (p size limit : ℕ) → 0 < size → p ≤ limit / size → p * size ≤ limit
bytes_within p size limit h o =
    let e : limit / size * size + limit % size ≡ limit = div-add-mod' limit size in
    let q : p * size ≤ limit / size * size = mul-le p size (limit / size) size o (omega arith) in
    omega arith

-- one axis more of a product that fits
pub total_step : (xs : List ℕ) (k count : ℕ) → k < length xs → count * product (at_least_one (drop k xs)) < 2 ^ 64 → (count * get_or xs k 0 < 2 ^ 64) × (count * get_or xs k 0 * product (at_least_one (drop (k + 1) xs)) < 2 ^ 64)
total_step xs k count h b =
    let s = at_least_one_step xs k count h in
    let r = at_least_one-positive (drop (k + 1) xs) in
    let p : count * get_or xs k 0 ≤ count * max 1 (get_or xs k 0) = mul-le count (get_or xs k 0) count (max 1 (get_or xs k 0)) (omega arith) (omega arith) in
    let q : count * get_or xs k 0 * product (at_least_one (drop (k + 1) xs)) ≤ count * max 1 (get_or xs k 0) * product (at_least_one (drop (k + 1) xs)) =
    mul-le (count * get_or xs k 0) (product (at_least_one (drop (k + 1) xs))) (count * max 1 (get_or xs k 0)) (product (at_least_one (drop (k + 1) xs))) p (omega arith) in
    let t : count * get_or xs k 0 ≤ count * get_or xs k 0 * product (at_least_one (drop (k + 1) xs)) = le-mul_of_pos_right (count * get_or xs k 0) r in
    (omega arith, omega arith)

-- a product that saturates: what is so far is exact, or a later factor is 0
pub saturated_step : (count size rest whole next : ℕ) → next ≡ min (count * size) (2 ^ 64 - 1) → whole < 2 ^ 64
    → (count * (size * rest) ≡ whole) ⊎ ((size * rest ≡ 0) × (whole ≡ 0)) → (next * rest ≡ whole) ⊎ ((rest ≡ 0) × (whole ≡ 0))
saturated_step count size zero whole next e small (inl exact) =
    let none : count * (size * 0) ≡ 0 = omega arith in
    inr (refl, sym exact ∙ none)
saturated_step count size zero whole next e small (inr none) = inr (refl, none.1)
saturated_step count size (suc r) whole next e small (inl exact) =
    let again : count * size * suc r ≡ count * (size * suc r) = mul_assoc count size (suc r) in
    let most : count * size ≤ count * size * suc r = le-mul_of_pos_right (count * size) (let p : 0 < suc r = omega arith in p) in
    let same : next ≡ count * size = omega (arith, e, most, again, exact, small) in
    inl (ap (λ x. x * suc r) same ∙ again ∙ exact)
saturated_step count zero (suc r) whole next e small (inr none) =
    let same : next ≡ 0 = (let z : count * 0 ≡ 0 = omega arith in omega (arith, e, z)) in
    inl (ap (λ x. x * suc r) same ∙ (let z : 0 * suc r ≡ 0 = omega arith in z) ∙ sym none.1)
saturated_step count (suc s) (suc r) whole next e small (inr none) =
    let some : suc s ≤ suc s * suc r = le-mul_of_pos_right (suc s) (let p : 0 < suc r = omega arith in p) in
    let z = none.0 in
    absurd (omega (arith, some, z))

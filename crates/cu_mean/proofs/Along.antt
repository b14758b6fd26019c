-- The elements over which is reduced, from a place on.
use Rattle.std.proofs.Common.{◌≡◌, ◌+◌, ◌-◌, ◌<◌, ◌≤◌, ◌==◌, zero, suc, ℕ, ℤ, List, ◌∷◌, Bool, true, false, length, map, refl, ap, arith, inl, inr}
use Rattle.std.specs.Prelude.{◌⊎◌, slice_index}
use Rattle.std.specs.List.{range_with_len}
use Rattle.std.proofs.lemmas.Bool.{eq-eqb}
use Rattle.cu_shape.specs.Index.{IsInside, product, sums, index_at, indices_of}
use Rattle.cu_mean.specs.Reductions.{IsNone, IsFirstOrSingle, elements_along}
use Rattle.cu_mean.proofs.Steps.{range_front, inside_at}

-- the elements from place p on, of n
abbrev pub along_from : (List ℕ → ℤ) → List ℕ → List ℕ → ℕ → ℕ → List ℤ
along_from element start sizes p n = elements_along element start (map (index_at sizes) (range_with_len p (n - p)))

pub along_front : (element : List ℕ → ℤ) (start sizes : List ℕ) (p n : ℕ) → 0 < p → p ≤ n → along_from element start sizes (p - 1) n ≡ element (sums start (index_at sizes (p - 1))) ∷ along_from element start sizes p n
along_front element start sizes p n h g = ap (λ ps. elements_along element start (map (index_at sizes) ps)) (range_front p n h g)

none_at : (element : List ℕ → ℤ) (start sizes : List ℕ) (p m : ℕ) (b : Bool) → (m ≡ 0 → b ≡ true) → (0 < m → b ≡ false) → IsNone (elements_along element start (map (index_at sizes) (range_with_len p m))) b
none_at element start sizes p zero b h g = h refl
none_at element start sizes p (suc m) b h g = g (omega arith)

differ : (a b : ℕ) → a < b → (a == b) ≡ false
differ a b lt = grind arith

-- there are none where p is n
pub none_along : (element : List ℕ → ℤ) (start sizes : List ℕ) (p n : ℕ) → 0 < p → p ≤ n → IsNone (along_from element start sizes p n) (p - 1 + 1 == n)
none_along element start sizes p n h g =
    none_at element start sizes p (n - p) (p - 1 + 1 == n) (λ e. eq-eqb (p - 1 + 1) n (omega arith)) (λ lt. differ (p - 1 + 1) n (omega arith))

-- an index of those sizes is 0 on the axes on which the first number may be above 0
zero_on : (x y n : ℕ) → y < n → (x ≡ 0) ⊎ (n ≡ 1) → (x ≡ 0) ⊎ (y ≡ 0)
zero_on x y n lt (inl e) = inl e
zero_on x y n lt (inr e) = inr (omega arith)

pub steps_apart : (start sizes step : List ℕ) → IsInside sizes step → length sizes ≡ length start → IsFirstOrSingle start sizes → (k : ℕ) → k < length start → (slice_index start k ≡ 0) ⊎ (slice_index step k ≡ 0)
steps_apart start sizes step inside ranks apart k lt = zero_on (slice_index start k) (slice_index step k) (slice_index sizes k) (inside_at sizes step k inside (omega arith)) (apart k lt)

-- all of them
pub whole_along : (element : List ℕ → ℤ) (start sizes : List ℕ) (p n : ℕ) → p ≤ 0 → n ≡ product sizes → along_from element start sizes p n ≡ elements_along element start (indices_of sizes)
whole_along element start sizes p n h e =
    let a : p ≡ 0 = omega arith in
    let b : n - p ≡ product sizes = omega arith in
    (λ i. elements_along element start (map (index_at sizes) (range_with_len (a i) (b i))))

-- Places in the whole array of the indices of a region go up with their places in the region.
use Rattle.std.proofs.Common.{◌≡◌, ℕ, ◌+◌, ◌*◌, ◌/◌, ◌%◌, ◌<◌, ◌≤◌, zero, suc, List, [], ◌∷◌, length, ap, arith, ⊎_elim}
use Rattle.std.proofs.Math.Nat.{mul-le-mul_right}
use Rattle.std.proofs.lemmas.Nat.{div_below, mod_below, div-add-mod'}
use Rattle.std.proofs.lemmas.Bool.{cases_lt}
use Rattle.cu_shape.specs.Index.{product, place_of, index_at, sums, IsInside}
use Rattle.cu_shape.proofs.Places.{place-below}
use Rattle.cu_grid.specs.Counts.{IsRegion}

factor : (a b p : ℕ) → p < a * b → 0 < b
factor a zero p h = absurd (omega arith)
factor a (suc b) p h = omega arith

-- the index lies inside the whole array
pub inside_whole : (shape lo dims : List ℕ) (p : ℕ) → IsRegion shape lo (sums lo dims) → length dims ≡ length lo → p < product dims → IsInside shape (sums lo (index_at dims p))
inside_whole [] [] [] p r e h = tt
inside_whole (s ∷ ss) (l ∷ ls) (d ∷ ds) p r e h =
    let some = factor d (product ds) p h in
    let below : p / product ds < d = div_below p (product ds) d some h in
    let within = r.1 in
    (omega arith, inside_whole ss ls ds (p % product ds) r.2 (omega arith) (mod_below p (product ds) some))
inside_whole shape lo dims p r e h = absurd (first_of (assumption, omega arith))

quotient_order : (p q m : ℕ) → 0 < m → p ≤ q → p / m ≤ q / m
quotient_order p q m some h =
    ⊎_elim (λ less.
    let low = mod_below p m some in
    let high = mod_below q m some in
    let whole_p = div-add-mod' p m in
    let whole_q = div-add-mod' q m in
    let far : suc (q / m) * m ≤ p / m * m = mul-le-mul_right m less in
    absurd (omega arith)) (λ far. far) (cases_lt (q / m) (p / m))

pub places_rise : (shape lo dims : List ℕ) (p q : ℕ) → IsRegion shape lo (sums lo dims) → length dims ≡ length lo → p ≤ q → q < product dims
    → place_of shape (sums lo (index_at dims p)) ≤ place_of shape (sums lo (index_at dims q))
places_rise [] [] [] p q r e o h = omega arith
places_rise (s ∷ ss) (l ∷ ls) (d ∷ ds) p q r e o h =
    let m = product ds in
    let some = factor d m q h in
    let order = quotient_order p q m some o in
    let whole_p = div-add-mod' p m in
    let whole_q = div-add-mod' q m in
    let low = mod_below p m some in
    let high = mod_below q m some in
    let x = place_of ss (sums ls (index_at ds (p % m))) in
    let y = place_of ss (sums ls (index_at ds (q % m))) in
    ⊎_elim
    (λ less.
    let inside : x < product ss = place-below ss (sums ls (index_at ds (p % m))) (inside_whole ss ls ds (p % m) r.2 (omega arith) low) in
    let far : suc (l + p / m) * product ss ≤ (l + q / m) * product ss = mul-le-mul_right (product ss) (let b : suc (l + p / m) ≤ l + q / m = omega arith in b) in
    omega arith)
    (λ same.
    let equal : p / m ≡ q / m = omega arith in
    let products : p / m * m ≡ q / m * m = ap (λ k. k * m) equal in
    let rest = places_rise ss ls ds (p % m) (q % m) r.2 (omega arith) (omega arith) high in
    let heads : (l + p / m) * product ss ≡ (l + q / m) * product ss = ap (λ k. (l + k) * product ss) equal in
    omega arith)
    (cases_lt (p / m) (q / m))
places_rise shape lo dims p q r e o h = absurd (first_of (assumption, omega arith))

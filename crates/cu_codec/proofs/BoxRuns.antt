-- The rows of a box.
use Rattle.std.proofs.Common.{◌≡◌, ℕ, zero, suc, ◌+◌, ◌*◌, ◌/◌, ◌%◌, ◌<◌, ◌≤◌, List, [], ◌∷◌, refl, ap, ◌∙◌, arith}
use Rattle.std.proofs.lemmas.Nat.{div-add-mod', mul-le}
use Rattle.cu_shape.specs.Index.{product}
use Rattle.cu_codec.specs.Box.{run_length}

-- the rows of a box: its elements are so many rows of one length
pub rows_of : (sizes : List ℕ) → (rows : ℕ) × (product sizes ≡ rows * run_length sizes)
rows_of [] = (1, refl)
rows_of (n ∷ []) = (1, omega arith)
rows_of (n ∷ m ∷ ns) = let (rows, e) = rows_of (m ∷ ns) in (n * rows, ap (λ p. n * p) e ∙ omega arith)

pub run_positive : (sizes : List ℕ) → 0 < product sizes → 0 < run_length sizes
run_positive sizes h = let (rows, e) = rows_of sizes in positive rows (run_length sizes) (rw e at h)
  where
    positive : (rows len : ℕ) → 0 < rows * len → 0 < len
    positive rows zero p = absurd (omega arith)
    positive rows (suc len) p = omega arith

-- a row below the number of whole rows fits
pub row_fits_in : (row count len : ℕ) → row < count / len → row * len + len ≤ count
row_fits_in row count len b =
    let e : count / len * len + count % len ≡ count = div-add-mod' count len in
    let far : suc row * len ≤ count / len * len = mul-le (suc row) len (count / len) len b (omega arith) in
    omega arith

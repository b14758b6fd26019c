-- Matrices one after another, along the axes before them.
use Rattle.std.proofs.Common.{◌≡◌, ℕ, zero, suc, ◌+◌, ◌-◌, ◌*◌, ◌/◌, ◌<◌, ◌≤◌, List, [], ◌∷◌, ◌++◌, length, drop, ap, sym, ◌∙◌, arith}
use Rattle.std.proofs.Math.Nat.{mul-le-mul_right, mul-le-mul_left}
use Rattle.std.proofs.lemmas.Nat.{div-mul-add}
use Rattle.std.proofs.lemmas.List.{length-drop}
use Rattle.cu_shape.specs.Index.{product, place_of, index_at, IsInside, back, back_along}
use Rattle.cu_shape.proofs.Places.{inside-length, inside-positive, index-inside, place-below}
use Rattle.cu_product.specs.Block.{IsReadThrough}

pub product_batch : (ds : List ℕ) (m n : ℕ) → product (ds ++ m ∷ n ∷ []) ≡ product ds * (m * n)
product_batch [] m n = omega arith
product_batch (d ∷ ds) m n = ap (λ x. d * x) (product_batch ds m n) ∙ omega arith

pub place_batch : (ds is : List ℕ) (m n i j : ℕ) → length is ≡ length ds → place_of (ds ++ m ∷ n ∷ []) (is ++ i ∷ j ∷ []) ≡ place_of ds is * (m * n) + (i * n + j)
place_batch [] [] m n i j h = omega arith
place_batch [] (x ∷ is) m n i j h = absurd (omega arith)
place_batch (d ∷ ds) [] m n i j h = absurd (omega arith)
place_batch (d ∷ ds) (x ∷ is) m n i j h =
    let more = place_batch ds is m n i j (omega arith) in
    ap (λ p. x * p + place_of (ds ++ m ∷ n ∷ []) (is ++ i ∷ j ∷ [])) (product_batch ds m n) ∙ ap (λ p. x * (product ds * (m * n)) + p) more ∙ omega arith

-- the bytes of the matrices
pub total_of : (ds : List ℕ) (m n s size bytes : ℕ) → size ≡ s → bytes ≡ product (ds ++ m ∷ n ∷ []) * s → bytes ≡ product ds * (m * n * size)
total_of ds m n s size bytes e h = h ∙ ap (λ p. p * s) (product_batch ds m n) ∙ ap (λ x. product ds * (m * n) * x) (sym e) ∙ omega arith

pub factor_first : (a b : ℕ) → 0 < a * b → 0 < a
factor_first zero b h = absurd (omega arith)
factor_first (suc a) b h = omega arith

pub factor_second : (a b : ℕ) → 0 < a * b → 0 < b
factor_second a b h = factor_first b a (omega arith)

pub record HasSome (d m n size bytes : ℕ) : Type 0 where
  pub batch : 0 < d
  pub rows : 0 < m
  pub columns : 0 < n
  pub room : 0 < m * n * size

-- where there are bytes, there is at least one of each
pub has_some : (d m n size bytes : ℕ) → bytes ≡ d * (m * n * size) → 0 < bytes → HasSome d m n size bytes
has_some d m n size bytes e h =
    let all : 0 < d * (m * n * size) = omega arith in
    let room = factor_second d (m * n * size) all in
    let pair = factor_first (m * n) size room in
    record { batch = factor_first d (m * n * size) all; rows = factor_first m n pair; columns = factor_second m n pair; room = room }

pub product_positive : (a b : ℕ) → 0 < a → 0 < b → 0 < a * b
product_positive a b p q = let far : 1 * b ≤ a * b = mul-le-mul_right b (let l : 1 ≤ a = omega arith in l) in omega arith

-- the bytes of one matrix, and its elements, are no more than all bytes
pub room_within : (d m n size bytes : ℕ) → bytes ≡ d * (m * n * size) → 0 < d → 0 < size → (m * n ≤ bytes) × (m * n * size ≤ bytes)
room_within d m n size bytes e some positive =
    let one : 1 * (m * n * size) ≤ d * (m * n * size) = mul-le-mul_right (m * n * size) (let l : 1 ≤ d = omega arith in l) in
    let few : m * n * 1 ≤ m * n * size = mul-le-mul_left (m * n) (let l : 1 ≤ size = omega arith in l) in
    (omega arith, omega arith)

-- and so are the matrices
pub batch_within : (d room bytes : ℕ) → bytes ≡ d * room → 0 < room → d ≤ bytes
batch_within d room bytes e some = let few : d * 1 ≤ d * room = mul-le-mul_left d (let l : 1 ≤ room = omega arith in l) in omega arith

pub whole_parts : (d room bytes : ℕ) → bytes ≡ d * room → 0 < room → bytes / room ≡ d
whole_parts d room bytes e some = ap (λ n. n / room) (e ∙ (let none : d * room ≡ d * room + 0 = omega arith in none)) ∙ div-mul-add d room 0 some

-- an element of a matrix
pub element_in_matrix : (m n i j : ℕ) → i < m → j < n → i * n + j < m * n
element_in_matrix m n i j p q = let far : (i + 1) * n ≤ m * n = mul-le-mul_right n (let l : i + 1 ≤ m = omega arith in l) in omega arith

-- ---- reading through broadcasting

long_enough : (shape is : List ℕ) → length (back_along shape is) ≡ length shape → length shape ≤ length is
long_enough [] is h = omega arith
long_enough (n ∷ ns) [] h = absurd (omega arith)
long_enough (n ∷ ns) (i ∷ is) h = let more = long_enough ns is (omega arith) in omega arith

pub rank_within : (shape idx : List ℕ) → IsInside shape (back shape idx) → length shape ≤ length idx
rank_within shape idx h =
    let k = length idx - length shape in
    let enough = long_enough shape (drop k idx) (inside-length shape (back shape idx) h) in
    omega (arith, enough, length-drop k idx)

pub read_positive : (shape result : List ℕ) → IsReadThrough shape result → 0 < product result → 0 < product shape
read_positive shape result h some = inside-positive shape (back shape (index_at result 0)) (h (index_at result 0) (index-inside result 0 some))

-- an element of a block
pub place_in_block : (ds is : List ℕ) (m n i j : ℕ) → IsInside ds is → i < m → j < n → place_of (ds ++ m ∷ n ∷ []) (is ++ i ∷ j ∷ []) < product (ds ++ m ∷ n ∷ [])
place_in_block ds is m n i j inside p q =
    let place = place_batch ds is m n i j (inside-length ds is inside) in
    let last : (place_of ds is + 1) * (m * n) ≤ product ds * (m * n) = mul-le-mul_right (m * n) (let l : place_of ds is + 1 ≤ product ds = let below = place-below ds is inside in omega arith in l) in
    omega (arith, place, product_batch ds m n, element_in_matrix m n i j p q)

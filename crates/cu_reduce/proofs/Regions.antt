-- The indices of a region: how many, which, and those of the first axis in front.
use Rattle.std.proofs.Common.{◌≡◌, ℕ, ◌+◌, ◌-◌, ◌*◌, ◌<◌, ◌≤◌, zero, suc, List, [], ◌∷◌, ◌++◌, length, get_or, map, refl, sym, ap, ◌∙◌, subst, arith}
use Rattle.std.specs.Prelude.{Contains, All}
use Rattle.std.specs.List.{range_with_len, flat_map}
use Rattle.std.proofs.lemmas.Nat.{div-mul-add, mod-mul-add}
use Rattle.std.proofs.lemmas.List.{length-map}
use Rattle.std.proofs.lemmas.List.FromFn.{length-map-range_with_len, get_or-map-range_with_len}
use Rattle.cu_shape.specs.Index.{product, IsInside, place_of, index_at, sums, differences, indices_of}
use Rattle.cu_shape.proofs.Places.{place-below, index-place, index-inside}
use Rattle.cu_reduce.specs.Regions.{region_indices}
use Rattle.cu_reduce.specs.Parts.{IsBetween}
use Rattle.cu_reduce.proofs.Ranges.{range_append, range_shift, map_ranges, map-append, map-map, flat_map-map, map-flat_map}

-- ---- the first axis in front

block : (n i : ℕ) (ds : List ℕ) → map (index_at (n ∷ ds)) (range_with_len (i * product ds) (product ds)) ≡ map (λ is. i ∷ is) (indices_of ds)
block n i ds =
    map_ranges (index_at (n ∷ ds)) (λ q. i ∷ index_at ds q) (i * product ds) 0 (product ds) (λ q lt.
    let e : 0 + q ≡ q = omega arith in
    rw (div-mul-add i (product ds) q lt) (rw (mod-mul-add i (product ds) q lt) (ap (λ p. i ∷ index_at ds p) (sym e))))
    ∙ sym (map-map (λ is. i ∷ is) (index_at ds) (range_with_len 0 (product ds)))

blocks : (m i n : ℕ) (ds : List ℕ) → map (index_at (m ∷ ds)) (range_with_len (i * product ds) (n * product ds)) ≡ flat_map (λ j. map (λ is. j ∷ is) (indices_of ds)) (range_with_len i n)
blocks m i zero ds = let e : 0 * product ds ≡ 0 = omega arith in ap (λ k. map (index_at (m ∷ ds)) (range_with_len (i * product ds) k)) e
blocks m i (suc n) ds =
    let e : suc n * product ds ≡ product ds + n * product ds = omega arith in
    let s : i * product ds + product ds ≡ (i + 1) * product ds = omega arith in
    ap (λ k. map (index_at (m ∷ ds)) (range_with_len (i * product ds) k)) e
    ∙ ap (map (index_at (m ∷ ds))) (sym (range_append (i * product ds) (product ds) (n * product ds)))
    ∙ map-append (index_at (m ∷ ds)) (range_with_len (i * product ds) (product ds)) (range_with_len (i * product ds + product ds) (n * product ds))
    ∙ ap (λ k. map (index_at (m ∷ ds)) (range_with_len (i * product ds) (product ds)) ++ map (index_at (m ∷ ds)) (range_with_len k (n * product ds))) s
    ∙ (λ j. block m i ds j ++ blocks m (i + 1) n ds j)

pub indices_front : (n : ℕ) (ds : List ℕ) → indices_of (n ∷ ds) ≡ flat_map (λ i. map (λ is. i ∷ is) (indices_of ds)) (range_with_len 0 n)
indices_front n ds =
    let e : 0 ≡ 0 * product ds = omega arith in
    ap (λ k. map (index_at (n ∷ ds)) (range_with_len k (n * product ds))) e ∙ blocks n 0 n ds

pub region_front : (l h : ℕ) (ls hs : List ℕ) → region_indices (l ∷ ls) (h ∷ hs) ≡ flat_map (λ i. map (λ is. i ∷ is) (region_indices ls hs)) (range_with_len l (h - l))
region_front l h ls hs =
    let n : ℕ = h - l in
    let steps : List (List ℕ) = indices_of (differences hs ls) in
    let e : l + 0 ≡ l = omega arith in
    ap (map (sums (l ∷ ls))) (indices_front n (differences hs ls))
    ∙ map-flat_map (sums (l ∷ ls)) (λ i. map (λ is. i ∷ is) steps) (range_with_len 0 n)
    ∙ (λ j. flat_map (λ i. map-map (sums (l ∷ ls)) (λ is. i ∷ is) steps j) (range_with_len 0 n))
    ∙ (λ j. flat_map (λ i. sym (map-map (λ is. (l + i) ∷ is) (sums ls) steps) j) (range_with_len 0 n))
    ∙ sym (flat_map-map (λ i. map (λ is. i ∷ is) (region_indices ls hs)) (λ q. l + q) (range_with_len 0 n))
    ∙ ap (flat_map (λ i. map (λ is. i ∷ is) (region_indices ls hs))) (sym (range_shift l 0 n) ∙ ap (λ a. range_with_len a n) e)

pub append_none : {X : Type 0} (xs : List X) → xs ++ [] ≡ xs
append_none [] = refl
append_none (x ∷ xs) = ap (λ ys. x ∷ ys) (append_none xs)

pub region_none : (l h : ℕ) (ls hs : List ℕ) → h ≤ l → region_indices (l ∷ ls) (h ∷ hs) ≡ []
region_none l h ls hs b =
    let e : h - l ≡ 0 = omega arith in
    region_front l h ls hs ∙ ap (λ n. flat_map (λ i. map (λ is. i ∷ is) (region_indices ls hs)) (range_with_len l n)) e

pub region_one : (l h : ℕ) (ls hs : List ℕ) → h ≡ suc l → region_indices (l ∷ ls) (h ∷ hs) ≡ map (λ is. l ∷ is) (region_indices ls hs)
region_one l h ls hs b =
    let e : h - l ≡ 1 = omega arith in
    region_front l h ls hs ∙ ap (λ n. flat_map (λ i. map (λ is. i ∷ is) (region_indices ls hs)) (range_with_len l n)) e
    ∙ append_none (map (λ is. l ∷ is) (region_indices ls hs))

-- ---- how many and which

pub length-region_indices : (lo hi : List ℕ) → length (region_indices lo hi) ≡ product (differences hi lo)
length-region_indices lo hi =
    length-map (indices_of (differences hi lo)) (sums lo) ∙ length-map-range_with_len (index_at (differences hi lo)) 0 (product (differences hi lo))

between_step : (lo hi i : List ℕ) → IsBetween lo hi i → IsInside (differences hi lo) (differences i lo)
between_step [] [] [] b = tt
between_step (l ∷ ls) (h ∷ hs) (i ∷ is) b = let p = b.0 in let q = b.1 in (omega arith, between_step ls hs is b.2)
between_step lo hi i b = absurd b

step_back : (lo hi i : List ℕ) → IsBetween lo hi i → sums lo (differences i lo) ≡ i
step_back [] [] [] b = refl
step_back (l ∷ ls) (h ∷ hs) (i ∷ is) b =
    let p = b.0 in
    let e : l + (i - l) ≡ i = omega arith in
    (λ j. e j ∷ step_back ls hs is b.2 j)
step_back lo hi i b = absurd b

step_between : (lo hi d : List ℕ) → length lo ≡ length hi → IsInside (differences hi lo) d → IsBetween lo hi (sums lo d)
step_between [] [] [] e b = tt
step_between (l ∷ ls) (h ∷ hs) (i ∷ is) e b = let p = b.0 in (omega arith, omega arith, step_between ls hs is (omega arith) b.1)
step_between lo hi d e b = absurd (first_of (assumption, omega arith))

pub region_at : (lo hi d : List ℕ) (k : ℕ) → k < product (differences hi lo) → get_or (region_indices lo hi) k d ≡ sums lo (index_at (differences hi lo) k)
region_at lo hi d k b =
    ap (λ xs. get_or xs k d) (map-map (sums lo) (index_at (differences hi lo)) (range_with_len 0 (product (differences hi lo))))
    ∙ get_or-map-range_with_len (λ p. sums lo (index_at (differences hi lo) p)) 0 (product (differences hi lo)) k k d b (omega arith)

pub region_contains : (lo hi i : List ℕ) → IsBetween lo hi i → Contains (region_indices lo hi) i
region_contains lo hi i b =
    let ds = differences hi lo in
    let inside = between_step lo hi i b in
    let below : place_of ds (differences i lo) < product ds = place-below ds (differences i lo) inside in
    let many : length (region_indices lo hi) ≡ product ds = length-region_indices lo hi in (
      place_of ds (differences i lo),
      omega arith,
      region_at lo hi i (place_of ds (differences i lo)) below ∙ ap (sums lo) (index-place ds (differences i lo) inside) ∙ step_back lo hi i b,
    )

pub region_all : (lo hi : List ℕ) (P : List ℕ → Type 0) → length lo ≡ length hi → ((i : List ℕ) → IsBetween lo hi i → P i) → All P (region_indices lo hi)
region_all lo hi P e h k d lt =
    let many : length (region_indices lo hi) ≡ product (differences hi lo) = length-region_indices lo hi in
    let b : k < product (differences hi lo) = omega arith in
    subst P (sym (region_at lo hi d k b)) (h (sums lo (index_at (differences hi lo) k)) (step_between lo hi (index_at (differences hi lo) k) e (index-inside (differences hi lo) k b)))

pub region_between : (lo hi i : List ℕ) → length lo ≡ length hi → Contains (region_indices lo hi) i → IsBetween lo hi i
region_between lo hi i e c = subst (IsBetween lo hi) c.2 (region_all lo hi (IsBetween lo hi) e (λ j b. b) c.0 i c.1)

pub length-between : (lo hi i : List ℕ) → IsBetween lo hi i → (length i ≡ length lo) × (length hi ≡ length lo)
length-between [] [] [] b = (refl, refl)
length-between (l ∷ ls) (h ∷ hs) (i ∷ is) b = let e = length-between ls hs is b.2 in (ap suc e.0, ap suc e.1)
length-between lo hi i b = absurd b

-- ---- where it begins

differences_shift : (o lo hi : List ℕ) → length lo ≡ length o → length hi ≡ length o → differences (sums o hi) (sums o lo) ≡ differences hi lo
differences_shift [] [] [] e f = refl
differences_shift (o ∷ os) (l ∷ ls) (h ∷ hs) e f =
    let s : o + h - (o + l) ≡ h - l = omega arith in
    (λ j. s j ∷ differences_shift os ls hs (omega arith) (omega arith) j)
differences_shift o lo hi e f = absurd (omega arith)

sums_assoc : (a b c : List ℕ) → sums (sums a b) c ≡ sums a (sums b c)
sums_assoc [] b c = refl
sums_assoc (a ∷ rs) [] c = refl
sums_assoc (a ∷ rs) (b ∷ bs) [] = refl
sums_assoc (a ∷ rs) (b ∷ bs) (c ∷ cs) = let e : a + b + c ≡ a + (b + c) = omega arith in (λ j. e j ∷ sums_assoc rs bs cs j)

pub region_shift : (o lo hi : List ℕ) → length lo ≡ length o → length hi ≡ length o → region_indices (sums o lo) (sums o hi) ≡ map (sums o) (region_indices lo hi)
region_shift o lo hi e f =
    ap (λ ds. map (sums (sums o lo)) (indices_of ds)) (differences_shift o lo hi e f)
    ∙ (λ j. map (λ d. sums_assoc o lo d j) (indices_of (differences hi lo)))
    ∙ sym (map-map (sums o) (sums lo) (indices_of (differences hi lo)))

zeros_from : (shape : List ℕ) → differences shape (map (λ n. 0) shape) ≡ shape
zeros_from [] = refl
zeros_from (n ∷ ns) = let e : n - 0 ≡ n = omega arith in (λ j. e j ∷ zeros_from ns j)

zeros_to : (ns is : List ℕ) → IsInside ns is → sums (map (λ n. 0) ns) is ≡ is
zeros_to [] [] b = refl
zeros_to (n ∷ ns) (i ∷ is) b = let e : 0 + i ≡ i = omega arith in (λ j. e j ∷ zeros_to ns is b.1 j)
zeros_to ns is b = absurd b

-- the region is the whole array
pub region_whole : (shape : List ℕ) → region_indices (map (λ n. 0) shape) shape ≡ indices_of shape
region_whole shape =
    ap (λ ds. map (sums (map (λ n. 0) shape)) (indices_of ds)) (zeros_from shape)
    ∙ map-map (sums (map (λ n. 0) shape)) (index_at shape) (range_with_len 0 (product shape))
    ∙ map_ranges (λ p. sums (map (λ n. 0) shape) (index_at shape p)) (index_at shape) 0 0 (product shape) (λ q lt.
    let e : 0 + q < product shape = omega arith in zeros_to shape (index_at shape (0 + q)) (index-inside shape (0 + q) e))

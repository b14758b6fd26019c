-- The place of a region that a place of the result reads, axis by axis from the last.
use Rattle.std.proofs.Common.{◌≡◌, ◌==◌, ℕ, zero, suc, ◌+◌, ◌-◌, ◌*◌, ◌/◌, ◌%◌, ◌<◌, ◌≤◌, if◌then◌else◌, List, [], ◌∷◌, length, drop, get_or, refl, ap, sym, ◌∙◌, subst, arith, ⊎_elim, inl, inr, ◌⊎◌}
use Rattle.std.proofs.Math.Nat.{mul-le-mul_right}
use Rattle.std.proofs.lemmas.Nat.{mod_below, mul-le}
use Rattle.std.proofs.lemmas.List.{drop-drop, drop_more, drop_all}
use Rattle.std.proofs.lemmas.Bool.Decides.{eqb_tells}
use Rattle.cu_shape.specs.Index.{product, place_of, index_at, back_along, IsInside}
use Rattle.cu_shape.proofs.Places.{place-below, index-inside, digit_step, left_step, size_positive}
use Rattle.cu_num.specs.Dtype.{size_of}
use Rattle.cu_kern.specs.declared.lays.Lay.{Lay}
use Rattle.cu_kern.specs.Lays.{StretchesAlong, BroadcastsTo, LayFits, IsRun, place_read}
use Rattle.cu_kern.proofs.Stretched.{place_along, read_along, drop_positive, product-drop-le}

-- ---- sizes

product-le : (l ms : List ℕ) → StretchesAlong l ms → 0 < product ms → product l ≤ product ms
product-le [] [] s pos = omega arith
product-le [] (m ∷ ms) s pos = absurd s
product-le (n ∷ ns) [] s pos = absurd s
product-le (n ∷ ns) (zero ∷ ms) s pos = absurd (omega arith)
product-le (n ∷ ns) (suc m ∷ ms) s pos =
    let rest : 0 < product ms = (drop_positive 1 (suc m ∷ ms) (omega arith) pos).1 in
    mul-le n (product ns) (suc m) (product ms) (⊎_elim (λ e. omega arith) (λ e. omega arith) s.0) (product-le ns ms s.1 rest)

pub drop_stretches : (k : ℕ) (l ms : List ℕ) → StretchesAlong l ms → StretchesAlong (drop k l) (drop k ms)
drop_stretches zero l ms s = s
drop_stretches (suc k) [] [] s = tt
drop_stretches (suc k) [] (m ∷ ms) s = absurd s
drop_stretches (suc k) (n ∷ ns) [] s = absurd s
drop_stretches (suc k) (n ∷ ns) (m ∷ ms) s = drop_stretches k ns ms s.1

same_length : (l ms : List ℕ) → StretchesAlong l ms → length l ≡ length ms
same_length [] [] s = refl
same_length [] (m ∷ ms) s = absurd s
same_length (n ∷ ns) [] s = absurd s
same_length (n ∷ ns) (m ∷ ms) s = ap suc (same_length ns ms s.1)

-- what is read lies inside the region
inside : (l ms is : List ℕ) → StretchesAlong l ms → IsInside ms is → IsInside l (back_along l is)
inside [] [] [] s h = tt
inside [] [] (i ∷ is) s h = absurd h
inside [] (m ∷ ms) is s h = absurd s
inside (n ∷ ns) [] is s h = absurd s
inside (n ∷ ns) (m ∷ ms) [] s h = absurd h
inside (n ∷ ns) (m ∷ ms) (i ∷ is) s (low, rest) = (first s.0, inside ns ms is s.1 rest)
  where
    first : ((n ≡ m) ⊎ (n ≡ 1)) → (if n == 1 then 0 else i) < n
    first w = elim (eqb_tells n 1) [
      | inl q ↦ let e = q.1 in let some : 0 < n = omega arith in rw q.0 some
      | inr q ↦ let other = q.1 in let less : i < n = ⊎_elim (λ e. omega arith) (λ e. absurd (other e)) w in rw q.0 less
    ]

along_below : (l ms : List ℕ) (p : ℕ) → StretchesAlong l ms → p < product ms → place_along l ms p < product l
along_below l ms p s h = place-below l (back_along l (index_at ms p)) (inside l ms (index_at ms p) s (index-inside ms p h))

pub read_below : (l ds : List ℕ) (p : ℕ) → BroadcastsTo l ds → p < product ds → place_read l ds p < product l
read_below l ds p f h =
    let lead = length ds - length l in
    let rank = f.rank in
    let rest = (drop_positive lead ds (omega arith) (omega arith)).1 in
    let below = along_below l (drop lead ds) (p % product (drop lead ds)) f.axes (mod_below p (product (drop lead ds)) rest) in
    rw (read_along l ds p lead f.rank refl h) below

-- ---- the loop over the axes

-- the place on the axes from k on
abbrev pub place_from : List ℕ → List ℕ → ℕ → ℕ → ℕ → ℕ
place_from l ds lead k p = place_along (drop k l) (drop (lead + k) ds) (p % product (drop (lead + k) ds))

-- the axes from k on, of both
record Tails (l ds : List ℕ) (lead k : ℕ) : Type 0 where
  pub ranks : length ds ≡ lead + length l
  pub within : k ≤ length l
  pub stretches : StretchesAlong (drop k l) (drop (lead + k) ds)
  pub some : 0 < product (drop (lead + k) ds)
  pub most : product (drop k l) ≤ product ds

tails : (l ds : List ℕ) (lead k : ℕ) → BroadcastsTo l ds → lead ≡ length ds - length l → k ≤ length l → 0 < product ds → Tails l ds lead k
tails l ds lead k f e h pos =
    let rank = f.rank in
    let Q : ℕ → Type 0 = λ d. StretchesAlong l (drop d ds) in
    let P : List ℕ → Type 0 = StretchesAlong (drop k l) in
    let s : StretchesAlong (drop k l) (drop (lead + k) ds) = subst P (drop-drop k lead ds) (drop_stretches k l (drop lead ds) (subst Q (sym e) f.axes)) in
    let some = (drop_positive (lead + k) ds (omega arith) pos).1 in
    let less = product-le (drop k l) (drop (lead + k) ds) s some in
    let most = product-drop-le (lead + k) ds (omega arith) pos in
    record { ranks = omega arith; within = h; stretches = s; some = some; most = omega arith }

pub place_from-below : (l ds : List ℕ) (lead k p : ℕ) → BroadcastsTo l ds → lead ≡ length ds - length l → k ≤ length l → 0 < product ds
    → (place_from l ds lead k p < product (drop k l)) × (product (drop k l) ≤ product ds)
place_from-below l ds lead k p f e h pos =
    let t = tails l ds lead k f e h pos in
    (along_below (drop k l) (drop (lead + k) ds) (p % product (drop (lead + k) ds)) t.stretches (mod_below p (product (drop (lead + k) ds)) t.some), t.most)

-- one axis more: its digit moves the place by the product of the later sizes, where the region isn't stretched there
step_back : (l ds : List ℕ) (lead k p n size rest stride at : ℕ) → BroadcastsTo l ds → lead ≡ length ds - length l → k < length l → 0 < product ds
    → n ≡ get_or l k 0 → size ≡ get_or ds (lead + k) 0 → rest ≡ p / product (drop (lead + (k + 1)) ds) → stride ≡ product (drop (k + 1) l) → at ≡ place_from l ds lead (k + 1) p
    → (place_from l ds lead k p ≡ (if n == 1 then 0 else rest % size) * stride + at) × (0 < size) × (rest / size ≡ p / product (drop (lead + k) ds)) × (stride * n ≡ product (drop k l))
step_back l ds lead k p n size rest stride at f e h pos en es er et ea =
    let rank = f.rank in
    let next : lead + k + 1 ≡ lead + (k + 1) = omega arith in
    let pair = size_positive ds (lead + k) pos (omega arith) in
    let digits = digit_step ds (lead + k) p (omega arith) pair.0 pair.1 in
    let left = left_step ds (lead + k) p (omega arith) in
    let axes : drop k l ≡ n ∷ drop (k + 1) l = drop_more l k 0 h ∙ ap (λ a. a ∷ drop (k + 1) l) (sym en) in
    let digit : p / product (drop (lead + k + 1) ds) % get_or ds (lead + k) 0 ≡ rest % size =
    (λ i. p / product (drop (next i) ds) % sym es i) ∙ ap (λ r. r % size) (sym er) in
    let tail : index_at (drop (lead + k + 1) ds) (p % product (drop (lead + k + 1) ds)) ≡ index_at (drop (lead + (k + 1)) ds) (p % product (drop (lead + (k + 1)) ds)) =
    ap (λ d. index_at (drop d ds) (p % product (drop d ds))) next in
    let index : index_at (drop (lead + k) ds) (p % product (drop (lead + k) ds)) ≡ (rest % size) ∷ index_at (drop (lead + (k + 1)) ds) (p % product (drop (lead + (k + 1)) ds)) =
    digits ∙ (λ i. digit i ∷ tail i) in
    let whole : place_from l ds lead k p ≡ (if n == 1 then 0 else rest % size) * product (drop (k + 1) l) + place_from l ds lead (k + 1) p =
    (λ i. place_of (axes i) (back_along (axes i) (index i))) in (
      whole ∙ (λ i. (if n == 1 then 0 else rest % size) * sym et i + sym ea i),
      rw es pair.0,
      (λ i. er i / es i) ∙ ap (λ d. p / product (drop d ds) / get_or ds (lead + k) 0) (sym next) ∙ left,
      ap (λ s. s * n) et ∙ (let product_is = ap product axes in omega (arith, product_is)),
    )

pub place_from-step : (l ds : List ℕ) (lead a k p n size rest stride at : ℕ) → BroadcastsTo l ds → lead ≡ length ds - length l → a ≡ k + 1 → k < length l → 0 < product ds
    → n ≡ get_or l k 0 → size ≡ get_or ds (lead + k) 0 → rest ≡ p / product (drop (lead + a) ds) → stride ≡ product (drop a l) → at ≡ place_from l ds lead a p
    → (place_from l ds lead k p ≡ (if n == 1 then 0 else rest % size) * stride + at) × (0 < size) × (rest / size ≡ p / product (drop (lead + k) ds)) × (stride * n ≡ product (drop k l))
place_from-step l ds lead a k p n size rest stride at f e next h pos en es er et ea =
    step_back l ds lead k p n size rest stride at f e h pos en es (er ∙ ap (λ j. p / product (drop (lead + j) ds)) next) (et ∙ ap (λ j. product (drop j l)) next) (ea ∙ ap (λ j. place_from l ds lead j p) next)

-- at the end of the loop
pub place_from-all : (l ds : List ℕ) (lead p : ℕ) → BroadcastsTo l ds → lead ≡ length ds - length l → p < product ds → place_from l ds lead 0 p ≡ place_read l ds p
place_from-all l ds lead p f e h =
    let same : lead + 0 ≡ lead = omega arith in
    ap (λ d. place_along l (drop d ds) (p % product (drop d ds))) same ∙ sym (read_along l ds p lead f.rank e h)

-- and at its beginning
pub place_from-none : (l ds : List ℕ) (lead k p : ℕ) → k ≡ length l → place_from l ds lead k p ≡ 0
place_from-none l ds lead k p e = ap (λ t. place_along t (drop (lead + k) ds) (p % product (drop (lead + k) ds))) (drop_all k l (omega arith))

-- ---- a piece of a run

pub piece_inside : (l : Lay) (ds : List ℕ) (room p run step count first : ℕ) → LayFits ds room l → IsRun l.dims ds run step → 0 < count → p + count ≤ product ds → p % run + count ≤ run
    → first ≡ place_read l.dims ds p → l.at + (first + step * (count - 1)) * size_of l.dtype + size_of l.dtype ≤ room
piece_inside l ds room p run step count first fits paced some within below e =
    let inside = fits.inside in
    let last = paced p (count - 1) (omega arith) (omega arith) in
    let low : place_read l.dims ds (p + (count - 1)) < product l.dims = read_below l.dims ds (p + (count - 1)) fits.broadcasts (omega arith) in
    let far : suc (first + step * (count - 1)) * size_of l.dtype ≤ product l.dims * size_of l.dtype = mul-le-mul_right (size_of l.dtype) (let b : suc (first + step * (count - 1)) ≤ product l.dims = omega arith in b) in
    omega arith

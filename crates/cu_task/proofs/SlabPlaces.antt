-- Slabs of a region: some indices of its first axis, and where their elements stand.
use Rattle.std.proofs.Common.{◌≡◌, ◌<◌, ◌≤◌, ◌+◌, ◌-◌, ◌*◌, ◌/◌, ◌%◌, ◌==◌, ℕ, zero, suc, List, [], ◌∷◌, length, drop, set, get_or, inl, inr, refl, ap, ◌∙◌, arith, if◌then◌else◌}
use Rattle.std.proofs.lemmas.Bool.Decides.{eqb_tells}
use Rattle.std.proofs.lemmas.Nat.{div-add-mod', div_below, le-div, mod_below, mul-le}
use Rattle.cu_codec.proofs.Shared.{within_sizes}
use Rattle.cu_codec.specs.Parts.{place_within}
use Rattle.cu_grid.specs.Counts.{IsRegion, IsWithin}
use Rattle.cu_shape.proofs.Places.{index-inside, inside-length, place-index}
use Rattle.cu_shape.specs.Index.{back, back_along, differences, index_at, place_of, product, sums, IsInside}
use Rattle.cu_task.proofs.PullTask.{box_back}
use Rattle.cu_task.proofs.ViewChunks.{within_box}
use Rattle.cu_task.specs.Straight.{behind_first}

pub product_rows : (ds : List ℕ) → 0 < length ds → product ds ≡ get_or ds 0 0 * product (behind_first ds)
product_rows [] some = absurd (omega arith)
product_rows (d ∷ ds) some = refl

pub product_cut : (ds : List ℕ) (rows : ℕ) → 0 < length ds → product (set ds 0 rows) ≡ rows * product (behind_first ds)
product_cut [] rows some = absurd (omega arith)
product_cut (d ∷ ds) rows some = refl

-- the first row of each of these is past the end of others, or no place is in any
pub rows_most : (first end row : ℕ) → first ≤ end → first * row ≤ end * row
rows_most first end row most = mul-le first row end row most (omega arith)

-- ---- the region of a slab

pub slab_region : (shape lo hi : List ℕ) (first end : ℕ) → IsRegion shape lo hi → first ≤ end → end ≤ get_or (differences hi lo) 0 0
    → IsRegion shape (set lo 0 (get_or lo 0 0 + first)) (set hi 0 (get_or lo 0 0 + end))
slab_region [] [] [] first end r least most = tt
slab_region (n ∷ ns) (l ∷ ls) (h ∷ hs) first end r least most =
    let low = r.0 in
    let high = r.1 in
    let few : end ≤ h - l = most in
    (omega (arith, least), omega (arith, low, high, few), r.2)
slab_region shape lo hi first end r least most = absurd assumption

pub slab_inside : (lo hi idx : List ℕ) (first end : ℕ) → IsWithin (set lo 0 (get_or lo 0 0 + first)) (set hi 0 (get_or lo 0 0 + end)) idx
    → IsInside (set (differences hi lo) 0 (end - first)) (differences idx (set lo 0 (get_or lo 0 0 + first)))
slab_inside [] [] [] first end w = tt
slab_inside (l ∷ ls) (h ∷ hs) (i ∷ is) first end w =
    let low = w.0 in
    let high = w.1 in
    (omega (arith, low, high), within_sizes ls hs is w.2)
slab_inside lo hi idx first end w = absurd assumption

pub slab_within : (lo hi idx : List ℕ) (first end : ℕ) → end ≤ get_or (differences hi lo) 0 0
    → IsWithin (set lo 0 (get_or lo 0 0 + first)) (set hi 0 (get_or lo 0 0 + end)) idx → IsWithin lo hi idx
slab_within [] [] [] first end most w = tt
slab_within (l ∷ ls) (h ∷ hs) (i ∷ is) first end most w =
    let low = w.0 in
    let high = w.1 in
    let few : end ≤ h - l = most in
    (omega (arith, low), omega (arith, low, high, few), w.2)
slab_within lo hi idx first end most w = absurd assumption

-- ---- the index of a place

pub record IsInSlab (lo hi : List ℕ) (first end p : ℕ) (idx : List ℕ) : Type 0 where
  pub own : IsWithin lo hi idx
  pub place : place_within lo hi idx ≡ p
  pub within : IsWithin (set lo 0 (get_or lo 0 0 + first)) (set hi 0 (get_or lo 0 0 + end)) idx
  pub cut : first * product (behind_first (differences hi lo))
      + place_of (set (differences hi lo) 0 (end - first)) (differences idx (set lo 0 (get_or lo 0 0 + first))) ≡ p

parted : (first q row rest p : ℕ) → first ≤ q → q * row + rest ≡ p → first * row + ((q - first) * row + rest) ≡ p
parted first q row rest p low all =
    let both : q ≡ first + (q - first) = omega (arith, low) in
    let times : q * row ≡ (first + (q - first)) * row = ap (λ (n : ℕ). n * row) both in
    omega (arith, times, all)

some_row : (end row p : ℕ) → p < end * row → 0 < row
some_row end zero p below = absurd (omega (arith, below))
some_row end (suc row) p below = omega arith

below_rows : (ds : List ℕ) (end p : ℕ) → 0 < length ds → end ≤ get_or ds 0 0 → p < end * product (behind_first ds) → p < product ds
below_rows ds end p some most below =
    let all = product_rows ds some in
    let few = rows_most end (get_or ds 0 0) (product (behind_first ds)) most in
    omega (arith, all, few, below)

pub in_slab : (shape lo hi : List ℕ) (first end p : ℕ) → IsRegion shape lo hi → 0 < length (differences hi lo) → end ≤ get_or (differences hi lo) 0 0
    → first * product (behind_first (differences hi lo)) ≤ p → p < end * product (behind_first (differences hi lo))
    → IsInSlab lo hi first end p (sums lo (index_at (differences hi lo) p))
in_slab [] [] [] first end p r some most low high = absurd (omega (arith, some))
in_slab (n ∷ ns) (l ∷ ls) (h ∷ hs) first end p r some most low high =
    let ds = differences hs ls in
    let row = product (differences hs ls) in
    let positive = some_row end (product (differences hs ls)) p high in
    let inside = index-inside (differences hs ls) (p % product (differences hs ls)) (mod_below p (product (differences hs ls)) positive) in
    let back = box_back ns ls hs (index_at (differences hs ls) (p % product (differences hs ls))) r.2 inside in
    let least = le-div first p (product (differences hs ls)) positive low in
    let less = div_below p (product (differences hs ls)) end positive high in
    let below = below_rows ((h - l) ∷ differences hs ls) end p (omega arith) most high in
    let whole = index-inside ((h - l) ∷ differences hs ls) p below in
    let all = div-add-mod' p (product (differences hs ls)) in
    let rest = place-index (differences hs ls) (p % product (differences hs ls)) (mod_below p (product (differences hs ls)) positive) in
    let box = within_box ns ls hs (index_at (differences hs ls) (p % product (differences hs ls))) r.2 inside in
    let away : l + p / product (differences hs ls) - (l + first) ≡ p / product (differences hs ls) - first = omega arith in
    record {
      own = within_box (n ∷ ns) (l ∷ ls) (h ∷ hs) (index_at ((h - l) ∷ differences hs ls) p) r whole;
      place = ap (place_of ((h - l) ∷ differences hs ls)) (box_back (n ∷ ns) (l ∷ ls) (h ∷ hs) (index_at ((h - l) ∷ differences hs ls) p) r whole)
          ∙ place-index ((h - l) ∷ differences hs ls) p below;
      within = (omega (arith, least), omega (arith, less), box);
      cut = ap (λ (m : ℕ). first * product (differences hs ls) + (m * product (differences hs ls)
          + place_of (differences hs ls) (differences (sums ls (index_at (differences hs ls) (p % product (differences hs ls)))) ls))) away
          ∙ ap (λ (m : ℕ). first * product (differences hs ls) + ((p / product (differences hs ls) - first) * product (differences hs ls) + m))
          (ap (place_of (differences hs ls)) back ∙ rest)
          ∙ parted first (p / product (differences hs ls)) (product (differences hs ls)) (p % product (differences hs ls)) p least all;
    }
in_slab shape lo hi first end p r some most low high = absurd assumption

-- ---- an array of the same sizes is read at the same index

back_along_same : (ns is : List ℕ) → IsInside ns is → back_along ns is ≡ is
back_along_same [] [] h = refl
back_along_same [] (i ∷ is) h = absurd h
back_along_same (n ∷ ns) [] h = absurd h
back_along_same (n ∷ ns) (i ∷ is) (first, rest) = both i (back_along ns is) is (head n i first) (back_along_same ns is rest)
  where
    head : (n i : ℕ) → i < n → (if n == 1 then 0 else i) ≡ i
    head n i h = elim (eqb_tells n 1) [ inl p ↦ rw p.0 (let one = p.1 in omega (arith, one)) | inr p ↦ rw p.0 refl ]

    both : (i : ℕ) (xs ys : List ℕ) {j : ℕ} → j ≡ i → xs ≡ ys → j ∷ xs ≡ i ∷ ys
    both i xs ys e r = cc

pub back_same : (shape idx : List ℕ) → IsInside shape idx → back shape idx ≡ idx
back_same shape idx h =
    let n = inside-length shape idx h in
    ap (λ k. back_along shape (drop k idx)) (let z : length idx - length shape ≡ 0 = omega (arith, n) in z) ∙ back_along_same shape idx h

-- a region with a first axis has one everywhere
pub some_axis : (shape lo hi : List ℕ) → IsRegion shape lo hi → 0 < length lo → (0 < length hi) × (0 < length (differences hi lo))
some_axis shape [] hi r some = absurd (omega (arith, some))
some_axis [] (l ∷ ls) hi r some = absurd r
some_axis (n ∷ ns) (l ∷ ls) [] r some = absurd r
some_axis (n ∷ ns) (l ∷ ls) (h ∷ hs) r some = (omega arith, omega arith)

-- what is within the sizes ends before the region does
pub ends_before : (shape lo hi : List ℕ) (end : ℕ) → IsRegion shape lo hi → 0 < length lo → end ≤ get_or (differences hi lo) 0 0 → get_or lo 0 0 + end ≤ get_or hi 0 0
ends_before shape [] hi end r some most = absurd (omega (arith, some))
ends_before [] (l ∷ ls) hi end r some most = absurd r
ends_before (n ∷ ns) (l ∷ ls) [] end r some most = absurd r
ends_before (n ∷ ns) (l ∷ ls) (h ∷ hs) end r some most =
    let few : end ≤ h - l = most in
    let low = r.0 in
    omega (arith, few, low)

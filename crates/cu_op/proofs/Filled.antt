-- Regions that have an index on each axis, by their first and their last index.
use Rattle.std.proofs.Common.{◌≡◌, ℕ, zero, suc, pred, ◌<◌, ◌≤◌, ◌+◌, ◌*◌, List, [], ◌∷◌, length, map, take, All, Contains, get_or, refl, ap, sym, ◌∙◌, subst, arith}
use Rattle.std.proofs.lemmas.List.FromFn.{length-range_with_len, get_or-range_with_len}
use Rattle.std.specs.List.{range_with_len}
use Rattle.cu_shape.specs.Index.{product, IsInside, index_at, sums, differences}
use Rattle.cu_shape.proofs.Places.{index-inside}
use Rattle.cu_shape.proofs.Rounded.{before_end}
use Rattle.cu_grid.specs.Counts.{counts_of, chunk_lo, chunk_hi, IsRegion, IsWithin}
use Rattle.cu_reduce.specs.Regions.{region_indices}

-- on each axis from `lo` to below `hi`, which is more and at most the size
abbrev pub IsFilled : List ℕ → List ℕ → List ℕ → Type 0
IsFilled [] [] [] = Unit {0}
IsFilled (n ∷ ns) (l ∷ ls) (h ∷ hs) = (l < h) × (h ≤ n) × IsFilled ns ls hs
IsFilled ns ls hs = ⊥

-- no number is above that of the other list
abbrev pub AreAtMost : List ℕ → List ℕ → Type 0
AreAtMost [] [] = Unit {0}
AreAtMost (i ∷ is) (j ∷ js) = (i ≤ j) × AreAtMost is js
AreAtMost is js = ⊥

before : (l h : ℕ) → l < h → (l ≤ pred h) × (suc (pred h) ≡ h)
before l zero b = absurd (omega arith)
before l (suc h) b = (omega arith, refl)

pub filled_first : (ns ls hs : List ℕ) → IsFilled ns ls hs → IsInside ns ls
filled_first [] [] [] f = tt
filled_first (n ∷ ns) (l ∷ ls) (h ∷ hs) f = ((let a = f.0 in let b = f.1 in omega arith), filled_first ns ls hs f.2)
filled_first ns ls hs f = absurd f

pub filled_last : (ns ls hs : List ℕ) → IsFilled ns ls hs → IsInside ns (map pred hs)
filled_last [] [] [] f = tt
filled_last (n ∷ ns) (l ∷ ls) (h ∷ hs) f = ((let a = f.0 in let b = f.1 in let c = (before l h a).1 in omega (arith, b, c)), filled_last ns ls hs f.2)
filled_last ns ls hs f = absurd f

pub filled_order : (ns ls hs : List ℕ) → IsFilled ns ls hs → AreAtMost ls (map pred hs)
filled_order [] [] [] f = tt
filled_order (n ∷ ns) (l ∷ ls) (h ∷ hs) f = ((before l h f.0).0, filled_order ns ls hs f.2)
filled_order ns ls hs f = absurd f

pub filled_region : (ns ls hs : List ℕ) → IsFilled ns ls hs → IsRegion ns ls hs
filled_region [] [] [] f = tt
filled_region (n ∷ ns) (l ∷ ls) (h ∷ hs) f = ((let a = f.0 in omega arith), f.1, filled_region ns ls hs f.2)
filled_region ns ls hs f = absurd f

pub filled_lengths : (ns ls hs : List ℕ) → IsFilled ns ls hs → (length ls ≡ length ns) × (length hs ≡ length ns)
filled_lengths [] [] [] f = (refl, refl)
filled_lengths (n ∷ ns) (l ∷ ls) (h ∷ hs) f = let e = filled_lengths ns ls hs f.2 in (ap suc e.0, ap suc e.1)
filled_lengths ns ls hs f = absurd f

pub filled_at : (ns ls hs : List ℕ) (k : ℕ) → IsFilled ns ls hs → k < length ns → (get_or ls k 0 < get_or hs k 0) × (get_or hs k 0 ≤ get_or ns k 0)
filled_at [] [] [] k f b = absurd (omega arith)
filled_at (n ∷ ns) (l ∷ ls) (h ∷ hs) zero f b = (f.0, f.1)
filled_at (n ∷ ns) (l ∷ ls) (h ∷ hs) (suc k) f b = filled_at ns ls hs k f.2 (omega arith)
filled_at ns ls hs k f b = absurd f

pub filled_take : (k : ℕ) (ns ls hs : List ℕ) → IsFilled ns ls hs → IsFilled (take k ns) (take k ls) (take k hs)
filled_take zero ns ls hs f = tt
filled_take (suc k) [] [] [] f = tt
filled_take (suc k) (n ∷ ns) (l ∷ ls) (h ∷ hs) f = (f.0, f.1, filled_take k ns ls hs f.2)
filled_take (suc k) ns ls hs f = absurd f

-- an index of the region
pub from_first : (ls hs is : List ℕ) → IsWithin ls hs is → AreAtMost ls is
from_first [] [] [] w = tt
from_first (l ∷ ls) (h ∷ hs) (i ∷ is) w = (w.0, from_first ls hs is w.2)
from_first ls hs is w = absurd w

pub up_to_last : (ls hs is : List ℕ) → IsWithin ls hs is → AreAtMost is (map pred hs)
up_to_last [] [] [] w = tt
up_to_last (l ∷ ls) (h ∷ hs) (i ∷ is) w = ((before i h w.1).0, up_to_last ls hs is w.2)
up_to_last ls hs is w = absurd w

pub within_take : (k : ℕ) (ls hs is : List ℕ) → IsWithin ls hs is → IsWithin (take k ls) (take k hs) (take k is)
within_take zero ls hs is w = tt
within_take (suc k) [] [] [] w = tt
within_take (suc k) (l ∷ ls) (h ∷ hs) (i ∷ is) w = (w.0, w.1, within_take k ls hs is w.2)
within_take (suc k) ls hs is w = absurd w

pub within_inside : (ns ls hs is : List ℕ) → IsRegion ns ls hs → IsWithin ls hs is → IsInside ns is
within_inside [] [] [] [] r w = tt
within_inside (n ∷ ns) (l ∷ ls) (h ∷ hs) (i ∷ is) r w = ((let a = r.1 in let b = w.1 in omega arith), within_inside ns ls hs is r.2 w.2)
within_inside ns ls hs is r w = absurd assumption

-- the region of one index
pub filled_one : (ns is : List ℕ) → IsInside ns is → IsFilled ns is (map suc is)
filled_one [] [] h = tt
filled_one (n ∷ ns) (i ∷ is) h = (omega arith, (let a = h.0 in omega arith), filled_one ns is h.1)
filled_one ns is h = absurd h

pub within_one : (is : List ℕ) → IsWithin is (map suc is) is
within_one [] = tt
within_one (i ∷ is) = (omega arith, omega arith, within_one is)

-- the region of a chunk
pub chunk_filled : (shape chunk coord : List ℕ) → All (λ c. 0 < c) chunk → length chunk ≡ length shape → IsInside (counts_of shape chunk) coord
    → IsFilled shape (chunk_lo chunk coord) (chunk_hi shape chunk coord)
chunk_filled [] [] [] p e h = tt
chunk_filled (n ∷ ns) (c ∷ cs) (i ∷ is) p e h =
    let c_positive : 0 < c = p 0 0 (omega arith) in
    let starts : i * c < n = before_end n c i c_positive h.0 in
    let next : (i + 1) * c ≡ i * c + c = omega arith in
    (omega arith, omega arith, chunk_filled ns cs is (λ k d l. p (suc k) d (omega arith)) (omega arith) h.1)
chunk_filled ns cs is p e h = absurd (first_of (assumption, omega arith))

-- ---- the indices of a region

pub contains_mapped : {A B : Type 0} (f : A → B) (xs : List A) (y : B) → Contains (map f xs) y → (x : A) × Contains xs x × (f x ≡ y)
contains_mapped f [] y (k, l, e) = absurd (omega arith)
contains_mapped f (x ∷ xs) y (zero, l, e) = (x, (0, omega arith, refl), e)
contains_mapped f (x ∷ xs) y (suc k, l, e) =
    let (z, among, is) = contains_mapped f xs y (k, (let b : suc k < suc (length (map f xs)) = l in omega arith), e) in
    (z, (suc among.0, (let b = among.1 in omega arith), among.2), is)

pub below_range : (a n p : ℕ) → Contains (range_with_len a n) p → (a ≤ p) × (p < a + n)
below_range a n p (k, l, e) =
    let m : length (range_with_len a n) ≡ n = length-range_with_len a n in
    let v : get_or (range_with_len a n) k p ≡ a + k = get_or-range_with_len a n k p (omega (arith, m, l)) in
    let is : p ≡ a + k = sym e ∙ v in
    (omega (arith, is), omega (arith, is, m, l))

sums_within : (ns ls hs js : List ℕ) → IsRegion ns ls hs → IsInside (differences hs ls) js → IsWithin ls hs (sums ls js)
sums_within [] [] [] [] r h = tt
sums_within (n ∷ ns) (l ∷ ls) (h ∷ hs) (j ∷ js) r q = (omega arith, (let a = q.0 in omega arith), sums_within ns ls hs js r.2 q.1)
sums_within ns ls hs js r h = absurd assumption

pub region_within : (ns ls hs is : List ℕ) → IsRegion ns ls hs → Contains (region_indices ls hs) is → IsWithin ls hs is
region_within ns ls hs is r c =
    let ds = differences hs ls in
    let (j, among, e) = contains_mapped (sums ls) (map (index_at ds) (range_with_len 0 (product ds))) is c in
    let (p, place, f) = contains_mapped (index_at ds) (range_with_len 0 (product ds)) j among in
    let b = below_range 0 (product ds) p place in
    let inside : IsInside (differences hs ls) j = subst (IsInside ds) f (index-inside ds p (let l = b.1 in omega arith)) in
    subst (IsWithin ls hs) e (sums_within ns ls hs j r inside)

-- ---- at an axis

pub within_at : (ls hs is : List ℕ) (k : ℕ) → IsWithin ls hs is → k < length is → (get_or ls k 0 ≤ get_or is k 0) × (get_or is k 0 < get_or hs k 0)
within_at [] [] [] k w b = absurd (omega arith)
within_at (l ∷ ls) (h ∷ hs) (i ∷ is) zero w b = (w.0, w.1)
within_at (l ∷ ls) (h ∷ hs) (i ∷ is) (suc k) w b = within_at ls hs is k w.2 (omega arith)
within_at ls hs is k w b = absurd w

pub past : (xs : List ℕ) (k d : ℕ) → length xs ≤ k → get_or xs k d ≡ d
past [] k d h = refl
past (x ∷ xs) zero d h = absurd (omega arith)
past (x ∷ xs) (suc k) d h = past xs k d (omega arith)

pub other_default : (xs : List ℕ) (k d e : ℕ) → k < length xs → get_or xs k d ≡ get_or xs k e
other_default [] k d e h = absurd (omega arith)
other_default (x ∷ xs) zero d e h = refl
other_default (x ∷ xs) (suc k) d e h = other_default xs k d e (omega arith)

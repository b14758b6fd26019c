-- Regions whose elements stand together in row-major order, and chunks of a reshape's source that are such regions.
use Rattle.std.proofs.Common.{◌≡◌, ℕ, zero, suc, ◌+◌, ◌-◌, ◌*◌, ◌<◌, ◌≤◌, List, [], ◌∷◌, map, pred, refl, ap, arith}
use Rattle.std.proofs.Math.Nat.{mul-le-mul_left}
use Rattle.std.proofs.lemmas.Nat.{mul-le}
use Rattle.cu_shape.specs.Index.{product, place_of, sums, differences, IsInside}
use Rattle.cu_grid.specs.Counts.{IsRegion, IsWithin}
use Rattle.cu_codec.specs.Parts.{place_within}
use Rattle.cu_codec.proofs.Taken.{region_in_array}

-- ---- a region's elements are as far from one another as in its buffer, or farther

-- a region has at most as many elements as the array
pub few_in_region : (shape lo hi : List ℕ) → IsRegion shape lo hi → product (differences hi lo) ≤ product shape
few_in_region [] [] [] r = omega arith
few_in_region [] [] (h ∷ hi) r = absurd r
few_in_region [] (l ∷ lo) hi r = absurd r
few_in_region (n ∷ ns) [] hi r = absurd r
few_in_region (n ∷ ns) (l ∷ lo) [] r = absurd r
few_in_region (n ∷ ns) (l ∷ lo) (h ∷ hi) r =
    let most = r.1 in
    mul-le (h - l) (product (differences hi lo)) n (product ns) (omega arith) (few_in_region ns lo hi r.2)

both_positive : (a b : ℕ) → 0 < a * b → (0 < a) × (0 < b)
both_positive zero b p = absurd (omega arith)
both_positive (suc a) zero p = absurd (omega arith)
both_positive (suc a) (suc b) p = (omega arith, omega arith)

-- a region that has an element has its first index
pub first_within : (shape lo hi : List ℕ) → IsRegion shape lo hi → 0 < product (differences hi lo) → IsWithin lo hi lo
first_within [] [] [] r p = tt
first_within [] [] (h ∷ hi) r p = absurd r
first_within [] (l ∷ lo) hi r p = absurd r
first_within (n ∷ ns) [] hi r p = absurd r
first_within (n ∷ ns) (l ∷ lo) [] r p = absurd r
first_within (n ∷ ns) (l ∷ lo) (h ∷ hi) r p =
    let both = both_positive (h - l) (product (differences hi lo)) p in
    let some = both.0 in
    (omega arith, omega arith, first_within ns lo hi r.2 both.1)

-- and its last, which is on no axis before another
pub last_after : (lo hi idx : List ℕ) → IsWithin lo hi idx → IsWithin idx hi (map pred hi)
last_after [] [] [] w = tt
last_after [] [] (i ∷ idx) w = absurd w
last_after [] (h ∷ hi) idx w = absurd w
last_after (l ∷ lo) [] idx w = absurd w
last_after (l ∷ lo) (h ∷ hi) [] w = absurd w
last_after (l ∷ lo) (zero ∷ hi) (i ∷ idx) w = let below = w.1 in absurd (omega arith)
last_after (l ∷ lo) (suc h ∷ hi) (i ∷ idx) w = let below = w.1 in (omega arith, omega arith, last_after lo hi idx w.2)

-- the first stands at place 0 of the buffer, and the last at the end
pub far_from_itself : (ds lo : List ℕ) → place_of ds (differences lo lo) ≡ 0
far_from_itself [] lo = refl
far_from_itself (d ∷ ds) [] = refl
far_from_itself (d ∷ ds) (l ∷ lo) = let rest = far_from_itself ds lo in let none : l - l ≡ 0 = omega arith in rw none (omega (arith, rest))

pub last_far : (lo hi idx : List ℕ) → IsWithin lo hi idx → place_of (differences hi lo) (differences (map pred hi) lo) + 1 ≡ product (differences hi lo)
last_far [] [] [] w = refl
last_far [] [] (i ∷ idx) w = absurd w
last_far [] (h ∷ hi) idx w = absurd w
last_far (l ∷ lo) [] idx w = absurd w
last_far (l ∷ lo) (h ∷ hi) [] w = absurd w
last_far (l ∷ lo) (zero ∷ hi) (i ∷ idx) w = let below = w.1 in absurd (omega arith)
last_far (l ∷ lo) (suc h ∷ hi) (i ∷ idx) w =
    let rest = last_far lo hi idx w.2 in
    let low = w.0 in
    let below = w.1 in
    let count : suc h - l ≡ suc (h - l) = omega arith in
    rw count (omega (arith, rest))

-- from an index to a later one on each axis
step_apart : (l i j few many : ℕ) → l ≤ i → i ≤ j → few ≤ many → i * many + (j - l) * few ≤ j * many + (i - l) * few
step_apart l i j few many low up less =
    let ahead : j ≡ i + (j - i) = omega arith in
    let far : j - l ≡ (i - l) + (j - i) = omega arith in
    let e : j * many ≡ (i + (j - i)) * many = ap (λ n. n * many) ahead in
    let f : (j - l) * few ≡ ((i - l) + (j - i)) * few = ap (λ n. n * few) far in
    let g : (j - i) * few ≤ (j - i) * many = mul-le-mul_left (j - i) less in
    omega (arith, e, f, g)

pub apart : (shape lo hi idx later : List ℕ) → IsRegion shape lo hi → IsWithin lo hi idx → IsWithin idx hi later
    → place_of shape idx + place_of (differences hi lo) (differences later lo) ≤ place_of shape later + place_of (differences hi lo) (differences idx lo)
apart [] [] [] [] [] r w v = omega arith
apart [] [] [] [] (j ∷ later) r w v = absurd v
apart [] [] [] (i ∷ idx) later r w v = absurd w
apart [] [] (h ∷ hi) idx later r w v = absurd r
apart [] (l ∷ lo) hi idx later r w v = absurd r
apart (n ∷ ns) [] hi idx later r w v = absurd r
apart (n ∷ ns) (l ∷ lo) [] idx later r w v = absurd r
apart (n ∷ ns) (l ∷ lo) (h ∷ hi) [] later r w v = absurd w
apart (n ∷ ns) (l ∷ lo) (h ∷ hi) (i ∷ idx) [] r w v = absurd v
apart (n ∷ ns) (l ∷ lo) (h ∷ hi) (i ∷ idx) (j ∷ later) r w v =
    let rest = apart ns lo hi idx later r.2 w.2 v.2 in
    let step = step_apart l i j (product (differences hi lo)) (product ns) w.0 v.0 (few_in_region ns lo hi r.2) in
    omega (arith, rest, step)

-- ---- where the last is no farther from the first than there are elements, all stand together

module _ (shape lo hi : List ℕ) (r : IsRegion shape lo hi) (some : 0 < product (differences hi lo)) where
  first_in : IsWithin lo hi lo
  first_in = first_within shape lo hi r some

  pub first_inside : IsInside shape lo
  first_inside = region_in_array shape lo hi lo r first_in

  pub last_inside : IsInside shape (map pred hi)
  last_inside = region_in_array shape lo hi (map pred hi) r (last_after lo hi lo first_in)

  pub first_before : place_of shape lo ≤ place_of shape (map pred hi)
  first_before =
      let far = apart shape lo hi lo (map pred hi) r first_in (last_after lo hi lo first_in) in
      let none = far_from_itself (differences hi lo) lo in
      omega (arith, far, none)

  pub together : (idx : List ℕ) → place_of shape (map pred hi) - place_of shape lo + 1 ≡ product (differences hi lo) → IsWithin lo hi idx
      → place_of shape idx ≡ place_of shape lo + place_within lo hi idx
  together idx count w =
      let before = apart shape lo hi lo idx r first_in w in
      let behind = apart shape lo hi idx (map pred hi) r w (last_after lo hi idx w) in
      let none = far_from_itself (differences hi lo) lo in
      let all = last_far lo hi idx w in
      let order = first_before in
      omega (arith, before, behind, none, all, count, order)

-- ---- a chunk's index by its place in the chunk

-- how far an index lies from a region's first
pub from_first : (shape lo hi far : List ℕ) → IsRegion shape lo hi → IsInside (differences hi lo) far → IsWithin lo hi (sums lo far) × (differences (sums lo far) lo ≡ far)
from_first [] [] [] [] r inside = (tt, refl)
from_first [] [] [] (x ∷ far) r inside = absurd inside
from_first [] [] (h ∷ hi) far r inside = absurd r
from_first [] (l ∷ lo) hi far r inside = absurd r
from_first (n ∷ ns) [] hi far r inside = absurd r
from_first (n ∷ ns) (l ∷ lo) [] far r inside = absurd r
from_first (n ∷ ns) (l ∷ lo) (h ∷ hi) [] r inside = absurd inside
from_first (n ∷ ns) (l ∷ lo) (h ∷ hi) (x ∷ far) r inside =
    let rest = from_first ns lo hi far r.2 inside.1 in
    let below = inside.0 in
    let own : l + x - l ≡ x = omega arith in
    ((omega arith, omega arith, rest.0), rw (own, rest.1) refl)

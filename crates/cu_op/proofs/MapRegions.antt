-- The region of an argument from which a region of a map's result is read.
use Rattle.std.proofs.Common.{◌≡◌, ◌≢◌, ◌⊎◌, inl, inr, ℕ, zero, suc, ◌<◌, ◌≤◌, ◌+◌, ◌-◌, ◌==◌, List, [], ◌∷◌, length, drop, All, ap, sym, subst, arith, refl, if◌then◌else◌}
use Rattle.std.proofs.lemmas.Bool.Decides.{eqb_tells}
use Rattle.cu_shape.specs.Index.{axis_by_axis, back_along, back}
use Rattle.cu_grid.specs.Counts.{IsRegion, IsWithin}
use Rattle.cu_grid.specs.Grid.{RegularGrid}
use Rattle.cu_op.specs.declared.layout.ArrayInfo.{ArrayInfo}
use Rattle.cu_op.specs.Arrays.{grid_at}
use Rattle.cu_op.specs.Aligned.{IsAlignedAlong, IsAligned}
use Rattle.cu_op.specs.Operation.{IsNoLonger}
use Rattle.cu_op.specs.Walks.{IsWalkOver, back_as}
use Rattle.cu_op.specs.Kind.Map.{read_walk}

-- an axis of size 1 is read whole
region_on : (n c m d l h : ℕ) → ((n ≡ m) × (c ≡ d)) ⊎ ((n ≡ 1) × (m ≢ 1)) → l ≤ h → h ≤ m
    → ((if n == 1 then 0 else l) ≤ (if n == 1 then 1 else h)) × ((if n == 1 then 1 else h) ≤ n)
region_on n c m d l h a p q =
    elim (eqb_tells n 1) [
      | inl one ↦ let e = one.1 in rw one.0 (omega arith, omega arith)
      | inr other ↦ elim a [ inl same ↦ let e = same.0 in rw other.0 (omega arith, omega arith) | inr s ↦ absurd (other.1 s.0) ]
    ]

region_along : (ns cs ms ds ls hs : List ℕ) → IsAlignedAlong ns cs ms ds → IsRegion ms ls hs
    → IsRegion ns (axis_by_axis (λ n i. if n == 1 then 0 else i) ns ls) (axis_by_axis (λ n i. if n == 1 then 1 else i) ns hs)
region_along [] [] [] [] [] [] a r = tt
region_along (n ∷ ns) (c ∷ cs) (m ∷ ms) (d ∷ ds) (l ∷ ls) (h ∷ hs) a r =
    let e = region_on n c m d l h a.0 r.0 r.1 in (e.0, e.1, region_along ns cs ms ds ls hs a.1 r.2)
region_along ns cs ms ds ls hs a r = absurd assumption

within_on : (n l h i : ℕ) → l ≤ i → i < h → ((if n == 1 then 0 else l) ≤ (if n == 1 then 0 else i)) × ((if n == 1 then 0 else i) < (if n == 1 then 1 else h))
within_on n l h i p q = elim (eqb_tells n 1) [ inl one ↦ rw one.0 (omega arith, omega arith) | inr other ↦ rw other.0 (p, q) ]

within_along : (ns ls hs is : List ℕ) → length is ≡ length ns → IsWithin ls hs is
    → IsWithin (axis_by_axis (λ n i. if n == 1 then 0 else i) ns ls) (axis_by_axis (λ n i. if n == 1 then 1 else i) ns hs) (back_along ns is)
within_along [] [] [] [] e w = tt
within_along (n ∷ ns) (l ∷ ls) (h ∷ hs) (i ∷ is) e w = let o = within_on n l h i w.0 w.1 in (o.0, o.1, within_along ns ls hs is (omega arith) w.2)
within_along [] (l ∷ ls) (h ∷ hs) (i ∷ is) e w = absurd (omega arith)
within_along (n ∷ ns) [] [] [] e w = absurd (omega arith)
within_along ns ls hs is e w = absurd w

-- regions and indices without their leading axes
region_drop : (k : ℕ) (ns ls hs : List ℕ) → IsRegion ns ls hs → IsRegion (drop k ns) (drop k ls) (drop k hs)
region_drop zero ns ls hs r = r
region_drop (suc k) [] [] [] r = tt
region_drop (suc k) (n ∷ ns) (l ∷ ls) (h ∷ hs) r = region_drop k ns ls hs r.2
region_drop k ns ls hs r = absurd r

within_drop : (k : ℕ) (ls hs is : List ℕ) → IsWithin ls hs is → IsWithin (drop k ls) (drop k hs) (drop k is)
within_drop zero ls hs is w = w
within_drop (suc k) [] [] [] w = tt
within_drop (suc k) (l ∷ ls) (h ∷ hs) (i ∷ is) w = within_drop k ls hs is w.2
within_drop k ls hs is w = absurd w

pub region_lengths : (ns ls hs : List ℕ) → IsRegion ns ls hs → (length ls ≡ length ns) × (length hs ≡ length ns)
region_lengths [] [] [] r = (refl, refl)
region_lengths (n ∷ ns) (l ∷ ls) (h ∷ hs) r = let e = region_lengths ns ls hs r.2 in (ap suc e.0, ap suc e.1)
region_lengths ns ls hs r = absurd r

-- the region of an aligned argument that is read
pub region_back : (g r : RegularGrid) (lo hi : List ℕ) → IsAligned g r → IsRegion r.shape lo hi → IsRegion g.shape (back_as 0 g.shape lo) (back_as 1 g.shape hi)
region_back g r lo hi al region =
    let k = length r.shape - length g.shape in
    let n = region_lengths r.shape lo hi region in
    let all = region_along g.shape g.chunk (drop k r.shape) (drop k r.chunk) (drop k lo) (drop k hi) al.axes (region_drop k r.shape lo hi region) in
    let L : ℕ → List ℕ = λ m. axis_by_axis (λ x i. if x == 1 then 0 else i) g.shape (drop (m - length g.shape) lo) in
    let H : ℕ → List ℕ = λ m. axis_by_axis (λ x i. if x == 1 then 1 else i) g.shape (drop (m - length g.shape) hi) in
    subst (λ (m : ℕ). IsRegion g.shape (L m) (H (length hi))) (sym n.0) (subst (λ (m : ℕ). IsRegion g.shape (L (length r.shape)) (H m)) (sym n.1) all)

pub read_over : (arrays : List ArrayInfo) (a : ℕ) (r : RegularGrid) (lo hi : List ℕ) → a < length arrays → IsAligned (grid_at arrays a) r → IsRegion r.shape lo hi → IsWalkOver arrays (read_walk arrays lo hi a)
read_over arrays a r lo hi within al region = (within, region_back (grid_at arrays a) r lo hi al region)

-- an index of the region is read in that region
pub read_within : (shape lo hi idx : List ℕ) → length lo ≡ length idx → length hi ≡ length idx → length shape ≤ length idx → IsWithin lo hi idx
    → IsWithin (back_as 0 shape lo) (back_as 1 shape hi) (back shape idx)
read_within shape lo hi idx el eh short w =
    let k = length idx - length shape in
    let e : length (drop k idx) ≡ length shape = dropped k idx (length shape) (omega arith) in
    let all = within_along shape (drop k lo) (drop k hi) (drop k idx) e (within_drop k lo hi idx w) in
    let L : ℕ → List ℕ = λ m. axis_by_axis (λ x i. if x == 1 then 0 else i) shape (drop (m - length shape) lo) in
    let H : ℕ → List ℕ = λ m. axis_by_axis (λ x i. if x == 1 then 1 else i) shape (drop (m - length shape) hi) in
    subst (λ (m : ℕ). IsWithin (L m) (H (length hi)) (back shape idx)) (sym el) (subst (λ (m : ℕ). IsWithin (L (length idx)) (H m) (back shape idx)) (sym eh) all)
  where
    dropped : (k : ℕ) (xs : List ℕ) (n : ℕ) → length xs ≡ k + n → length (drop k xs) ≡ n
    dropped zero xs n e = omega (arith, e)
    dropped (suc k) [] n e = absurd (omega arith)
    dropped (suc k) (x ∷ xs) n e = dropped k xs n (omega arith)

pub within_lengths : (ls hs is : List ℕ) → IsWithin ls hs is → (length ls ≡ length is) × (length hs ≡ length is)
within_lengths [] [] [] w = (refl, refl)
within_lengths (l ∷ ls) (h ∷ hs) (i ∷ is) w = let e = within_lengths ls hs is w.2 in (ap suc e.0, ap suc e.1)
within_lengths ls hs is w = absurd w

-- an argument of a map has no more axes than an index of the result
pub no_longer : (arrays : List ArrayInfo) (ins : List ℕ) (out : ℕ) (coord : List ℕ) → All (λ a. a < length arrays) ins → All (λ a. IsAligned (grid_at arrays a) (grid_at arrays out)) ins → length coord ≡ length (grid_at arrays out).shape
    → All (IsNoLonger arrays coord) ins
no_longer arrays ins out coord within aligned e = λ k d l. (within k d l, (let r = (aligned k d l).rank in omega (arith, e, r)))

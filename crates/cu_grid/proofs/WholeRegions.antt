-- The region of all indices of an array, and the indices of two regions.
use Rattle.std.proofs.Common.{◌≡◌, ◌↔◌, ℕ, List, [], ◌∷◌, length, map, max, min, arith}
use Rattle.cu_shape.specs.Index.{IsInside, axis_by_axis}
use Rattle.cu_grid.specs.Counts.{IsRegion, IsWithin}

pub whole_region : (ns : List ℕ) → IsRegion ns (map (λ n. 0) ns) ns
whole_region [] = tt
whole_region (n ∷ ns) = (omega arith, omega arith, whole_region ns)

pub whole_within : (ns is : List ℕ) → IsInside ns is → IsWithin (map (λ n. 0) ns) ns is
whole_within [] [] h = tt
whole_within [] (i ∷ is) h = absurd h
whole_within (n ∷ ns) [] h = absurd h
whole_within (n ∷ ns) (i ∷ is) h = (omega arith, h.0, whole_within ns is h.1)

within_whole : (ns is : List ℕ) → IsWithin (map (λ n. 0) ns) ns is → IsInside ns is
within_whole [] [] h = tt
within_whole [] (i ∷ is) h = absurd h
within_whole (n ∷ ns) [] h = absurd h
within_whole (n ∷ ns) (i ∷ is) h = (h.1, within_whole ns is h.2)

pub whole_exactly : (ns is : List ℕ) → IsWithin (map (λ n. 0) ns) ns is ↔ IsInside ns is
whole_exactly ns is = (within_whole ns is, whole_within ns is)

-- an index lies in both regions where it lies in that of the greater first and the lesser last numbers
within_both : (ls hs ms ks is : List ℕ) → length hs ≡ length ls → length ms ≡ length ls → length ks ≡ length ls
    → IsWithin (axis_by_axis max ls ms) (axis_by_axis min hs ks) is → IsWithin ls hs is × IsWithin ms ks is
within_both [] [] [] [] [] a b c w = (tt, tt)
within_both [] [] [] [] (i ∷ is) a b c w = absurd w
within_both (l ∷ ls) (h ∷ hs) (m ∷ ms) (k ∷ ks) [] a b c w = absurd w
within_both (l ∷ ls) (h ∷ hs) (m ∷ ms) (k ∷ ks) (i ∷ is) a b c w =
    let low = w.0 in
    let high = w.1 in
    let rest = within_both ls hs ms ks is (omega arith) (omega arith) (omega arith) w.2 in
    ((omega arith, omega arith, rest.0), (omega arith, omega arith, rest.1))
within_both ls hs ms ks is a b c w = absurd (omega arith)

both_within : (ls hs ms ks is : List ℕ) → length hs ≡ length ls → length ms ≡ length ls → length ks ≡ length ls
    → IsWithin ls hs is → IsWithin ms ks is → IsWithin (axis_by_axis max ls ms) (axis_by_axis min hs ks) is
both_within [] [] [] [] [] a b c v w = tt
both_within [] [] [] [] (i ∷ is) a b c v w = absurd v
both_within (l ∷ ls) (h ∷ hs) (m ∷ ms) (k ∷ ks) [] a b c v w = absurd v
both_within (l ∷ ls) (h ∷ hs) (m ∷ ms) (k ∷ ks) (i ∷ is) a b c v w =
    let x = v.0 in
    let y = v.1 in
    let p = w.0 in
    let q = w.1 in
    (omega arith, omega arith, both_within ls hs ms ks is (omega arith) (omega arith) (omega arith) v.2 w.2)
both_within ls hs ms ks is a b c v w = absurd (omega arith)

pub meet_exactly : (ls hs ms ks is : List ℕ) → length hs ≡ length ls → length ms ≡ length ls → length ks ≡ length ls
    → IsWithin (axis_by_axis max ls ms) (axis_by_axis min hs ks) is ↔ (IsWithin ls hs is × IsWithin ms ks is)
meet_exactly ls hs ms ks is a b c = (within_both ls hs ms ks is a b c, λ (v, w). both_within ls hs ms ks is a b c v w)

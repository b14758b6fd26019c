-- What the calls write is what the rules of carries and scans give, where no element of the regions is missing.
use Rattle.std.proofs.Common.{◌≡◌, ℕ, zero, suc, pred, ◌+◌, ◌-◌, ◌*◌, ◌/◌, ◌<◌, ◌≤◌, ℤ, pos, ◌+ℤ◌, set, List, [], ◌∷◌, ◌++◌, length, map, get_or, Option, None, Some, refl, sym, ap, ◌∙◌, subst, arith}
use Rattle.std.specs.Prelude.{option_map}
use Rattle.std.specs.List.{range_with_len}
use Rattle.std.proofs.Math.Nat.{div-mul-le_self}
use Rattle.std.proofs.lemmas.Int.{ints}
use Rattle.std.proofs.lemmas.Nat.{le-div}
use Rattle.cu_num.specs.Dtype.{size_of}
use Rattle.cu_num.specs.Element.{element_at}
use Rattle.cu_num.specs.Wrap.{wrapped}
use Rattle.cu_num.specs.declared.types.Dtype.{Dtype}
use Rattle.cu_num.specs.declared.folds.FoldKind.TheVariants.{Sum}
use Rattle.cu_num.specs.declared.layout.Endian.TheVariants.{Little}
use Rattle.cu_shape.specs.Index.{product, place_of, differences, IsInside}
use Rattle.cu_shape.proofs.Places.{place-below}
use Rattle.cu_grid.specs.Counts.{IsWithin}
use Rattle.cu_pairs.proofs.Parts.{size_positive}
use Rattle.cu_reduce.specs.Folds.{reduced_to}
use Rattle.cu_reduce.specs.Levels.{carried}
use Rattle.cu_reduce.specs.Numbers.{line_element}
use Rattle.cu_reduce.specs.Prefix.{Line, line_through, span, sum_below}
use Rattle.cu_reduce.specs.Tiers.{Array}
use Rattle.cu_reduce.proofs.Given.{alone_given, carried_given}
use Rattle.cu_scan.specs.Scanned.{carried_at, given_into}
use Rattle.cu_scan.proofs.RegionSums.{set_twice}
use Rattle.cu_scan.proofs.RowSums.{given_none, given_some, sums_same}

-- ---- along a line

-- elements from place `lo` on, by their numbers
span_told : (f : Line) (g : ℕ → ℤ) (lo at n : ℕ) → ((k : ℕ) → k < at + n → f (lo + k) ≡ Some (g k))
    → map f (range_with_len (lo + at) n) ≡ map (λ k. Some (g k)) (range_with_len at n)
span_told f g lo at zero h = refl
span_told f g lo at (suc n) h =
    let next : lo + at + 1 ≡ lo + (at + 1) = omega arith in
    let rest = span_told f g lo (at + 1) n (λ k b. h k (omega arith)) in
    (λ i. h at (omega arith) i ∷ map f (range_with_len (next i) n)) ∙ ap (λ xs. Some (g at) ∷ xs) rest

-- what is carried in is this number; nothing counts as 0
abbrev pub IsCarriedIn : Option Line → ℕ → ℤ → Type 0
IsCarriedIn None q x = x ≡ pos 0
IsCarriedIn (Some c) q x = c q ≡ Some x

-- the sum of what is carried in and of the elements from `lo` to below `up`
line_told : (acc : Dtype) (f : Line) (above : Option Line) (q lo up : ℕ) (x : ℤ) (g : ℕ → ℤ) → lo ≤ up → IsCarriedIn above q x
    → ((k : ℕ) → k < up - lo → f (lo + k) ≡ Some (g k))
    → reduced_to Sum acc (carried above q ++ span f lo up) ≡ Some (wrapped acc (x +ℤ sum_below g (up - lo)))
line_told acc f None q lo up x g low is h =
    let start : lo ≡ lo + 0 = omega arith in
    ap (λ k. reduced_to Sum acc (map f (range_with_len k (up - lo)))) start
    ∙ ap (reduced_to Sum acc) (span_told f g lo 0 (up - lo) (λ k b. h k (omega arith)))
    ∙ alone_given acc g 0 (up - lo)
    ∙ ap (λ s. Some (wrapped acc s)) (sums_same (λ k. g (0 + k)) g (up - lo) (λ k b. ap g (front k)) ∙ alone (sum_below g (up - lo)))
    ∙ ap (λ y. Some (wrapped acc (y +ℤ sum_below g (up - lo)))) (sym is)
  where
    front : (k : ℕ) → 0 + k ≡ k
    front k = omega arith

    alone : (s : ℤ) → s ≡ pos 0 +ℤ s
    alone s = omega (arith, ints)
line_told acc f (Some c) q lo up x g low is h =
    let start : lo ≡ lo + 0 = omega arith in
    (λ i. reduced_to Sum acc (is i ∷ map f (range_with_len (start i) (up - lo))))
    ∙ ap (λ xs. reduced_to Sum acc (Some x ∷ xs)) (span_told f g lo 0 (up - lo) (λ k b. h k (omega arith)))
    ∙ carried_given acc x g 0 (up - lo)
    ∙ ap (λ s. Some (wrapped acc (x +ℤ s))) (sums_same (λ k. g (0 + k)) g (up - lo) (λ k b. ap g (front k)))
  where
    front : (k : ℕ) → 0 + k ≡ k
    front k = omega arith

-- ---- regions of which one axis is changed

pub differences_set : (xs ys : List ℕ) (axis a b : ℕ) → differences (set xs axis a) (set ys axis b) ≡ set (differences xs ys) axis (a - b)
differences_set [] ys axis a b = refl
differences_set (x ∷ xs) [] zero a b = refl
differences_set (x ∷ xs) [] (suc axis) a b = refl
differences_set (x ∷ xs) (y ∷ ys) zero a b = refl
differences_set (x ∷ xs) (y ∷ ys) (suc axis) a b = ap (λ zs. (x - y) ∷ zs) (differences_set xs ys axis a b)

pub within_set : (ls hs is : List ℕ) (axis l h k : ℕ) → IsWithin ls hs is → l ≤ k → k < h → IsWithin (set ls axis l) (set hs axis h) (set is axis k)
within_set [] [] [] axis l h k w a b = tt
within_set (x ∷ ls) (y ∷ hs) (i ∷ is) zero l h k w a b = (a, b, w.2)
within_set (x ∷ ls) (y ∷ hs) (i ∷ is) (suc axis) l h k w a b = (w.0, w.1, within_set ls hs is axis l h k w.2 a b)
within_set ls hs is axis l h k w a b = absurd w

pub within_axis : (ls hs is : List ℕ) (axis : ℕ) → IsWithin ls hs is → axis < length ls
    → (get_or ls axis 0 ≤ get_or is axis 0) × (get_or is axis 0 < get_or hs axis 0)
within_axis [] [] [] axis w b = absurd (omega arith)
within_axis (l ∷ ls) (h ∷ hs) (i ∷ is) zero w b = (w.0, w.1)
within_axis (l ∷ ls) (h ∷ hs) (i ∷ is) (suc axis) w b = within_axis ls hs is axis w.2 (omega arith)
within_axis ls hs is axis w b = absurd w

pub within_differences : (ls hs is : List ℕ) → IsWithin ls hs is → IsInside (differences hs ls) (differences is ls)
within_differences [] [] [] w = tt
within_differences (l ∷ ls) (h ∷ hs) (i ∷ is) w = let low = w.0 in let high = w.1 in (omega arith, within_differences ls hs is w.2)
within_differences ls hs is w = absurd w

-- ---- a region, and what is carried into its groups

-- each element of the region is there, and stands at its place in the buffer
abbrev pub IsTold : Array → Dtype → List ℕ → List ℕ → List ℕ → Type 0
IsTold at t lo hi buf = (x : List ℕ) → IsWithin lo hi x → at x ≡ Some (element_at Little t buf (place_of (differences hi lo) (differences x lo)))

-- the same of what is carried in; the buffer of nothing is empty
abbrev pub IsToldAbove : Option Array → Dtype → List ℕ → List ℕ → List ℕ → Type 0
IsToldAbove None t lo hi buf = length buf ≡ 0
IsToldAbove (Some at) t lo hi buf = IsTold at t lo hi buf × (product (differences hi lo) * size_of t ≤ length buf)

-- `lo` and `hi` bound indices that are of one group of s neighbours along an axis
pub record IsOneGroup (axis s : ℕ) (lo hi : List ℕ) : Type 0 where
  pub some : 0 < s
  pub along : axis < length lo
  pub one : pred (get_or hi axis 0) / s ≡ get_or lo axis 0 / s

same_group : (s l i h : ℕ) → 0 < s → l ≤ i → i < h → pred h / s ≡ l / s → i / s ≡ l / s
same_group s l i zero p a b e = absurd (omega arith)
same_group s l i (suc h) p a b e =
    let low = le-div (l / s) i s p (let c = div-mul-le_self l s in omega arith) in
    let high = le-div (i / s) h s p (let c = div-mul-le_self i s in omega arith) in
    omega arith

-- ---- the regions of such indices, of which the sums from the group's first element on are wanted

module _ (axis s end : ℕ) (lo hi : List ℕ) (w : IsOneGroup axis s lo hi) where
  abbrev pub q : ℕ
  q = get_or lo axis 0 / s

  abbrev pub first : ℕ
  first = q * s

  -- the sizes of the region of the elements
  abbrev pub dims : List ℕ
  dims = differences (set hi axis end) (set lo axis first)

  -- the region of what is carried in
  abbrev pub below : List ℕ
  below = set lo axis q

  abbrev pub beyond : List ℕ
  beyond = set hi axis (suc (pred (get_or hi axis 0) / s))

  pub one_row : set dims axis 1 ≡ set (differences hi lo) axis 1
  one_row = ap (λ (x : List ℕ). set x axis 1) (differences_set hi lo axis end first) ∙ set_twice (differences hi lo) axis (end - first) 1

  pub one_group : differences beyond below ≡ set dims axis 1
  one_group =
      let one = w.one in
      let count : suc (pred (get_or hi axis 0) / s) - q ≡ 1 = omega (arith, one) in
      differences_set hi lo axis (suc (pred (get_or hi axis 0) / s)) q ∙ ap (set (differences hi lo) axis) count ∙ sym one_row

module _ (t acc : Dtype) (axis s end up : ℕ) (lo hi idx : List ℕ) (w : IsOneGroup axis s lo hi) (within : IsWithin lo hi idx) (low : get_or lo axis 0 / s * s ≤ up) (high : up ≤ end) where
  abbrev base : List ℕ
  base = differences idx lo

  abbrev region : List ℕ
  region = dims axis s end lo hi w

  group_is : get_or idx axis 0 / s ≡ get_or lo axis 0 / s
  group_is = let a = within_axis lo hi idx axis within w.along in same_group s (get_or lo axis 0) (get_or idx axis 0) (get_or hi axis 0) w.some a.0 a.1 w.one

  -- the elements along the axis
  element_told : (at : Array) (buf : List ℕ) → IsTold at t (set lo axis (get_or lo axis 0 / s * s)) (set hi axis end) buf → (k : ℕ) → k < up - get_or lo axis 0 / s * s
      → line_through at axis idx (get_or lo axis 0 / s * s + k) ≡ Some (line_element t region axis buf base k)
  element_told at buf told k b =
      let here : get_or lo axis 0 / s * s + k - get_or lo axis 0 / s * s ≡ k = omega arith in
      told (set idx axis (get_or lo axis 0 / s * s + k)) (within_set lo hi idx axis (get_or lo axis 0 / s * s) end (get_or lo axis 0 / s * s + k) within (omega arith) (omega (arith, b, low, high)))
      ∙ ap (λ (x : List ℕ). Some (element_at Little t buf (place_of region x))) (differences_set idx lo axis (get_or lo axis 0 / s * s + k) (get_or lo axis 0 / s * s))
      ∙ ap (λ m. Some (element_at Little t buf (place_of region (set base axis m)))) here

  front : differences (set idx axis (get_or lo axis 0 / s)) (below axis s end lo hi w) ≡ set base axis 0
  front =
      let none : get_or lo axis 0 / s - get_or lo axis 0 / s ≡ 0 = omega arith in
      differences_set idx lo axis (get_or lo axis 0 / s) (get_or lo axis 0 / s) ∙ ap (set base axis) none

  -- what is carried in
  given_told : (above : Option Array) (buf : List ℕ) → IsToldAbove above acc (below axis s end lo hi w) (beyond axis s end lo hi w) buf
      → IsCarriedIn (option_map (λ a. line_through a axis idx) above) (get_or lo axis 0 / s) (given_into acc region axis buf base)
  given_told None buf told = given_none acc buf (place_of (set region axis 1) (set base axis 0)) told
  given_told (Some a) buf told =
      let one = w.one in
      let own : IsWithin (below axis s end lo hi w) (beyond axis s end lo hi w) (set idx axis (get_or lo axis 0 / s)) =
      within_set lo hi idx axis (get_or lo axis 0 / s) (suc (pred (get_or hi axis 0) / s)) (get_or lo axis 0 / s) within (omega arith) (omega (arith, one)) in
      let inside = place-below (differences (beyond axis s end lo hi w) (below axis s end lo hi w)) (differences (set idx axis (get_or lo axis 0 / s)) (below axis s end lo hi w))
      (within_differences (below axis s end lo hi w) (beyond axis s end lo hi w) (set idx axis (get_or lo axis 0 / s)) own) in
      told.0 (set idx axis (get_or lo axis 0 / s)) own
      ∙ (λ i. Some (element_at Little acc buf (place_of (one_group axis s end lo hi w i) (front i))))
      ∙ ap (λ x. Some x) (sym (given_some acc buf (place_of (set region axis 1) (set base axis 0)) (some (product (differences (beyond axis s end lo hi w) (below axis s end lo hi w))) (size_of acc) (length buf) _ inside (size_positive acc) told.1)))
    where
      some : (n size long p : ℕ) → p < n → 0 < size → n * size ≤ long → 0 < long
      some zero size long p b c h = absurd (omega arith)
      some (suc n) size long p b c h = omega arith

  -- the sum of both
  pub sum_told : (at : Array) (above : Option Array) (own given : List ℕ) → IsTold at t (set lo axis (get_or lo axis 0 / s * s)) (set hi axis end) own
      → IsToldAbove above acc (below axis s end lo hi w) (beyond axis s end lo hi w) given
      → reduced_to Sum acc (carried (option_map (λ a. line_through a axis idx) above) (get_or idx axis 0 / s) ++ span (line_through at axis idx) (get_or idx axis 0 / s * s) up)
      ≡ Some (wrapped acc (given_into acc region axis given base +ℤ sum_below (line_element t region axis own base) (up - get_or lo axis 0 / s * s)))
  sum_told at above own given told told_above =
      ap (λ k. reduced_to Sum acc (carried (option_map (λ a. line_through a axis idx) above) k ++ span (line_through at axis idx) (k * s) up)) group_is
      ∙ line_told acc (line_through at axis idx) (option_map (λ a. line_through a axis idx) above) (get_or lo axis 0 / s) (get_or lo axis 0 / s * s) up (given_into acc region axis given base) (line_element t region axis own base)
      low (given_told above given told_above) (element_told at own told)

-- Places of elements that stand part by part, and buffers that have them so.
use Rattle.std.proofs.Common.{◌≡◌, inl, inr, ℕ, zero, suc, ◌+◌, ◌-◌, ◌*◌, ◌<◌, ◌≤◌, ℤ, List, [], ◌∷◌, ◌++◌, length, take, drop, drop-drop, get_or, set, Option, Some, refl, sym, ap, ◌∙◌, arith}
use Rattle.std.proofs.lemmas.Bool.{cases_lt}
use Rattle.std.proofs.lemmas.Nat.{mul-le}
use Rattle.std.proofs.lemmas.List.{get_or-set_same, length-set}
use Rattle.std.proofs.Math.Seq.{drop-append_seam}
use Rattle.cu_codec.specs.Parts.{part_at}
use Rattle.cu_codec.proofs.Shared.{within_sizes}
use Rattle.cu_grid.specs.Counts.{IsWithin}
use Rattle.cu_grid.specs.declared.region.Region.{Region}
use Rattle.cu_grid.proofs.Meeting.{within_of}
use Rattle.cu_num.specs.Dtype.{size_of}
use Rattle.cu_num.specs.declared.layout.Endian.TheVariants.{Little}
use Rattle.cu_num.specs.declared.types.Dtype.{Dtype}
use Rattle.cu_num.proofs.ElementBytes.{element_at_same}
use Rattle.cu_shape.specs.Index.{product, place_of, differences, IsInside}
use Rattle.cu_shape.proofs.Axes.{get_or-axis_by_axis, length-axis_by_axis}
use Rattle.cu_shape.proofs.Places.{inside-length, place-below}
use Rattle.cu_task.specs.Inputs.{HasRegion}
use Rattle.cu_task.specs.Merges.{place_by_parts, without_axis, StandsByParts}
use Rattle.cu_task.proofs.InputReads.{front_part}

-- ---- lists without what they have on an axis

pub product_without : (axis : ℕ) (ds : List ℕ) → axis < length ds → product ds ≡ get_or ds axis 0 * product (without_axis axis ds)
product_without axis [] b = absurd (omega arith)
product_without zero (d ∷ ds) b = refl
product_without (suc axis) (d ∷ ds) b =
    let rest = product_without axis ds (omega (arith, b)) in
    let turned : (a b c : ℕ) → a * (b * c) ≡ b * (a * c) = turn in
    ap (λ n. d * n) rest ∙ turned d (get_or ds axis 0) (product (without_axis axis ds))
  where
    turn : (a b c : ℕ) → a * (b * c) ≡ b * (a * c)
    turn a b c = omega arith

pub inside_without : (axis : ℕ) (ds is : List ℕ) → IsInside ds is → IsInside (without_axis axis ds) (without_axis axis is)
inside_without axis [] [] w = tt
inside_without zero (d ∷ ds) (i ∷ is) w = w.1
inside_without (suc axis) (d ∷ ds) (i ∷ is) w = (w.0, inside_without axis ds is w.1)
inside_without axis ds is w = absurd assumption

-- an axis with one index counts for nothing
pub place_without : (axis : ℕ) (ds is : List ℕ) → length is ≡ length ds → axis < length ds → get_or ds axis 0 ≡ 1 → get_or is axis 0 ≡ 0 → place_of ds is ≡ place_of (without_axis axis ds) (without_axis axis is)
place_without axis [] is e b one none = absurd (omega arith)
place_without axis (d ∷ ds) [] e b one none = absurd (omega arith)
place_without zero (d ∷ ds) (i ∷ is) e b one none = rw none (omega arith)
place_without (suc axis) (d ∷ ds) (i ∷ is) e b one none =
    let rest = place_without axis ds is (omega (arith, e)) (omega (arith, b)) one none in
    let same : product ds ≡ product (without_axis axis ds) = product_without axis ds (omega (arith, b)) ∙ rw one (omega arith) in
    rw (same, rest) refl

pub without_end : (axis at : ℕ) (ls hs : List ℕ) → without_axis axis (differences (set hs axis at) ls) ≡ without_axis axis (differences hs ls)
without_end axis at ls [] = refl
without_end zero at [] (h ∷ hs) = refl
without_end (suc axis) at [] (h ∷ hs) = refl
without_end zero at (l ∷ ls) (h ∷ hs) = refl
without_end (suc axis) at (l ∷ ls) (h ∷ hs) = ap (λ ds. (h - l) ∷ ds) (without_end axis at ls hs)

pub without_start : (axis at : ℕ) (ls hs : List ℕ) → without_axis axis (differences hs (set ls axis at)) ≡ without_axis axis (differences hs ls)
without_start axis at [] hs = refl
without_start zero at (l ∷ ls) [] = refl
without_start (suc axis) at (l ∷ ls) [] = refl
without_start zero at (l ∷ ls) (h ∷ hs) = refl
without_start (suc axis) at (l ∷ ls) (h ∷ hs) = ap (λ ds. (h - l) ∷ ds) (without_start axis at ls hs)

-- an index lies before one on an axis, or from it on
within_before : (axis at : ℕ) (ls hs is : List ℕ) → IsWithin ls hs is → get_or is axis 0 < at → IsWithin ls (set hs axis at) is
within_before axis at [] [] [] w b = tt
within_before zero at (l ∷ ls) (h ∷ hs) (i ∷ is) w b = (w.0, b, w.2)
within_before (suc axis) at (l ∷ ls) (h ∷ hs) (i ∷ is) w b = (w.0, w.1, within_before axis at ls hs is w.2 b)
within_before axis at ls hs is w b = absurd assumption

within_after : (axis at : ℕ) (ls hs is : List ℕ) → IsWithin ls hs is → at ≤ get_or is axis 0 → IsWithin (set ls axis at) hs is
within_after axis at [] [] [] w b = tt
within_after zero at (l ∷ ls) (h ∷ hs) (i ∷ is) w b = (b, w.1, w.2)
within_after (suc axis) at (l ∷ ls) (h ∷ hs) (i ∷ is) w b = (w.0, w.1, within_after axis at ls hs is w.2 b)
within_after axis at ls hs is w b = absurd assumption

-- ---- places

pub parts_below : (axis : ℕ) (ds is : List ℕ) → IsInside ds is → axis < length ds → place_by_parts axis ds is < product ds
parts_below axis ds is inside b =
    let row = place-below (without_axis axis ds) (without_axis axis is) (inside_without axis ds is inside) in
    let all = product_without axis ds b in
    let own = low axis ds is inside b in
    let most : suc (get_or is axis 0) * product (without_axis axis ds) ≤ get_or ds axis 0 * product (without_axis axis ds)
    = mul-le _ (product (without_axis axis ds)) _ (product (without_axis axis ds)) own (omega arith) in
    omega (arith, row, all, most)
  where
    low : (axis : ℕ) (ds is : List ℕ) → IsInside ds is → axis < length ds → suc (get_or is axis 0) ≤ get_or ds axis 0
    low axis [] [] inside b = absurd (omega arith)
    low zero (d ∷ ds) (i ∷ is) inside b = inside.0
    low (suc axis) (d ∷ ds) (i ∷ is) inside b = low axis ds is inside.1 (omega (arith, b))
    low axis ds is inside b = absurd assumption

-- an element behind a buffer's front
later_part : (size m q : ℕ) (front rest : List ℕ) → length front ≡ m * size → part_at size (front ++ rest) (m + q) ≡ part_at size rest q
later_part size m q front rest long =
    let at : (m + q) * size ≡ length front + q * size = rw long (omega arith) in
    ap (take size) (ap (λ n. drop n (front ++ rest)) at ∙ sym (drop-drop (q * size) (length front) (front ++ rest)) ∙ ap (drop (q * size)) (drop-append_seam front rest))

-- ---- of a buffer

module _ (t : Dtype) (element : List ℕ → Option ℤ) (axis : ℕ) (region : Region) (e : length region.hi ≡ length region.lo) (along : axis < length region.lo) where
  abbrev sizes : List ℕ
  sizes = differences region.hi region.lo

  size_is : get_or sizes axis 0 ≡ get_or region.hi axis 0 - get_or region.lo axis 0
  size_is = get_or-axis_by_axis (λ i j. i - j) region.hi region.lo axis (omega (arith, e, along)) along

  rank_is : length sizes ≡ length region.lo
  rank_is = length-axis_by_axis (λ i j. i - j) region.hi region.lo e ∙ e

  index_is : (idx : List ℕ) → IsWithin region.lo region.hi idx → get_or (differences idx region.lo) axis 0 ≡ get_or idx axis 0 - get_or region.lo axis 0
  index_is idx w =
      let ranks = (within_of region.lo region.hi idx w).lo_rank in
      get_or-axis_by_axis (λ i j. i - j) idx region.lo axis (omega (arith, ranks, along)) along

  on_axis : (idx : List ℕ) → IsWithin region.lo region.hi idx → (get_or region.lo axis 0 ≤ get_or idx axis 0) × (get_or idx axis 0 < get_or region.hi axis 0)
  on_axis idx w = let known = within_of region.lo region.hi idx w in let ranks = known.lo_rank in known.at axis (omega (arith, ranks, along))

  -- a region with one index on the axis is one part
  pub one_part : (buf : List ℕ) → get_or region.hi axis 0 - get_or region.lo axis 0 ≤ 1 → HasRegion t element region.lo region.hi buf → StandsByParts t element axis region buf
  one_part buf few has idx w =
      let (low, high) = on_axis idx w in
      let one : get_or sizes axis 0 ≡ 1 = (let s = size_is in omega (arith, s, few, low, high)) in
      let none : get_or (differences idx region.lo) axis 0 ≡ 0 = (let i = index_is idx w in omega (arith, i, few, low, high)) in
      let long = inside-length sizes (differences idx region.lo) (within_sizes region.lo region.hi idx w) in
      let same = place_without axis sizes (differences idx region.lo) long (let r = rank_is in omega (arith, r, along)) one none in
      let at : place_of sizes (differences idx region.lo) ≡ place_by_parts axis sizes (differences idx region.lo) = rw none (same ∙ (let e : place_of (without_axis axis sizes) (without_axis axis (differences idx region.lo)) ≡ 0 * product (without_axis axis sizes) + place_of (without_axis axis sizes) (without_axis axis (differences idx region.lo)) = omega arith in e)) in
      has idx w ∙ ap Some (element_at_same Little t buf buf _ _ (ap (part_at (size_of t) buf) at))

  -- the parts of two regions, one behind the other on the axis
  module _ (at : ℕ) (own others : List ℕ) (low : get_or region.lo axis 0 ≤ at) (high : at ≤ get_or region.hi axis 0)
      (long : length own ≡ product (differences (set region.hi axis at) region.lo) * size_of t) where
    abbrev front : Region
    front = record { lo = region.lo; hi = set region.hi axis at }

    abbrev back : Region
    back = record { lo = set region.lo axis at; hi = region.hi }

    others_same : without_axis axis (differences front.hi front.lo) ≡ without_axis axis sizes
    others_same = without_end axis at region.lo region.hi

    front_count : product (differences front.hi front.lo) ≡ (at - get_or region.lo axis 0) * product (without_axis axis sizes)
    front_count =
        let same_rank : length (set region.hi axis at) ≡ length region.hi = length-set region.hi axis at in
        let rank : length (differences front.hi front.lo) ≡ length region.lo = length-axis_by_axis (λ i j. i - j) front.hi region.lo (same_rank ∙ e) ∙ same_rank ∙ e in
        let set_is : get_or front.hi axis 0 ≡ at = get_or-set_same region.hi axis at 0 (omega (arith, e, along)) in
        let size : get_or (differences front.hi front.lo) axis 0 ≡ at - get_or region.lo axis 0
        = get_or-axis_by_axis (λ i j. i - j) front.hi region.lo axis (omega (arith, same_rank, e, along)) along ∙ ap (λ n. n - get_or region.lo axis 0) set_is in
        product_without axis (differences front.hi front.lo) (omega (arith, rank, along)) ∙ rw (size, others_same) refl

    pub parts_joined : StandsByParts t element axis front own → StandsByParts t element axis back others → StandsByParts t element axis region (own ++ others)
    parts_joined first second idx w =
        elim (cases_lt (get_or idx axis 0) at) [
          | inl before ↦
              let inside = within_before axis at region.lo region.hi idx w before in
              let q = place_by_parts axis (differences front.hi front.lo) (differences idx region.lo) in
              let same_rank : length (set region.hi axis at) ≡ length region.hi = length-set region.hi axis at in
              let rank : length (differences front.hi front.lo) ≡ length region.lo = length-axis_by_axis (λ i j. i - j) front.hi region.lo (same_rank ∙ e) ∙ same_rank ∙ e in
              let below = parts_below axis (differences front.hi front.lo) (differences idx region.lo) (within_sizes front.lo front.hi idx inside) (omega (arith, rank, along)) in
              let far : suc q * size_of t ≤ product (differences front.hi front.lo) * size_of t = mul-le _ (size_of t) _ (size_of t) below (omega arith) in
              let same : place_by_parts axis sizes (differences idx region.lo) ≡ q = rw others_same refl in
              first idx inside ∙ ap Some (sym (element_at_same Little t (own ++ others) own _ q
              (ap (part_at (size_of t) (own ++ others)) same ∙ front_part (size_of t) q own others (omega (arith, far, long)))))
          | inr after ↦
              let inside = within_after axis at region.lo region.hi idx w after in
              let q = place_by_parts axis (differences back.hi back.lo) (differences idx back.lo) in
              let known = within_of region.lo region.hi idx w in
              let ranks = known.lo_rank in
              let sizes_same : without_axis axis (differences back.hi back.lo) ≡ without_axis axis sizes = without_start axis at region.lo region.hi in
              let row_same : without_axis axis (differences idx back.lo) ≡ without_axis axis (differences idx region.lo) = without_start axis at region.lo idx in
              let set_rank : length (set region.lo axis at) ≡ length region.lo = length-set region.lo axis at in
              let set_is : get_or back.lo axis 0 ≡ at = get_or-set_same region.lo axis at 0 along in
              let own_index : get_or (differences idx back.lo) axis 0 ≡ get_or idx axis 0 - at
              = get_or-axis_by_axis (λ i j. i - j) idx back.lo axis (omega (arith, ranks, along)) (omega (arith, set_rank, along)) ∙ ap (λ n. get_or idx axis 0 - n) set_is in
              let own_place : q ≡ (get_or idx axis 0 - at) * product (without_axis axis sizes) + place_of (without_axis axis sizes) (without_axis axis (differences idx region.lo)) = rw (own_index, sizes_same, row_same) refl in
              let index = index_is idx w in
              let place : place_by_parts axis sizes (differences idx region.lo) ≡ (get_or idx axis 0 - get_or region.lo axis 0) * product (without_axis axis sizes) + place_of (without_axis axis sizes) (without_axis axis (differences idx region.lo)) = rw index refl in
              let split : (get_or idx axis 0 - get_or region.lo axis 0) * product (without_axis axis sizes) ≡ (at - get_or region.lo axis 0) * product (without_axis axis sizes) + (get_or idx axis 0 - at) * product (without_axis axis sizes)
              = parted (get_or idx axis 0 - get_or region.lo axis 0) (at - get_or region.lo axis 0) (get_or idx axis 0 - at) (product (without_axis axis sizes)) (omega (arith, low, after)) in
              let m = product (differences front.hi front.lo) in
              let count = front_count in
              let same : place_by_parts axis sizes (differences idx region.lo) ≡ m + q = omega (arith, own_place, place, split, count) in
              second idx inside ∙ ap Some (sym (element_at_same Little t (own ++ others) others _ q
              (ap (part_at (size_of t) (own ++ others)) same ∙ later_part (size_of t) m q own others long)))
        ]
      where
        parted : (a b c n : ℕ) → a ≡ b + c → a * n ≡ b * n + c * n
        parted a b c n same = rw same (omega arith)

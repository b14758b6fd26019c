-- Places that move by the same number of elements along an axis, wherever the other axes stand; the copy of a part along its strides.
use Rattle.std.proofs.Common.{◌≡◌, ◌≢◌, ℕ, zero, suc, ◌+◌, ◌-◌, ◌*◌, ◌<◌, ◌≤◌, ◌⊎◌, List, [], ◌∷◌, length, get_or, set, drop, All, min, refl, sym, ap, ◌∙◌, subst, arith, inl, inr}
use Rattle.std.proofs.lemmas.Bool.{cases_lt}
use Rattle.std.proofs.lemmas.Bool.Decides.{eqb_tells}
use Rattle.std.proofs.lemmas.List.{get_or-drop, get_or-set_same, get_or-set_other, set_past, get_or_past, length-set, ext_get_or, get_or-map, length-map}
use Rattle.std.proofs.lemmas.List.Elements.{All-get_or}
use Rattle.cu_box.specs.Order.{part_at}
use Rattle.cu_box.specs.Strided.{up, down, distance, counts, read_place, written_place, HavePlaces, IsEachFromOne, IsStridedCopy}
use Rattle.cu_box.specs.declared.strides.Axis.{Axis}
use Rattle.cu_box.specs.declared.strides.Start.{Start}
use Rattle.cu_box.specs.declared.strides.Stride.{Stride}
use Rattle.cu_box.specs.declared.strides.Stride.TheVariants as stride
use Rattle.cu_num.specs.Dtype.{size_of}
use Rattle.cu_num.specs.Element.{bytes_at, element_at, element_bytes}
use Rattle.cu_num.specs.declared.layout.Endian.TheVariants.{Little}
use Rattle.cu_shape.specs.Index.{product, place_of, differences, sums, IsInside}
use Rattle.cu_shape.proofs.Axes.{length-axis_by_axis}
use Rattle.cu_grid.specs.Counts.{IsWithin}
use Rattle.cu_grid.specs.declared.region.Region.{Region}
use Rattle.cu_view_box.specs.Along.{IsStrideTo, IsAxisOf, AreAxesOf}
use Rattle.cu_view_box.specs.Block.{buffer_place, IsBlock, IsMove, IsMoved, IsKept, AreSpelled}
use Rattle.cu_view_box.specs.Row.{row_index, row_count}
use Rattle.cu_view_box.specs.Way.{read_by}
use Rattle.cu_view_box.specs.Piece.{count_along, read_at, IsWayOver}
use Rattle.cu_view_box.specs.declared.block.Block.{Block}
use Rattle.cu_view_box.specs.declared.piece.Piece.{Piece}
use Rattle.cu_view_box.specs.declared.way.Way.{Way}
use Rattle.cu_view_box.specs.declared.way.Way.TheVariants.{Fixed, Up, Down}
use Rattle.cu_view_box.proofs.Boxes.{at_axis, moved_within}
use Rattle.cu_view_box.proofs.Evenly.{place_split, get_or-differences}
use Rattle.cu_view_box.proofs.Lined.{spelled_own}
use Rattle.cu_view_box.proofs.ReadOver.{read_on_axis, length-read, down_fits}
use Rattle.cu_view_box.proofs.Rows.{count_cases, place_fits, place_one}
use Rattle.cu_grid.proofs.Meeting.{within_of}

-- ---- numbers that move alike
-- from index to index along an axis a number of an index moves by as much as from the first index of a region
pub record MovesAlike (f : List ℕ → ℕ) (lo hi : List ℕ) : Type 0 where
  pub alike : (idx : List ℕ) (k : ℕ) → k < length lo → IsWithin lo hi idx → IsWithin lo hi (row_index idx k 1) → IsWithin lo hi (row_index lo k 1)
      → f (row_index idx k 1) + f lo ≡ f idx + f (row_index lo k 1)

-- a stride up and one down for each axis, which together go from the first index to the next along the axis
pub record HaveStrides (f : List ℕ → ℕ) (lo : List ℕ) (u v : Axis → ℕ) (axes : List Axis) : Type 0 where
  pub strides : (k : ℕ) (d : Axis) → k < length axes → 1 < (get_or axes k d).count → u (get_or axes k d) + f lo ≡ f (row_index lo k 1) + v (get_or axes k d)

alike_behind : (f : List ℕ → ℕ) (x y : ℕ) (lo hi : List ℕ) → x < y → MovesAlike f (x ∷ lo) (y ∷ hi) → MovesAlike (λ r. f (x ∷ r)) lo hi
alike_behind f x y lo hi some m = record {
  alike = λ idx k b w w1 l1. m.alike (x ∷ idx) (suc k) (omega arith) (omega arith, some, w) (omega arith, some, w1) (omega arith, some, l1);
}

strides_behind : (f : List ℕ → ℕ) (x : ℕ) (lo : List ℕ) (u v : Axis → ℕ) (a : Axis) (axes : List Axis) → HaveStrides f (x ∷ lo) u v (a ∷ axes) → HaveStrides (λ r. f (x ∷ r)) lo u v axes
strides_behind f x lo u v a axes s = record { strides = λ k d b more. s.strides (suc k) d (omega arith) more }

sums_within : (lo hi i : List ℕ) → length lo ≡ length hi → IsInside (differences hi lo) i → IsWithin lo hi (sums lo i)
sums_within [] [] [] e h = tt
sums_within [] [] (n ∷ i) e h = absurd h
sums_within [] (y ∷ hi) i e h = absurd (omega arith)
sums_within (x ∷ lo) [] i e h = absurd (omega arith)
sums_within (x ∷ lo) (y ∷ hi) [] e h = absurd h
sums_within (x ∷ lo) (y ∷ hi) (n ∷ i) e h = let p = h.0 in (omega arith, omega arith, sums_within lo hi i (omega arith) h.1)

lo_within : (lo hi i : List ℕ) → length lo ≡ length hi → IsInside (differences hi lo) i → IsWithin lo hi lo
lo_within [] [] [] e h = tt
lo_within [] [] (n ∷ i) e h = absurd h
lo_within [] (y ∷ hi) i e h = absurd (omega arith)
lo_within (x ∷ lo) [] i e h = absurd (omega arith)
lo_within (x ∷ lo) (y ∷ hi) [] e h = absurd h
lo_within (x ∷ lo) (y ∷ hi) (n ∷ i) e h = let p = h.0 in (omega arith, omega arith, lo_within lo hi i (omega arith) h.1)

-- along the first axis: so many steps
module _ (f : List ℕ → ℕ) (x y n : ℕ) (lo hi r : List ℕ) (u v : Axis → ℕ) (a : Axis) (axes : List Axis) (inside : n < y - x) (counted : a.count ≡ y - x)
    (at : IsWithin lo hi r) (first : IsWithin lo hi lo) (m : MovesAlike f (x ∷ lo) (y ∷ hi)) (s : HaveStrides f (x ∷ lo) u v (a ∷ axes)) where
  one_more : (k : ℕ) → k < n → f ((x + (k + 1)) ∷ r) + v a ≡ f ((x + k) ∷ r) + u a
  one_more k b =
      let here : f ((x + k + 1) ∷ r) + f (x ∷ lo) ≡ f ((x + k) ∷ r) + f ((x + 1) ∷ lo) =
      m.alike ((x + k) ∷ r) 0 (omega arith) (omega arith, omega arith, at) (omega arith, omega arith, at) (omega arith, omega arith, first) in
      let far : u a + f (x ∷ lo) ≡ f ((x + 1) ∷ lo) + v a = s.strides 0 a (omega arith) (omega arith) in
      let same : x + (k + 1) ≡ x + k + 1 = omega arith in
      rw same (omega (arith, here, far))

  walked : (k : ℕ) → k ≤ n → f ((x + k) ∷ r) + k * v a ≡ f (x ∷ r) + k * u a
  walked zero b = let none : x + 0 ≡ x = omega arith in rw none (omega arith)
  walked (suc k) b =
      let was = walked k (omega arith) in
      let more = one_more k (omega arith) in
      let next : suc k ≡ k + 1 = omega arith in
      rw next (omega (arith, was, more))

  pub first_axis : f ((x + n) ∷ r) + n * v a ≡ f (x ∷ r) + n * u a
  first_axis = walked n (omega arith)

-- the number at an index is the first one and the strides, each as often as the index tells
pub along_strides : (u v : Axis → ℕ) (axes : List Axis) (lo hi i : List ℕ) (f : List ℕ → ℕ) → length lo ≡ length axes → length hi ≡ length axes → counts axes ≡ differences hi lo
    → MovesAlike f lo hi → HaveStrides f lo u v axes → IsInside (differences hi lo) i → f (sums lo i) + distance v axes i ≡ f lo + distance u axes i
along_strides u v [] [] [] [] f el eh ec m s h = omega arith
along_strides u v [] [] [] (n ∷ i) f el eh ec m s h = absurd h
along_strides u v [] [] (y ∷ hi) i f el eh ec m s h = absurd (omega arith)
along_strides u v [] (x ∷ lo) hi i f el eh ec m s h = absurd (omega arith)
along_strides u v (a ∷ axes) [] hi i f el eh ec m s h = absurd (omega arith)
along_strides u v (a ∷ axes) (x ∷ lo) [] i f el eh ec m s h = absurd (omega arith)
along_strides u v (a ∷ axes) (x ∷ lo) (y ∷ hi) [] f el eh ec m s h = absurd h
along_strides u v (a ∷ axes) (x ∷ lo) (y ∷ hi) (n ∷ i) f el eh ec m s h =
    let p = h.0 in
    let q : length lo ≡ length hi = omega arith in
    let c : a.count ≡ y - x = cc in
    let cs : counts axes ≡ differences hi lo = cc in
    let behind = along_strides u v axes lo hi i (λ r. f (x ∷ r)) (omega arith) (omega arith) cs (alike_behind f x y lo hi (omega arith) m) (strides_behind f x lo u v a axes s) h.1 in
    let here = first_axis f x y n lo hi (sums lo i) u v a axes p c (sums_within lo hi i q h.1) (lo_within lo hi i q h.1) m s in
    omega (arith, behind, here)

-- ---- places of an array
both_alike : (a b c d p r s t w : ℕ) → a + b ≡ c + d → r + s ≡ t + w → (a * p + r) + (b * p + s) ≡ (c * p + t) + (d * p + w)
both_alike a b c d p r s t w e g = let h : (a + b) * p ≡ (c + d) * p = ap (λ n. n * p) e in omega arith

alike_place : (dims a b c d : List ℕ) → ((k : ℕ) → get_or a k 0 + get_or b k 0 ≡ get_or c k 0 + get_or d k 0) → place_of dims a + place_of dims b ≡ place_of dims c + place_of dims d
alike_place [] a b c d h = refl
alike_place (n ∷ ds) a b c d h =
    let rest = alike_place ds (drop 1 a) (drop 1 b) (drop 1 c) (drop 1 d) (λ k. rw (get_or-drop 1 a k 0, get_or-drop 1 b k 0, get_or-drop 1 c k 0, get_or-drop 1 d k 0) (h (1 + k))) in
    rw (place_split n ds a, place_split n ds b, place_split n ds c, place_split n ds d)
    (both_alike (get_or a 0 0) (get_or b 0 0) (get_or c 0 0) (get_or d 0 0) (product ds) (place_of ds (drop 1 a)) (place_of ds (drop 1 b)) (place_of ds (drop 1 c)) (place_of ds (drop 1 d)) (h 0) rest)

-- two indices that move by one along an axis: on each axis both move by one, or rest
moves_both : (a b : List ℕ) (axis k : ℕ) → length a ≡ length b
    → ((get_or (row_index a axis 1) k 0 ≡ get_or a k 0 + 1) × (get_or (row_index b axis 1) k 0 ≡ get_or b k 0 + 1))
    ⊎ ((get_or (row_index a axis 1) k 0 ≡ get_or a k 0) × (get_or (row_index b axis 1) k 0 ≡ get_or b k 0))
moves_both a b axis k e =
    elim (cases_lt axis (length a)) [
      | inr past ↦ inr (rw (set_past a axis (get_or a axis 0 + 1) past) refl, rw (set_past b axis (get_or b axis 0 + 1) (omega arith)) refl)
      | inl below ↦ elim (eqb_tells k axis) [
        | inl p ↦ inl (rw p.1 (get_or-set_same a axis (get_or a axis 0 + 1) 0 below), rw p.1 (get_or-set_same b axis (get_or b axis 0 + 1) 0 (omega arith)))
        | inr p ↦ inr (get_or-set_other a axis k (get_or a axis 0 + 1) 0 p.1, get_or-set_other b axis k (get_or b axis 0 + 1) 0 p.1)
      ]
    ]

-- ---- what a way reads
up_alike : (f i l b s st : ℕ) → b ≤ i → b ≤ l → s ≤ f + (i - b) * st → s ≤ f + (l - b) * st
    → (f + (i + 1 - b) * st - s) + (f + (l - b) * st - s) ≡ (f + (i - b) * st - s) + (f + (l + 1 - b) * st - s)
up_alike f i l b s st hi hl p q =
    let ei : i + 1 - b ≡ (i - b) + 1 = omega arith in
    let el : l + 1 - b ≡ (l - b) + 1 = omega arith in
    rw (ei, el) (core (i - b) (l - b) (f + (i - b) * st - s) (f + (l - b) * st - s) (omega arith) (omega arith))
  where
    core : (x y p q : ℕ) → f + x * st ≡ p + s → f + y * st ≡ q + s → (f + (x + 1) * st - s) + (f + y * st - s) ≡ (f + x * st - s) + (f + (y + 1) * st - s)
    core x y p q e g =
        let a : f + (x + 1) * st - s ≡ p + st = omega arith in
        let b : f + y * st - s ≡ q = omega arith in
        let c : f + x * st - s ≡ p = omega arith in
        let d : f + (y + 1) * st - s ≡ q + st = omega arith in
        rw (a, b, c, d) (omega arith)

down_alike : (f i l b s st : ℕ) → b ≤ i → b ≤ l → (i + 1 - b) * st ≤ f → s ≤ f - (i + 1 - b) * st → (l + 1 - b) * st ≤ f → s ≤ f - (l + 1 - b) * st
    → (f - (i + 1 - b) * st - s) + (f - (l - b) * st - s) ≡ (f - (i - b) * st - s) + (f - (l + 1 - b) * st - s)
down_alike f i l b s st hi hl p q p' q' =
    let ei : i + 1 - b ≡ (i - b) + 1 = omega arith in
    let el : l + 1 - b ≡ (l - b) + 1 = omega arith in
    let u = rw ei at p in
    let v = rw ei at q in
    let u' = rw el at p' in
    let v' = rw el at q' in
    rw (ei, el) (core (i - b) (l - b) (f - ((i - b) + 1) * st - s) (f - ((l - b) + 1) * st - s) (omega arith) (omega arith))
  where
    core : (x y p q : ℕ) → p + s + (x + 1) * st ≡ f → q + s + (y + 1) * st ≡ f → (f - (x + 1) * st - s) + (f - y * st - s) ≡ (f - x * st - s) + (f - (y + 1) * st - s)
    core x y p q e g =
        let a : f - (x + 1) * st - s ≡ p = omega arith in
        let b : f - y * st - s ≡ q + st = omega arith in
        let c : f - x * st - s ≡ p + st = omega arith in
        let d : f - (y + 1) * st - s ≡ q = omega arith in
        rw (a, b, c, d) (omega arith)

-- four indices of a region: one, the next along an axis, the region's first, and the next to that
record AreFour (lo hi idx : List ℕ) (axis : ℕ) (base_lo base_hi : List ℕ) : Type 0 where
  pub at : IsWithin base_lo base_hi idx
  pub at_next : IsWithin base_lo base_hi (row_index idx axis 1)
  pub first : IsWithin base_lo base_hi lo
  pub first_next : IsWithin base_lo base_hi (row_index lo axis 1)
  pub same_rank : length idx ≡ length lo

alike_way : (way : Way) (lo hi idx base_lo base_hi : List ℕ) (axis s : ℕ) → IsWayOver base_lo base_hi way → AreFour lo hi idx axis base_lo base_hi
    → s ≤ read_by way (count_along base_lo idx way) → s ≤ read_by way (count_along base_lo (row_index idx axis 1) way)
    → s ≤ read_by way (count_along base_lo lo way) → s ≤ read_by way (count_along base_lo (row_index lo axis 1) way)
    → (read_by way (count_along base_lo (row_index idx axis 1) way) - s) + (read_by way (count_along base_lo lo way) - s)
    ≡ (read_by way (count_along base_lo idx way) - s) + (read_by way (count_along base_lo (row_index lo axis 1) way) - s)
alike_way (Fixed index) lo hi idx base_lo base_hi axis s ok four s0 s1 t0 t1 = refl
alike_way (Up a first step) lo hi idx base_lo base_hi axis s ok four s0 s1 t0 t1 =
    let p = (at_axis base_lo base_hi idx a four.at ok.0).0 in
    let q = (at_axis base_lo base_hi lo a four.first ok.0).0 in
    elim (moves_both idx lo axis a four.same_rank) [
      | inl moves ↦ rw (moves.0, moves.1) (up_alike first (get_or idx a 0) (get_or lo a 0) (get_or base_lo a 0) s step p q s0 t0)
      | inr rests ↦ rw (rests.0, rests.1) refl
    ]
alike_way (Down a first step) lo hi idx base_lo base_hi axis s ok four s0 s1 t0 t1 =
    let p = (at_axis base_lo base_hi idx a four.at ok.0).0 in
    let q = (at_axis base_lo base_hi lo a four.first ok.0).0 in
    let f = (down_fits base_lo base_hi (row_index idx axis 1) (Down a first step) a first step ok four.at_next refl).0 in
    let g = (down_fits base_lo base_hi (row_index lo axis 1) (Down a first step) a first step ok four.first_next refl).0 in
    elim (moves_both idx lo axis a four.same_rank) [
      | inl moves ↦
          let f1 = rw moves.0 at f in
          let h1 = rw moves.0 at s1 in
          let g1 = rw moves.1 at g in
          let k1 = rw moves.1 at t1 in
          rw (moves.0, moves.1) (down_alike first (get_or idx a 0) (get_or lo a 0) (get_or base_lo a 0) s step p q f1 h1 g1 k1)
      | inr rests ↦ rw (rests.0, rests.1) refl
    ]

-- what a piece reads, counted from the first index of a region that holds it
alike_read : (piece : Piece) (lo hi idx slo shi : List ℕ) (axis : ℕ) → All (IsWayOver piece.region.lo piece.region.hi) piece.ways.items
    → AreFour lo hi idx axis piece.region.lo piece.region.hi
    → IsWithin slo shi (read_at piece idx) → IsWithin slo shi (read_at piece (row_index idx axis 1)) → IsWithin slo shi (read_at piece lo) → IsWithin slo shi (read_at piece (row_index lo axis 1)) → (k : ℕ)
    → get_or (differences (read_at piece (row_index idx axis 1)) slo) k 0 + get_or (differences (read_at piece lo) slo) k 0
    ≡ get_or (differences (read_at piece idx) slo) k 0 + get_or (differences (read_at piece (row_index lo axis 1)) slo) k 0
alike_read piece lo hi idx slo shi axis ways four ra rb rc rd k =
    let va = within_of slo shi (read_at piece idx) ra in
    let vb = within_of slo shi (read_at piece (row_index idx axis 1)) rb in
    let vc = within_of slo shi (read_at piece lo) rc in
    let vd = within_of slo shi (read_at piece (row_index lo axis 1)) rd in
    let na = length-read piece.region.lo idx piece.ways.items in
    let nb = length-read piece.region.lo (row_index idx axis 1) piece.ways.items in
    let nc = length-read piece.region.lo lo piece.ways.items in
    let nd = length-read piece.region.lo (row_index lo axis 1) piece.ways.items in
    rw (
      get_or-differences (read_at piece (row_index idx axis 1)) slo k (sym vb.lo_rank),
      get_or-differences (read_at piece lo) slo k (sym vc.lo_rank),
      get_or-differences (read_at piece idx) slo k (sym va.lo_rank),
      get_or-differences (read_at piece (row_index lo axis 1)) slo k (sym vd.lo_rank),
    )
    (elim (cases_lt k (length piece.ways.items)) [
      | inl below ↦
          let aa = read_on_axis piece piece.ways.items idx k refl (omega arith) in
          let ab = read_on_axis piece piece.ways.items (row_index idx axis 1) k refl (omega arith) in
          let ac = read_on_axis piece piece.ways.items lo k refl (omega arith) in
          let ad = read_on_axis piece piece.ways.items (row_index lo axis 1) k refl (omega arith) in
          let ba = rw aa.is at (va.at k (omega arith)).0 in
          let bb = rw ab.is at (vb.at k (omega arith)).0 in
          let bc = rw ac.is at (vc.at k (omega arith)).0 in
          let bd = rw ad.is at (vd.at k (omega arith)).0 in
          rw (aa.is, ab.is, ac.is, ad.is)
          (alike_way (get_or piece.ways.items k (Fixed 0)) lo hi idx piece.region.lo piece.region.hi axis (get_or slo k 0)
          (All-get_or (IsWayOver piece.region.lo piece.region.hi) piece.ways.items k (Fixed 0) below ways) four ba bb bc bd)
      | inr past ↦
          let x : get_or (read_at piece (row_index idx axis 1)) k 0 ≡ 0 = get_or_past (read_at piece (row_index idx axis 1)) k 0 (omega arith) in
          let y : get_or (read_at piece lo) k 0 ≡ 0 = get_or_past (read_at piece lo) k 0 (omega arith) in
          let z : get_or (read_at piece idx) k 0 ≡ 0 = get_or_past (read_at piece idx) k 0 (omega arith) in
          let t : get_or (read_at piece (row_index lo axis 1)) k 0 ≡ 0 = get_or_past (read_at piece (row_index lo axis 1)) k 0 (omega arith) in
          rw (x, y, z, t) refl
    ])

alike_own : (lo hi idx blo : List ℕ) (axis k : ℕ) → length lo ≡ length blo → length idx ≡ length blo
    → ((j : ℕ) → j < length lo → (get_or blo j 0 ≤ get_or lo j 0) × (get_or blo j 0 ≤ get_or idx j 0))
    → get_or (differences (row_index idx axis 1) blo) k 0 + get_or (differences lo blo) k 0 ≡ get_or (differences idx blo) k 0 + get_or (differences (row_index lo axis 1) blo) k 0
alike_own lo hi idx blo axis k el ei low =
    rw (
      get_or-differences (row_index idx axis 1) blo k (length-set idx axis (get_or idx axis 0 + 1) ∙ ei),
      get_or-differences lo blo k el,
      get_or-differences idx blo k ei,
      get_or-differences (row_index lo axis 1) blo k (length-set lo axis (get_or lo axis 0 + 1) ∙ el),
    )
    (elim (cases_lt k (length lo)) [
      | inl below ↦
          let l = low k below in
          let p = l.0 in
          let q = l.1 in
          elim (moves_both idx lo axis k (omega arith)) [
            | inl moves ↦ rw (moves.0, moves.1) (omega arith)
            | inr rests ↦ rw (rests.0, rests.1) refl
          ]
      | inr past ↦ elim (moves_both idx lo axis k (omega arith)) [
        | inl moves ↦
            let x = moves.0 in
            let over : get_or (row_index idx axis 1) k 0 ≡ 0 = get_or_past (row_index idx axis 1) k 0 (let l = length-set idx axis (get_or idx axis 0 + 1) in omega arith) in
            absurd (omega arith)
        | inr rests ↦ rw (rests.0, rests.1) refl
      ]
    ])

-- the places of a part of a block
pub block_alike : (block : Block) (part : Region) → IsWithin part.lo part.hi part.lo → ((idx : List ℕ) → IsWithin part.lo part.hi idx → IsWithin block.region.lo block.region.hi idx)
    → MovesAlike (λ idx. buffer_place block idx) part.lo part.hi
block_alike block part some of_block = record {
  alike = λ idx k b w w1 l1.
      (let vi = within_of block.region.lo block.region.hi idx (of_block idx w) in
      let vl = within_of block.region.lo block.region.hi part.lo (of_block part.lo some) in
      let ri = vi.lo_rank in
      let rl = vl.lo_rank in
      alike_place block.dims (differences (row_index idx k 1) block.region.lo) (differences part.lo block.region.lo) (differences idx block.region.lo)
      (differences (row_index part.lo k 1) block.region.lo)
      (λ j. alike_own part.lo part.hi idx block.region.lo k j (sym rl) (sym ri) (λ n c. ((vl.at n (omega arith)).0, (vi.at n (omega arith)).0))));
}

-- the places of indices in an array
pub place_alike : (dims lo hi : List ℕ) → MovesAlike (λ idx. place_of dims idx) lo hi
place_alike dims lo hi = record {
  alike = λ idx k b w w1 l1.
      (let v = within_of lo hi idx w in
      alike_place dims (row_index idx k 1) lo idx (row_index lo k 1)
      (λ j. elim (moves_both idx lo k j (sym v.lo_rank)) [
        | inl moves ↦ rw (moves.0, moves.1) (omega arith)
        | inr rests ↦ rw (rests.0, rests.1) refl
      ]));
}

-- ---- the places of a part in both blocks
module _ (piece : Piece) (part : Region) (from to : Block) (moves : IsMove piece part from to) where
  rank_of : (idx : List ℕ) → IsWithin part.lo part.hi idx → length idx ≡ length part.lo
  rank_of idx w = sym (within_of part.lo part.hi idx w).lo_rank

  four : (idx : List ℕ) (k : ℕ) → IsWithin part.lo part.hi idx → IsWithin part.lo part.hi (row_index idx k 1) → IsWithin part.lo part.hi (row_index part.lo k 1)
      → AreFour part.lo part.hi idx k piece.region.lo piece.region.hi
  four idx k w w1 l1 = record {
    at = moves.of_piece idx w;
    at_next = moves.of_piece (row_index idx k 1) w1;
    first = moves.of_piece part.lo moves.some;
    first_next = moves.of_piece (row_index part.lo k 1) l1;
    same_rank = rank_of idx w;
  }

  pub read_alike : MovesAlike (λ idx. buffer_place from (read_at piece idx)) part.lo part.hi
  read_alike = record {
    alike = λ idx k b w w1 l1.
        alike_place from.dims (differences (read_at piece (row_index idx k 1)) from.region.lo) (differences (read_at piece part.lo) from.region.lo)
        (differences (read_at piece idx) from.region.lo) (differences (read_at piece (row_index part.lo k 1)) from.region.lo)
        (alike_read piece part.lo part.hi idx from.region.lo from.region.hi k moves.ways (four idx k w w1 l1)
        (moves.of_source idx w) (moves.of_source (row_index idx k 1) w1) (moves.of_source part.lo moves.some) (moves.of_source (row_index part.lo k 1) l1));
  }

  pub written_alike : MovesAlike (λ idx. buffer_place to idx) part.lo part.hi
  written_alike = block_alike to part moves.some moves.of_result

sums_back : (lo hi idx : List ℕ) → IsWithin lo hi idx → (sums lo (differences idx lo) ≡ idx) × IsInside (differences hi lo) (differences idx lo)
sums_back [] [] [] w = (refl, tt)
sums_back [] [] (i ∷ idx) w = absurd w
sums_back [] (y ∷ hi) idx w = absurd w
sums_back (x ∷ lo) [] idx w = absurd w
sums_back (x ∷ lo) (y ∷ hi) [] w = absurd w
sums_back (x ∷ lo) (y ∷ hi) (i ∷ idx) w =
    let p = w.0 in
    let q = w.1 in
    let rest = sums_back lo hi idx w.2 in
    let here : x + (i - x) ≡ i = omega arith in
    (ap (λ n. n ∷ sums lo (differences idx lo)) here ∙ ap (λ ns. i ∷ ns) rest.0, (omega arith, rest.1))

-- ---- the axes of a part
pub next_within : (part : Region) (k count : ℕ) (next : List ℕ) → IsWithin part.lo part.hi part.lo → count ≡ row_count part k → next ≡ row_index part.lo k (min 1 (count - 1)) → IsWithin part.lo part.hi next
next_within part k count next some counted is =
    subst (λ (i : List ℕ). IsWithin part.lo part.hi i) (sym is)
    (elim (count_cases part k count counted) [
      | inl p ↦
          let a = at_axis part.lo part.hi part.lo k some p.0 in
          let a1 = a.1 in
          let e = p.1 in
          moved_within part.lo part.hi part.lo k (get_or part.lo k 0 + min 1 (count - 1)) some p.0 (omega arith) (omega arith)
      | inr p ↦ rw (set_past part.lo k (get_or part.lo k 0 + min 1 (count - 1)) p.0) some
    ])

abbrev pub axis_from : ℕ → Stride → Stride → Axis
axis_from count from to = record { count = count; from = from; to = to }

pub axis_of_part : (f g : List ℕ → ℕ) (part : Region) (k count first_from first_to next_from next_to : ℕ) (next : List ℕ) (read written : Stride)
    → count ≡ row_count part k → first_from ≡ f part.lo → first_to ≡ g part.lo → next ≡ row_index part.lo k (min 1 (count - 1)) → next_from ≡ f next → next_to ≡ g next
    → IsStrideTo read first_from next_from → IsStrideTo written first_to next_to → IsAxisOf f g part k (axis_from count read written)
axis_of_part f g part k count first_from first_to next_from next_to next read written counted ff ft is nf nt r w = record {
  count = counted;
  read = ap (λ n. up read + n) (sym ff) ∙ (r ∙ ap (λ n. n + down read) (nf ∙ ap f is));
  written = ap (λ n. up written + n) (sym ft) ∙ (w ∙ ap (λ n. n + down written) (nt ∙ ap g is));
}

pub axes_more : (f g : List ℕ → ℕ) (part : Region) (axes : List Axis) (n : ℕ) (axis : Axis) → n < length axes → IsAxisOf f g part n axis
    → AreAxesOf f g part axes n → AreAxesOf f g part (set axes n axis) (n + 1)
axes_more f g part axes n axis b here was k d c =
    elim (cases_lt k n) [
      | inl less ↦
          let apart : k ≢ n = omega arith in
          subst (λ (a : Axis). IsAxisOf f g part k a) (sym (get_or-set_other axes n k axis d apart)) (was k d less)
      | inr more ↦
          let same : k ≡ n = omega arith in
          subst (λ (j : ℕ). IsAxisOf f g part j (get_or (set axes n axis) j d)) (sym same)
          (subst (λ (a : Axis). IsAxisOf f g part n a) (sym (get_or-set_same axes n axis d b)) here)
    ]

-- ---- elements that are copied are the numbers that they are
pub copied_number : (from to : Block) (size : ℕ) (bytes new : List ℕ) (read written : ℕ) → from.dtype ≡ to.dtype → size ≡ size_of to.dtype → AreSpelled from.dtype bytes
    → read * size_of from.dtype + size_of from.dtype ≤ length bytes → part_at size new written ≡ part_at size bytes read
    → bytes_at to.dtype new written ≡ element_bytes Little to.dtype (element_at Little from.dtype bytes read)
copied_number from to size bytes new read written same sized spelled fits copied =
    let at : bytes_at to.dtype new written ≡ bytes_at from.dtype bytes read =
    ap (λ s. part_at s new written) (sym sized) ∙ (copied ∙ ap (λ s. part_at s bytes read) (sized ∙ ap size_of (sym same))) in
    at ∙ (spelled_own from.dtype bytes read spelled fits ∙ ap (λ t. element_bytes Little t (element_at Little from.dtype bytes read)) same)

pub kept_bytes : (to : Block) (size : ℕ) (old new : List ℕ) (at : ℕ) → size ≡ size_of to.dtype → part_at size new at ≡ part_at size old at → bytes_at to.dtype new at ≡ bytes_at to.dtype old at
kept_bytes to size old new at sized kept = ap (λ s. part_at s new at) (sym sized) ∙ (kept ∙ ap (λ s. part_at s old at) sized)

-- ---- the copy of a part whose indices have the places f in one buffer and g in another
module _ (f g : List ℕ → ℕ) (part : Region) (bytes old : List ℕ) (axes : List Axis) (first_from first_to size : ℕ) (some : IsWithin part.lo part.hi part.lo)
    (f_alike : MovesAlike f part.lo part.hi) (g_alike : MovesAlike g part.lo part.hi)
    (f_fits : (idx : List ℕ) → IsWithin part.lo part.hi idx → f idx * size + size ≤ length bytes)
    (g_fits : (idx : List ℕ) → IsWithin part.lo part.hi idx → g idx * size + size ≤ length old)
    (g_one : (idx other : List ℕ) → IsWithin part.lo part.hi idx → IsWithin part.lo part.hi other → g idx ≡ g other → idx ≡ other)
    (long : length axes ≡ length part.lo) (are : AreAxesOf f g part axes (length part.lo)) (is_from : first_from ≡ f part.lo) (is_to : first_to ≡ g part.lo) where
  abbrev start : Start
  start = record { from = first_from; to = first_to }

  same_rank : length part.hi ≡ length part.lo
  same_rank = (within_of part.lo part.hi part.lo some).hi_rank

  count_at : (k : ℕ) (d : Axis) → k < length part.lo → (get_or axes k d).count ≡ get_or part.hi k 0 - get_or part.lo k 0
  count_at k d b =
      elim (count_cases part k (get_or axes k d).count (are k d b).count) [
        | inl p ↦ p.1
        | inr p ↦ let q = p.0 in absurd (omega arith)
      ]

  counted : counts axes ≡ differences part.hi part.lo
  counted =
      let n : length (counts axes) ≡ length axes = length-map axes (λ (a : Axis). a.count) in
      let r = same_rank in
      let m : length (differences part.hi part.lo) ≡ length part.hi = length-axis_by_axis (λ i j. i - j) part.hi part.lo r in
      ext_get_or 0 (counts axes) (differences part.hi part.lo) (omega arith)
      (λ k b. let at : get_or (counts axes) k 0 ≡ (get_or axes k none).count = get_or-map (λ (a : Axis). a.count) axes k none 0 (omega arith) in
      at ∙ (count_at k none (omega arith) ∙ sym (get_or-differences part.hi part.lo k r)))
    where
      none : Axis
      none = axis_from 0 (stride.Up 0) (stride.Up 0)

  inside : (i : List ℕ) → IsInside (counts axes) i → IsInside (differences part.hi part.lo) i
  inside i h = subst (λ (ns : List ℕ). IsInside ns i) counted h

  within : (i : List ℕ) → IsInside (counts axes) i → IsWithin part.lo part.hi (sums part.lo i)
  within i h = sums_within part.lo part.hi i (sym same_rank) (inside i h)

  f_strides : HaveStrides f part.lo (λ a. up a.from) (λ a. down a.from) axes
  f_strides = record {
    strides = λ k d b more.
        (let a = (are k d (omega arith)).read in
        let next : min 1 ((get_or axes k d).count - 1) ≡ 1 = omega arith in
        rw next at a);
  }

  g_strides : HaveStrides g part.lo (λ a. up a.to) (λ a. down a.to) axes
  g_strides = record {
    strides = λ k d b more.
        (let a = (are k d (omega arith)).written in
        let next : min 1 ((get_or axes k d).count - 1) ≡ 1 = omega arith in
        rw next at a);
  }

  read_far : (i : List ℕ) → IsInside (counts axes) i → f (sums part.lo i) + distance (λ a. down a.from) axes i ≡ first_from + distance (λ a. up a.from) axes i
  read_far i h =
      along_strides (λ a. up a.from) (λ a. down a.from) axes part.lo part.hi i f (sym long) (same_rank ∙ sym long) counted f_alike f_strides (inside i h)
      ∙ ap (λ n. n + distance (λ a. up a.from) axes i) (sym is_from)

  written_far : (i : List ℕ) → IsInside (counts axes) i → g (sums part.lo i) + distance (λ a. down a.to) axes i ≡ first_to + distance (λ a. up a.to) axes i
  written_far i h =
      along_strides (λ a. up a.to) (λ a. down a.to) axes part.lo part.hi i g (sym long) (same_rank ∙ sym long) counted g_alike g_strides (inside i h)
      ∙ ap (λ n. n + distance (λ a. up a.to) axes i) (sym is_to)

  read_is : (i : List ℕ) → IsInside (counts axes) i → read_place axes start i ≡ f (sums part.lo i)
  read_is i h = let far = read_far i h in omega (arith, far)

  written_is : (i : List ℕ) → IsInside (counts axes) i → written_place axes start i ≡ g (sums part.lo i)
  written_is i h = let far = written_far i h in omega (arith, far)

  pub part_places : HavePlaces size axes start (length bytes) (length old)
  part_places = record {
    read_natural = λ i h. (let far = read_far i h in omega (arith, far));
    reads = λ i h. subst (λ (p : ℕ). p * size + size ≤ length bytes) (sym (read_is i h)) (f_fits (sums part.lo i) (within i h));
    written_natural = λ i h. (let far = written_far i h in omega (arith, far));
    writes = λ i h. subst (λ (p : ℕ). p * size + size ≤ length old) (sym (written_is i h)) (g_fits (sums part.lo i) (within i h));
  }

  pub part_each : IsEachFromOne size axes start bytes
  part_each = record {
    one = λ i j h e is.
        ap (part_at size bytes)
        (read_is i h ∙ (ap f (g_one (sums part.lo i) (sums part.lo j) (within i h) (within j e) (sym (written_is i h) ∙ is ∙ written_is j e)) ∙ sym (read_is j e)));
  }

  pub part_copied : (new : List ℕ) → IsStridedCopy size Little axes start bytes old new → (idx : List ℕ) → IsWithin part.lo part.hi idx → part_at size new (g idx) ≡ part_at size bytes (f idx)
  part_copied new c idx w =
      let back = sums_back part.lo part.hi idx w in
      let h : IsInside (counts axes) (differences idx part.lo) = subst (λ (ns : List ℕ). IsInside ns (differences idx part.lo)) (sym counted) back.1 in
      ap (part_at size new) (sym (written_is (differences idx part.lo) h ∙ ap g back.0))
      ∙ (c.copied (differences idx part.lo) h ∙ ap (part_at size bytes) (read_is (differences idx part.lo) h ∙ ap f back.0))

  pub part_kept : (new : List ℕ) → IsStridedCopy size Little axes start bytes old new → (q : ℕ) → ((idx : List ℕ) → IsWithin part.lo part.hi idx → g idx ≢ q) → part_at size new q ≡ part_at size old q
  part_kept new c q off = c.others q (λ i h e. off (sums part.lo i) (within i h) (sym (written_is i h) ∙ e))

-- ---- the copy of what a piece reads over a part of its box
module _ (piece : Piece) (part : Region) (from to : Block) (bytes old : List ℕ) (axes : List Axis) (first_from first_to size : ℕ)
    (moves : IsMove piece part from to) (source_ok : IsBlock from bytes) (target_ok : IsBlock to old)
    (same : from.dtype ≡ to.dtype) (sized : size ≡ size_of to.dtype) (long : length axes ≡ length part.lo)
    (are : AreAxesOf (λ idx. buffer_place from (read_at piece idx)) (λ idx. buffer_place to idx) part axes (length part.lo))
    (is_from : first_from ≡ buffer_place from (read_at piece part.lo)) (is_to : first_to ≡ buffer_place to part.lo) where
  abbrev read : List ℕ → ℕ
  read idx = buffer_place from (read_at piece idx)

  size_from : size ≡ size_of from.dtype
  size_from = sized ∙ ap size_of (sym same)

  read_fits : (idx : List ℕ) → IsWithin part.lo part.hi idx → read idx * size + size ≤ length bytes
  read_fits idx w = subst (λ (s : ℕ). read idx * s + s ≤ length bytes) (sym size_from) (place_fits from bytes (read_at piece idx) source_ok (moves.of_source idx w))

  write_fits : (idx : List ℕ) → IsWithin part.lo part.hi idx → buffer_place to idx * size + size ≤ length old
  write_fits idx w = subst (λ (s : ℕ). buffer_place to idx * s + s ≤ length old) (sym sized) (place_fits to old idx target_ok (moves.of_result idx w))

  write_one : (idx other : List ℕ) → IsWithin part.lo part.hi idx → IsWithin part.lo part.hi other → buffer_place to idx ≡ buffer_place to other → idx ≡ other
  write_one idx other w v e = place_one to old idx other target_ok (moves.of_result idx w) (moves.of_result other v) e

  pub move_places : HavePlaces size axes (record { from = first_from; to = first_to }) (length bytes) (length old)
  move_places = part_places read (λ i. buffer_place to i) part bytes old axes first_from first_to size moves.some (read_alike piece part from to moves) (written_alike piece part from to moves)
      read_fits write_fits write_one long are is_from is_to

  pub move_each : IsEachFromOne size axes (record { from = first_from; to = first_to }) bytes
  move_each = part_each read (λ i. buffer_place to i) part bytes old axes first_from first_to size moves.some (read_alike piece part from to moves) (written_alike piece part from to moves)
      read_fits write_fits write_one long are is_from is_to

  module _ (new : List ℕ) (c : IsStridedCopy size Little axes (record { from = first_from; to = first_to }) bytes old new) where
    pub moved_along : AreSpelled from.dtype bytes → IsMoved piece part from bytes to new
    moved_along spelled idx w =
        let copied : part_at size new (buffer_place to idx) ≡ part_at size bytes (read idx) =
        part_copied read (λ i. buffer_place to i) part bytes old axes first_from first_to size moves.some (read_alike piece part from to moves) (written_alike piece part from to moves)
        read_fits write_fits write_one long are is_from is_to new c idx w in
        copied_number from to size bytes new (read idx) (buffer_place to idx) same sized spelled (place_fits from bytes (read_at piece idx) source_ok (moves.of_source idx w)) copied

    pub kept_along : IsKept part to old new
    kept_along idx w off =
        let kept : part_at size new (buffer_place to idx) ≡ part_at size old (buffer_place to idx) =
        part_kept read (λ i. buffer_place to i) part bytes old axes first_from first_to size moves.some (read_alike piece part from to moves) (written_alike piece part from to moves)
        read_fits write_fits write_one long are is_from is_to new c (buffer_place to idx)
        (λ other v e. off (subst (λ (is : List ℕ). IsWithin part.lo part.hi is) (place_one to old other idx target_ok (moves.of_result other v) w e) v)) in
        kept_bytes to size old new (buffer_place to idx) sized kept

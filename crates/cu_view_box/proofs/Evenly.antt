-- Places that move evenly: place j and j times the first are j times the second and the first.
use Rattle.std.proofs.Common.{◌≡◌, ℕ, zero, suc, ◌+◌, ◌-◌, ◌*◌, ◌<◌, ◌≤◌, ◌⊎◌, List, [], ◌∷◌, length, get_or, drop, All, min, refl, sym, ap, ◌∙◌, arith, inl, inr}
use Rattle.std.proofs.lemmas.Bool.{cases_lt}
use Rattle.std.proofs.lemmas.Bool.Decides.{eqb_tells}
use Rattle.std.proofs.lemmas.List.{get_or-drop, get_or-set_same, get_or-set_other, set_past, get_or_past, length-set}
use Rattle.std.proofs.lemmas.List.Elements.{All-get_or}
use Rattle.cu_shape.specs.Index.{product, place_of, differences}
use Rattle.cu_grid.specs.Counts.{IsWithin}
use Rattle.cu_view_box.specs.Row.{row_index}
use Rattle.cu_view_box.specs.Way.{read_by}
use Rattle.cu_view_box.specs.Piece.{count_along, read_at, IsWayOver}
use Rattle.cu_view_box.specs.declared.piece.Piece.{Piece}
use Rattle.cu_view_box.specs.declared.way.Way.{Way}
use Rattle.cu_view_box.specs.declared.way.Way.TheVariants.{Fixed, Up, Down}
use Rattle.cu_view_box.proofs.Boxes.{at_axis}
use Rattle.cu_view_box.proofs.ReadOver.{read_on_axis, length-read, down_fits}
use Rattle.cu_grid.proofs.Meeting.{within_of}

-- ---- in an array
no_place : (ds : List ℕ) → place_of ds [] ≡ 0
no_place [] = refl
no_place (d ∷ ds) = refl

pub place_split : (d : ℕ) (ds is : List ℕ) → place_of (d ∷ ds) is ≡ get_or is 0 0 * product ds + place_of ds (drop 1 is)
place_split d ds [] = let e = no_place ds in omega arith
place_split d ds (i ∷ is) = refl

both_even : (x y z p r s t j : ℕ) → z + j * x ≡ j * y + x → t + j * r ≡ j * s + r → (z * p + t) + j * (x * p + r) ≡ j * (y * p + s) + (x * p + r)
both_even x y z p r s t j e f = let g : (z + j * x) * p ≡ (j * y + x) * p = ap (λ n. n * p) e in omega arith

pub even_place : (dims a b c : List ℕ) (j : ℕ) → ((k : ℕ) → get_or c k 0 + j * get_or a k 0 ≡ j * get_or b k 0 + get_or a k 0)
    → place_of dims c + j * place_of dims a ≡ j * place_of dims b + place_of dims a
even_place [] a b c j h = omega arith
even_place (d ∷ ds) a b c j h =
    let rest = even_place ds (drop 1 a) (drop 1 b) (drop 1 c) j (λ k. rw (get_or-drop 1 c k 0, get_or-drop 1 a k 0, get_or-drop 1 b k 0) (h (1 + k))) in
    rw (place_split d ds a, place_split d ds b, place_split d ds c)
    (both_even (get_or a 0 0) (get_or b 0 0) (get_or c 0 0) (product ds) (place_of ds (drop 1 a)) (place_of ds (drop 1 b)) (place_of ds (drop 1 c)) j (h 0) rest)

pub get_or-differences : (xs ys : List ℕ) (k : ℕ) → length xs ≡ length ys → get_or (differences xs ys) k 0 ≡ get_or xs k 0 - get_or ys k 0
get_or-differences [] [] k e = refl
get_or-differences [] (y ∷ ys) k e = absurd (omega arith)
get_or-differences (x ∷ xs) [] k e = absurd (omega arith)
get_or-differences (x ∷ xs) (y ∷ ys) zero e = refl
get_or-differences (x ∷ xs) (y ∷ ys) (suc k) e = get_or-differences xs ys k (omega arith)

-- ---- along a row
-- an axis moves by one from index to index, or rests
pub row_on : (lo : List ℕ) (axis k : ℕ) → (((j : ℕ) → get_or (row_index lo axis j) k 0 ≡ get_or lo k 0 + j)) ⊎ ((j : ℕ) → get_or (row_index lo axis j) k 0 ≡ get_or lo k 0)
row_on lo axis k =
    elim (cases_lt axis (length lo)) [
      | inr past ↦ inr (λ j. rw (set_past lo axis (get_or lo axis 0 + j) past) refl)
      | inl below ↦ elim (eqb_tells k axis) [
        | inl p ↦ inl (λ j. rw p.1 (get_or-set_same lo axis (get_or lo axis 0 + j) 0 below))
        | inr p ↦ inr (λ j. get_or-set_other lo axis k (get_or lo axis 0 + j) 0 p.1)
      ]
    ]

moved_even : (l b j : ℕ) → b ≤ l → (l + j - b) + j * (l - b) ≡ j * (l + 1 - b) + (l - b)
moved_even l b j h =
    let e : l + 1 - b ≡ (l - b) + 1 = omega arith in
    rw e (omega arith)

pub even_on_axis : (lo blo : List ℕ) (axis j : ℕ) → length lo ≡ length blo → ((k : ℕ) → k < length lo → get_or blo k 0 ≤ get_or lo k 0) → (k : ℕ)
    → get_or (differences (row_index lo axis j) blo) k 0 + j * get_or (differences lo blo) k 0 ≡ j * get_or (differences (row_index lo axis 1) blo) k 0 + get_or (differences lo blo) k 0
even_on_axis lo blo axis j e low k =
    rw (get_or-differences (row_index lo axis j) blo k (long j), get_or-differences (row_index lo axis 1) blo k (long 1), get_or-differences lo blo k e)
    (elim (cases_lt k (length lo)) [
      | inl below ↦ elim (row_on lo axis k) [
        | inl moves ↦ rw (moves j, moves 1) (moved_even (get_or lo k 0) (get_or blo k 0) j (low k below))
        | inr rests ↦ rw (rests j, rests 1) (omega arith)
      ]
      | inr past ↦
          let x : get_or (row_index lo axis j) k 0 ≡ 0 = get_or_past (row_index lo axis j) k 0 (let l = long j in omega arith) in
          let y : get_or (row_index lo axis 1) k 0 ≡ 0 = get_or_past (row_index lo axis 1) k 0 (let l = long 1 in omega arith) in
          let z : get_or lo k 0 ≡ 0 = get_or_past lo k 0 past in
          rw (x, y, z) (omega arith)
    ])
  where
    long : (j : ℕ) → length (row_index lo axis j) ≡ length blo
    long j = length-set lo axis (get_or lo axis 0 + j) ∙ e

-- ---- what a way reads along a row
up_core : (f t s j st y : ℕ) → f + t * st ≡ y + s → (f + (t + j) * st - s) + j * (f + t * st - s) ≡ j * (f + (t + 1) * st - s) + (f + t * st - s)
up_core f t s j st y e =
    let a : f + (t + j) * st - s ≡ y + j * st = omega arith in
    let b : f + t * st - s ≡ y = omega arith in
    let c : f + (t + 1) * st - s ≡ y + st = omega arith in
    rw (a, b, c) (omega arith)

up_even : (f l b s j st : ℕ) → b ≤ l → s ≤ f + (l - b) * st
    → (f + (l + j - b) * st - s) + j * (f + (l - b) * st - s) ≡ j * (f + (l + 1 - b) * st - s) + (f + (l - b) * st - s)
up_even f l b s j st h g =
    let e : l + j - b ≡ (l - b) + j = omega arith in
    let d : l + 1 - b ≡ (l - b) + 1 = omega arith in
    rw (e, d) (up_core f (l - b) s j st (f + (l - b) * st - s) (omega arith))

down_core : (f t s j st y z : ℕ) → y + s + (t + 1) * st ≡ f → z + s + (t + j) * st ≡ f → (f - (t + j) * st - s) + j * (f - t * st - s) ≡ j * (f - (t + 1) * st - s) + (f - t * st - s)
down_core f t s j st y z e g =
    let a : f - (t + j) * st - s ≡ z = omega arith in
    let b : f - t * st - s ≡ y + st = omega arith in
    let c : f - (t + 1) * st - s ≡ y = omega arith in
    let d : z + j * st ≡ y + st = omega arith in
    rw (a, b, c) (omega arith)

down_even : (f l b s j st : ℕ) → b ≤ l → (l + 1 - b) * st ≤ f → s ≤ f - (l + 1 - b) * st → (l + j - b) * st ≤ f → s ≤ f - (l + j - b) * st
    → (f - (l + j - b) * st - s) + j * (f - (l - b) * st - s) ≡ j * (f - (l + 1 - b) * st - s) + (f - (l - b) * st - s)
down_even f l b s j st h p q p' q' =
    let e : l + j - b ≡ (l - b) + j = omega arith in
    let d : l + 1 - b ≡ (l - b) + 1 = omega arith in
    let u = rw d at p in
    let v = rw d at q in
    let u' = rw e at p' in
    let v' = rw e at q' in
    rw (e, d) (down_core f (l - b) s j st (f - ((l - b) + 1) * st - s) (f - ((l - b) + j) * st - s) (omega arith) (omega arith))

pub even_way : (way : Way) (base_lo base_hi lo : List ℕ) (axis j s : ℕ) → IsWayOver base_lo base_hi way
    → IsWithin base_lo base_hi lo → IsWithin base_lo base_hi (row_index lo axis 1) → IsWithin base_lo base_hi (row_index lo axis j)
    → s ≤ read_by way (count_along base_lo lo way) → s ≤ read_by way (count_along base_lo (row_index lo axis 1) way) → s ≤ read_by way (count_along base_lo (row_index lo axis j) way)
    → (read_by way (count_along base_lo (row_index lo axis j) way) - s) + j * (read_by way (count_along base_lo lo way) - s)
    ≡ j * (read_by way (count_along base_lo (row_index lo axis 1) way) - s) + (read_by way (count_along base_lo lo way) - s)
even_way (Fixed index) base_lo base_hi lo axis j s ok w0 w1 wj s0 s1 sj = omega arith
even_way (Up a first step) base_lo base_hi lo axis j s ok w0 w1 wj s0 s1 sj =
    let p = (at_axis base_lo base_hi lo a w0 ok.0).0 in
    elim (row_on lo axis a) [
      | inl moves ↦ rw (moves j, moves 1) (up_even first (get_or lo a 0) (get_or base_lo a 0) s j step p s0)
      | inr rests ↦ rw (rests j, rests 1) (omega arith)
    ]
even_way (Down a first step) base_lo base_hi lo axis j s ok w0 w1 wj s0 s1 sj =
    let p = (at_axis base_lo base_hi lo a w0 ok.0).0 in
    let f1 = (down_fits base_lo base_hi (row_index lo axis 1) (Down a first step) a first step ok w1 refl).0 in
    let fj = (down_fits base_lo base_hi (row_index lo axis j) (Down a first step) a first step ok wj refl).0 in
    elim (row_on lo axis a) [
      | inl moves ↦
          let g1 = rw (moves 1) at f1 in
          let h1 = rw (moves 1) at s1 in
          let gj = rw (moves j) at fj in
          let hj = rw (moves j) at sj in
          rw (moves j, moves 1) (down_even first (get_or lo a 0) (get_or base_lo a 0) s j step p g1 h1 gj hj)
      | inr rests ↦ rw (rests j, rests 1) (omega arith)
    ]

-- what a piece reads along a row, counted from the first index of a region that holds it
pub even_read : (piece : Piece) (lo slo shi : List ℕ) (axis j : ℕ) → All (IsWayOver piece.region.lo piece.region.hi) piece.ways.items
    → IsWithin piece.region.lo piece.region.hi lo → IsWithin piece.region.lo piece.region.hi (row_index lo axis 1) → IsWithin piece.region.lo piece.region.hi (row_index lo axis j)
    → IsWithin slo shi (read_at piece lo) → IsWithin slo shi (read_at piece (row_index lo axis 1)) → IsWithin slo shi (read_at piece (row_index lo axis j)) → (k : ℕ)
    → get_or (differences (read_at piece (row_index lo axis j)) slo) k 0 + j * get_or (differences (read_at piece lo) slo) k 0
    ≡ j * get_or (differences (read_at piece (row_index lo axis 1)) slo) k 0 + get_or (differences (read_at piece lo) slo) k 0
even_read piece lo slo shi axis j ways w0 w1 wj r0 r1 rj k =
    let v0 = within_of slo shi (read_at piece lo) r0 in
    let v1 = within_of slo shi (read_at piece (row_index lo axis 1)) r1 in
    let vj = within_of slo shi (read_at piece (row_index lo axis j)) rj in
    rw (
      get_or-differences (read_at piece (row_index lo axis j)) slo k (sym vj.lo_rank),
      get_or-differences (read_at piece (row_index lo axis 1)) slo k (sym v1.lo_rank),
      get_or-differences (read_at piece lo) slo k (sym v0.lo_rank),
    )
    (elim (cases_lt k (length piece.ways.items)) [
      | inl below ↦
          let n0 = length-read piece.region.lo lo piece.ways.items in
          let n1 = length-read piece.region.lo (row_index lo axis 1) piece.ways.items in
          let nj = length-read piece.region.lo (row_index lo axis j) piece.ways.items in
          let a0 = read_on_axis piece piece.ways.items lo k refl (omega arith) in
          let a1 = read_on_axis piece piece.ways.items (row_index lo axis 1) k refl (omega arith) in
          let aj = read_on_axis piece piece.ways.items (row_index lo axis j) k refl (omega arith) in
          let b0 = rw a0.is at (v0.at k (omega arith)).0 in
          let b1 = rw a1.is at (v1.at k (omega arith)).0 in
          let bj = rw aj.is at (vj.at k (omega arith)).0 in
          rw (a0.is, a1.is, aj.is)
          (even_way (get_or piece.ways.items k (Fixed 0)) piece.region.lo piece.region.hi lo axis j (get_or slo k 0)
          (All-get_or (IsWayOver piece.region.lo piece.region.hi) piece.ways.items k (Fixed 0) below ways) w0 w1 wj b0 b1 bj)
      | inr past ↦
          let n0 = length-read piece.region.lo lo piece.ways.items in
          let n1 = length-read piece.region.lo (row_index lo axis 1) piece.ways.items in
          let nj = length-read piece.region.lo (row_index lo axis j) piece.ways.items in
          let x : get_or (read_at piece (row_index lo axis j)) k 0 ≡ 0 = get_or_past (read_at piece (row_index lo axis j)) k 0 (omega arith) in
          let y : get_or (read_at piece (row_index lo axis 1)) k 0 ≡ 0 = get_or_past (read_at piece (row_index lo axis 1)) k 0 (omega arith) in
          let z : get_or (read_at piece lo) k 0 ≡ 0 = get_or_past (read_at piece lo) k 0 (omega arith) in
          rw (x, y, z) (omega arith)
    ])

-- ---- the line through the first two places
pub on_even : (f : ℕ → ℕ) (first next count j : ℕ) → first ≡ f 0 → next ≡ f (min 1 (count - 1)) → j < count
    → (1 < count → f j + j * f 0 ≡ j * f 1 + f 0) → (j * first ≤ first + j * next) × (first + j * next - j * first ≡ f j)
on_even f first next count j ef en below law =
    elim (cases_lt 1 count) [
      | inl more ↦
          let one : min 1 (count - 1) ≡ 1 = omega arith in
          let e : next ≡ f 1 = en ∙ ap f one in
          let l = law more in
          rw (ef, e) (omega arith, omega arith)
      | inr few ↦
          let none : j ≡ 0 = omega arith in
          rw none (omega arith, rw ef (omega arith))
    ]

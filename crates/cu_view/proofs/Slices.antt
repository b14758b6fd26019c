-- How a slice reads its source: axes of size 1 change no row-major place.
use Rattle.std.proofs.Common.{◌≡◌, ◌≢◌, ℕ, zero, suc, ◌+◌, ◌-◌, ◌*◌, ◌^◌, ◌<◌, ◌≤◌, ◌==◌, not, true, false, ℤ, pos, negsuc, ◌+ℤ◌, ◌*ℤ◌, ◌≤ℤ◌, neg_ℤ, List, [], ◌∷◌, length, get_or, take, refl, ap, ◌∙◌, sym, arith, inl, inr, if◌then◌else◌}
use Rattle.std.proofs.lemmas.Bool.Decides.{eqb_tells}
use Rattle.std.proofs.lemmas.Int.{ints}
use Rattle.std.proofs.lemmas.List.{length-map, get_or-map}
use Rattle.std.proofs.lemmas.List.Sums.{sum_by-cons}
use Rattle.cu_shape.specs.Index.{product, place_of, index_at, IsInside}
use Rattle.cu_shape.specs.Slice.{at_least_zero, index_taken, IsIndex}
use Rattle.cu_shape.specs.declared.slice.Run.{Run}
use Rattle.cu_shape.proofs.Places.{inside-length, place-below, index-inside, place-index, index-place}
use Rattle.cu_origin.specs.Fits.{without_ones, FitsSlice}
use Rattle.cu_origin.specs.Pull.{counts_of_runs, sliced}
use Rattle.cu_origin.proofs.OriginsInside.{product-without_ones}
use Rattle.cu_view_box.specs.Piece.{count_along, IsWayOver}
use Rattle.cu_view_box.specs.Way.{read_by}
use Rattle.cu_view_box.specs.declared.way.Way.{Way}
use Rattle.cu_view_box.specs.declared.way.Way.TheVariants.{Fixed}
use Rattle.cu_view.specs.Boxes.{no_run, longer_before, IsAlong, step_way, run_way}
use Rattle.cu_view.proofs.Fitting.{ltb_tells}
use Rattle.cu_view.proofs.Taken.{taken_on, get_or-taken_by, count_at, run_at, length-counts}

-- the numbers on the axes of another size than 1
abbrev pub kept : List ℕ → List ℕ → List ℕ
kept (n ∷ ns) (i ∷ is) = if n == 1 then kept ns is else i ∷ kept ns is
kept [] is = []
kept (n ∷ ns) [] = []

kept_inside : (ds is : List ℕ) → IsInside ds is → IsInside (without_ones ds) (kept ds is)
kept_inside [] [] h = tt
kept_inside [] (i ∷ is) h = absurd h
kept_inside (n ∷ ns) [] h = absurd h
kept_inside (n ∷ ns) (i ∷ is) h =
    let r = kept_inside ns is h.1 in
    elim (eqb_tells n 1) [
      | inl p ↦ rw p.0 r
      | inr p ↦ rw p.0 (h.0, r)
    ]

kept_place : (ds is : List ℕ) → IsInside ds is → place_of (without_ones ds) (kept ds is) ≡ place_of ds is
kept_place [] [] h = refl
kept_place [] (i ∷ is) h = absurd h
kept_place (n ∷ ns) [] h = absurd h
kept_place (n ∷ ns) (i ∷ is) h =
    let r : place_of (without_ones ns) (kept ns is) ≡ place_of ns is = kept_place ns is h.1 in
    let m : product (without_ones ns) ≡ product ns = product-without_ones ns in
    elim (eqb_tells n 1) [
      | inl p ↦ let b = h.0 in let e = p.1 in let z : i ≡ 0 = omega arith in rw p.0 (rw z (omega arith))
      | inr p ↦ rw p.0 (ap (λ (x : ℕ). i * x + place_of (without_ones ns) (kept ns is)) m ∙ ap (λ (x : ℕ). i * product ns + x) r)
    ]

kept_self : (ds : List ℕ) → kept ds ds ≡ without_ones ds
kept_self [] = refl
kept_self (n ∷ ns) =
    let r : kept ns ns ≡ without_ones ns = kept_self ns in
    elim (eqb_tells n 1) [
      | inl p ↦ rw p.0 r
      | inr p ↦ rw p.0 (ap (λ (x : List ℕ). n ∷ x) r)
    ]

longer_step_one : (n d : ℕ) (ns : List ℕ) → (n == 1) ≡ true → longer_before (n ∷ ns) (suc d) ≡ longer_before ns d
longer_step_one n d ns p = sum_by-cons (λ (x : ℕ). if not (x == 1) then 1 else 0) n (take d ns) ∙ rw p (omega arith)

longer_step_more : (n d : ℕ) (ns : List ℕ) → (n == 1) ≡ false → longer_before (n ∷ ns) (suc d) ≡ suc (longer_before ns d)
longer_step_more n d ns p = sum_by-cons (λ (x : ℕ). if not (x == 1) then 1 else 0) n (take d ns) ∙ rw p (omega arith)

-- a number on such an axis, by how many such axes stand before
pub kept_at : (ds is : List ℕ) (d : ℕ) → d < length ds → length is ≡ length ds → get_or ds d 0 ≢ 1 → get_or (kept ds is) (longer_before ds d) 0 ≡ get_or is d 0
kept_at [] is d l e n = absurd (omega arith)
kept_at (m ∷ ms) [] d l e n = absurd (omega arith)
kept_at (m ∷ ms) (i ∷ is) zero l e n =
    elim (eqb_tells m 1) [
      | inl p ↦ absurd (n p.1)
      | inr p ↦ rw p.0 refl
    ]
kept_at (m ∷ ms) (i ∷ is) (suc d) l e n =
    let r : get_or (kept ms is) (longer_before ms d) 0 ≡ get_or is d 0 = kept_at ms is d (omega arith) (omega arith) n in
    elim (eqb_tells m 1) [
      | inl p ↦ let c = longer_step_one m d ms p.0 in rw (p.0, c) r
      | inr p ↦ let c = longer_step_more m d ms p.0 in rw (p.0, c) r
    ]

pub longer_below : (ds : List ℕ) (d : ℕ) → d < length ds → get_or ds d 0 ≢ 1 → longer_before ds d < longer_before ds (length ds)
longer_below [] d l n = absurd (omega arith)
longer_below (m ∷ ms) zero l n =
    elim (eqb_tells m 1) [
      | inl p ↦ absurd (n p.1)
      | inr p ↦ let c = longer_step_more m (length ms) ms p.0 in omega arith
    ]
longer_below (m ∷ ms) (suc d) l n =
    let r = longer_below ms d (omega arith) n in
    elim (eqb_tells m 1) [
      | inl p ↦ let c = longer_step_one m (length ms) ms p.0 in let b = longer_step_one m d ms p.0 in omega arith
      | inr p ↦ let c = longer_step_more m (length ms) ms p.0 in let b = longer_step_more m d ms p.0 in omega arith
    ]

pub longer_all : (ds : List ℕ) → longer_before ds (length ds) ≡ length (without_ones ds)
longer_all [] = refl
longer_all (m ∷ ms) =
    let r = longer_all ms in
    elim (eqb_tells m 1) [
      | inl p ↦ let c = longer_step_one m (length ms) ms p.0 in rw p.0 (omega arith)
      | inr p ↦ let c = longer_step_more m (length ms) ms p.0 in rw p.0 (omega arith)
    ]

pub count_is : (runs : List Run) (d : ℕ) → d < length runs → get_or (counts_of_runs runs) d 0 ≡ (get_or runs d no_run).count
count_is runs d l = get_or-map (λ (run : Run). run.count) runs d no_run 0 l

-- ---- the index that is read

-- two arrays that differ only in axes of size 1: the same place is the same index on the others
same_kept : (ns bs is js : List ℕ) → without_ones ns ≡ without_ones bs → IsInside ns is → IsInside bs js → place_of ns is ≡ place_of bs js → kept ns is ≡ kept bs js
same_kept ns bs is js e h g p =
    let a : index_at (without_ones ns) (place_of (without_ones ns) (kept ns is)) ≡ kept ns is = index-place (without_ones ns) (kept ns is) (kept_inside ns is h) in
    let b : index_at (without_ones bs) (place_of (without_ones bs) (kept bs js)) ≡ kept bs js = index-place (without_ones bs) (kept bs js) (kept_inside bs js g) in
    let q : place_of (without_ones ns) (kept ns is) ≡ place_of (without_ones bs) (kept bs js) = kept_place ns is h ∙ p ∙ sym (kept_place bs js g) in
    sym a ∙ ap (λ (x : ℕ). index_at (without_ones ns) x) q ∙ ap (λ (x : List ℕ). index_at x (place_of (without_ones bs) (kept bs js))) e ∙ b

at_same : (xs ys : List ℕ) (i j : ℕ) → xs ≡ ys → i ≡ j → get_or xs i 0 ≡ get_or ys j 0
at_same xs ys i j e f = ap (λ (x : List ℕ). get_or x i 0) e ∙ ap (λ (k : ℕ). get_or ys k 0) f

pub along_at : (shape counts idx at : List ℕ) (d a : ℕ) → without_ones shape ≡ without_ones counts → IsInside shape idx → IsInside counts at → place_of shape idx ≡ place_of counts at → d < length counts → get_or counts d 0 ≢ 1 → IsAlong shape counts d a
    → get_or idx a 0 ≡ get_or at d 0
along_at shape counts idx at d a e h g p l n w =
    sym (kept_at shape idx a w.below (inside-length shape idx h) w.longer)
    ∙ at_same (kept shape idx) (kept counts at) (longer_before shape a) (longer_before counts d) (same_kept shape counts idx at e h g p) w.same
    ∙ kept_at counts at d l (inside-length counts at g) n

-- the axes have one size
pub along_size : (shape counts : List ℕ) (d a : ℕ) → without_ones shape ≡ without_ones counts → d < length counts → get_or counts d 0 ≢ 1 → IsAlong shape counts d a → get_or shape a 0 ≡ get_or counts d 0
along_size shape counts d a e l n w =
    sym (kept_at shape shape a w.below refl w.longer)
    ∙ at_same (kept shape shape) (kept counts counts) (longer_before shape a) (longer_before counts d) (kept_self shape ∙ e ∙ sym (kept_self counts)) w.same
    ∙ kept_at counts counts d l refl n

-- ---- the numbers that a run takes

down : (f p : ℕ) → p ≤ f → at_least_zero (pos f +ℤ neg_ℤ (pos p)) ≡ f - p
down f zero h = omega arith
down f (suc p) h = elim (ltb_tells f (suc p)) [
  | inl t ↦ absurd (let x = t.1 in omega arith)
  | inr t ↦ rw t.0 refl
]

not_below : (f p : ℕ) → pos 0 ≤ℤ (pos f +ℤ neg_ℤ (pos p)) → p ≤ f
not_below f p h = omega (arith, ints)

-- the first index, which a count of 0 leads to
first_taken : (f : ℕ) (step : ℤ) → at_least_zero (pos f +ℤ pos 0 *ℤ step) ≡ f
first_taken f (pos s) = omega arith
first_taken f (negsuc s) = let z : 0 * suc s ≡ 0 = omega arith in rw z (down f 0 (omega arith) ∙ omega arith)

natural_inside : (z : ℤ) (n : ℕ) → IsIndex z n → at_least_zero z < n
natural_inside (pos x) n h = let b = h.1 in omega (arith, ints)
natural_inside (negsuc x) n h = absurd (let b = h.0 in omega (arith, ints))

pub step_reads : (lo idx : List ℕ) (first a i n : ℕ) (step : ℤ) → get_or lo a 0 ≡ 0 → get_or idx a 0 ≡ i → IsIndex (pos first +ℤ pos i *ℤ step) n
    → read_by (step_way first step a) (count_along lo idx (step_way first step a)) ≡ at_least_zero (pos first +ℤ pos i *ℤ step)
step_reads lo idx first a i n (pos zero) z e h = let m : i * 0 ≡ 0 = omega arith in omega arith
step_reads lo idx first a i n (pos (suc s)) z e h =
    let m : get_or idx a 0 - get_or lo a 0 ≡ i = omega arith in
    ap (λ (t : ℕ). first + t * suc s) m
step_reads lo idx first a i n (negsuc s) z e h =
    let m : get_or idx a 0 - get_or lo a 0 ≡ i = omega arith in
    ap (λ (t : ℕ). first - t * suc s) m ∙ sym (down first (i * suc s) (not_below first (i * suc s) h.0))

pub step_over : (lo hi : List ℕ) (first a count n : ℕ) (step : ℤ) → a < length lo → get_or hi a 0 ≤ count → 0 < count → n ≤ 2 ^ 56 → ((t : ℕ) → t < count → IsIndex (pos first +ℤ pos t *ℤ step) n) → IsWayOver lo hi (step_way first step a)
step_over lo hi first a count n (pos zero) l m p s h = tt
step_over lo hi first a count n (pos (suc x)) l m p s h = (l, omega arith)
step_over lo hi first a count n (negsuc x) l m p s h =
    let f = h 0 p in
    (l, (omega arith, small_first first x n s f, λ t b. not_below first (t * suc x) (let i = h t (omega arith) in i.0)))
  where
    small_first : (first x n : ℕ) → n ≤ 2 ^ 56 → IsIndex (pos first +ℤ pos 0 *ℤ negsuc x) n → first < 2 ^ 63
    small_first first x n s f =
        let e : at_least_zero (pos first +ℤ pos 0 *ℤ negsuc x) ≡ first = first_taken first (negsuc x) in
        let b : at_least_zero (pos first +ℤ pos 0 *ℤ negsuc x) < n = natural_inside (pos first +ℤ pos 0 *ℤ negsuc x) n f in
        omega arith

-- ---- an axis of a slice

-- what is known of the way of an axis
abbrev pub IsRunWay : List Run → List ℕ → ℕ → Way → Type 0
IsRunWay runs shape d way = ((get_or runs d no_run).count ≡ 1 → way ≡ Fixed (get_or runs d no_run).first)
    × ((get_or runs d no_run).count ≢ 1 → (a : ℕ) × IsAlong shape (counts_of_runs runs) d a × (way ≡ run_way (get_or runs d no_run) a))

pub sliced_reads : (runs : List Run) (taken shape source lo idx : List ℕ) (way : Way) (d : ℕ) → FitsSlice runs taken shape source → IsRunWay runs shape d way → d < length runs → ((a : ℕ) → a < length shape → get_or lo a 0 ≡ 0) → IsInside shape idx
    → read_by way (count_along lo idx way) ≡ get_or (sliced runs shape idx) d 0
sliced_reads runs taken shape source lo idx way d f w l z h =
    elim (eqb_tells (get_or runs d no_run).count 1) [
      | inl p ↦
          let x = p.1 in
          let b = count in
          let i : get_or at d 0 ≡ 0 = omega arith in
          let t : taken_on no_run runs at d ≡ (get_or runs d no_run).first = ap (λ (k : ℕ). at_least_zero (index_taken (get_or runs d no_run) k)) i ∙ first_taken _ (get_or runs d no_run).step in
          rw (w.0 p.1) (sym (value ∙ t))
      | inr p ↦
          let q = w.1 p.1 in
          let b = count in
          let c = count_is runs d l in
          let m = length-map runs (λ (run : Run). run.count) in
          let i : get_or idx q.0 0 ≡ get_or at d 0 = along_at shape (counts_of_runs runs) idx at d q.0 f.sizes h inside place (omega arith) (λ y. p.1 (sym c ∙ y)) q.1 in
          let some : way ≡ step_way (get_or runs d no_run).first (get_or runs d no_run).step q.0 = q.2 ∙ not_none (get_or runs d no_run) q.0 (omega arith) in
          rw some (step_reads lo idx (get_or runs d no_run).first q.0 (get_or at d 0) (get_or source d 0) (get_or runs d no_run).step (z q.0 q.1.below) i (run_at runs source d (get_or at d 0) no_run f.inside l count) ∙ sym value)
    ]
  where
    at : List ℕ
    at = index_at (counts_of_runs runs) (place_of shape idx)

    products : product shape ≡ product (counts_of_runs runs)
    products = sym (product-without_ones shape) ∙ ap product f.sizes ∙ product-without_ones (counts_of_runs runs)

    below : place_of shape idx < product (counts_of_runs runs)
    below = let b : place_of shape idx < product shape = place-below shape idx h in let e = products in omega arith

    inside : IsInside (counts_of_runs runs) at
    inside = index-inside (counts_of_runs runs) (place_of shape idx) below

    place : place_of shape idx ≡ place_of (counts_of_runs runs) at
    place = sym (place-index (counts_of_runs runs) (place_of shape idx) below)

    count : get_or at d 0 < (get_or runs d no_run).count
    count = count_at runs at d no_run inside l

    value : get_or (sliced runs shape idx) d 0 ≡ taken_on no_run runs at d
    value = get_or-taken_by runs at d no_run l (let n = length-counts runs at inside in omega arith)

    not_none : (run : Run) (a : ℕ) → 0 < run.count → run_way run a ≡ step_way run.first run.step a
    not_none run a b = elim (eqb_tells run.count 0) [
      | inl p ↦ absurd (let e = p.1 in omega arith)
      | inr p ↦ rw p.0 refl
    ]

pub sliced_over : (runs : List Run) (taken shape source lo hi : List ℕ) (way : Way) (d : ℕ) → FitsSlice runs taken shape source → IsRunWay runs shape d way → d < length runs → length lo ≡ length shape → ((a : ℕ) → a < length shape → get_or hi a 0 ≤ get_or shape a 0) → get_or source d 0 ≤ 2 ^ 56
    → IsWayOver lo hi way
sliced_over runs taken shape source lo hi way d f w l n m s =
    elim (eqb_tells (get_or runs d no_run).count 1) [
      | inl p ↦ rw (w.0 p.1) tt
      | inr p ↦
          let q = w.1 p.1 in
          let c = count_is runs d l in
          let k = length-map runs (λ (run : Run). run.count) in
          let e : get_or shape q.0 0 ≡ get_or (counts_of_runs runs) d 0 = along_size shape (counts_of_runs runs) d q.0 f.sizes (omega arith) (λ y. p.1 (sym c ∙ y)) q.1 in
          let b = q.1.below in
          let t = m q.0 q.1.below in
          rw q.2 (over (get_or runs d no_run) q.0 (omega arith) (omega arith) (λ i y. run_at runs source d i no_run f.inside l y))
    ]
  where
    over : (run : Run) (a : ℕ) → a < length lo → get_or hi a 0 ≤ run.count → ((t : ℕ) → t < run.count → IsIndex (index_taken run t) (get_or source d 0)) → IsWayOver lo hi (run_way run a)
    over run a b t i = elim (eqb_tells run.count 0) [
      | inl p ↦ rw p.0 (b, omega arith)
      | inr p ↦ rw p.0 (step_over lo hi run.first a run.count (get_or source d 0) run.step b t (let e = p.1 in omega arith) s i)
    ]

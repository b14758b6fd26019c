-- Boxes of indices that stand at places one after another.
use Rattle.std.proofs.Common.{◌≡◌, ◌↔◌, ℕ, zero, suc, ◌+◌, ◌-◌, ◌*◌, ◌/◌, ◌%◌, ◌<◌, ◌≤◌, List, [], ◌∷◌, length, get_or, drop, refl, sym, ap, ◌∙◌, arith, inl, inr}
use Rattle.std.proofs.Math.Nat.{mul-le-mul_right, div-mul-le_self}
use Rattle.std.proofs.lemmas.Bool.{cases_lt}
use Rattle.std.proofs.lemmas.List.{ext_get_or, drop_more}
use Rattle.std.proofs.lemmas.Nat.{mod_below, div-add-mod'}
use Rattle.cu_shape.specs.Index.{product, place_of, differences, IsInside}
use Rattle.cu_shape.proofs.Places.{place-below, inside-length}
use Rattle.cu_grid.specs.Counts.{IsWithin}
use Rattle.cu_grid.proofs.Regions.{inside-at}

-- a box with one index on each axis before an axis, and each index of the array behind it
abbrev pub IsWholeBox : List ℕ → List ℕ → List ℕ → Type 0
IsWholeBox (d ∷ ds) (l ∷ lo) (h ∷ hi) = (l ≡ 0) × (h ≡ d) × IsWholeBox ds lo hi
IsWholeBox [] [] [] = Unit {0}
IsWholeBox [] [] (h ∷ hi) = ⊥
IsWholeBox [] (l ∷ lo) hi = ⊥
IsWholeBox (d ∷ ds) [] hi = ⊥
IsWholeBox (d ∷ ds) (l ∷ lo) [] = ⊥

abbrev pub IsRunBox : List ℕ → List ℕ → List ℕ → ℕ → Type 0
IsRunBox (d ∷ ds) (l ∷ lo) (h ∷ hi) zero = (l < h) × (h ≤ d) × IsWholeBox ds lo hi
IsRunBox (d ∷ ds) (l ∷ lo) (h ∷ hi) (suc a) = (h ≡ l + 1) × (h ≤ d) × IsRunBox ds lo hi a
IsRunBox [] [] [] a = Unit {0}
IsRunBox [] [] (h ∷ hi) a = ⊥
IsRunBox [] (l ∷ lo) hi a = ⊥
IsRunBox (d ∷ ds) [] hi a = ⊥
IsRunBox (d ∷ ds) (l ∷ lo) [] a = ⊥

-- how many indices it has
abbrev pub run_size : List ℕ → List ℕ → List ℕ → ℕ → ℕ
run_size (d ∷ ds) (l ∷ lo) (h ∷ hi) zero = (h - l) * product ds
run_size (d ∷ ds) (l ∷ lo) (h ∷ hi) (suc a) = run_size ds lo hi a
run_size [] lo hi a = 1
run_size (d ∷ ds) [] hi a = 1
run_size (d ∷ ds) (l ∷ lo) [] a = 1

-- ---- by its axes
whole_from : (ds lo hi : List ℕ) → length lo ≡ length ds → length hi ≡ length ds → ((k : ℕ) → k < length ds → (get_or lo k 0 ≡ 0) × (get_or hi k 0 ≡ get_or ds k 0)) → IsWholeBox ds lo hi
whole_from [] [] [] p q h = tt
whole_from [] [] (y ∷ hi) p q h = absurd (omega arith)
whole_from [] (x ∷ lo) hi p q h = absurd (omega arith)
whole_from (d ∷ ds) [] hi p q h = absurd (omega arith)
whole_from (d ∷ ds) (x ∷ lo) [] p q h = absurd (omega arith)
whole_from (d ∷ ds) (x ∷ lo) (y ∷ hi) p q h =
    let z = h 0 (omega arith) in
    (z.0, z.1, whole_from ds lo hi (omega arith) (omega arith) (λ k b. h (suc k) (omega arith)))

pub run_box_from : (ds lo hi : List ℕ) (a : ℕ) → length lo ≡ length ds → length hi ≡ length ds
    → ((k : ℕ) → k < length ds → (get_or lo k 0 < get_or hi k 0) × (get_or hi k 0 ≤ get_or ds k 0))
    → ((k : ℕ) → k < a → get_or hi k 0 ≡ get_or lo k 0 + 1)
    → ((k : ℕ) → a < k → k < length ds → (get_or lo k 0 ≡ 0) × (get_or hi k 0 ≡ get_or ds k 0)) → IsRunBox ds lo hi a
run_box_from [] [] [] a p q h s w = tt
run_box_from [] [] (y ∷ hi) a p q h s w = absurd (omega arith)
run_box_from [] (x ∷ lo) hi a p q h s w = absurd (omega arith)
run_box_from (d ∷ ds) [] hi a p q h s w = absurd (omega arith)
run_box_from (d ∷ ds) (x ∷ lo) [] a p q h s w = absurd (omega arith)
run_box_from (d ∷ ds) (x ∷ lo) (y ∷ hi) zero p q h s w =
    let z = h 0 (omega arith) in
    (z.0, z.1, whole_from ds lo hi (omega arith) (omega arith) (λ k b. w (suc k) (omega arith) (omega arith)))
run_box_from (d ∷ ds) (x ∷ lo) (y ∷ hi) (suc a) p q h s w =
    let z = h 0 (omega arith) in (
      s 0 (omega arith),
      z.1,
      run_box_from ds lo hi a (omega arith) (omega arith) (λ k b. h (suc k) (omega arith)) (λ k b. s (suc k) (omega arith)) (λ k b c. w (suc k) (omega arith) (omega arith)),
    )

pub size_of_run : (ds lo hi : List ℕ) (a : ℕ) → a < length ds → length lo ≡ length ds → length hi ≡ length ds
    → run_size ds lo hi a ≡ (get_or hi a 0 - get_or lo a 0) * product (drop (a + 1) ds)
size_of_run [] lo hi a b p q = absurd (omega arith)
size_of_run (d ∷ ds) [] hi a b p q = absurd (omega arith)
size_of_run (d ∷ ds) (x ∷ lo) [] a b p q = absurd (omega arith)
size_of_run (d ∷ ds) (x ∷ lo) (y ∷ hi) zero b p q = refl
size_of_run (d ∷ ds) (x ∷ lo) (y ∷ hi) (suc a) b p q =
    let next : suc a + 1 ≡ suc (a + 1) = omega arith in
    rw next (size_of_run ds lo hi a (omega arith) (omega arith) (omega arith))

-- ---- its places
whole_place : (ds lo hi : List ℕ) → IsWholeBox ds lo hi → place_of ds lo ≡ 0
whole_place [] [] [] w = refl
whole_place [] [] (y ∷ hi) w = absurd w
whole_place [] (x ∷ lo) hi w = absurd w
whole_place (d ∷ ds) [] hi w = absurd w
whole_place (d ∷ ds) (x ∷ lo) [] w = absurd w
whole_place (d ∷ ds) (x ∷ lo) (y ∷ hi) w =
    let rest = whole_place ds lo hi w.2 in
    let z = w.0 in
    rw z (omega (arith, rest))

whole_inside : (ds lo hi is : List ℕ) → IsWholeBox ds lo hi → IsWithin lo hi is → IsInside ds is
whole_inside [] [] [] [] w h = tt
whole_inside [] [] [] (i ∷ is) w h = absurd h
whole_inside [] [] (y ∷ hi) is w h = absurd w
whole_inside [] (x ∷ lo) hi is w h = absurd w
whole_inside (d ∷ ds) [] hi is w h = absurd w
whole_inside (d ∷ ds) (x ∷ lo) [] is w h = absurd w
whole_inside (d ∷ ds) (x ∷ lo) (y ∷ hi) [] w h = absurd h
whole_inside (d ∷ ds) (x ∷ lo) (y ∷ hi) (i ∷ is) w h = let e = w.1 in let b = h.1 in (omega arith, whole_inside ds lo hi is w.2 h.2)

whole_within : (ds lo hi is : List ℕ) → IsWholeBox ds lo hi → IsInside ds is → IsWithin lo hi is
whole_within [] [] [] [] w h = tt
whole_within [] [] [] (i ∷ is) w h = absurd h
whole_within [] [] (y ∷ hi) is w h = absurd w
whole_within [] (x ∷ lo) hi is w h = absurd w
whole_within (d ∷ ds) [] hi is w h = absurd w
whole_within (d ∷ ds) (x ∷ lo) [] is w h = absurd w
whole_within (d ∷ ds) (x ∷ lo) (y ∷ hi) [] w h = absurd h
whole_within (d ∷ ds) (x ∷ lo) (y ∷ hi) (i ∷ is) w h = let z = w.0 in let e = w.1 in let b = h.0 in (omega arith, omega arith, whole_within ds lo hi is w.2 h.1)

-- an outer number that is greater has a greater place
outer_below : (i j r m : ℕ) → i * m + r < j * m → i < j
outer_below i j r m h =
    elim (cases_lt i j) [
      | inl less ↦ less
      | inr more ↦ let p : j * m ≤ i * m = mul-le-mul_right m more in absurd (omega arith)
    ]

-- the box ends with the array or before
pub run_within : (ds lo hi : List ℕ) (a : ℕ) → IsRunBox ds lo hi a → place_of ds lo + run_size ds lo hi a ≤ product ds
run_within [] [] [] a w = omega arith
run_within [] [] (y ∷ hi) a w = absurd w
run_within [] (x ∷ lo) hi a w = absurd w
run_within (d ∷ ds) [] hi a w = absurd w
run_within (d ∷ ds) (x ∷ lo) [] a w = absurd w
run_within (d ∷ ds) (x ∷ lo) (y ∷ hi) zero w =
    let z = whole_place ds lo hi w.2 in
    let p = w.0 in
    let whole : x + (y - x) ≡ y = omega arith in
    let e : (x + (y - x)) * product ds ≡ y * product ds = ap (λ n. n * product ds) whole in
    let b : y * product ds ≤ d * product ds = mul-le-mul_right (product ds) w.1 in
    omega (arith, z, e, b)
run_within (d ∷ ds) (x ∷ lo) (y ∷ hi) (suc a) w =
    let rest = run_within ds lo hi a w.2 in
    let p = w.0 in
    let q = w.1 in
    let next : x + 1 ≤ d = omega arith in
    let b : (x + 1) * product ds ≤ d * product ds = mul-le-mul_right (product ds) next in
    omega (arith, rest, b)

pub record IsAtRun (ds lo hi : List ℕ) (a : ℕ) (is : List ℕ) : Type 0 where
  pub inside : IsInside ds is
  pub low : place_of ds lo ≤ place_of ds is
  pub high : place_of ds is < place_of ds lo + run_size ds lo hi a

pub at_run : (ds lo hi : List ℕ) (a : ℕ) → IsRunBox ds lo hi a → (is : List ℕ) → IsWithin lo hi is → IsAtRun ds lo hi a is
at_run [] [] [] a w [] h = record { inside = tt; low = omega arith; high = omega arith }
at_run [] [] [] a w (i ∷ is) h = absurd h
at_run [] [] (y ∷ hi) a w is h = absurd w
at_run [] (x ∷ lo) hi a w is h = absurd w
at_run (d ∷ ds) [] hi a w is h = absurd w
at_run (d ∷ ds) (x ∷ lo) [] a w is h = absurd w
at_run (d ∷ ds) (x ∷ lo) (y ∷ hi) a w [] h = absurd h
at_run (d ∷ ds) (x ∷ lo) (y ∷ hi) zero w (i ∷ is) h =
    let z = whole_place ds lo hi w.2 in
    let e = w.1 in
    let p = h.0 in
    let q = h.1 in
    let own = whole_inside ds lo hi is w.2 h.2 in
    let b = place-below ds is own in
    let below : x * product ds ≤ i * product ds = mul-le-mul_right (product ds) p in
    let next : i + 1 ≤ y = omega arith in
    let above : (i + 1) * product ds ≤ y * product ds = mul-le-mul_right (product ds) next in
    let whole : x + (y - x) ≡ y = omega arith in
    let all : (x + (y - x)) * product ds ≡ y * product ds = ap (λ n. n * product ds) whole in
    record { inside = (omega arith, own); low = omega (arith, z, below); high = omega (arith, z, b, above, all) }
at_run (d ∷ ds) (x ∷ lo) (y ∷ hi) (suc a) w (i ∷ is) h =
    let rest = at_run ds lo hi a w.2 is h.2 in
    let p = w.0 in
    let e = w.1 in
    let q = h.0 in
    let r = h.1 in
    let same : i ≡ x = omega arith in
    let l = rest.low in
    let g = rest.high in
    rw same (record { inside = (omega arith, rest.inside); low = omega (arith, l); high = omega (arith, g) })

pub of_run : (ds lo hi : List ℕ) (a : ℕ) → IsRunBox ds lo hi a → (is : List ℕ) → IsAtRun ds lo hi a is → IsWithin lo hi is
of_run [] [] [] a w [] h = tt
of_run [] [] [] a w (i ∷ is) h = absurd h.inside
of_run [] [] (y ∷ hi) a w is h = absurd w
of_run [] (x ∷ lo) hi a w is h = absurd w
of_run (d ∷ ds) [] hi a w is h = absurd w
of_run (d ∷ ds) (x ∷ lo) [] a w is h = absurd w
of_run (d ∷ ds) (x ∷ lo) (y ∷ hi) a w [] h = absurd h.inside
of_run (d ∷ ds) (x ∷ lo) (y ∷ hi) zero w (i ∷ is) h =
    let z = whole_place ds lo hi w.2 in
    let p = w.0 in
    let own = h.inside in
    let b = place-below ds is own.1 in
    let l = h.low in
    let g = h.high in
    let whole : x + (y - x) ≡ y = omega arith in
    let all : (x + (y - x)) * product ds ≡ y * product ds = ap (λ n. n * product ds) whole in
    let under : x * product ds + 0 < (i + 1) * product ds = omega (arith, z, b, l) in
    let over : i * product ds + place_of ds is < y * product ds = omega (arith, z, g, all) in
    let low = outer_below x (i + 1) 0 (product ds) under in
    let high = outer_below i y (place_of ds is) (product ds) over in
    (omega arith, high, whole_within ds lo hi is w.2 own.1)
of_run (d ∷ ds) (x ∷ lo) (y ∷ hi) (suc a) w (i ∷ is) h =
    let own = h.inside in
    let p = w.0 in
    let b = place-below ds is own.1 in
    let l = h.low in
    let g = h.high in
    let end = run_within ds lo hi a w.2 in
    let under : x * product ds + place_of ds lo < (i + 1) * product ds = omega (arith, b, l) in
    let over : i * product ds + place_of ds is < (x + 1) * product ds = omega (arith, g, end) in
    let low = outer_below x (i + 1) (place_of ds lo) (product ds) under in
    let high = outer_below i (x + 1) (place_of ds is) (product ds) over in
    let same : i ≡ x = omega arith in
    let e : i * product ds ≡ x * product ds = ap (λ n. n * product ds) same in
    (omega arith, omega arith, of_run ds lo hi a w.2 is (record { inside = own.1; low = omega (arith, l, e); high = omega (arith, g, e) }))

-- ---- its places in a buffer of the array's sizes behind the axis
abbrev pub AgreeBehind : List ℕ → List ℕ → ℕ → Type 0
AgreeBehind (d ∷ ds) (e ∷ es) zero = es ≡ ds
AgreeBehind (d ∷ ds) (e ∷ es) (suc a) = AgreeBehind ds es a
AgreeBehind [] es a = Unit {0}
AgreeBehind (d ∷ ds) [] a = ⊥

pub agree_from : (ds es : List ℕ) (a : ℕ) → length es ≡ length ds → ((k : ℕ) → a < k → k < length ds → get_or es k 0 ≡ get_or ds k 0) → AgreeBehind ds es a
agree_from [] es a p h = tt
agree_from (d ∷ ds) [] a p h = absurd (omega arith)
agree_from (d ∷ ds) (e ∷ es) zero p h = ext_get_or 0 es ds (omega arith) (λ k b. h (suc k) (omega arith) (omega arith))
agree_from (d ∷ ds) (e ∷ es) (suc a) p h = agree_from ds es a (omega arith) (λ k b c. h (suc k) (omega arith) (omega arith))

-- behind the axis the first index of a block is 0, and an index is counted from it
from_none : (ds lo hi rlo rhi is : List ℕ) → IsWholeBox ds lo hi → IsWithin rlo rhi lo → length is ≡ length ds → differences is rlo ≡ is
from_none [] [] [] [] [] [] w r e = refl
from_none [] [] [] [] [] (i ∷ is) w r e = absurd (omega arith)
from_none [] [] [] [] (y ∷ rhi) is w r e = absurd r
from_none [] [] [] (x ∷ rlo) [] is w r e = absurd r
from_none [] [] [] (x ∷ rlo) (y ∷ rhi) is w r e = absurd r
from_none [] [] (h ∷ hi) rlo rhi is w r e = absurd w
from_none [] (l ∷ lo) hi rlo rhi is w r e = absurd w
from_none (d ∷ ds) [] hi rlo rhi is w r e = absurd w
from_none (d ∷ ds) (l ∷ lo) [] rlo rhi is w r e = absurd w
from_none (d ∷ ds) (l ∷ lo) (h ∷ hi) [] [] is w r e = absurd r
from_none (d ∷ ds) (l ∷ lo) (h ∷ hi) [] (y ∷ rhi) is w r e = absurd r
from_none (d ∷ ds) (l ∷ lo) (h ∷ hi) (x ∷ rlo) [] is w r e = absurd r
from_none (d ∷ ds) (l ∷ lo) (h ∷ hi) (x ∷ rlo) (y ∷ rhi) [] w r e = absurd (omega arith)
from_none (d ∷ ds) (l ∷ lo) (h ∷ hi) (x ∷ rlo) (y ∷ rhi) (i ∷ is) w r e =
    let z = w.0 in
    let b = r.0 in
    let none : i - x ≡ i = omega arith in
    ap (λ n. n ∷ differences is rlo) none ∙ ap (λ ns. i ∷ ns) (from_none ds lo hi rlo rhi is w.2 r.2 (omega arith))

whole_first : (ds lo hi is : List ℕ) → IsWholeBox ds lo hi → IsWithin lo hi is → IsWithin lo hi lo
whole_first [] [] [] is w h = tt
whole_first [] [] (y ∷ hi) is w h = absurd w
whole_first [] (x ∷ lo) hi is w h = absurd w
whole_first (d ∷ ds) [] hi is w h = absurd w
whole_first (d ∷ ds) (x ∷ lo) [] is w h = absurd w
whole_first (d ∷ ds) (x ∷ lo) (y ∷ hi) [] w h = absurd h
whole_first (d ∷ ds) (x ∷ lo) (y ∷ hi) (i ∷ is) w h = let p = h.0 in let q = h.1 in (omega arith, omega arith, whole_first ds lo hi is w.2 h.2)

-- in the buffer the indices of the box are as far from the first as in the array
pub as_far : (ds dims rlo rhi lo hi : List ℕ) (a : ℕ) → IsRunBox ds lo hi a → AgreeBehind ds dims a → IsWithin rlo rhi lo → (is : List ℕ) → IsWithin lo hi is
    → place_of dims (differences is rlo) + place_of ds lo ≡ place_of dims (differences lo rlo) + place_of ds is
as_far [] dims [] [] [] [] a w g r [] h = refl
as_far [] dims rlo rhi [] [] a w g r (i ∷ is) h = absurd h
as_far [] dims [] (y ∷ rhi) [] [] a w g r is h = absurd r
as_far [] dims (x ∷ rlo) [] [] [] a w g r is h = absurd r
as_far [] dims (x ∷ rlo) (y ∷ rhi) [] [] a w g r is h = absurd r
as_far [] dims rlo rhi [] (y ∷ hi) a w g r is h = absurd w
as_far [] dims rlo rhi (x ∷ lo) hi a w g r is h = absurd w
as_far (d ∷ ds) dims rlo rhi [] hi a w g r is h = absurd w
as_far (d ∷ ds) dims rlo rhi (l ∷ lo) [] a w g r is h = absurd w
as_far (d ∷ ds) [] rlo rhi (l ∷ lo) (u ∷ hi) a w g r is h = absurd g
as_far (d ∷ ds) (e ∷ es) [] [] (l ∷ lo) (u ∷ hi) a w g r is h = absurd r
as_far (d ∷ ds) (e ∷ es) [] (y ∷ rhi) (l ∷ lo) (u ∷ hi) a w g r is h = absurd r
as_far (d ∷ ds) (e ∷ es) (x ∷ rlo) [] (l ∷ lo) (u ∷ hi) a w g r is h = absurd r
as_far (d ∷ ds) (e ∷ es) (x ∷ rlo) (y ∷ rhi) (l ∷ lo) (u ∷ hi) a w g r [] h = absurd h
as_far (d ∷ ds) (e ∷ es) (x ∷ rlo) (y ∷ rhi) (l ∷ lo) (u ∷ hi) zero w g r (i ∷ is) h =
    let z = whole_place ds lo hi w.2 in
    let own = inside-length ds is (whole_inside ds lo hi is w.2 h.2) in
    let first = inside-length ds lo (whole_inside ds lo hi lo w.2 (whole_first ds lo hi is w.2 h.2)) in
    let si : differences is rlo ≡ is = from_none ds lo hi rlo rhi is w.2 r.2 own in
    let sl : differences lo rlo ≡ lo = from_none ds lo hi rlo rhi lo w.2 r.2 first in
    let b = r.0 in
    let c = h.0 in
    let moved : (i - x) + l ≡ (l - x) + i = omega arith in
    let far : ((i - x) + l) * product ds ≡ ((l - x) + i) * product ds = ap (λ n. n * product ds) moved in
    rw (g, si, sl) (omega (arith, z, far))
as_far (d ∷ ds) (e ∷ es) (x ∷ rlo) (y ∷ rhi) (l ∷ lo) (u ∷ hi) (suc a) w g r (i ∷ is) h =
    let rest = as_far ds es rlo rhi lo hi a w.2 g r.2 is h.2 in
    let p = w.0 in
    let b = h.0 in
    let c = h.1 in
    let same : i ≡ l = omega arith in
    rw same (omega (arith, rest))

-- ---- the places of such a box are those from one place to below another
pub exactly_of : (ds lo hi : List ℕ) (a first end : ℕ) → IsRunBox ds lo hi a → first ≡ place_of ds lo → end ≡ place_of ds lo + run_size ds lo hi a → (idx : List ℕ)
    → IsWithin lo hi idx ↔ (IsInside ds idx × (first ≤ place_of ds idx) × (place_of ds idx < end))
exactly_of ds lo hi a first end box ef ee idx = (
  λ w. (let r = at_run ds lo hi a box idx w in let l = r.low in let h = r.high in (r.inside, omega (arith, l, ef), omega (arith, h, ee))),
  λ p. (let l = p.1 in let h = p.2 in of_run ds lo hi a box idx (record { inside = p.0; low = omega (arith, l, ef); high = omega (arith, h, ee) })),
)

one_at_none : (ds lo hi : List ℕ) (a : ℕ) → length ds ≡ 0 → run_size ds lo hi a ≡ 1
one_at_none [] lo hi a e = refl
one_at_none (d ∷ ds) lo hi a e = absurd (omega arith)

-- an array without axes has one index
pub exactly_at_none : (ds index : List ℕ) (first : ℕ) → length ds ≡ 0 → IsInside ds index → first ≡ place_of ds index → (idx : List ℕ)
    → IsWithin index index idx ↔ (IsInside ds idx × (first ≤ place_of ds idx) × (place_of ds idx < first + 1))
exactly_at_none ds index first none inside ef =
    let l = inside-length ds index inside in
    let box = run_box_from ds index index 0 l l (λ k b. absurd (omega arith)) (λ k b. absurd (omega arith)) (λ k b c. absurd (omega arith)) in
    let one = one_at_none ds index index 0 none in
    exactly_of ds index index 0 first (first + 1) box ef (omega (arith, one, ef))

-- the box from an index on that counts along an axis, behind which the index is 0
pub exactly_from : (ds index hi : List ℕ) (first axis behind count : ℕ) → IsInside ds index → axis < length ds → first ≡ place_of ds index → behind ≡ product (drop (axis + 1) ds)
    → ((k : ℕ) → axis < k → k < length ds → get_or index k 0 ≡ 0) → 0 < count → get_or index axis 0 + count ≤ get_or ds axis 0 → length hi ≡ length ds
    → ((k : ℕ) → k < axis → get_or hi k 0 ≡ get_or index k 0 + 1) → get_or hi axis 0 ≡ get_or index axis 0 + count
    → ((k : ℕ) → axis < k → k < length ds → get_or hi k 0 ≡ get_or ds k 0) → (idx : List ℕ)
    → IsWithin index hi idx ↔ (IsInside ds idx × (first ≤ place_of ds idx) × (place_of ds idx < first + count * behind))
exactly_from ds index hi first axis behind count inside below ef eb zeros some fits rank single own whole =
    let l = inside-length ds index inside in
    let box : IsRunBox ds index hi axis = run_box_from ds index hi axis l rank each single (λ k b c. (zeros k b c, whole k b c)) in
    let size = size_of_run ds index hi axis below l rank in
    let wide : get_or hi axis 0 - get_or index axis 0 ≡ count = omega (arith, own) in
    let all : run_size ds index hi axis ≡ count * behind = size ∙ (ap (λ n. n * product (drop (axis + 1) ds)) wide ∙ ap (λ n. count * n) (sym eb)) in
    exactly_of ds index hi axis first (first + count * behind) box ef (omega (arith, ef, all))
  where
    each : (k : ℕ) → k < length ds → (get_or index k 0 < get_or hi k 0) × (get_or hi k 0 ≤ get_or ds k 0)
    each k b =
        let i = inside-at ds index k inside b in
        elim (cases_lt k axis) [
          | inl less ↦ let s = single k less in (omega (arith, s), omega (arith, s, i))
          | inr more ↦ elim (cases_lt axis k) [
            | inl behind_it ↦ let z = zeros k behind_it b in let w = whole k behind_it b in (omega (arith, z, w, i), omega (arith, w))
            | inr not ↦
                let same : k ≡ axis = omega arith in
                rw same (omega (arith, own, some), omega (arith, own, fits))
          ]
        ]

-- ---- the numbers of a box from place to place
pub at_most : (count most behind : ℕ) → count ≤ most / behind → count * behind ≤ most
at_most count most behind h =
    let a : count * behind ≤ most / behind * behind = mul-le-mul_right behind h in
    let b : most / behind * behind ≤ most = div-mul-le_self most behind in
    omega (arith, a, b)

pub at_least_one_of : (most behind : ℕ) → 0 < behind → behind ≤ most → 0 < most / behind
at_least_one_of most behind some h =
    elim (cases_lt 0 (most / behind)) [
      | inl more ↦ more
      | inr none ↦
          let zero_is : most / behind ≡ 0 = omega arith in
          let e : most / behind * behind + most % behind ≡ most = div-add-mod' most behind in
          let e0 : 0 * behind + most % behind ≡ most = rw zero_is at e in
          let r : most % behind < behind = mod_below most behind some in
          absurd (omega (arith, e0, r))
    ]

-- one axis more behind
pub behind_more : (ds : List ℕ) (axis behind size : ℕ) → 0 < axis → axis ≤ length ds → behind ≡ product (drop axis ds) → size ≡ get_or ds (axis - 1) 0 → behind * size ≡ product (drop (axis - 1) ds)
behind_more ds axis behind size some b eb es =
    let back : axis ≡ axis - 1 + 1 = omega arith in
    let d : drop (axis - 1) ds ≡ get_or ds (axis - 1) 0 ∷ drop (axis - 1 + 1) ds = drop_more ds (axis - 1) 0 (omega arith) in
    let e : behind ≡ product (drop (axis - 1 + 1) ds) = eb ∙ ap (λ k. product (drop k ds)) back in
    ap (λ n. n * size) e ∙ (ap (λ n. product (drop (axis - 1 + 1) ds) * n) es ∙ ((let z : product (drop (axis - 1 + 1) ds) * get_or ds (axis - 1) 0 ≡ get_or ds (axis - 1) 0 * product (drop (axis - 1 + 1) ds) = omega arith in z) ∙ sym (ap product d)))

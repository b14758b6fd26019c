-- A region that is stretched over a result, and the pace at which its places are read.
use Rattle.std.proofs.Common.{◌≡◌, ◌==◌, ℕ, zero, suc, ◌+◌, ◌-◌, ◌*◌, ◌/◌, ◌%◌, ◌<◌, ◌≤◌, if◌then◌else◌, List, [], ◌∷◌, length, take, drop, get_or, refl, ap, sym, ◌∙◌, subst, arith, ⊎_elim, inl, inr}
use Rattle.std.proofs.Math.Nat.{mod-eq_of_lt, mod-le, mod-add-mod, mul_assoc, mul-le-mul_right}
use Rattle.std.proofs.Math.Arith.{mod-mul}
use Rattle.std.proofs.lemmas.Nat.{div-mul-add, mod-mul-add, mul-add-lt, mod_below, div-add-mod'}
use Rattle.std.proofs.lemmas.List.{drop-drop, length-drop, drop_more}
use Rattle.std.proofs.lemmas.Bool.{cases_lt}
use Rattle.std.proofs.lemmas.Bool.Decides.{eqb_tells}
use Rattle.cu_shape.specs.Index.{product, place_of, index_at, back_along, IsInside}
use Rattle.cu_shape.proofs.Places.{place-index, index-inside, length-index_at}
use Rattle.cu_kern.specs.Lays.{place_read, IsRun, IsPeriod}

-- ---- products of sizes

pub product-split : (k : ℕ) (ms : List ℕ) → k ≤ length ms → product ms ≡ product (take k ms) * product (drop k ms)
product-split zero ms h = omega arith
product-split (suc k) [] h = absurd (omega arith)
product-split (suc k) (m ∷ ms) h = ap (λ n. m * n) (product-split k ms (omega arith)) ∙ sym (mul_assoc m (product (take k ms)) (product (drop k ms)))

left_positive : (a b n : ℕ) → n ≡ a * b → 0 < n → 0 < a
left_positive zero b n e h = absurd (omega (arith, e))
left_positive (suc a) b n e h = omega arith

right_positive : (a b n : ℕ) → n ≡ a * b → 0 < n → 0 < b
right_positive a zero n e h = absurd (omega (arith, e))
right_positive a (suc b) n e h = omega arith

pub drop_positive : (k : ℕ) (ms : List ℕ) → k ≤ length ms → 0 < product ms → (0 < product (take k ms)) × (0 < product (drop k ms))
drop_positive k ms h pos = let e = product-split k ms h in (left_positive (product (take k ms)) (product (drop k ms)) (product ms) e pos, right_positive (product (take k ms)) (product (drop k ms)) (product ms) e pos)

pub product-drop-le : (k : ℕ) (ms : List ℕ) → k ≤ length ms → 0 < product ms → product (drop k ms) ≤ product ms
product-drop-le k ms h pos =
    let e = product-split k ms h in
    let some = (drop_positive k ms h pos).0 in
    let more : 1 * product (drop k ms) ≤ product (take k ms) * product (drop k ms) = mul-le-mul_right (product (drop k ms)) some in
    omega arith

-- ---- a run of places within a row

pub same_row : (p i P R c : ℕ) → P ≡ c * R → 0 < R → 0 < c → p % R + i < R → ((p + i) / P ≡ p / P) × ((p + i) % P ≡ p % P + i) × (p % P % R ≡ p % R)
same_row p i P R c e hr hc h =
    let digits : p % (c * R) ≡ (p / R % c) * R + p % R = mod-mul p hc hr in
    let low : p / R % c < c = mod_below (p / R) c hc in
    let small : p % R < R = mod_below p R hr in
    let is : p % P ≡ (p / R % c) * R + p % R = ap (λ m. p % m) e ∙ digits in
    let whole : p / P * P + p % P ≡ p = div-add-mod' p P in
    let bound : (p / R % c) * R + (p % R + i) < R * c = mul-add-lt (p / R % c) R (p % R + i) c low h in
    let within : p % P + i < P = omega arith in
    let sum : p + i ≡ p / P * P + (p % P + i) = omega arith in
    (ap (λ n. n / P) sum ∙ div-mul-add (p / P) P (p % P + i) within, ap (λ n. n % P) sum ∙ mod-mul-add (p / P) P (p % P + i) within, ap (λ n. n % R) is ∙ mod-mul-add (p / R % c) R (p % R) small)

-- ---- the place that is read, where both have as many axes

abbrev pub place_along : List ℕ → List ℕ → ℕ → ℕ
place_along shape result p = place_of shape (back_along shape (index_at result p))

-- an index that lies inside is read as it is
back_same : (ms is : List ℕ) → IsInside ms is → back_along ms is ≡ is
back_same [] [] h = refl
back_same [] (i ∷ is) h = absurd h
back_same (m ∷ ms) [] h = absurd h
back_same (m ∷ ms) (i ∷ is) (low, rest) =
    let first : (if m == 1 then 0 else i) ≡ i = elim (eqb_tells m 1) [
      | inl q ↦ let e = q.1 in let none : 0 ≡ i = omega arith in rw q.0 none
      | inr q ↦ rw q.0 refl
    ] in
    (λ j. first j ∷ back_same ms is rest j)

own_place : (ms : List ℕ) (p : ℕ) → p < product ms → place_along ms ms p ≡ p
own_place ms p h = ap (place_of ms) (back_same ms (index_at ms p) (index-inside ms p h)) ∙ place-index ms p h

pub moving : (k : ℕ) (l ms : List ℕ) (p i : ℕ) → length l ≡ length ms → k ≤ length ms → drop k l ≡ drop k ms → 0 < product ms → p + i < product ms
    → p % product (drop k ms) + i < product (drop k ms) → place_along l ms (p + i) ≡ place_along l ms p + i
moving zero l ms p i e h same pos b r =
    let P : List ℕ → Type 0 = λ s. place_along s ms (p + i) ≡ place_along s ms p + i in
    subst P (sym same) (own_place ms (p + i) b ∙ ap (λ q. q + i) (sym (own_place ms p (omega arith))))
moving (suc k) [] ms p i e h same pos b r = absurd (omega arith)
moving (suc k) (n ∷ ns) [] p i e h same pos b r = absurd (omega arith)
moving (suc k) (n ∷ ns) (m ∷ ms) p i e h same pos b r =
    let rest : 0 < product ms = right_positive m (product ms) (product (m ∷ ms)) refl pos in
    let some = drop_positive k ms (omega arith) rest in
    let row = same_row p i (product ms) (product (drop k ms)) (product (take k ms)) (product-split k ms (omega arith)) some.1 some.0 r in
    let low = mod_below (p + i) (product ms) rest in
    let again = moving k ns ms (p % product ms) i (omega arith) (omega arith) same rest (omega (arith, row.1)) (omega (arith, row.2)) in
    let first : place_along (n ∷ ns) (m ∷ ms) (p + i) ≡ (if n == 1 then 0 else p / product ms) * product ns + place_along ns ms (p % product ms + i) =
    (λ j. (if n == 1 then 0 else row.0 j) * product ns + place_along ns ms (row.1 j)) in
    first ∙ omega (arith, again)

-- a region of one element
resting_place : (l is : List ℕ) → ((j : ℕ) → j < length l → get_or l j 0 ≡ 1) → place_of l (back_along l is) ≡ 0
resting_place [] is h = refl
resting_place (n ∷ ns) [] h = refl
resting_place (n ∷ ns) (i ∷ is) h =
    let one : n ≡ 1 = h 0 (omega arith) in
    let first : (if n == 1 then 0 else i) ≡ 0 = ap (λ n. if n == 1 then 0 else i) one in
    let again = resting_place ns is (λ j b. h (suc j) (omega arith)) in
    omega (arith, ap (λ d. d * product ns) first, again)

pub resting : (k : ℕ) (l ms : List ℕ) (p i : ℕ) → length l ≡ length ms → k ≤ length ms → ((j : ℕ) → k ≤ j → j < length l → get_or l j 0 ≡ 1) → 0 < product ms
    → p % product (drop k ms) + i < product (drop k ms) → place_along l ms (p + i) ≡ place_along l ms p
resting zero l ms p i e h ones pos r =
    resting_place l (index_at ms (p + i)) (λ j b. ones j (omega arith) b) ∙ sym (resting_place l (index_at ms p) (λ j b. ones j (omega arith) b))
resting (suc k) [] ms p i e h ones pos r = absurd (omega arith)
resting (suc k) (n ∷ ns) [] p i e h ones pos r = absurd (omega arith)
resting (suc k) (n ∷ ns) (m ∷ ms) p i e h ones pos r =
    let rest : 0 < product ms = right_positive m (product ms) (product (m ∷ ms)) refl pos in
    let some = drop_positive k ms (omega arith) rest in
    let row = same_row p i (product ms) (product (drop k ms)) (product (take k ms)) (product-split k ms (omega arith)) some.1 some.0 r in
    let again = resting k ns ms (p % product ms) i (omega arith) (omega arith) (λ j c b. ones (suc j) (omega arith) (omega arith)) rest (omega (arith, row.2)) in
    (λ j. (if n == 1 then 0 else row.0 j) * product ns + place_along ns ms (row.1 j)) ∙ ap (λ q. (if n == 1 then 0 else p / product ms) * product ns + q) again

-- ---- the leading axes that the region lacks

drop_index : (d : ℕ) (ds : List ℕ) (p : ℕ) → d ≤ length ds → 0 < product ds → p < product ds → drop d (index_at ds p) ≡ index_at (drop d ds) (p % product (drop d ds))
drop_index zero ds p h pos b = ap (index_at ds) (sym (mod-eq_of_lt b))
drop_index (suc d) [] p h pos b = absurd (omega arith)
drop_index (suc d) (m ∷ ms) p h pos b =
    let rest : 0 < product ms = right_positive m (product ms) (product (m ∷ ms)) refl pos in
    let some = drop_positive d ms (omega arith) rest in
    let small = mod_below p (product (drop d ms)) some.1 in
    let row = same_row p 0 (product ms) (product (drop d ms)) (product (take d ms)) (product-split d ms (omega arith)) some.1 some.0 (omega arith) in
    drop_index d ms (p % product ms) (omega arith) rest (mod_below p (product ms) rest) ∙ ap (index_at (drop d ms)) row.2

pub read_along : (l ds : List ℕ) (p lead : ℕ) → length l ≤ length ds → lead ≡ length ds - length l → p < product ds → place_read l ds p ≡ place_along l (drop lead ds) (p % product (drop lead ds))
read_along l ds p lead h e b =
    let same : length (index_at ds p) - length l ≡ lead = omega (arith, length-index_at ds p) in
    ap (λ d. place_of l (back_along l (drop d (index_at ds p)))) same
    ∙ ap (λ is. place_of l (back_along l is)) (drop_index lead ds p (omega arith) (omega arith) b)

-- ---- the two paces

-- within a row of the last axes from `first` on, both places move alike in the result without its leading axes
tail_row : (ds : List ℕ) (lead first p i run : ℕ) → lead ≤ first → first ≤ length ds → run ≡ product (drop first ds) → 0 < product ds → p + i < product ds → p % run + i < run
    → ((p + i) % product (drop lead ds) ≡ p % product (drop lead ds) + i) × (p % product (drop lead ds) % product (drop (first - lead) (drop lead ds)) + i < product (drop (first - lead) (drop lead ds)))
tail_row ds lead first p i run below h is pos b r =
    let ms = drop lead ds in
    let n : length ms ≡ length ds - lead = length-drop lead ds in
    let k = first - lead in
    let same : drop k ms ≡ drop first ds = drop-drop k lead ds ∙ ap (λ d. drop d ds) (let sum : lead + k ≡ first = omega arith in sum) in
    let size : product (drop k ms) ≡ run = ap product same ∙ sym is in
    let rest = (drop_positive lead ds (omega arith) pos).1 in
    let some = drop_positive k ms (omega arith) rest in
    let row = same_row p i (product ms) (product (drop k ms)) (product (take k ms)) (product-split k ms (omega arith)) some.1 some.0 (let P : ℕ → Type 0 = λ q. p % q + i < q in subst P (sym size) r) in
    (row.1, let P : ℕ → Type 0 = λ q. q + i < product (drop k ms) in subst P (sym row.2) (let Q : ℕ → Type 0 = λ q. p % q + i < q in subst Q (sym size) r))

pub moving_is_run : (l ds : List ℕ) (lead axis run : ℕ) → length l ≤ length ds → lead ≡ length ds - length l → axis ≤ length l → drop axis l ≡ drop (lead + axis) ds → run ≡ product (drop (lead + axis) ds) → 0 < product ds → IsRun l ds run 1
moving_is_run l ds lead axis run h e low same is pos p i b r =
    let ms = drop lead ds in
    let n : length ms ≡ length ds - lead = length-drop lead ds in
    let rest = (drop_positive lead ds (omega arith) pos).1 in
    let row = tail_row ds lead (lead + axis) p i run (omega arith) (omega arith) is pos b r in
    let back : lead + axis - lead ≡ axis = omega arith in
    let apart : drop (lead + axis - lead) l ≡ drop (lead + axis - lead) ms = ap (λ d. drop d l) back ∙ same ∙ sym (drop-drop axis lead ds) ∙ ap (λ d. drop d ms) (sym back) in
    let low_i = mod_below (p + i) (product ms) rest in
    read_along l ds (p + i) lead h e b
    ∙ ap (place_along l ms) row.0
    ∙ moving (lead + axis - lead) l ms (p % product ms) i (omega arith) (omega arith) apart rest (omega (arith, row.0)) row.1
    ∙ ap (λ q. q + i) (sym (read_along l ds p lead h e (omega arith)))
    ∙ ap (λ j. place_read l ds p + j) (let one : i ≡ 1 * i = omega arith in one)

pub resting_is_run : (l ds : List ℕ) (lead axis run : ℕ) → length l ≤ length ds → lead ≡ length ds - length l → axis ≤ length ds → ((j : ℕ) → axis ≤ lead + j → j < length l → get_or l j 0 ≡ 1)
    → run ≡ product (drop axis ds) → 0 < product ds → IsRun l ds run 0
resting_is_run l ds lead axis run h e low ones is pos p i b r = ⊎_elim
    (λ less.
    let at = read_along l ds (p + i) lead h e b in
    let from = read_along l ds p lead h e (omega arith) in
    let one = resting_place l (index_at ms ((p + i) % product ms)) (λ j c. ones j (omega arith) c) in
    let other = resting_place l (index_at ms (p % product ms)) (λ j c. ones j (omega arith) c) in
    omega (arith, at, from, one, other))
    (λ more.
    let n : length ms ≡ length ds - lead = length-drop lead ds in
    let rest = (drop_positive lead ds (omega arith) pos).1 in
    let row = tail_row ds lead axis p i run more low is pos b r in
    let same = resting (axis - lead) l ms (p % product ms) i (omega arith) (omega arith) (λ j c d. ones j (omega arith) d) rest row.1 in
    read_along l ds (p + i) lead h e b ∙ ap (place_along l ms) row.0 ∙ same ∙ sym (read_along l ds p lead h e (omega arith)) ∙ (let none : place_read l ds p ≡ place_read l ds p + 0 * i = omega arith in none))
    (cases_lt axis lead)
  where
    ms : List ℕ
    ms = drop lead ds

-- ---- the period after which a region is read again

pub is_period : (l ds : List ℕ) (lead axis period : ℕ) → length l ≤ length ds → lead ≡ length ds - length l → axis ≡ lead → period ≡ product (drop axis ds) → IsPeriod l ds period
is_period l ds lead axis period h e same is p i b r =
    let m = product (drop lead ds) in
    let at : period ≡ m = is ∙ ap (λ a. product (drop a ds)) same in
    let low : p % period ≤ p = mod-le p period in
    let again : (p % period + i) % m ≡ (p + i) % m = ap (λ q. (p % q + i) % m) at ∙ mod-add-mod p m i in
    read_along l ds (p % period + i) lead h e (omega arith) ∙ ap (place_along l (drop lead ds)) again ∙ sym (read_along l ds (p + i) lead h e b)

-- a period that no place reaches
pub unreached : (l ds : List ℕ) (period : ℕ) → product ds ≤ period → IsPeriod l ds period
unreached l ds period h p i b r =
    let small : p % period ≡ p = mod-eq_of_lt (let less : p < period = omega arith in less) in
    ap (λ q. place_read l ds (q + i)) small

-- ---- the loops that count the places of the last axes

-- one axis more
pub places_step : (ds : List ℕ) (a k run size : ℕ) → a ≡ k + 1 → a ≤ length ds → run ≡ product (drop a ds) → size ≡ get_or ds k 0 → 0 < product ds
    → (run * size ≡ product (drop k ds)) × (run * size ≤ product ds)
places_step ds a k run size e h is es pos =
    let axes : drop k ds ≡ size ∷ drop a ds = drop_more ds k 0 (omega arith) ∙ (λ i. sym es i ∷ drop (sym e i) ds) in
    let sizes = ap product axes in
    let times = ap (λ r. r * size) is in
    let most = product-drop-le k ds (omega arith) pos in
    let same : run * size ≡ product (drop k ds) = omega (arith, sizes, times) in
    (same, omega arith)

pub alike_step : (l ds : List ℕ) (lead a k x y : ℕ) → a ≡ k + 1 → a ≤ length l → lead + length l ≡ length ds → drop a l ≡ drop (lead + a) ds → x ≡ get_or l k 0 → y ≡ get_or ds (lead + a - 1) 0 → x ≡ y
    → drop k l ≡ drop (lead + k) ds
alike_step l ds lead a k x y e h n same ex ey xy =
    let at : lead + a - 1 ≡ lead + k = omega arith in
    let next : lead + a ≡ lead + k + 1 = omega arith in
    let first : get_or l k 0 ≡ get_or ds (lead + k) 0 = sym ex ∙ xy ∙ ey ∙ ap (λ j. get_or ds j 0) at in
    drop_more l k 0 (omega arith) ∙ (λ i. first i ∷ (ap (λ j. drop j l) (sym e) ∙ same ∙ ap (λ j. drop j ds) next) i) ∙ sym (drop_more ds (lead + k) 0 (omega arith))

pub places_positive : (ds : List ℕ) (k run : ℕ) → k ≤ length ds → run ≡ product (drop k ds) → 0 < product ds → 0 < run
places_positive ds k run h e pos = let some = (drop_positive k ds h pos).1 in omega arith

pub ones_step : (l : List ℕ) (lead a k : ℕ) → a ≡ k + 1 → ((j : ℕ) → a ≤ lead + j → j < length l → get_or l j 0 ≡ 1) → (lead ≤ k → get_or l (k - lead) 0 ≡ 1)
    → (j : ℕ) → k ≤ lead + j → j < length l → get_or l j 0 ≡ 1
ones_step l lead a k e ones here j c b = ⊎_elim
    (λ less. ones j (omega arith) b)
    (λ more. let same : j ≡ k - lead = omega arith in ap (λ i. get_or l i 0) same ∙ here (omega arith))
    (cases_lt k (lead + j))

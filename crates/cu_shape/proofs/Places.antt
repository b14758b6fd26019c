-- Places and indices of an array are told by one another.
use Rattle.std.proofs.Common.{Bool, false, ◌&&◌, nat_lt, add-one, set, true, nat_eq, All, ◌≡◌, ℕ, ◌+◌, ◌*◌, ◌/◌, ◌%◌, ◌<◌, ◌≤◌, zero, suc, List, [], ◌∷◌, ◌++◌, length, get_or, take, drop, refl, ap, ◌∙◌, sym, arith}
use Rattle.std.specs.Prelude.{◌≢◌, IsTrue}
use Rattle.std.proofs.Math.Nat.{div-lt_iff_lt-mul, div-div-eq-div-mul, mul_comm, le-mul_of_pos_right}
use Rattle.std.proofs.Math.Arith.{mod-mul}
use Rattle.std.proofs.lemmas.Nat.{div-mul-add, mod-mul-add, mul-add-lt, div_below, mod_below, div-add-mod'}
use Rattle.std.proofs.lemmas.List.{length-take-le, append_assoc, set_at, drop_more, take_more}
use Rattle.std.proofs.Math.Dec.{eqb-suc-zero}
use Rattle.std.proofs.lemmas.Bool.{ltb-true, lt-ltb}
use Rattle.std.specs.List.{list_any}
use Rattle.cu_shape.specs.Index.{product, is_inside, IsInside, place_of, index_at}

-- an index that lies inside has as many entries as the array has axes
pub inside-length : (ds is : List ℕ) → IsInside ds is → length is ≡ length ds
inside-length [] [] h = refl
inside-length [] (i ∷ is) h = absurd h
inside-length (d ∷ ds) [] h = absurd h
inside-length (d ∷ ds) (i ∷ is) h = ap suc (inside-length ds is h.1)

pub mul_positive : (a b : ℕ) → 0 < a → 0 < b → 0 < a * b
mul_positive a b p q = let e : 0 * b + 0 < b * a = mul-add-lt 0 b 0 a p q in omega arith

-- an array that has an index has an element
pub inside-positive : (ds is : List ℕ) → IsInside ds is → 0 < product ds
inside-positive [] [] h = omega arith
inside-positive [] (i ∷ is) h = absurd h
inside-positive (d ∷ ds) [] h = absurd h
inside-positive (d ∷ ds) (i ∷ is) h =
    mul_positive d (product ds) (let q = h.0 in omega arith) (inside-positive ds is h.1)

pub place-below : (ds is : List ℕ) → IsInside ds is → place_of ds is < product ds
place-below [] [] h = omega arith
place-below [] (i ∷ is) h = absurd h
place-below (d ∷ ds) [] h = absurd h
place-below (d ∷ ds) (i ∷ is) h =
    let e : i * product ds + place_of ds is < product ds * d = mul-add-lt i (product ds) (place_of ds is) d h.0 (place-below ds is h.1) in
    rw (mul_comm d (product ds)) e

factor_positive : (a b p : ℕ) → p < a * b → 0 < b
factor_positive a zero p h = absurd (omega arith)
factor_positive a (suc b) p h = omega arith

pub index-inside : (ds : List ℕ) (p : ℕ) → p < product ds → IsInside ds (index_at ds p)
index-inside [] p h = tt
index-inside (d ∷ ds) p h =
    let q : 0 < product ds = factor_positive d (product ds) p h in
    (div_below p (product ds) d q h, index-inside ds (p % product ds) (mod_below p (product ds) q))

pub place-index : (ds : List ℕ) (p : ℕ) → p < product ds → place_of ds (index_at ds p) ≡ p
place-index [] p h = omega arith
place-index (d ∷ ds) p h =
    let q : 0 < product ds = factor_positive d (product ds) p h in
    ap (λ r. p / product ds * product ds + r) (place-index ds (p % product ds) (mod_below p (product ds) q)) ∙ div-add-mod' p (product ds)

pub index-place : (ds is : List ℕ) → IsInside ds is → index_at ds (place_of ds is) ≡ is
index-place [] [] h = refl
index-place [] (i ∷ is) h = absurd h
index-place (d ∷ ds) [] h = absurd h
index-place (d ∷ ds) (i ∷ is) h =
    let b = place-below ds is h.1 in
    rw (div-mul-add i (product ds) (place_of ds is) b) (rw (mod-mul-add i (product ds) (place_of ds is) b) (ap (λ js. i ∷ js) (index-place ds is h.1)))

pub length-index_at : (ds : List ℕ) (p : ℕ) → length (index_at ds p) ≡ length ds
length-index_at [] p = refl
length-index_at (d ∷ ds) p = ap suc (length-index_at ds (p % product ds))

-- one axis more of an index: the number so far does not exceed the whole place
pub place_step : (ds is : List ℕ) (k p : ℕ) → k < length ds → k < length is → IsInside (drop k ds) (drop k is) → p * get_or ds k 0 + get_or is k 0 ≤ p * product (drop k ds) + place_of (drop k ds) (drop k is)
place_step ds is k p h g i =
    let j = rw (drop_more ds k 0 h, drop_more is k 0 g) at i in
    let q : 0 < product (drop (k + 1) ds) = inside-positive _ _ j.1 in
    let e : p * get_or ds k 0 + get_or is k 0 ≤ (p * get_or ds k 0 + get_or is k 0) * product (drop (k + 1) ds) = le-mul_of_pos_right _ q in
    rw (drop_more ds k 0 h, drop_more is k 0 g) (omega arith)

-- the last digit of what is left of a place, and the digits behind it
digit : (n m p : ℕ) → 0 < n → 0 < m → ((p % (n * m)) / m ≡ p / m % n) × ((p % (n * m)) % m ≡ p % m)
digit n m p hn hm =
    let b : p % m < m = mod_below p m hm in
    rw (mod-mul p {m = n} {c = m} hn hm) (div-mul-add (p / m % n) m (p % m) b, mod-mul-add (p / m % n) m (p % m) b)

pub digit_step : (ds : List ℕ) (k p : ℕ) → k < length ds → 0 < get_or ds k 0 → 0 < product (drop (k + 1) ds) → index_at (drop k ds) (p % product (drop k ds)) ≡ (p / product (drop (k + 1) ds) % get_or ds k 0) ∷ index_at (drop (k + 1) ds) (p % product (drop (k + 1) ds))
digit_step ds k p h hn hm =
    let e = digit (get_or ds k 0) (product (drop (k + 1) ds)) p hn hm in
    rw (drop_more ds k 0 h) (rw (e.0, e.1) refl)

pub left_step : (ds : List ℕ) (k p : ℕ) → k < length ds → p / product (drop (k + 1) ds) / get_or ds k 0 ≡ p / product (drop k ds)
left_step ds k p h = rw (drop_more ds k 0 h) (div-div-eq-div-mul p (product (drop (k + 1) ds)) (get_or ds k 0) ∙ ap (λ n. p / n) (mul_comm (product (drop (k + 1) ds)) (get_or ds k 0)))

size_positive_at : (ds : List ℕ) (k : ℕ) → 0 < product ds → k < length ds → (0 < get_or ds k 0) × (0 < product (drop (suc k) ds))
size_positive_at [] k p h = absurd (omega arith)
size_positive_at (d ∷ ds) zero p h = (factor_positive (product ds) d 0 (rw (mul_comm (product ds) d) p), factor_positive d (product ds) 0 p)
size_positive_at (d ∷ ds) (suc k) p h = size_positive_at ds k (factor_positive d (product ds) 0 p) (omega arith)

-- no size is 0 where the product is not 0
pub size_positive : (ds : List ℕ) (k : ℕ) → 0 < product ds → k < length ds → (0 < get_or ds k 0) × (0 < product (drop (k + 1) ds))
size_positive ds k p h = rw (add-one k) (size_positive_at ds k p h)

pub product_zero : (ds : List ℕ) → list_any (λ y. nat_eq y 0) ds ≡ true → product ds ≡ 0
product_zero [] h = cc
product_zero (zero ∷ ds) h = omega arith
product_zero (suc d ∷ ds) h = let e = product_zero ds (rw (eqb-suc-zero d) at h) in omega (arith, ap (λ n. suc d * n) e)

pub product_positive : (ds : List ℕ) → All (λ n. 0 < n) ds → 0 < product ds
product_positive [] h = omega arith
product_positive (d ∷ ds) h = mul_positive d (product ds) (h 0 0 (omega arith)) (product_positive ds (λ k e l. h (suc k) e (omega arith)))

pub product_over : (count size rest limit : ℕ) → 0 < count → 0 < rest → limit / count < size → limit < count * (size * rest)
product_over count size rest limit p q h =
    let e : limit < size * count = (div-lt_iff_lt-mul {k = count} {x = limit} {y = size} p).0 h in
    let f : size * count ≤ size * count * rest = le-mul_of_pos_right (size * count) q in
    omega arith

digit_put : (ds ix tail : List ℕ) (k v : ℕ) → k < length ds → ix ≡ take (k + 1) ds ++ tail → set ix k v ≡ take k ds ++ v ∷ tail
digit_put ds ix tail k v h e =
    let l : length (take k ds) ≡ k = length-take-le k ds (omega arith) in
    rw e (rw (take_more ds k 0 h) (rw (append_assoc (take k ds) (get_or ds k 0 ∷ []) tail) (set_at (take k ds) (get_or ds k 0) tail v k l)))

-- the digit on axis k is written, and the place is divided by its size
pub index_step : (ds ix : List ℕ) (k a rest size p : ℕ) → a ≡ k + 1 → a ≤ length ds → 0 < product ds → ix ≡ take a ds ++ index_at (drop a ds) (p % product (drop a ds)) → rest ≡ p / product (drop a ds) → size ≡ get_or ds k 0 → (set ix k (rest % size) ≡ take k ds ++ index_at (drop k ds) (p % product (drop k ds))) × (rest / size ≡ p / product (drop k ds))
index_step ds ix k a rest size p ea h q e er es =
    let hk : k < length ds = omega arith in
    let pos = size_positive ds k q hk in
    let e' : ix ≡ take (k + 1) ds ++ index_at (drop (k + 1) ds) (p % product (drop (k + 1) ds)) = rw (← ea) e in
    let er' : rest ≡ p / product (drop (k + 1) ds) = rw (← ea) er in
    rw (er', es) (digit_put ds ix _ k (p / product (drop (k + 1) ds) % get_or ds k 0) hk e' ∙ ap (λ is. take k ds ++ is) (sym (digit_step ds k p hk pos.0 pos.1)), left_step ds k p hk)

and_true : (a b : Bool) → (a && b) ≡ true → (a ≡ true) × (b ≡ true)
and_true true b h = (refl, h)
and_true false b h = cc

-- the test and the fact say the same
pub inside_from_test : (ds is : List ℕ) → is_inside ds is ≡ true → IsInside ds is
inside_from_test [] [] h = tt
inside_from_test [] (i ∷ is) h = cc
inside_from_test (d ∷ ds) [] h = cc
inside_from_test (d ∷ ds) (i ∷ is) h = let p = and_true (nat_lt i d) (is_inside ds is) h in (ltb-true i d p.0, inside_from_test ds is p.1)

pub test_from_inside : (ds is : List ℕ) → IsInside ds is → is_inside ds is ≡ true
test_from_inside [] [] h = refl
test_from_inside [] (i ∷ is) h = absurd h
test_from_inside (d ∷ ds) [] h = absurd h
test_from_inside (d ∷ ds) (i ∷ is) h = rw (lt-ltb i d h.0) (test_from_inside ds is h.1)

pub inside_test : (b : Bool) (ds is : List ℕ) → b ≡ is_inside ds is → (IsTrue b → IsInside ds is) × (IsInside ds is → IsTrue b)
inside_test b ds is e = (λ t. inside_from_test ds is (sym e ∙ t), λ h. e ∙ test_from_inside ds is h)

-- an index of another rank doesn't lie inside
pub outside_rank : (ds is : List ℕ) → length is ≢ length ds → is_inside ds is ≡ false
outside_rank [] [] h = absurd (h refl)
outside_rank [] (i ∷ is) h = refl
outside_rank (d ∷ ds) [] h = refl
outside_rank (d ∷ ds) (i ∷ is) h = rw (outside_rank ds is (λ e. h (ap suc e))) (and_false (nat_lt i d))
  where
    and_false : (b : Bool) → (b && false) ≡ false
    and_false true = refl
    and_false false = refl

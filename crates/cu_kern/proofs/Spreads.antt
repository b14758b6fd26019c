-- A region each of whose places is read by a run of the result's, one after another.
use Rattle.std.proofs.Common.{◌≡◌, ◌==◌, ℕ, zero, suc, ◌+◌, ◌*◌, ◌/◌, ◌%◌, ◌<◌, ◌≤◌, if◌then◌else◌, List, [], ◌∷◌, length, drop, get_or, refl, ap, sym, ◌∙◌, arith, inl, inr}
use Rattle.std.proofs.Math.Nat.{div-eq_of_lt, div-div-eq-div-mul, mod-lt, mod-eq_of_lt, div-one, mul-le-mul_left, mul-le-mul_right}
use Rattle.std.proofs.Math.Arith.{mod-mul}
use Rattle.std.proofs.lemmas.Nat.{div-mul-add, mod-mul-add, div-add-mod'}
use Rattle.std.proofs.lemmas.List.{drop_more, drop_all}
use Rattle.std.proofs.lemmas.Bool.Decides.{eqb_tells}
use Rattle.cu_shape.specs.Index.{product}
use Rattle.cu_kern.specs.Lays.{place_read, IsRun, IsSpread}
use Rattle.cu_kern.proofs.Stretched.{place_along, read_along, drop_positive, product-drop-le}

-- the axes from k on: their places, and how they are read
pub record SpreadsFrom (l ds : List ℕ) (k own run : ℕ) : Type 0 where
  pub own_places : own ≡ product (drop k l)
  pub places : own * run ≡ product (drop k ds)
  pub some : 0 < run
  pub own_some : 0 < own
  pub spread : (p : ℕ) → p < product (drop k ds) → place_along (drop k l) (drop k ds) p ≡ p / run

-- a place in groups of groups
split_quotient : (p own run m : ℕ) → 0 < run → 0 < own → own * run ≡ m → p / m * own + (p % m) / run ≡ p / run
split_quotient p own run m hr ho e =
    let turned : run * own ≡ m = omega (arith, e) in
    let outer : p / m ≡ p / run / own = ap (λ n. p / n) (sym turned) ∙ sym (div-div-eq-div-mul p run own) in
    let digits : p % m ≡ (p / run % own) * run + p % run = ap (λ n. p % n) (sym e) ∙ mod-mul p ho hr in
    let inner : (p % m) / run ≡ p / run % own = ap (λ n. n / run) digits ∙ div-mul-add (p / run % own) run (p % run) (mod-lt p hr) in
    (λ i. outer i * own + inner i) ∙ div-add-mod' (p / run) own

some_places : (n m p : ℕ) → p < n * m → 0 < m
some_places n zero p b = absurd (omega (arith, b))
some_places n (suc m) p b = omega arith

-- one axis more that isn't stretched
spread_more : (ns ms : List ℕ) (n own run p : ℕ) → own ≡ product ns → own * run ≡ product ms → 0 < run → 0 < own → ((q : ℕ) → q < product ms → place_along ns ms q ≡ q / run) → p < n * product ms
    → place_along (n ∷ ns) (n ∷ ms) p ≡ p / run
spread_more ns ms n own run p eo em hr ho rest b =
    let some : 0 < product ms = some_places n (product ms) p b in
    let low : p % product ms < product ms = mod-lt p some in
    let digit : (if n == 1 then 0 else p / product ms) ≡ p / product ms = elim (eqb_tells n 1) [
      | inl q ↦ let one : n * product ms ≡ product ms = ap (λ d. d * product ms) q.1 ∙ omega arith in
          let none : 0 ≡ p / product ms = sym (div-eq_of_lt (omega (arith, one))) in rw q.0 none
      | inr q ↦ rw q.0 refl
    ] in
    (λ i. digit i * sym eo i + rest (p % product ms) low i) ∙ split_quotient p own run (product ms) hr ho em

-- one axis more that is stretched, before such axes alone
spread_wider : (ns ms : List ℕ) (m run p : ℕ) → 1 ≡ product ns → run ≡ product ms → 0 < run → ((q : ℕ) → q < product ms → place_along ns ms q ≡ q / run) → p < m * product ms
    → place_along (1 ∷ ns) (m ∷ ms) p ≡ p / (run * m)
spread_wider ns ms m run p eo em hr rest b =
    let some : 0 < product ms = omega (arith, em) in
    let low : p % product ms < run = omega (arith, em, mod-lt p some) in
    let inner : place_along ns ms (p % product ms) ≡ 0 = rest (p % product ms) (mod-lt p some) ∙ div-eq_of_lt low in
    let times : run * m ≡ m * product ms = ap (λ r. r * m) em ∙ omega arith in
    let outer : p / (run * m) ≡ 0 = div-eq_of_lt (omega (arith, times)) in
    let whole : place_along (1 ∷ ns) (m ∷ ms) p ≡ 0 * product ns + place_along ns ms (p % product ms) = refl in
    whole ∙ omega (arith, inner, outer)

-- no axis yet
pub spreads_none : (l ds : List ℕ) (k : ℕ) → k ≡ length ds → length l ≡ length ds → SpreadsFrom l ds k 1 1
spreads_none l ds k e h =
    let front : drop k l ≡ [] = drop_all k l (omega arith) in
    let back : drop k ds ≡ [] = drop_all k ds (omega arith) in
    record {
      own_places = sym (ap product front);
      places = sym (ap product back);
      some = omega arith;
      own_some = omega arith;
      spread = λ p b. let one : p < 1 = omega (arith, ap product back) in
          (λ i. place_along (front i) (back i) p) ∙ (let none : 0 ≡ p = omega (arith, one) in none) ∙ sym (div-one p);
    }

pub spreads_more : (l ds : List ℕ) (a k own run n m : ℕ) → SpreadsFrom l ds a own run → a ≡ k + 1 → a ≤ length ds → length l ≡ length ds → n ≡ get_or l k 0 → m ≡ get_or ds k 0 → n ≡ m → 0 < product ds
    → SpreadsFrom l ds k (own * m) run
spreads_more l ds a k own run n m s e h same en em nm pos =
    let front : drop k l ≡ m ∷ drop a l = drop_more l k 0 (omega arith) ∙ (λ i. (sym en ∙ nm) i ∷ drop (sym e i) l) in
    let back : drop k ds ≡ m ∷ drop a ds = drop_more ds k 0 (omega arith) ∙ (λ i. sym em i ∷ drop (sym e i) ds) in
    let sizes : product (drop k ds) ≡ m * product (drop a ds) = ap product back in
    let some : 0 < product (drop k ds) = (drop_positive k ds (omega arith) pos).1 in
    let own_is = s.own_places in
    let places_is = s.places in
    let whole : own * m * run ≡ product (drop k ds) = (let turned : own * m * run ≡ m * (own * run) = omega arith in turned) ∙ ap (λ q. m * q) places_is ∙ sym sizes in
    record {
      own_places = (let turned : own * m ≡ m * own = omega arith in turned) ∙ ap (λ q. m * q) own_is ∙ sym (ap product front);
      places = whole;
      some = s.some;
      own_some = positive_factor (own * m) run (product (drop k ds)) whole some;
      spread = λ p b. (λ i. place_along (front i) (back i) p) ∙ spread_more (drop a l) (drop a ds) m own run p own_is places_is s.some s.own_some s.spread (omega (arith, sizes));
    }
  where
    positive_factor : (x y z : ℕ) → x * y ≡ z → 0 < z → 0 < x
    positive_factor zero y z g some = absurd (omega (arith, g))
    positive_factor (suc x) y z g some = omega arith

pub spreads_wider : (l ds : List ℕ) (a k own run n m : ℕ) → SpreadsFrom l ds a own run → a ≡ k + 1 → a ≤ length ds → length l ≡ length ds → n ≡ get_or l k 0 → m ≡ get_or ds k 0 → n ≡ 1 → own ≡ 1 → 0 < product ds
    → SpreadsFrom l ds k own (run * m)
spreads_wider l ds a k own run n m s e h same en em one alone pos =
    let front : drop k l ≡ 1 ∷ drop a l = drop_more l k 0 (omega arith) ∙ (λ i. (sym en ∙ one) i ∷ drop (sym e i) l) in
    let back : drop k ds ≡ m ∷ drop a ds = drop_more ds k 0 (omega arith) ∙ (λ i. sym em i ∷ drop (sym e i) ds) in
    let sizes : product (drop k ds) ≡ m * product (drop a ds) = ap product back in
    let some : 0 < product (drop k ds) = (drop_positive k ds (omega arith) pos).1 in
    let own_is : 1 ≡ product (drop a l) = sym alone ∙ s.own_places in
    let run_is : run ≡ product (drop a ds) = (let unit : run ≡ 1 * run = omega arith in unit) ∙ ap (λ q. q * run) (sym alone) ∙ s.places in
    let whole : run * m ≡ product (drop k ds) = (let turned : run * m ≡ m * run = omega arith in turned) ∙ ap (λ q. m * q) run_is ∙ sym sizes in
    record {
      own_places = alone ∙ own_is ∙ (let unit : product (drop a l) ≡ 1 * product (drop a l) = omega arith in unit) ∙ sym (ap product front);
      places = ap (λ q. q * (run * m)) alone ∙ (let unit : 1 * (run * m) ≡ run * m = omega arith in unit) ∙ whole;
      some = omega (arith, whole, some);
      own_some = s.own_some;
      spread = λ p b. (λ i. place_along (front i) (back i) p) ∙ spread_wider (drop a l) (drop a ds) m run p own_is run_is s.some s.spread (omega (arith, sizes));
    }

-- at the end of the loop over the axes
pub is_spread : (l ds : List ℕ) (k own run : ℕ) → SpreadsFrom l ds k own run → k ≡ 0 → length l ≡ length ds → IsSpread l ds run
is_spread l ds k own run s e h p b =
    let all : product (drop k ds) ≡ product ds = ap (λ j. product (drop j ds)) e in
    let low : p % product ds ≡ p = mod-eq_of_lt b in
    read_along l ds p 0 (omega arith) (omega arith) b ∙ ap (place_along l ds) low ∙ (λ i. place_along (drop (sym e i) l) (drop (sym e i) ds) p) ∙ s.spread p (omega (arith, all))

-- each run of places reads one
pub spread_is_run : (l ds : List ℕ) (run : ℕ) → IsSpread l ds run → 0 < run → IsRun l ds run 0
spread_is_run l ds run h some p i b r =
    let sum : p + i ≡ p / run * run + (p % run + i) = omega (arith, div-add-mod' p run) in
    let same : (p + i) / run ≡ p / run = ap (λ n. n / run) sum ∙ div-mul-add (p / run) run (p % run + i) r in
    h (p + i) b ∙ same ∙ sym (h p (omega arith)) ∙ (let none : place_read l ds p ≡ place_read l ds p + 0 * i = omega arith in none)

-- the place after the end of a run
pub next_run : (p left run : ℕ) → 0 < run → p % run + left ≡ run → ((p + left) / run ≡ p / run + 1) × ((p + left) % run ≡ 0)
next_run p left run some e =
    let sum : p + left ≡ (p / run + 1) * run + 0 = omega (arith, div-add-mod' p run) in
    (ap (λ n. n / run) sum ∙ div-mul-add (p / run + 1) run 0 some, ap (λ n. n % run) sum ∙ mod-mul-add (p / run + 1) run 0 some)

-- neither number exceeds the places of the result
pub most_places : (l ds : List ℕ) (k own run : ℕ) → SpreadsFrom l ds k own run → k ≤ length ds → 0 < product ds → (own ≤ product ds) × (run ≤ product ds)
most_places l ds k own run s h pos =
    let most = product-drop-le k ds h pos in
    let all = s.places in
    let first : own * 1 ≤ own * run = mul-le-mul_left own s.some in
    let second : 1 * run ≤ own * run = mul-le-mul_right run s.own_some in
    (omega (arith, most, all, first), omega (arith, most, all, second))

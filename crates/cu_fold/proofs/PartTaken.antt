-- Results that have taken the elements of some places of a region.
use Rattle.std.proofs.Common.{◌≡◌, ◌≢◌, ℕ, ℤ, zero, suc, ◌+◌, ◌-◌, ◌*◌, ◌/◌, ◌<◌, ◌≤◌, true, false, List, [], ◌∷◌, map, take, drop, length, min, length-drop, refl, sym, ap, ◌∙◌, subst, arith, if◌then◌else◌, mul-le-mul_right, ⊎_elim, eq-eqb}
use Rattle.std.specs.Prelude.{Bool as Test, ◌==◌, cond}
use Rattle.std.specs.List.{range_with_len, filter}
use Rattle.std.proofs.lemmas.Bool.{cases_lt}
use Rattle.std.proofs.lemmas.Nat.{div-add-mod', div-mul-add, mod_below}
use borrow.Rule.Slice.PartMut.{put_mid}
use Rattle.cu_num.specs.Dtype.{size_of}
use Rattle.cu_num.specs.Element.{element_at, bytes_at}
use Rattle.cu_num.specs.declared.types.Dtype.{Dtype}
use Rattle.cu_num.specs.declared.layout.Endian.TheVariants.{Little}
use Rattle.cu_reduce.proofs.Ranges.{map-append, map-map, map_ranges}
use Rattle.cu_fold.specs.declared.levels.Level.{Level}
use Rattle.cu_fold.specs.declared.types.Fold.{Fold}
use Rattle.cu_fold.specs.declared.types.Places.{Places}
use Rattle.cu_fold.specs.Levels.{extent, results, result_step, result_of, places_in}
use Rattle.cu_fold.specs.Taken.{TakesAll, TakesPart}
use Rattle.cu_take.specs.Taken.{HasTaken}
use Rattle.cu_take.proofs.Buffers.{element_at_drop, bytes_at_drop, part_inside, bytes_below, bytes_inside, bytes_above}
use Rattle.cu_take.proofs.Taking.{takes_more, takes_none, takes_same}
use Rattle.cu_fold.proofs.Chains.{chained_single}
use Rattle.cu_fold.proofs.Merged.{positive_last}
use Rattle.cu_fold.proofs.ResultPlaces.{filter_none, filter_all, not_same, places_append, own_places, other_places}

-- ---- the bytes of results in a part of a buffer

pub old_inside : (acc : Dtype) (out : List ℕ) (first r a m q k : ℕ) → a ≡ first * size_of acc → m ≡ r * size_of acc → q ≡ first + k → k < r → bytes_at acc out q ≡ bytes_at acc (take m (drop a out)) k
old_inside acc out first r a m q k from long e less =
    let s = size_of acc in
    let reach : suc k * s ≤ r * s = mul-le-mul_right s less in
    ap (bytes_at acc out) e ∙ sym (bytes_at_drop acc out first k a from) ∙ sym (part_inside s (k * s) m (drop a out) (omega (arith, reach, long)))

pub new_inside : (acc : Dtype) (out part : List ℕ) (first r a m q k : ℕ) → a ≡ first * size_of acc → m ≡ r * size_of acc → length part ≡ m → a + m ≤ length out → q ≡ first + k → k < r
    → bytes_at acc (put_mid a m out part) q ≡ bytes_at acc part k
new_inside acc out part first r a m q k from long own fits e less =
    let s = size_of acc in
    let reach : suc k * s ≤ r * s = mul-le-mul_right s less in
    let at : q * s ≡ a + k * s = ap (λ p. p * s) e ∙ omega (arith, from) in
    bytes_inside acc a m out part q k at (omega (arith, reach, long, own)) (omega arith)

pub new_outside : (acc : Dtype) (out part : List ℕ) (first r a m q : ℕ) → a ≡ first * size_of acc → m ≡ r * size_of acc → length part ≡ m → a + m ≤ length out → ((k : ℕ) → k < r → q ≢ first + k)
    → bytes_at acc (put_mid a m out part) q ≡ bytes_at acc out q
new_outside acc out part first r a m q from long own fits other =
    let s = size_of acc in
    ⊎_elim
    (λ (less : q < first).
    let reach : suc q * s ≤ first * s = mul-le-mul_right s less in
    bytes_below acc a m out part q (omega (arith, reach, from)) (omega arith))
    (λ (least : first ≤ q).
    let past : first + r ≤ q = ⊎_elim
    (λ (inside : q < first + r). absurd (other (q - first) (omega arith) (omega arith)))
    (λ (h : first + r ≤ q). h) (cases_lt q (first + r)) in
    let reach : (first + r) * s ≤ q * s = mul-le-mul_right s past in
    bytes_above acc a m out part q (omega (arith, reach, from, long)) own fits)
    (cases_lt q first)

-- ---- regions of one level

single_place : (f : ℕ → Test) (a n k : ℕ) → k < n → f (a + k) ≡ true → ((j : ℕ) → j ≢ k → f (a + j) ≡ false) → filter f (range_with_len a n) ≡ (a + k) ∷ []
single_place f a zero k less h g = absurd (omega arith)
single_place f a (suc n) zero less h g =
    let none : a ≡ a + 0 = omega arith in
    let rest : filter f (range_with_len (a + 1) n) ≡ [] =
    filter_none f (a + 1) n (λ k inside. let e : a + 1 + k ≡ a + suc k = omega arith in ap f e ∙ g (suc k) (λ (z : suc k ≡ 0). omega arith)) in
    (λ i. cond ((ap f none ∙ h) i) (none i ∷ rest i) (rest i))
single_place f a (suc n) (suc k) less h g =
    let none : a ≡ a + 0 = omega arith in
    let e : a + suc k ≡ a + 1 + k = omega arith in
    (λ i. cond ((ap f none ∙ g 0 (λ (z : 0 ≡ suc k). omega arith)) i) (a ∷ filter f (range_with_len (a + 1) n)) (filter f (range_with_len (a + 1) n)))
    ∙ single_place f (a + 1) n k (omega arith) (ap f (sym e) ∙ h)
    (λ j apart. let t : a + 1 + j ≡ a + suc j = omega arith in ap f t ∙ g (suc j) (λ (z : suc j ≡ suc k). apart (omega arith)))
    ∙ ap (λ p. p ∷ []) (sym e)

-- a run into one result
pub reduced_part : (fold : Fold) (n : ℕ) (places : Places) (input old new : List ℕ) → TakesAll fold (record { size = places.count; is_reduced = true } ∷ []) input old new
    → TakesPart fold (record { size = n; is_reduced = true } ∷ []) places input old new
reduced_part fold n places input old new h = record {
  each = λ at agrees q less.
      let first : 0 ≡ q = omega arith in
      let all : places_in (record { size = n; is_reduced = true } ∷ []) 0 places.start places.count ≡ range_with_len places.start places.count =
      filter_all (λ p. result_of (record { size = n; is_reduced = true } ∷ []) p == 0) places.start places.count (λ k inside. eq-eqb _ 0 (omega arith)) in
      let same : map (λ p. element_at Little fold.from input p) (range_with_len 0 places.count) ≡ map at (range_with_len places.start places.count) =
      map_ranges (λ p. element_at Little fold.from input p) at 0 places.start places.count
      (λ k inside. let e : 0 + k ≡ k = omega arith in ap (λ p. element_at Little fold.from input p) e ∙ sym (agrees k inside)) in
      subst (λ k. HasTaken fold.kind fold.acc old new k (map at (places_in (record { size = n; is_reduced = true } ∷ []) k places.start places.count))) first
      (subst (λ xs. HasTaken fold.kind fold.acc old new 0 xs) (ap (map (λ p. element_at Little fold.from input p)) (chained_single places.count) ∙ same ∙ ap (map at) (sym all)) (h 0 (omega arith)));
}

-- a row, each into a result of its own
abbrev kept : ℕ → Level
kept n = record { size = n; is_reduced = false }

of_its_own : (n p : ℕ) → result_of (kept n ∷ []) p ≡ p
of_its_own n p = omega arith

row_none : (n q start count : ℕ) → ((k : ℕ) → k < count → q ≢ start + k) → places_in (kept n ∷ []) q start count ≡ []
row_none n q start count other =
    filter_none (λ p. result_of (kept n ∷ []) p == q) start count
    (λ k less. ap (λ r. r == q) (of_its_own n (start + k)) ∙ not_same (start + k) q (λ e. other k less (sym e)))

row_own : (n q k start count : ℕ) → q ≡ start + k → k < count → places_in (kept n ∷ []) q start count ≡ (start + k) ∷ []
row_own n q k start count e less =
    single_place (λ p. result_of (kept n ∷ []) p == q) start count k less (eq-eqb _ q (of_its_own n (start + k) ∙ sym e))
    (λ j apart. ap (λ r. r == q) (of_its_own n (start + j)) ∙ not_same (start + j) q (λ s. apart (omega (arith, e, s))))

pub kept_part : (fold : Fold) (n : ℕ) (places : Places) (input old new old_part new_part : List ℕ)
    → ((q k : ℕ) → q ≡ places.start + k → k < places.count → (bytes_at fold.acc old q ≡ bytes_at fold.acc old_part k) × (bytes_at fold.acc new q ≡ bytes_at fold.acc new_part k))
    → ((q : ℕ) → ((k : ℕ) → k < places.count → q ≢ places.start + k) → bytes_at fold.acc new q ≡ bytes_at fold.acc old q)
    → TakesAll fold (record { size = places.count; is_reduced = false } ∷ []) input old_part new_part
    → TakesPart fold (record { size = n; is_reduced = false } ∷ []) places input old new
kept_part fold n places input old new old_part new_part inside outside h = record {
  each = λ at agrees q less.
      ⊎_elim
      (λ (below : q < places.start). none at q (λ k less e. omega arith))
      (λ (from : places.start ≤ q). ⊎_elim
      (λ (below : q < places.start + places.count). own at agrees q (q - places.start) (omega arith) (omega arith))
      (λ (past : places.start + places.count ≤ q). none at q (λ k less e. omega arith))
      (cases_lt q (places.start + places.count)))
      (cases_lt q places.start);
}
  where
    own : (at : ℕ → ℤ) → ((k : ℕ) → k < places.count → at (places.start + k) ≡ element_at Little fold.from input k) → (q k : ℕ) → q ≡ places.start + k → k < places.count
        → HasTaken fold.kind fold.acc old new q (map at (places_in (kept n ∷ []) q places.start places.count))
    own at agrees q k e less =
        let place : k / 1 * 1 + 0 ≡ k = omega arith in
        let same : element_at Little fold.from input (k / 1 * 1 + 0) ∷ [] ≡ map at (places_in (kept n ∷ []) q places.start places.count) =
        ap (λ p. element_at Little fold.from input p ∷ []) place ∙ ap (λ x. x ∷ []) (sym (agrees k less)) ∙ ap (map at) (sym (row_own n q k places.start places.count e less)) in
        let bytes = inside q k e less in
        subst (λ xs. HasTaken fold.kind fold.acc old new q xs) same (takes_same fold.kind fold.acc old new old_part new_part q k _ bytes.0 bytes.1 (h k (omega arith)))

    none : (at : ℕ → ℤ) (q : ℕ) → ((k : ℕ) → k < places.count → q ≢ places.start + k) → HasTaken fold.kind fold.acc old new q (map at (places_in (kept n ∷ []) q places.start places.count))
    none at q other =
        subst (λ xs. HasTaken fold.kind fold.acc old new q xs) (ap (map at) (sym (row_none n q places.start places.count other))) (takes_none fold.kind fold.acc old new q (outside q other))

-- ---- no level

pub no_level : (fold : Fold) (places : Places) (input old new : List ℕ) → 0 < places.count → places.start + places.count ≤ 1
    → HasTaken fold.kind fold.acc old new 0 (element_at Little fold.from input 0 ∷ []) → TakesPart fold [] places input old new
no_level fold places input old new some fits h = record {
  each = λ at agrees q less.
      let first : 0 ≡ q = omega arith in
      let start : 0 ≡ places.start = omega arith in
      let count : 1 ≡ places.count = omega arith in
      let place : places.start + 0 ≡ 0 = omega arith in
      let same : element_at Little fold.from input 0 ∷ [] ≡ map at (places_in [] 0 places.start places.count) =
      ap (λ x. x ∷ []) (sym (agrees 0 some) ∙ ap at place) ∙ (λ i. map at (places_in [] 0 (start i) (count i))) in
      subst (λ k. HasTaken fold.kind fold.acc old new k (map at (places_in [] k places.start places.count))) first
      (subst (λ xs. HasTaken fold.kind fold.acc old new 0 xs) same h);
}

-- ---- one index more

-- the elements of the places within an index, taken into the results of this index
pub next_part : (fold : Fold) (l : Level) (ls : List Level) (places own : Places) (i done : ℕ) (input part old mid new old_part new_part : List ℕ)
    → own.start + own.count ≤ extent ls → places.start + done ≡ i * extent ls + own.start → done + own.count ≤ places.count → part ≡ drop (done * size_of fold.from) input
    → ((q k : ℕ) → q ≡ i * result_step l ls + k → k < results ls → (bytes_at fold.acc mid q ≡ bytes_at fold.acc old_part k) × (bytes_at fold.acc new q ≡ bytes_at fold.acc new_part k))
    → ((q : ℕ) → ((k : ℕ) → k < results ls → q ≢ i * result_step l ls + k) → bytes_at fold.acc new q ≡ bytes_at fold.acc mid q)
    → TakesPart fold (l ∷ ls) (record { start = places.start; count = done }) input old mid → TakesPart fold ls own part old_part new_part
    → TakesPart fold (l ∷ ls) (record { start = places.start; count = done + own.count }) input old new
next_part fold l ls places own i done input part old mid new old_part new_part fits e within is inside outside first next = record {
  each = λ at agrees q less.
      subst (λ xs. HasTaken fold.kind fold.acc old new q xs)
      (sym (map-append at (places_in (l ∷ ls) q places.start done) (places_in (l ∷ ls) q (places.start + done) own.count)) ∙ ap (map at) (sym (places_append (l ∷ ls) q places.start done own.count)))
      (takes_more fold.kind fold.acc old mid new q (map at (places_in (l ∷ ls) q places.start done)) (map at (places_in (l ∷ ls) q (places.start + done) own.count))
      (first.each at (λ k inside. agrees k (omega arith)) q less)
      (subst (λ a. HasTaken fold.kind fold.acc mid new q (map at (places_in (l ∷ ls) q a own.count))) (sym e) (own_or_none at agrees q)));
}
  where
    this : (at : ℕ → ℤ) → ((k : ℕ) → k < done + own.count → at (places.start + k) ≡ element_at Little fold.from input k) → (q k : ℕ) → q ≡ i * result_step l ls + k → k < results ls
        → HasTaken fold.kind fold.acc mid new q (map at (places_in (l ∷ ls) q (i * extent ls + own.start) own.count))
    this at agrees q k s less =
        let bytes = inside q k s less in
        subst (λ xs. HasTaken fold.kind fold.acc mid new q xs)
        (sym (map-map at (λ p. i * extent ls + p) (places_in ls k own.start own.count)) ∙ ap (map at) (sym (own_places l ls q i k own.start own.count fits s)))
        (takes_same fold.kind fold.acc mid new old_part new_part q k _ bytes.0 bytes.1
        (next.each (λ p. at (i * extent ls + p))
        (λ j below.
        let turn : i * extent ls + (own.start + j) ≡ places.start + (done + j) = omega (arith, e) in
        ap at turn ∙ agrees (done + j) (omega arith) ∙ sym (ap (λ bytes. element_at Little fold.from bytes j) is ∙ element_at_drop fold.from input done j (done * size_of fold.from) refl))
        k less))

    none : (at : ℕ → ℤ) (q : ℕ) → ((k : ℕ) → k < results ls → q ≢ i * result_step l ls + k) → HasTaken fold.kind fold.acc mid new q (map at (places_in (l ∷ ls) q (i * extent ls + own.start) own.count))
    none at q other =
        subst (λ xs. HasTaken fold.kind fold.acc mid new q xs) (ap (map at) (sym (other_places l ls q i own.start own.count fits other)))
        (takes_none fold.kind fold.acc mid new q (outside q other))

    own_or_none : (at : ℕ → ℤ) → ((k : ℕ) → k < done + own.count → at (places.start + k) ≡ element_at Little fold.from input k) → (q : ℕ)
        → HasTaken fold.kind fold.acc mid new q (map at (places_in (l ∷ ls) q (i * extent ls + own.start) own.count))
    own_or_none at agrees q =
        ⊎_elim
        (λ (below : q < i * result_step l ls). none at q (λ k less s. omega arith))
        (λ (from : i * result_step l ls ≤ q). ⊎_elim
        (λ (below : q < i * result_step l ls + results ls). this at agrees q (q - i * result_step l ls) (omega arith) (omega arith))
        (λ (past : i * result_step l ls + results ls ≤ q). none at q (λ k less s. omega arith))
        (cases_lt q (i * result_step l ls + results ls)))
        (cases_lt q (i * result_step l ls))

-- no place has been reached
pub no_part : (fold : Fold) (ls : List Level) (start : ℕ) (input old : List ℕ) → TakesPart fold ls (record { start = start; count = 0 }) input old old
no_part fold ls start input old = record { each = λ at agrees q less. takes_none fold.kind fold.acc old old q refl }

-- ---- an index that some places reach

pub record AtIndex (places : Places) (level : Level) (rest : List Level) (inner i : ℕ) : Type 0 where
  pub is : inner ≡ extent rest
  pub below : i < level.size
  pub begun : places.start < i * inner + inner
  pub reached : i * inner < places.start + places.count

divided : (a b m : ℕ) → 0 < a → m ≡ a * b → m / a ≡ b
divided a b m h e =
    let none : m ≡ b * a + 0 = omega (arith, e) in
    ap (λ k. k / a) none ∙ div-mul-add b a 0 h

index_begun : (x i inner : ℕ) → 0 < inner → x / inner ≤ i → x < i * inner + inner
index_begun x i inner some h =
    let far : x / inner * inner ≤ i * inner = mul-le-mul_right inner h in
    omega (arith, far, div-add-mod' x inner, mod_below x inner some)

index_reached : (x i inner : ℕ) → i ≤ x / inner → i * inner ≤ x
index_reached x i inner h =
    let far : i * inner ≤ x / inner * inner = mul-le-mul_right inner h in
    omega (arith, far, div-add-mod' x inner)

pub index_below : (i n inner : ℕ) → i * inner < n * inner → i < n
index_below i n inner h =
    ⊎_elim (λ (less : i < n). less) (λ (least : n ≤ i). let far : n * inner ≤ i * inner = mul-le-mul_right inner least in absurd (omega (arith, far))) (cases_lt i n)

pub inner_is : (places : Places) (level : Level) (rest levels : List Level) (whole : ℕ) → levels ≡ level ∷ rest → whole ≡ extent levels → places.start + places.count ≤ whole → places.count ≢ 0
    → (whole / level.size ≡ extent rest) × (0 < whole / level.size)
inner_is places level rest levels whole e split fits some =
    let all : whole ≡ level.size * extent rest = split ∙ ap extent e in
    let count : 0 < places.count = omega (arith, some) in
    let turn : level.size * extent rest ≡ extent rest * level.size = omega arith in
    let size : 0 < level.size = positive_last (extent rest) level.size 0 (omega (arith, all)) in
    let is = divided level.size (extent rest) whole size all in
    let inner : 0 < extent rest = positive_last level.size (extent rest) 0 (omega (arith, all)) in
    (is, omega (arith, is, inner))

pub at_index : (places : Places) (level : Level) (rest levels : List Level) (whole i : ℕ) → levels ≡ level ∷ rest → whole ≡ extent levels → places.start + places.count ≤ whole → places.count ≢ 0
    → places.start / (whole / level.size) ≤ i → i < (places.start + places.count - 1) / (whole / level.size) + 1 → AtIndex places level rest (whole / level.size) i
at_index places level rest levels whole i e split fits some least less =
    let inner = whole / level.size in
    let known = inner_is places level rest levels whole e split fits some in
    let last : i * inner ≤ places.start + places.count - 1 = index_reached (places.start + places.count - 1) i inner (omega arith) in
    let all : whole ≡ level.size * inner = split ∙ ap extent e ∙ ap (λ k. level.size * k) (sym known.0) in
    record {
      is = known.0;
      below = index_below i level.size inner (omega (arith, last, all, some));
      begun = index_begun places.start i inner known.1 least;
      reached = omega (arith, last, some);
    }

-- the places within the index
pub record IsWithin (places own : Places) (inner first : ℕ) : Type 0 where
  pub start : own.start ≡ places.start - first
  pub count : own.count ≡ min (inner - (places.start - first)) (places.count - (first - places.start))

pub within_fits : (places own : Places) (inner first : ℕ) → IsWithin places own inner first → places.start < first + inner → own.start + own.count ≤ inner
within_fits places own inner first h begun = omega (arith, h.start, h.count)

pub within_follows : (places own : Places) (inner first : ℕ) → IsWithin places own inner first → places.start < first + inner → first < places.start + places.count
    → (places.start + min places.count (first - places.start) ≡ first + own.start) × (min places.count (first - places.start) + own.count ≤ places.count)
    × (min places.count (first + inner - places.start) ≡ min places.count (first - places.start) + own.count)
within_follows places own inner first h begun reached = (omega (arith, h.start, h.count), omega (arith, h.start, h.count), omega (arith, h.start, h.count))

-- the elements within it
pub later_fits : (places : Places) (first skip s size bytes : ℕ) → first < places.start + places.count → skip ≡ first - places.start → size ≡ s → places.count * s ≤ bytes → skip * size ≤ bytes
later_fits places first skip s size bytes reached is same fits =
    let far : skip * s ≤ places.count * s = mul-le-mul_right s (omega arith) in
    let turn : skip * size ≡ skip * s = ap (λ k. skip * k) same in
    omega (arith, far, turn)

pub within_later : (places own : Places) (inner first skip s size : ℕ) (input after : List ℕ) → IsWithin places own inner first → first < places.start + places.count → skip ≡ first - places.start → size ≡ s
    → places.count * s ≤ length input → after ≡ drop (skip * size) input → own.count * s ≤ length after
within_later places own inner first skip s size input after h reached is same fits e =
    let far : (skip + own.count) * s ≤ places.count * s = mul-le-mul_right s (omega (arith, h.count)) in
    let turn : skip * size ≡ skip * s = ap (λ k. skip * k) same in
    let long : length after ≡ length input - skip * size = ap length e ∙ length-drop (skip * size) input in
    omega (arith, far, turn, long)

pub later_is : (places : Places) (first skip s size : ℕ) (input after : List ℕ) → first < places.start + places.count → skip ≡ first - places.start → size ≡ s → after ≡ drop (skip * size) input
    → after ≡ drop (min places.count (first - places.start) * s) input
later_is places first skip s size input after reached is same e =
    let own : skip ≡ min places.count (first - places.start) = omega arith in
    e ∙ (λ j. drop (own j * same j) input)

-- after the last index
pub all_reached : (places : Places) (level : Level) (rest levels : List Level) (whole i : ℕ) → levels ≡ level ∷ rest → whole ≡ extent levels → places.start + places.count ≤ whole → places.count ≢ 0
    → (places.start + places.count - 1) / (whole / level.size) + 1 ≤ i → min places.count (i * (whole / level.size) - places.start) ≡ places.count
all_reached places level rest levels whole i e split fits some past =
    let inner = whole / level.size in
    let known = inner_is places level rest levels whole e split fits some in
    let x = places.start + places.count - 1 in
    let end : x < x / inner * inner + inner = index_begun x (x / inner) inner known.1 (omega arith) in
    let far : (x / inner + 1) * inner ≤ i * inner = mul-le-mul_right inner past in
    omega (arith, end, far, some)

-- ---- the part of a buffer that an index has

pub record InRoom (level : Level) (rest : List Level) (s bytes i size step : ℕ) : Type 0 where
  pub wide : size ≡ results rest * s
  pub apart : step ≡ result_step level rest * s
  pub fits : i * step + size ≤ bytes

level_bytes : (n : ℕ) (b : Test) (rest : List Level) (s : ℕ) → results (record { size = n; is_reduced = b } ∷ rest) * s ≡ (if b then results rest * s else n * (results rest * s))
level_bytes n true rest s = refl
level_bytes n false rest s = omega arith

level_step : (n : ℕ) (b : Test) (rest : List Level) (s size step : ℕ) → step ≡ (if b then 0 else size) → size ≡ results rest * s → step ≡ result_step (record { size = n; is_reduced = b }) rest * s
level_step n true rest s size step e h = omega (arith, e)
level_step n false rest s size step e h = e ∙ h

level_fits : (n : ℕ) (b : Test) (i size step bytes : ℕ) → i < n → step ≡ (if b then 0 else size) → bytes ≡ (if b then size else n * size) → i * step + size ≤ bytes
level_fits n true i size step bytes less e h = let none : i * step ≡ 0 = ap (λ m. i * m) e ∙ omega arith in omega (arith, none, h)
level_fits n false i size step bytes less e h =
    let far : suc i * size ≤ n * size = mul-le-mul_right size less in
    let same : i * step ≡ i * size = ap (λ m. i * m) e in
    omega (arith, far, same, h)

pub in_room : (level : Level) (rest levels : List Level) (s bytes i size step : ℕ) → levels ≡ level ∷ rest → bytes ≡ results levels * s → i < level.size
    → ((own : ℕ) → bytes ≡ (if level.is_reduced then own else level.size * own) → size ≡ own) → step ≡ (if level.is_reduced then 0 else size) → InRoom level rest s bytes i size step
in_room level rest levels s bytes i size step e long less sized stepped =
    let all : bytes ≡ (if level.is_reduced then results rest * s else level.size * (results rest * s)) = long ∙ ap (λ ls. results ls * s) e ∙ level_bytes level.size level.is_reduced rest s in
    let wide = sized (results rest * s) all in
    record {
      wide = wide;
      apart = level_step level.size level.is_reduced rest s size step stepped wide;
      fits = level_fits level.size level.is_reduced i size step bytes less stepped (all ∙ ap (λ own. if level.is_reduced then own else level.size * own) (sym wide));
    }

-- Results that have taken the elements of whole indices of a level, and of places one after another.
use Rattle.std.proofs.Common.{◌≡◌, ◌≢◌, ℕ, ℤ, zero, suc, ◌+◌, ◌-◌, ◌*◌, ◌/◌, ◌%◌, ◌<◌, ◌≤◌, true, false, List, [], ◌∷◌, map, drop, refl, sym, ap, ◌∙◌, subst, arith, ⊎_elim}
use Rattle.std.specs.Prelude.{Bool as Test, ◌==◌, cond}
use Rattle.std.specs.List.{range_with_len, filter}
use Rattle.std.proofs.lemmas.Bool.{cases_lt}
use Rattle.std.proofs.lemmas.Nat.{div-add-mod', mod_below}
use Rattle.cu_num.specs.Dtype.{size_of}
use Rattle.cu_num.specs.Element.{element_at, bytes_at}
use Rattle.cu_num.specs.declared.layout.Endian.TheVariants.{Little}
use Rattle.cu_reduce.proofs.Ranges.{map-append, map-map}
use Rattle.cu_fold.specs.declared.levels.Level.{Level}
use Rattle.cu_fold.specs.declared.types.Fold.{Fold}
use Rattle.cu_fold.specs.declared.types.Places.{Places}
use Rattle.cu_fold.specs.Levels.{extent, results, result_step, result_of, places_in, moved, sources}
use Rattle.cu_fold.specs.Taken.{TakesAll, TakesPart}
use Rattle.cu_take.specs.Taken.{HasTaken}
use Rattle.cu_take.proofs.Buffers.{element_at_drop}
use Rattle.cu_take.proofs.Taking.{takes_more, takes_none, takes_same}
use Rattle.cu_fold.proofs.Merged.{positive_last}
use Rattle.cu_fold.proofs.PartTaken.{next_part, no_part}
use Rattle.cu_fold.proofs.ResultPlaces.{filter_shift, filter_none, not_same, same_behind, placed, result_below, places_append, all_places}

-- ---- places one after another

pub parts_follow : (fold : Fold) (ls : List Level) (start a b next : ℕ) (input after old mid new : List ℕ) → next ≡ start + a → after ≡ drop (a * size_of fold.from) input
    → TakesPart fold ls (record { start = start; count = a }) input old mid → TakesPart fold ls (record { start = next; count = b }) after mid new
    → TakesPart fold ls (record { start = start; count = a + b }) input old new
parts_follow fold ls start a b next input after old mid new e is first second = record {
  each = λ at agrees q less.
      subst (λ xs. HasTaken fold.kind fold.acc old new q xs)
      (sym (map-append at (places_in ls q start a) (places_in ls q (start + a) b)) ∙ ap (map at) (sym (places_append ls q start a b)))
      (takes_more fold.kind fold.acc old mid new q (map at (places_in ls q start a)) (map at (places_in ls q (start + a) b))
      (first.each at (λ k inside. agrees k (omega arith)) q less)
      (subst (λ p. HasTaken fold.kind fold.acc mid new q (map at (places_in ls q p b))) e
      (second.each at
      (λ k inside.
      let turn : next + k ≡ start + (a + k) = omega (arith, e) in
      ap at turn ∙ agrees (a + k) (omega arith) ∙ sym (ap (λ bytes. element_at Little fold.from bytes k) is ∙ element_at_drop fold.from input a k (a * size_of fold.from) refl))
      q less)));
}

-- ---- places within one index

pub index_part : (fold : Fold) (l : Level) (ls : List Level) (own : Places) (i : ℕ) (input old new old_part new_part : List ℕ) → own.start + own.count ≤ extent ls
    → ((q k : ℕ) → q ≡ i * result_step l ls + k → k < results ls → (bytes_at fold.acc old q ≡ bytes_at fold.acc old_part k) × (bytes_at fold.acc new q ≡ bytes_at fold.acc new_part k))
    → ((q : ℕ) → ((k : ℕ) → k < results ls → q ≢ i * result_step l ls + k) → bytes_at fold.acc new q ≡ bytes_at fold.acc old q)
    → TakesPart fold ls own input old_part new_part → TakesPart fold (l ∷ ls) (record { start = i * extent ls + own.start; count = own.count }) input old new
index_part fold l ls own i input old new old_part new_part fits inside outside h =
    let first = i * extent ls + own.start in
    let none : 0 * size_of fold.from ≡ 0 = omega arith in
    let all : 0 + own.count ≡ own.count = omega arith in
    let there : first + 0 ≡ i * extent ls + own.start = omega arith in
    subst (λ n. TakesPart fold (l ∷ ls) (record { start = first; count = n }) input old new) all
    (next_part fold l ls (record { start = first; count = own.count }) own i 0 input input old old new old_part new_part fits there (omega arith) (ap (λ j. drop j input) (sym none)) inside outside
    (no_part fold (l ∷ ls) first input old) h)

-- ---- whole indices

abbrev sized : ℕ → Test → Level
sized n b = record { size = n; is_reduced = b }

-- from index a on, each place goes as many results further on
shifted : (n c : ℕ) (b : Test) (ls : List Level) (a p : ℕ) → 0 < extent ls
    → result_of (sized n b ∷ ls) (a * extent ls + p)
    ≡ a * result_step (sized n b) ls + result_of (sized c b ∷ ls) p
shifted n c b ls a p some =
    let l = sized n b in
    let whole = extent ls in
    let step = result_step l ls in
    let turn : a * whole + p ≡ (a + p / whole) * whole + p % whole = omega (arith, div-add-mod' p whole) in
    let split : (a + p / whole) * step + result_of ls (p % whole) ≡ a * step + (p / whole * step + result_of ls (p % whole)) = omega arith in
    ap (result_of (l ∷ ls)) turn ∙ placed l ls (a + p / whole) (p % whole) (mod_below p whole some) ∙ split

kept_same : (f g : ℕ → ℤ) (b : Test) (x : ℕ) (xs : List ℕ) → f x ≡ g x → map f xs ≡ map g xs → map f (cond b (x ∷ xs) xs) ≡ map g (cond b (x ∷ xs) xs)
kept_same f g true x xs e h = λ i. e i ∷ h i
kept_same f g false x xs e h = h

filtered_same : (f g : ℕ → ℤ) (t : ℕ → Test) (a n : ℕ) → ((k : ℕ) → k < n → f (a + k) ≡ g (a + k)) → map f (filter t (range_with_len a n)) ≡ map g (filter t (range_with_len a n))
filtered_same f g t a zero h = refl
filtered_same f g t a (suc n) h =
    let none : a ≡ a + 0 = omega arith in
    kept_same f g (t a) a (filter t (range_with_len (a + 1) n)) (ap f none ∙ h 0 (omega arith) ∙ ap g (sym none))
    (filtered_same f g t (a + 1) n (λ k less. let e : a + 1 + k ≡ a + suc k = omega arith in ap f e ∙ h (suc k) (omega arith) ∙ ap g (sym e)))

pub whole_part : (fold : Fold) (n c a : ℕ) (b : Test) (ls : List Level) (input old new old_part new_part : List ℕ)
    → ((q k : ℕ) → q ≡ a * result_step (sized n b) ls + k → k < results (sized c b ∷ ls)
    → (bytes_at fold.acc old q ≡ bytes_at fold.acc old_part k) × (bytes_at fold.acc new q ≡ bytes_at fold.acc new_part k))
    → ((q : ℕ) → q < results (sized n b ∷ ls) → ((k : ℕ) → k < results (sized c b ∷ ls) → q ≢ a * result_step (sized n b) ls + k) → bytes_at fold.acc new q ≡ bytes_at fold.acc old q)
    → TakesAll fold (sized c b ∷ ls) input old_part new_part
    → TakesPart fold (sized n b ∷ ls) (record { start = a * extent ls; count = c * extent ls }) input old new
whole_part fold n c a b ls input old new old_part new_part inside outside h = record {
  each = λ at agrees q less.
      ⊎_elim
      (λ (below : q < a * result_step (sized n b) ls). none at q less (λ k less e. omega arith))
      (λ (from : a * result_step (sized n b) ls ≤ q). ⊎_elim
      (λ (below : q < a * result_step (sized n b) ls + results (sized c b ∷ ls)). own at agrees q (q - a * result_step (sized n b) ls) (omega arith) (omega arith))
      (λ (past : a * result_step (sized n b) ls + results (sized c b ∷ ls) ≤ q). none at q less (λ k less e. omega arith))
      (cases_lt q (a * result_step (sized n b) ls + results (sized c b ∷ ls))))
      (cases_lt q (a * result_step (sized n b) ls));
}
  where
    at_place : (k : ℕ) → k < c * extent ls → result_of (sized n b ∷ ls) (a * extent ls + k) ≡ a * result_step (sized n b) ls + result_of (sized c b ∷ ls) k
    at_place k less = shifted n c b ls a k (positive_last c (extent ls) k less)

    from_first : (q : ℕ) → places_in (sized n b ∷ ls) q (a * extent ls) (c * extent ls) ≡ places_in (sized n b ∷ ls) q (a * extent ls + 0) (c * extent ls)
    from_first q = let e : a * extent ls ≡ a * extent ls + 0 = omega arith in ap (λ p. places_in (sized n b ∷ ls) q p (c * extent ls)) e

    own_list : (q k : ℕ) → q ≡ a * result_step (sized n b) ls + k → places_in (sized n b ∷ ls) q (a * extent ls) (c * extent ls) ≡ moved (a * extent ls) (places_in (sized c b ∷ ls) k 0 (c * extent ls))
    own_list q k e =
        from_first q
        ∙ filter_shift (λ p. result_of (sized n b ∷ ls) p == q) (λ p. result_of (sized c b ∷ ls) p == k) (a * extent ls) 0 (c * extent ls)
        (λ j less. let turn : 0 + j < c * extent ls = omega arith in ap (λ r. r == q) (at_place (0 + j) turn) ∙ same_behind (a * result_step (sized n b) ls) (result_of (sized c b ∷ ls) (0 + j)) k q e)

    none : (at : ℕ → ℤ) (q : ℕ) → q < results (sized n b ∷ ls) → ((k : ℕ) → k < results (sized c b ∷ ls) → q ≢ a * result_step (sized n b) ls + k) → HasTaken fold.kind fold.acc old new q (map at (places_in (sized n b ∷ ls) q (a * extent ls) (c * extent ls)))
    none at q less other =
        let empty : places_in (sized n b ∷ ls) q (a * extent ls) (c * extent ls) ≡ [] =
        filter_none (λ p. result_of (sized n b ∷ ls) p == q) (a * extent ls) (c * extent ls)
        (λ j inner. not_same (result_of (sized n b ∷ ls) (a * extent ls + j)) q (λ e. other (result_of (sized c b ∷ ls) j) (result_below (sized c b ∷ ls) j inner) (sym e ∙ at_place j inner))) in
        subst (λ xs. HasTaken fold.kind fold.acc old new q xs) (ap (map at) (sym empty)) (takes_none fold.kind fold.acc old new q (outside q less other))

    own : (at : ℕ → ℤ) → ((k : ℕ) → k < c * extent ls → at (a * extent ls + k) ≡ element_at Little fold.from input k) → (q k : ℕ) → q ≡ a * result_step (sized n b) ls + k → k < results (sized c b ∷ ls)
        → HasTaken fold.kind fold.acc old new q (map at (places_in (sized n b ∷ ls) q (a * extent ls) (c * extent ls)))
    own at agrees q k e less =
        let bytes = inside q k e less in
        let same : map (λ p. element_at Little fold.from input p) (sources (sized c b ∷ ls) k) ≡ map at (places_in (sized n b ∷ ls) q (a * extent ls) (c * extent ls)) =
        ap (map (λ p. element_at Little fold.from input p)) (sym (all_places (sized c b ∷ ls) k less))
        ∙ filtered_same (λ p. element_at Little fold.from input p) (λ p. at (a * extent ls + p)) (λ p. result_of (sized c b ∷ ls) p == k) 0 (c * extent ls)
        (λ j below. let turn : 0 + j < c * extent ls = omega arith in sym (agrees (0 + j) turn))
        ∙ sym (map-map at (λ p. a * extent ls + p) (places_in (sized c b ∷ ls) k 0 (c * extent ls)))
        ∙ ap (map at) (sym (own_list q k e)) in
        subst (λ xs. HasTaken fold.kind fold.acc old new q xs) same (takes_same fold.kind fold.acc old new old_part new_part q k _ bytes.0 bytes.1 (h k less))

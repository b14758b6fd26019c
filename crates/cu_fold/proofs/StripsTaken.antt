-- Regions whose elements are taken strip by strip.
use Rattle.std.proofs.Common.{◌≡◌, ℕ, ℤ, zero, suc, ◌+◌, ◌-◌, ◌*◌, ◌<◌, ◌≤◌, true, false, List, [], ◌∷◌, ◌++◌, map, get_or, length, refl, sym, ap, ◌∙◌, subst, arith, All, mul-le-mul_right, ⊎_elim}
use Rattle.std.specs.Prelude.{Bool as Test, ◌==◌, cond, nat_lt}
use Rattle.std.specs.List.{range_with_len, filter}
use Rattle.std.proofs.lemmas.Bool.{cases_lt}
use Rattle.std.proofs.lemmas.Bool.Decides.{nat_tests}
use Rattle.std.proofs.lemmas.List.Elements.{filter-append, All-filter, All-map}
use Rattle.std.proofs.lemmas.List.FromFn.{get_or-range_with_len, length-range_with_len}
use Rattle.cu_num.specs.Dtype.{size_of, InRange}
use Rattle.cu_num.specs.Element.{element_at, element_bytes}
use Rattle.cu_num.specs.Wrap.{wrapped}
use Rattle.cu_num.specs.declared.layout.Endian.TheVariants.{Little}
use Rattle.cu_num.proofs.ElementBytes.{InRange-element_at}
use Rattle.cu_shape.specs.Index.{product, place_of, IsInside}
use Rattle.cu_shape.proofs.Places.{place-below}
use Rattle.cu_origin.specs.Pull.{has_axis}
use Rattle.cu_reduce.specs.Folds.{fold_of}
use Rattle.cu_reduce.specs.Groups.{group_indices}
use Rattle.cu_reduce.specs.Kinds.{Accumulates, IsTaken, HasEnough, unit_of}
use Rattle.cu_reduce.specs.Numbers.{HasNumber}
use Rattle.cu_reduce.specs.Running.{running, IsEnough}
use Rattle.cu_reduce.proofs.Folding.{running_append, running_in_range, running_unit, unit_in_range}
use Rattle.cu_reduce.proofs.Ranges.{map-append, map-map}
use Rattle.cu_reduce.proofs.Regions.{append_none}
use Rattle.cu_take.proofs.Buffers.{bytes_wrapped}
use Rattle.cu_take.proofs.Taking.{taken_element}
use Rattle.cu_fold.specs.declared.levels.Level.{Level}
use Rattle.cu_fold.specs.declared.types.RegionFold.{RegionFold}
use Rattle.cu_fold.specs.Levels.{results, result_of, places_in, levels_from, IsAlike}
use Rattle.cu_fold.specs.Strips.{fold_groups, result_sizes, group_places, HasFoldedTo}
use Rattle.cu_fold.specs.Taken.{TakesPart}
use Rattle.cu_fold.proofs.Groups.{extent_is, results_is, group_sources, some_sources}
use Rattle.cu_fold.proofs.Merged.{alike_same}
use Rattle.cu_fold.proofs.ResultPlaces.{places_append, all_places}
use Rattle.cu_fold.proofs.Totals.{has_enough}

-- ---- the places below a number

kept_passes : (f : ℕ → Test) (b : Test) (x : ℕ) (xs : List ℕ) → f x ≡ true → filter f (cond b (x ∷ xs) xs) ≡ cond b (x ∷ filter f xs) (filter f xs)
kept_passes f true x xs e = λ i. cond (e i) (x ∷ filter f xs) (filter f xs)
kept_passes f false x xs e = refl

kept_fails : (f : ℕ → Test) (b : Test) (x : ℕ) (xs : List ℕ) → f x ≡ false → filter f (cond b (x ∷ xs) xs) ≡ filter f xs
kept_fails f true x xs e = λ i. cond (e i) (x ∷ filter f xs) (filter f xs)
kept_fails f false x xs e = refl

all_pass : (f g : ℕ → Test) (a n : ℕ) → ((k : ℕ) → k < n → f (a + k) ≡ true) → filter f (filter g (range_with_len a n)) ≡ filter g (range_with_len a n)
all_pass f g a zero h = refl
all_pass f g a (suc n) h =
    let none : a ≡ a + 0 = omega arith in
    kept_passes f (g a) a (filter g (range_with_len (a + 1) n)) (ap f none ∙ h 0 (omega arith))
    ∙ ap (λ xs. cond (g a) (a ∷ xs) xs) (all_pass f g (a + 1) n (λ k less. let e : a + 1 + k ≡ a + suc k = omega arith in ap f e ∙ h (suc k) (omega arith)))

none_pass : (f g : ℕ → Test) (a n : ℕ) → ((k : ℕ) → k < n → f (a + k) ≡ false) → filter f (filter g (range_with_len a n)) ≡ []
none_pass f g a zero h = refl
none_pass f g a (suc n) h =
    let none : a ≡ a + 0 = omega arith in
    kept_fails f (g a) a (filter g (range_with_len (a + 1) n)) (ap f none ∙ h 0 (omega arith))
    ∙ none_pass f g (a + 1) n (λ k less. let e : a + 1 + k ≡ a + suc k = omega arith in ap f e ∙ h (suc k) (omega arith))

is_below : (p n : ℕ) → p < n → nat_lt p n ≡ true
is_below p n h = grind (arith, nat_tests)

is_not_below : (p n : ℕ) → n ≤ p → nat_lt p n ≡ false
is_not_below p n h = grind (arith, nat_tests)

none_below : (ps : List ℕ) → filter (λ p. nat_lt p 0) ps ≡ []
none_below [] = refl
none_below (p ∷ ps) = (λ i. cond (is_not_below p 0 (omega arith) i) (p ∷ filter (λ p. nat_lt p 0) ps) (filter (λ p. nat_lt p 0) ps)) ∙ none_below ps

-- of the places of a result, those below n
places_below : (ls : List Level) (q n e : ℕ) → n ≤ e → filter (λ p. nat_lt p n) (places_in ls q 0 e) ≡ places_in ls q 0 n
places_below ls q n e h =
    let sum : e ≡ n + (e - n) = omega arith in
    ap (λ m. filter (λ p. nat_lt p n) (places_in ls q 0 m)) sum ∙ ap (filter (λ p. nat_lt p n)) (places_append ls q 0 n (e - n))
    ∙ filter-append (λ p. nat_lt p n) (places_in ls q 0 n) (places_in ls q (0 + n) (e - n))
    ∙ (λ i. all_pass (λ p. nat_lt p n) (λ p. result_of ls p == q) 0 n (λ k less. is_below (0 + k) n (omega arith)) i ++ none_pass (λ p. nat_lt p n) (λ p. result_of ls p == q) (0 + n) (e - n) (λ k less. is_not_below (0 + n + k) n (omega arith)) i)
    ∙ append_none (places_in ls q 0 n)

-- ---- the places of a group

result_below : (fold : RegionFold) (idx : List ℕ) → IsInside (result_sizes fold) idx → place_of (result_sizes fold) idx < results (levels_from (has_axis fold.axes) 0 fold.dims)
result_below fold idx inside = omega (arith, place-below (result_sizes fold) idx inside, results_is (has_axis fold.axes) 0 fold.dims)

group_is : (fold : RegionFold) (levels : List Level) (idx : List ℕ) → IsAlike levels (levels_from (has_axis fold.axes) 0 fold.dims) → IsInside (result_sizes fold) idx
    → group_places fold idx ≡ places_in levels (place_of (result_sizes fold) idx) 0 (product fold.dims)
group_is fold levels idx alike inside =
    let p = has_axis fold.axes in
    let q = place_of (result_sizes fold) idx in
    let own : q < results (levels_from p 0 fold.dims) = result_below fold idx inside in
    group_sources p 0 fold.dims idx inside ∙ sym (alike.same_sources q own) ∙ sym (all_places levels q (omega (arith, own, alike.same_results)))
    ∙ ap (places_in levels q 0) (alike.same_extent ∙ extent_is p 0 fold.dims)

-- ---- strips

pub begun : (fold : RegionFold) (out : List ℕ) (bytes : ℕ) (at : ℕ → ℤ) → bytes ≡ product (result_sizes fold) * size_of fold.acc
    → ((q : ℕ) → q * size_of fold.acc + size_of fold.acc ≤ bytes → HasNumber fold.acc out q (unit_of fold.kind fold.acc)) → HasFoldedTo fold at 0 out
begun fold out bytes at long filled = record {
  range = λ p less. absurd (omega arith);
  numbers = λ idx inside.
      let q = place_of (result_sizes fold) idx in
      let last : suc q * size_of fold.acc ≤ product (result_sizes fold) * size_of fold.acc = mul-le-mul_right (size_of fold.acc) (place-below (result_sizes fold) idx inside) in
      subst (λ ps. HasNumber fold.acc out q (running fold.kind fold.acc (unit_of fold.kind fold.acc) (map at ps))) (sym (none_below (group_places fold idx)))
      (filled q (omega (arith, last, long)));
}

pub strip_taken : (fold : RegionFold) (levels : List Level) (start count : ℕ) (input old new : List ℕ) (at : ℕ → ℤ) → IsAlike levels (levels_from (has_axis fold.axes) 0 fold.dims)
    → start + count ≤ product fold.dims → TakesPart (record { kind = fold.kind; from = fold.from; acc = fold.acc }) levels (record { start = start; count = count }) input old new
    → ((k : ℕ) → k < count → at (start + k) ≡ element_at Little fold.from input k) → HasFoldedTo fold at start old → HasFoldedTo fold at (start + count) new
strip_taken fold levels start count input old new at alike fits takes agrees has = record {
  range = λ p less.
      ⊎_elim
      (λ (early : p < start). has.range p early)
      (λ (late : start ≤ p).
      let k = p - start in
      let place : start + k ≡ p = omega arith in
      subst (InRange fold.from) (sym (agrees k (omega arith)) ∙ ap at place) (InRange-element_at Little fold.from input k))
      (cases_lt p start);
  numbers = λ idx inside.
      let kind = fold.kind in
      let acc = fold.acc in
      let q = place_of (result_sizes fold) idx in
      let own : q < results levels = omega (arith, result_below fold idx inside, alike.same_results) in
      let unit = unit_of kind acc in
      let group = group_is fold levels idx alike inside in
      let before : filter (λ p. nat_lt p start) (group_places fold idx) ≡ places_in levels q 0 start =
      ap (filter (λ p. nat_lt p start)) group ∙ places_below levels q start (product fold.dims) (omega arith) in
      let after : filter (λ p. nat_lt p (start + count)) (group_places fold idx) ≡ places_in levels q 0 (start + count) =
      ap (filter (λ p. nat_lt p (start + count))) group ∙ places_below levels q (start + count) (product fold.dims) fits in
      let first : List ℤ = map at (places_in levels q 0 start) in
      let next : List ℤ = map at (places_in levels q start count) in
      let turn : 0 + start ≡ start = omega arith in
      let split : map at (places_in levels q 0 (start + count)) ≡ first ++ next =
      ap (map at) (places_append levels q 0 start count ∙ ap (λ a. places_in levels q 0 start ++ places_in levels q a count) turn) ∙ map-append at (places_in levels q 0 start) (places_in levels q start count) in
      let had : HasNumber acc old q (running kind acc unit first) = subst (λ ps. HasNumber acc old q (running kind acc unit (map at ps))) before (has.numbers idx inside) in
      let took : HasNumber acc new q (running kind acc (running kind acc unit first) next) =
      (takes.each at agrees q own).number (running kind acc unit first) (running_in_range kind acc unit first (unit_in_range kind acc)) had in
      subst (λ ps. HasNumber acc new q (running kind acc unit (map at ps))) (sym after)
      (subst (λ xs. HasNumber acc new q (running kind acc unit xs)) (sym split) (subst (λ z. HasNumber acc new q z) (sym (running_append kind acc unit first next)) took));
}

-- ---- all places

range_all : (P : ℕ → Type 0) (n : ℕ) → ((k : ℕ) → k < n → P k) → All P (range_with_len 0 n)
range_all P n h i d less =
    let inside : i < n = omega (arith, less, length-range_with_len 0 n) in
    let is : i ≡ get_or (range_with_len 0 n) i d = (let e : i ≡ 0 + i = omega arith in e) ∙ sym (get_or-range_with_len 0 n i d inside) in
    subst P is (h i inside)

length_map : (at : ℕ → ℤ) (ps : List ℕ) → length (map at ps) ≡ length ps
length_map at [] = refl
length_map at (p ∷ ps) = ap suc (length_map at ps)

pub whole_folded : (fold : RegionFold) (at : ℕ → ℤ) (out : List ℕ) → Accumulates fold.kind fold.from fold.acc → HasEnough fold.kind (fold_groups fold) fold.dims
    → HasFoldedTo fold at (product fold.dims) out → (idx : List ℕ) → IsInside (result_sizes fold) idx
    → HasNumber fold.acc out (place_of (result_sizes fold) idx) (fold_of fold.kind (map (λ i. at (place_of fold.dims i)) (group_indices (fold_groups fold) fold.dims idx)))
whole_folded fold at out a enough has idx inside =
    let kind = fold.kind in
    let acc = fold.acc in
    let p = has_axis fold.axes in
    let levels = levels_from p 0 fold.dims in
    let n = product fold.dims in
    let q = place_of (result_sizes fold) idx in
    let ps = group_places fold idx in
    let xs : List ℤ = map at ps in
    let group : ps ≡ places_in levels q 0 n = group_is fold levels idx (alike_same levels) inside in
    let all : filter (λ p. nat_lt p n) ps ≡ ps = ap (filter (λ p. nat_lt p n)) group ∙ places_below levels q n n (omega arith) ∙ sym group in
    let some : IsEnough kind (length xs) =
    has_enough kind (fold_groups fold) fold.dims (length xs) enough
    (λ h. omega (arith, length_map at ps, ap length (group_sources p 0 fold.dims idx inside), some_sources p 0 fold.dims h q)) in
    let taken : All (IsTaken kind acc) xs =
    All-map (IsTaken kind acc) at ps
    (subst (All (λ p. IsTaken kind acc (at p))) (sym group)
    (All-filter (λ p. result_of levels p == q) (λ p. IsTaken kind acc (at p)) (range_with_len 0 n) (range_all (λ p. IsTaken kind acc (at p)) n (λ k less. taken_element kind fold.from acc (at k) a (has.range k less))))) in
    let own : running kind acc (unit_of kind acc) xs ≡ wrapped acc (fold_of kind xs) = running_unit kind fold.from acc xs a some taken in
    let number : HasNumber acc out q (running kind acc (unit_of kind acc) xs) = subst (λ ps. HasNumber acc out q (running kind acc (unit_of kind acc) (map at ps))) all (has.numbers idx inside) in
    number ∙ bytes_wrapped acc (running kind acc (unit_of kind acc) xs) (fold_of kind xs) own
    ∙ ap (λ ys. element_bytes Little acc (fold_of kind ys)) (map-map at (place_of fold.dims) (group_indices (fold_groups fold) fold.dims idx))

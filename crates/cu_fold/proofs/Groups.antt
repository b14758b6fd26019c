-- The groups of a region's axes that are reduced whole, as levels.
use Rattle.std.proofs.Common.{◌≡◌, ℕ, zero, suc, ◌+◌, ◌-◌, ◌*◌, ◌/◌, ◌%◌, ◌<◌, true, false, List, [], ◌∷◌, map, length, min, max, Option, None, Some, refl, sym, ap, ◌∙◌, arith, if◌then◌else◌}
use Rattle.std.specs.Prelude.{Bool as Test}
use Rattle.std.specs.Int.{div_ceil}
use Rattle.std.specs.List.{range_with_len, flat_map}
use Rattle.std.proofs.lemmas.Nat.{div-mul-add, mod-mul-add}
use Rattle.cu_shape.specs.Index.{product, place_of, IsInside}
use Rattle.cu_shape.proofs.Places.{place-below}
use Rattle.cu_reduce.specs.Groups.{Groups, groups_from, group_counts, group_lo, group_hi, group_indices, HasElements}
use Rattle.cu_reduce.specs.Regions.{region_indices}
use Rattle.cu_reduce.proofs.Ranges.{map-map, map-flat_map}
use Rattle.cu_reduce.proofs.Regions.{region_front, region_one}
use Rattle.cu_fold.specs.Levels.{extent, results, chained, moved, sources, levels_from}
use Rattle.cu_fold.proofs.Chains.{chained_flat, moved_some, chained_some}

pub extent_is : (p : ℕ → Test) (f : ℕ) (ns : List ℕ) → extent (levels_from p f ns) ≡ product ns
extent_is p f [] = refl
extent_is p f (n ∷ ns) = ap (λ e. n * e) (extent_is p (f + 1) ns)

-- an axis that is reduced whole has one group
one_group : (n : ℕ) → max 1 (div_ceil n n) ≡ 1
one_group zero = refl
one_group (suc n) =
    let own : suc n ≡ 1 * suc n + 0 = omega arith in
    let quotient : suc n / suc n ≡ 1 = ap (λ m. m / suc n) own ∙ div-mul-add 1 (suc n) 0 (omega arith) in
    let remainder : suc n % suc n ≡ 0 = ap (λ m. m % suc n) own ∙ mod-mul-add 1 (suc n) 0 (omega arith) in
    omega (arith, quotient, remainder)

-- ---- one axis, by whether it is reduced

abbrev group : ℕ → Test → Option ℕ
group n b = if b then Some n else None

results_axis : (n r : ℕ) (b : Test) (gs : Groups) (ns : List ℕ) → r ≡ product (group_counts gs ns) → (if b then r else n * r) ≡ product (group_counts (group n b ∷ gs) (n ∷ ns))
results_axis n r true gs ns e = e ∙ (let c = one_group n in let one : product (group_counts gs ns) ≡ 1 * product (group_counts gs ns) = omega arith in one ∙ ap (λ m. m * product (group_counts gs ns)) (sym c))
results_axis n r false gs ns e = ap (λ m. n * m) e

pub results_is : (p : ℕ → Test) (f : ℕ) (ns : List ℕ) → results (levels_from p f ns) ≡ product (group_counts (groups_from p f ns) ns)
results_is p f [] = refl
results_is p f (n ∷ ns) = results_axis n (results (levels_from p (f + 1) ns)) (p f) (groups_from p (f + 1) ns) ns (results_is p (f + 1) ns)

-- places of a region's indices, by the first number
front_places : (n : ℕ) (ns : List ℕ) (d : ℕ) (region : List (List ℕ)) → map (place_of (n ∷ ns)) (map (λ js. d ∷ js) region) ≡ moved (d * product ns) (map (place_of ns) region)
front_places n ns d region = map-map (place_of (n ∷ ns)) (λ js. d ∷ js) region ∙ sym (map-map (λ p. d * product ns + p) (place_of ns) region)

reduced_places : (n i : ℕ) (ns is : List ℕ) (gs : Groups) → i ≡ 0 → map (place_of (n ∷ ns)) (group_indices (Some n ∷ gs) (n ∷ ns) (i ∷ is)) ≡ chained n (λ d. moved (d * product ns) (map (place_of ns) (group_indices gs ns is)))
reduced_places n i ns is gs e =
    let region = group_indices gs ns is in
    let lo : i * n ≡ 0 = omega (arith, ap (λ k. k * n) e) in
    let hi : min n (suc i * n) ≡ n = ap (λ k. min n (suc k * n)) e ∙ omega arith in
    let size : n - 0 ≡ n = omega arith in
    ap (map (place_of (n ∷ ns)))
    ((λ j. region_indices (lo j ∷ group_lo gs is) (hi j ∷ group_hi gs ns (map suc is))) ∙ region_front 0 n (group_lo gs is) (group_hi gs ns (map suc is))
    ∙ ap (λ k. flat_map (λ d. map (λ js. d ∷ js) region) (range_with_len 0 k)) size)
    ∙ map-flat_map (place_of (n ∷ ns)) (λ d. map (λ js. d ∷ js) region) (range_with_len 0 n)
    ∙ (λ j. flat_map (λ d. front_places n ns d region j) (range_with_len 0 n))
    ∙ chained_flat n (λ d. moved (d * product ns) (map (place_of ns) region))

kept_places : (n i : ℕ) (ns is : List ℕ) (gs : Groups) → map (place_of (n ∷ ns)) (group_indices (None ∷ gs) (n ∷ ns) (i ∷ is)) ≡ moved (i * product ns) (map (place_of ns) (group_indices gs ns is))
kept_places n i ns is gs =
    ap (map (place_of (n ∷ ns))) (region_one i (suc i) (group_lo gs is) (group_hi gs ns (map suc is)) refl) ∙ front_places n ns i (group_indices gs ns is)

axis_sources : (n : ℕ) (b : Test) (i : ℕ) (ns is : List ℕ) (gs : Groups) (e r : ℕ) (s : ℕ → List ℕ) → e ≡ product ns → r ≡ product (group_counts gs ns)
    → IsInside (group_counts (group n b ∷ gs) (n ∷ ns)) (i ∷ is)
    → map (place_of ns) (group_indices gs ns is) ≡ s (place_of (group_counts gs ns) is)
    → map (place_of (n ∷ ns)) (group_indices (group n b ∷ gs) (n ∷ ns) (i ∷ is))
    ≡ (let q = place_of (group_counts (group n b ∷ gs) (n ∷ ns)) (i ∷ is) in if b then chained n (λ d. moved (d * e) (s q)) else moved (q / r * e) (s (q % r)))
axis_sources n true i ns is gs e r s ee er inside h =
    let first : i ≡ 0 = let c = one_group n in let l = inside.0 in omega arith in
    let q : place_of (group_counts gs ns) is ≡ i * product (group_counts gs ns) + place_of (group_counts gs ns) is = omega (arith, ap (λ k. k * product (group_counts gs ns)) first) in
    reduced_places n i ns is gs first ∙ (λ j. chained n (λ d. moved (d * sym ee j) (h j))) ∙ ap (λ k. chained n (λ d. moved (d * e) (s k))) q
axis_sources n false i ns is gs e r s ee er inside h =
    let place = place_of (group_counts gs ns) is in
    let total = product (group_counts gs ns) in
    let less : place < total = place-below (group_counts gs ns) is inside.1 in
    let quotient : (i * total + place) / total ≡ i = div-mul-add i total place less in
    let remainder : (i * total + place) % total ≡ place = mod-mul-add i total place less in
    kept_places n i ns is gs ∙ (λ j. moved (sym quotient j * sym ee j) (h j)) ∙ ap (λ k. moved ((i * total + place) / total * e) (s k)) (sym remainder)
    ∙ (λ j. moved ((i * total + place) / sym er j * e) (s ((i * total + place) % sym er j)))

-- the places of a group's elements are the sources of its result
pub group_sources : (p : ℕ → Test) (f : ℕ) (ns idx : List ℕ) → IsInside (group_counts (groups_from p f ns) ns) idx
    → map (place_of ns) (group_indices (groups_from p f ns) ns idx) ≡ sources (levels_from p f ns) (place_of (group_counts (groups_from p f ns) ns) idx)
group_sources p f [] [] h = refl
group_sources p f [] (i ∷ is) h = absurd h
group_sources p f (n ∷ ns) [] h = absurd (none_inside (p f) n (groups_from p (f + 1) ns) ns h)
  where
    none_inside : (b : Test) (n : ℕ) (gs : Groups) (ns : List ℕ) → IsInside (group_counts (group n b ∷ gs) (n ∷ ns)) [] → ⊥
    none_inside true n gs ns h = h
    none_inside false n gs ns h = h
group_sources p f (n ∷ ns) (i ∷ is) h =
    let gs = groups_from p (f + 1) ns in
    axis_sources n (p f) i ns is gs (extent (levels_from p (f + 1) ns)) (results (levels_from p (f + 1) ns)) (sources (levels_from p (f + 1) ns)) (extent_is p (f + 1) ns) (results_is p (f + 1) ns) h
    (group_sources p (f + 1) ns is (later_inside (p f) n i gs ns is h))
  where
    later_inside : (b : Test) (n i : ℕ) (gs : Groups) (ns is : List ℕ) → IsInside (group_counts (group n b ∷ gs) (n ∷ ns)) (i ∷ is) → IsInside (group_counts gs ns) is
    later_inside true n i gs ns is h = h.1
    later_inside false n i gs ns is h = h.1

-- where each axis that is reduced has an element, so has each result
some_axis : (n : ℕ) (b : Test) (ns : List ℕ) (gs : Groups) (e r : ℕ) (s : ℕ → List ℕ) → HasElements (group n b ∷ gs) (n ∷ ns) → (HasElements gs ns → (q : ℕ) → 0 < length (s q))
    → (q : ℕ) → 0 < length (if b then chained n (λ d. moved (d * e) (s q)) else moved (q / r * e) (s (q % r)))
some_axis n true ns gs e r s h g q = chained_some n (λ d. moved (d * e) (s q)) h.0 (λ d. moved_some (d * e) (s q) (g h.1 q))
some_axis n false ns gs e r s h g q = moved_some (q / r * e) (s (q % r)) (g h (q % r))

pub some_sources : (p : ℕ → Test) (f : ℕ) (ns : List ℕ) → HasElements (groups_from p f ns) ns → (q : ℕ) → 0 < length (sources (levels_from p f ns) q)
some_sources p f [] h = λ q. omega arith
some_sources p f (n ∷ ns) h =
    some_axis n (p f) ns (groups_from p (f + 1) ns) (extent (levels_from p (f + 1) ns)) (results (levels_from p (f + 1) ns)) (sources (levels_from p (f + 1) ns)) h (some_sources p (f + 1) ns)

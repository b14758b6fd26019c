-- The result that each place of a region goes into, and the places of each result.
use Rattle.std.proofs.Common.{◌≡◌, ◌≢◌, ℕ, zero, suc, ◌+◌, ◌*◌, ◌/◌, ◌%◌, ◌<◌, ◌≤◌, true, false, List, [], ◌∷◌, ◌++◌, map, refl, sym, ap, ◌∙◌, subst, arith, mul-le-mul_right, ⊎_elim}
use Rattle.std.specs.Prelude.{Bool as Test, ◌==◌, cond}
use Rattle.std.specs.List.{range_with_len, filter}
use Rattle.std.proofs.lemmas.Bool.{cases_lt}
use Rattle.std.proofs.lemmas.Bool.Decides.{nat_tests}
use Rattle.std.proofs.lemmas.List.Elements.{filter-append}
use Rattle.std.proofs.lemmas.Nat.{div-mul-add, mod-mul-add, div-add-mod', div_below, mod_below}
use Rattle.cu_reduce.proofs.Ranges.{range_append}
use Rattle.cu_reduce.proofs.Regions.{append_none}
use Rattle.cu_fold.specs.declared.levels.Level.{Level}
use Rattle.cu_fold.specs.Levels.{extent, results, chained, moved, sources, result_step, result_of, places_in}
use Rattle.cu_fold.proofs.Merged.{positive_last}

-- ---- numbers of a range that pass a test

kept_map : (h : ℕ → ℕ) (b : Test) (x : ℕ) (xs : List ℕ) → cond b (h x ∷ map h xs) (map h xs) ≡ map h (cond b (x ∷ xs) xs)
kept_map h true x xs = refl
kept_map h false x xs = refl

pub filter_shift : (f g : ℕ → Test) (m a n : ℕ) → ((k : ℕ) → k < n → f (m + (a + k)) ≡ g (a + k)) → filter f (range_with_len (m + a) n) ≡ map (λ p. m + p) (filter g (range_with_len a n))
filter_shift f g m a zero h = refl
filter_shift f g m a (suc n) h =
    let none : a + 0 ≡ a = omega arith in
    let same : f (m + a) ≡ g a = ap (λ p. f (m + p)) (sym none) ∙ h 0 (omega arith) ∙ ap g none in
    let next : m + a + 1 ≡ m + (a + 1) = omega arith in
    let rest : filter f (range_with_len (m + a + 1) n) ≡ map (λ p. m + p) (filter g (range_with_len (a + 1) n)) =
    ap (λ b. filter f (range_with_len b n)) next
    ∙ filter_shift f g m (a + 1) n (λ k less. let e : a + 1 + k ≡ a + suc k = omega arith in ap (λ p. f (m + p)) e ∙ h (suc k) (omega arith) ∙ ap g (sym e)) in
    (λ i. cond (same i) ((m + a) ∷ rest i) (rest i)) ∙ kept_map (λ p. m + p) (g a) a (filter g (range_with_len (a + 1) n))

pub filter_none : (f : ℕ → Test) (a n : ℕ) → ((k : ℕ) → k < n → f (a + k) ≡ false) → filter f (range_with_len a n) ≡ []
filter_none f a zero h = refl
filter_none f a (suc n) h =
    let none : a ≡ a + 0 = omega arith in
    (λ i. cond ((ap f none ∙ h 0 (omega arith)) i) (a ∷ filter f (range_with_len (a + 1) n)) (filter f (range_with_len (a + 1) n)))
    ∙ filter_none f (a + 1) n (λ k less. let e : a + 1 + k ≡ a + suc k = omega arith in ap f e ∙ h (suc k) (omega arith))

pub filter_all : (f : ℕ → Test) (a n : ℕ) → ((k : ℕ) → k < n → f (a + k) ≡ true) → filter f (range_with_len a n) ≡ range_with_len a n
filter_all f a zero h = refl
filter_all f a (suc n) h =
    let none : a ≡ a + 0 = omega arith in
    (λ i. cond ((ap f none ∙ h 0 (omega arith)) i) (a ∷ filter f (range_with_len (a + 1) n)) (filter f (range_with_len (a + 1) n)))
    ∙ ap (λ xs. a ∷ xs) (filter_all f (a + 1) n (λ k less. let e : a + 1 + k ≡ a + suc k = omega arith in ap f e ∙ h (suc k) (omega arith)))

-- ---- tests

pub same_behind : (a x k q : ℕ) → q ≡ a + k → (a + x == q) ≡ (x == k)
same_behind a x k q e = grind (arith, nat_tests)

pub not_same : (x q : ℕ) → x ≢ q → (x == q) ≡ false
not_same x q h = grind (arith, nat_tests)

-- ---- the result of a place

pub placed : (l : Level) (ls : List Level) (i o : ℕ) → o < extent ls → result_of (l ∷ ls) (i * extent ls + o) ≡ i * result_step l ls + result_of ls o
placed l ls i o less = λ j. div-mul-add i (extent ls) o less j * result_step l ls + result_of ls (mod-mul-add i (extent ls) o less j)

front_below : (n : ℕ) (b : Test) (ls : List Level) (p : ℕ) → ((o : ℕ) → o < extent ls → result_of ls o < results ls) → p < n * extent ls
    → result_of (record { size = n; is_reduced = b } ∷ ls) p < results (record { size = n; is_reduced = b } ∷ ls)
front_below n true ls p g h =
    let own = g (p % extent ls) (mod_below p (extent ls) (positive_last n (extent ls) p h)) in
    omega (arith, own)
front_below n false ls p g h =
    let some : 0 < extent ls = positive_last n (extent ls) p h in
    let own = g (p % extent ls) (mod_below p (extent ls) some) in
    let row : suc (p / extent ls) ≤ n = div_below p (extent ls) n some h in
    let far : suc (p / extent ls) * results ls ≤ n * results ls = mul-le-mul_right (results ls) row in
    omega (arith, own, far)

pub result_below : (ls : List Level) (p : ℕ) → p < extent ls → result_of ls p < results ls
result_below [] p h = omega arith
result_below (l ∷ ls) p h = front_below l.size l.is_reduced ls p (result_below ls) h

-- ---- the places of a result

pub places_append : (ls : List Level) (q a m n : ℕ) → places_in ls q a (m + n) ≡ places_in ls q a m ++ places_in ls q (a + m) n
places_append ls q a m n =
    ap (filter (λ p. result_of ls p == q)) (sym (range_append a m n)) ∙ filter-append (λ p. result_of ls p == q) (range_with_len a m) (range_with_len (a + m) n)

-- those at one index of a level, of a result of this index
pub own_places : (l : Level) (ls : List Level) (q i k o n : ℕ) → o + n ≤ extent ls → q ≡ i * result_step l ls + k → places_in (l ∷ ls) q (i * extent ls + o) n ≡ moved (i * extent ls) (places_in ls k o n)
own_places l ls q i k o n fits e =
    filter_shift (λ p. result_of (l ∷ ls) p == q) (λ p. result_of ls p == k) (i * extent ls) o n
    (λ j less. ap (λ r. r == q) (placed l ls i (o + j) (omega arith)) ∙ same_behind (i * result_step l ls) (result_of ls (o + j)) k q e)

-- of a result that isn't of this index there are none
pub other_places : (l : Level) (ls : List Level) (q i o n : ℕ) → o + n ≤ extent ls → ((k : ℕ) → k < results ls → q ≢ i * result_step l ls + k) → places_in (l ∷ ls) q (i * extent ls + o) n ≡ []
other_places l ls q i o n fits other =
    filter_none (λ p. result_of (l ∷ ls) p == q) (i * extent ls + o) n
    (λ j less.
    let turn : i * extent ls + o + j ≡ i * extent ls + (o + j) = omega arith in
    let at : result_of (l ∷ ls) (i * extent ls + o + j) ≡ i * result_step l ls + result_of ls (o + j) = ap (result_of (l ∷ ls)) turn ∙ placed l ls i (o + j) (omega arith) in
    not_same (result_of (l ∷ ls) (i * extent ls + o + j)) q (λ e. other (result_of ls (o + j)) (result_below ls (o + j) (omega arith)) (sym e ∙ at)))

-- ---- all places of a result

pub chained_places : (l : Level) (ls : List Level) (q m : ℕ) → places_in (l ∷ ls) q 0 (m * extent ls) ≡ chained m (λ i. places_in (l ∷ ls) q (i * extent ls) (extent ls))
chained_places l ls q zero = let e : 0 * extent ls ≡ 0 = omega arith in ap (places_in (l ∷ ls) q 0) e
chained_places l ls q (suc m) =
    let e : suc m * extent ls ≡ m * extent ls + extent ls = omega arith in
    let s : 0 + m * extent ls ≡ m * extent ls = omega arith in
    ap (places_in (l ∷ ls) q 0) e ∙ places_append (l ∷ ls) q 0 (m * extent ls) (extent ls)
    ∙ (λ j. chained_places l ls q m j ++ places_in (l ∷ ls) q (s j) (extent ls))

chained_none : (n : ℕ) (f : ℕ → List ℕ) → ((i : ℕ) → i < n → f i ≡ []) → chained n f ≡ []
chained_none zero f h = refl
chained_none (suc n) f h = (λ j. chained_none n f (λ i less. h i (omega arith)) j ++ h n (omega arith) j)

-- one list among empty ones
one_more : (n own : ℕ) (f : ℕ → List ℕ) → own < suc n → ((i : ℕ) → i ≢ own → f i ≡ []) → (own < n → chained n f ≡ f own) → chained (suc n) f ≡ f own
one_more n own f h g next =
    ⊎_elim
    (λ (less : own < n). (λ j. next less j ++ g n (λ (s : n ≡ own). omega arith) j) ∙ append_none (f own))
    (λ (least : n ≤ own).
    let same : own ≡ n = omega arith in
    (λ j. chained_none n f (λ i less. g i (λ (s : i ≡ own). omega arith)) j ++ f n) ∙ ap f (sym same))
    (cases_lt own n)

chained_one : (n own : ℕ) (f : ℕ → List ℕ) → own < n → ((i : ℕ) → i ≢ own → f i ≡ []) → chained n f ≡ f own
chained_one zero own f h g = absurd (omega arith)
chained_one (suc n) own f h g = one_more n own f h g (λ less. chained_one n own f less g)

index_sources : (n : ℕ) (b : Test) (ls : List Level) (q i k : ℕ) → k < results ls → q ≡ i * result_step (record { size = n; is_reduced = b }) ls + k → places_in ls k 0 (extent ls) ≡ sources ls k
    → places_in (record { size = n; is_reduced = b } ∷ ls) q (i * extent ls) (extent ls) ≡ moved (i * extent ls) (sources ls k)
index_sources n b ls q i k less e h =
    let none : i * extent ls ≡ i * extent ls + 0 = omega arith in
    ap (λ a. places_in (record { size = n; is_reduced = b } ∷ ls) q a (extent ls)) none ∙ own_places (record { size = n; is_reduced = b }) ls q i k 0 (extent ls) (omega arith) e ∙ ap (moved (i * extent ls)) h

level_places : (n : ℕ) (b : Test) (ls : List Level) (q : ℕ) → ((k : ℕ) → k < results ls → places_in ls k 0 (extent ls) ≡ sources ls k)
    → q < results (record { size = n; is_reduced = b } ∷ ls) → places_in (record { size = n; is_reduced = b } ∷ ls) q 0 (n * extent ls) ≡ sources (record { size = n; is_reduced = b } ∷ ls) q
level_places n true ls q g less =
    chained_places (record { size = n; is_reduced = true }) ls q n ∙ (λ j. chained n (λ i. index_sources n true ls q i q less (omega arith) (g q less) j))
level_places n false ls q g less =
    let l : Level = record { size = n; is_reduced = false } in
    let r = results ls in
    let some : 0 < r = positive_last n r q less in
    let whole : q ≡ q / r * r + q % r = sym (div-add-mod' q r) in
    chained_places l ls q n
    ∙ chained_one n (q / r) (λ i. places_in (l ∷ ls) q (i * extent ls) (extent ls)) (div_below q r n some less)
    (λ i apart.
    let none : i * extent ls ≡ i * extent ls + 0 = omega arith in
    ap (λ a. places_in (l ∷ ls) q a (extent ls)) none
    ∙ other_places l ls q i 0 (extent ls) (omega arith) (λ k inside e. apart (sym (ap (λ m. m / r) e ∙ div-mul-add i r k inside))))
    ∙ index_sources n false ls q (q / r) (q % r) (mod_below q r some) whole (g (q % r) (mod_below q r some))

pub all_places : (ls : List Level) (q : ℕ) → q < results ls → places_in ls q 0 (extent ls) ≡ sources ls q
all_places [] q h = let first : 0 ≡ q = omega arith in subst (λ k. places_in [] k 0 1 ≡ 0 ∷ []) first refl
all_places (l ∷ ls) q h = level_places l.size l.is_reduced ls q (all_places ls) h

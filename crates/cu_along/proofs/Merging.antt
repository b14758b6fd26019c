-- What is made of the groups of all chunks of an axis is the group over the whole axis.
use Rattle.std.proofs.Common.{◌≡◌, ℕ, zero, suc, ◌+◌, ◌-◌, ◌*◌, ◌<◌, ◌≤◌, min, ℤ, List, [], ◌∷◌, length, map, All, Option, None, Some, refl, sym, ap, ◌∙◌, subst, arith, ⊎_elim, mul-le-mul_left}
use Rattle.std.specs.Prelude.{Bool as Test, true, false, nat_lt, option_map}
use Rattle.std.specs.Int.{div_ceil}
use Rattle.std.specs.List.{range_with_len, flat_map}
use Rattle.std.proofs.lemmas.Bool.{cases_lt}
use Rattle.std.proofs.lemmas.Bool.Decides.{nat_tests}
use Rattle.std.proofs.lemmas.List.FromFn.{length-map-range_with_len}
use Rattle.std.proofs.lemmas.List.Elements.{All-nil, All-cons, All-map}
use Rattle.cu_num.specs.Dtype.{InRange}
use Rattle.cu_num.specs.Wrap.{wrapped}
use Rattle.cu_num.proofs.Wrapped.{wrapped_in_range, InRange-wrapped}
use Rattle.cu_num.specs.declared.types.Dtype.{Dtype}
use Rattle.cu_num.specs.declared.folds.FoldKind.{FoldKind}
use Rattle.cu_reduce.specs.Folds.{fold_of, all_some, reduced_to}
use Rattle.cu_reduce.specs.Kinds.{unit_of, Accumulates, IsTaken}
use Rattle.cu_reduce.specs.Parts.{part_indices, IsBetween}
use Rattle.cu_reduce.specs.Regions.{region_indices}
use Rattle.cu_reduce.specs.Running.{IsEnough}
use Rattle.cu_reduce.proofs.Combined.{combined_unit, taken_in_range}
use Rattle.cu_reduce.proofs.Folding.{enough_more, running_unit}
use Rattle.cu_reduce.proofs.Ranges.{map-map, map_ranges}
use Rattle.cu_reduce.proofs.Regions.{region_front}
use Rattle.cu_reduce.proofs.Rounds.{rounds_of_kinds}
use Rattle.cu_shape.proofs.Rounded.{before_end, within_counts, counts_below}
use Rattle.cu_reduce.specs.Labels.{Labelled, with_label, marked, picked, group_fold, grouped_to, chunk_places, chunks_on}
use Rattle.cu_along.specs.Rounds.{round_value, after_rounds}
use Rattle.cu_along.proofs.Members.{counted, taken_counted, TakesElement, grouped_reduced}

-- ---- one axis

single : (xs : List ℕ) → flat_map (λ i. map (λ is. i ∷ is) ([] ∷ [])) xs ≡ map (λ i. i ∷ []) xs
single [] = refl
single (x ∷ xs) = ap (λ ys. (x ∷ []) ∷ ys) (single xs)

-- the indices of a region of one axis
line : (l h : ℕ) → region_indices (l ∷ []) (h ∷ []) ≡ map (λ i. i ∷ []) (range_with_len l (h - l))
line l h = region_front l h [] [] ∙ single (range_with_len l (h - l))

abbrev first_of_index : List ℕ → ℕ
first_of_index [] = 0
first_of_index (i ∷ is) = i

map_line : {X : Type 0} (f : List ℕ → X) (l h : ℕ)
    → map f (region_indices (l ∷ []) (h ∷ [])) ≡ map (λ i. f (i ∷ [])) (range_with_len l (h - l))
map_line f l h = ap (map f) (line l h) ∙ map-map f (λ i. i ∷ []) (range_with_len l (h - l))

-- where chunks of an axis begin
abbrev cut : ℕ → ℕ → ℕ → ℕ
cut size n p = min n (p * size)

cut_rises : (size n p : ℕ) → cut size n p ≤ cut size n (suc p)
cut_rises size n p = let e : suc p * size ≡ p * size + size = omega arith in omega (arith, e)

-- the chunks together are the axis, and none is empty where the axis has elements
covered : (size n : ℕ) → 0 < size → cut size n (chunks_on size n) ≡ n
covered size n h =
    ⊎_elim
    (λ inside. let a = within_counts n size (chunks_on size n) h inside in absurd (omega arith))
    (λ past. omega arith)
    (cases_lt (chunks_on size n * size) n)

some_in_chunk : (size n c : ℕ) → 0 < size → 0 < n → c < chunks_on size n
    → 0 < cut size n (suc c) - cut size n c
some_in_chunk size n c h g b =
    ⊎_elim
    (λ inside. let a = before_end n size c h inside in let e : suc c * size
    ≡ c * size + size = omega arith in omega (arith, a, e))
    (λ past. let first : c ≡ 0 = omega arith in let a : c * size
    ≡ 0 * size = ap (λ k. k * size) first in let z : 0 * size
    ≡ 0 = omega arith in let e : suc c * size
    ≡ c * size + size = omega arith in omega (arith, a, z, e))
    (cases_lt c (div_ceil n size))

cut_start : (size n : ℕ) → 0 ≡ cut size n 0
cut_start size n = let e : 0 * size ≡ 0 = omega arith in omega (arith, e)

pub enough_of : (kind : FoldKind) (n : ℕ) → 0 < n → IsEnough kind n
enough_of kind zero h = absurd (omega arith)
enough_of kind (suc n) h = enough_more kind n

-- a fact of each number of a range
range_all : {P : ℕ → Type 0} (l n : ℕ) → ((k : ℕ) → P k) → All P (range_with_len l n)
range_all {P} l zero h = All-nil P
range_all {P} l (suc n) h = All-cons P l (range_with_len (l + 1) n) (h l) (range_all (l + 1) n h)

-- ---- the law of rounds along one axis

enough_line : (kind : FoldKind) (size n m : ℕ) (p : List ℕ) → 0 < size → 0 < n
    → m ≡ chunks_on size n → IsBetween (0 ∷ []) (m ∷ []) p
    → IsEnough kind (length (part_indices (cut size n ∷ []) p))
enough_line kind size n m [] h g e b = absurd b
enough_line kind size n m (c ∷ cs) h g e b =
    let below = b.1 in
    let some : 0 < cut size n (suc c) - cut size n c = some_in_chunk size n c h g (omega arith) in
    let own : part_indices (cut size n ∷ []) (c ∷ cs)
    ≡ map (λ i. i ∷ []) (range_with_len (cut size n c) (cut size n
    (suc c) - cut size n c)) = line (cut size n c) (cut size n (suc c)) in
    enough_of kind (length (part_indices (cut size n ∷ []) (c ∷ cs)))
    (let long = ap length own ∙ length-map-range_with_len (λ i. i ∷ []) (cut size n c)
    (cut size n (suc c) - cut size n c) in omega arith)

-- what is made of what is made of each chunk is what is made of all
pub rounds_on : (kind : FoldKind) (t acc : Dtype) (size n : ℕ) (v : ℕ → Option ℤ)
    → Accumulates kind t acc → 0 < size → 0 < n
    → ((i : ℕ) (x : ℤ) → v i ≡ Some x → IsTaken kind acc x)
    → reduced_to kind acc (map (λ c. reduced_to kind acc (map v (chunk_places size n c)))
    (range_with_len 0 (chunks_on size n))) ≡ reduced_to kind acc (map v (range_with_len 0 n))
rounds_on kind t acc size n v a h g taken =
    let m = chunks_on size n in
    let f : List ℕ → Option ℤ = λ is. v (first_of_index is) in
    let cuts : List (ℕ → ℕ) = cut size n ∷ [] in
    let part : List ℕ → Option ℤ = λ p. reduced_to kind acc (map f (part_indices cuts p)) in
    let first : 0 ≡ cut size n 0 = cut_start size n in
    let last = covered size n h in
    let all : m ≡ m - 0 = omega arith in
    let whole : n - 0 ≡ n = omega arith in
    (λ j. reduced_to kind acc (map (λ c. reduced_to kind acc (sym (map_line f (cut size n c)
    (cut size n (suc c))) j)) (range_with_len 0 (all j))))
    ∙ ap (reduced_to kind acc) (sym (map_line part 0 m))
    ∙ rounds_of_kinds kind t acc cuts (0 ∷ []) (m ∷ []) f a (cut_rises size n, tt) refl refl
    (λ p b. enough_line kind size n m p h g refl b)
    (λ i x b e. taken (first_of_index i) x e)
    ∙ ap (reduced_to kind acc) (map_line f (cut size n 0) (cut size n m))
    ∙ (λ j. reduced_to kind acc (map v (range_with_len (sym first j) (last j - sym first j))))
    ∙ ap (λ k. reduced_to kind acc (map v (range_with_len 0 k))) whole

map_below : {X : Type 0} (f g : ℕ → X) (n : ℕ) → ((c : ℕ) → c < n → f c ≡ g c)
    → map f (range_with_len 0 n) ≡ map g (range_with_len 0 n)
map_below f g n h = map_ranges f g 0 0 n (λ c b. let e : 0 + c ≡ c = omega arith in ap f e
    ∙ h c b ∙ ap g (sym e))

no_chunks : (size n : ℕ) → 0 < size → n ≡ 0 → chunks_on size n ≡ 1
no_chunks size n h e = let few = counts_below n size h in omega (arith, few)

-- a single number of the type is what is made of it
one_in_range : (kind : FoldKind) (t acc : Dtype) (x : ℤ) → Accumulates kind t acc
    → InRange acc x → wrapped acc (fold_of kind (x ∷ [])) ≡ x
one_in_range kind t acc x a h =
    let taken = taken_in_range kind acc x h in
    sym (running_unit kind t acc (x ∷ []) a (enough_more kind 0) (All-cons
    (IsTaken kind acc) x [] taken (All-nil (IsTaken kind acc))))
    ∙ combined_unit kind t acc x a taken ∙ wrapped_in_range acc x h

one_reduced : (kind : FoldKind) (t acc : Dtype) (o : Option ℤ) → Accumulates kind t acc
    → ((x : ℤ) → o ≡ Some x → InRange acc x) → reduced_to kind acc (o ∷ []) ≡ o
one_reduced kind t acc None a h = refl
one_reduced kind t acc (Some x) a h = ap (λ y. Some y) (one_in_range kind t acc x a (h x refl))

mapped_in_range : {A : Type 0} (acc : Dtype) (f : A → ℤ) (r : Option A) (x : ℤ)
    → option_map (λ y. wrapped acc (f y)) r ≡ Some x → InRange acc x
mapped_in_range acc f None x e = cc
mapped_in_range acc f (Some y) x e = let s : wrapped acc (f y)
    ≡ x = cc in subst (InRange acc) s (InRange-wrapped acc (f y))

-- ---- rounds, one after another

last_one : (m : ℕ) → nat_lt 1 m ≡ false → 0 < m → 1 ≡ m
last_one m e h = grind (arith, nat_tests)

more_than : (m : ℕ) → nat_lt 1 m ≡ true → 1 < m
more_than m e = grind (arith, nat_tests)

less_of : (m g d : ℕ) → 1 < m → 2 ≤ g → 0 < d → (d - 1) * g < m → d < m
less_of m g (suc zero) h s p b = h
less_of m g (suc (suc d)) h s p b =
    let one : suc (suc d) - 1 ≡ suc d = omega arith in
    let e : (suc (suc d) - 1) * g ≡ suc d * g = ap (λ k. k * g) one in
    let f : suc d * 2 ≤ suc d * g = mul-le-mul_left (suc d) s in
    omega (arith, e, f, b)
less_of m g zero h s p b = absurd (omega arith)

module _ (kind : FoldKind) (t acc : Dtype) (a : Accumulates kind t acc) (g : ℕ) (several : 2
    ≤ g) where
  abbrev Ends : ℕ → ℕ → (ℕ → Option ℤ) → Type 0
  Ends most m v = after_rounds kind acc g most m v 0
      ≡ reduced_to kind acc (map v (range_with_len 0 m))

  abbrev HasRange : (ℕ → Option ℤ) → Type 0
  HasRange v = (i : ℕ) (x : ℤ) → v i ≡ Some x → InRange acc x

  fewer : (m : ℕ) → 1 < m → (0 < div_ceil m g) × (div_ceil m g < m)
  fewer m h =
      let some : 0 < g = omega arith in
      let first : 0 * g < m = omega arith in
      let one = within_counts m g 0 some first in (
        one,
        less_of m g (div_ceil m g) h several one (before_end m g (div_ceil m g - 1) some
            (omega arith)),
      )

  by_test : (most m : ℕ) (v : ℕ → Option ℤ) (b : Test) → nat_lt 1 m ≡ b → 0 < m → HasRange v
      → ((n : ℕ) (w : ℕ → Option ℤ) → 0 < n → n < m → HasRange w → Ends most n w)
      → Ends (suc most) m v
  by_test most m v false e some range rest =
      rw e (let one : 1 ≡ m = last_one m e some in sym (one_reduced kind t acc (v 0) a
      (range 0)) ∙ ap (λ k. reduced_to kind acc (map v (range_with_len 0 k))) one)
  by_test most m v true e some range rest =
      let more : 1 < m = more_than m e in
      let f = fewer m more in
      let count : div_ceil m g ≡ chunks_on g m = let p = f.0 in omega (arith, p) in
      rw e
      (rest (div_ceil m g) (round_value kind acc g m v) f.0 f.1 (λ i x s. mapped_in_range acc
      (fold_of kind) (all_some (map v (chunk_places g m i))) x s)
      ∙ ap (λ k. reduced_to kind acc (map (round_value kind acc g m v) (range_with_len 0 k))) count
      ∙ rounds_on kind t acc g m v a (omega arith) some (λ i x s. taken_in_range kind acc x
      (range i x s)))

  pub rounds_end : (most m : ℕ) (v : ℕ → Option ℤ) → 0 < m → m ≤ suc most → HasRange v
      → Ends most m v
  rounds_end zero m v some few range =
      let one : 1 ≡ m = omega arith in
      sym (one_reduced kind t acc (v 0) a (range 0))
      ∙ ap (λ k. reduced_to kind acc (map v (range_with_len 0 k))) one
  rounds_end (suc most) m v some few range = by_test most m v (nat_lt 1 m) refl some range
      (λ n w p l r. rounds_end most n w p (omega arith) r)

-- ---- groups

pub element_there : (kind : FoldKind) (acc : Dtype) (l e : Option ℤ) → ((x : ℤ) → e ≡ Some x
    → IsTaken kind acc x) → TakesElement kind acc (with_label l e)
element_there kind acc None e h y s = cc
element_there kind acc (Some l) None h y s = cc
element_there kind acc (Some l) (Some x) h y s =
    let same : record { label = l; element = x } ≡ y = cc in
    subst (λ z. IsTaken kind acc z.element) same (h x refl)

pub counted_there : (kind : FoldKind) (acc : Dtype) (q : ℕ) (o : Option Labelled)
    → TakesElement kind acc o → (x : ℤ) → option_map (counted kind acc q) o ≡ Some x
    → IsTaken kind acc x
counted_there kind acc q None h x s = cc
counted_there kind acc q (Some y) h x s =
    let same : counted kind acc q y ≡ x = cc in
    subst (IsTaken kind acc) same (taken_counted kind acc q y (h y refl))

all_marked : (kind : FoldKind) (acc : Dtype) (label element : ℕ → Option ℤ) (l n : ℕ)
    → ((p : ℕ) (x : ℤ) → element p ≡ Some x → IsTaken kind acc x)
    → All (TakesElement kind acc) (marked label element (range_with_len l n))
all_marked kind acc label element l n h =
    All-map (TakesElement kind acc) (λ p. with_label (label p) (element p)) (range_with_len l n)
    (range_all l n (λ p. element_there kind acc (label p) (element p) (h p)))

module _ (kind : FoldKind) (t acc : Dtype) (q : ℕ) (label element : ℕ
    → Option ℤ) (a : Accumulates kind t acc) (taken : (p : ℕ) (x : ℤ) → element p ≡ Some x
    → IsTaken kind acc x) where
  -- what stands at a place, as it counts in the group
  abbrev own : ℕ → Option ℤ
  own p = option_map (counted kind acc q) (with_label (label p) (element p))

  own_taken : (p : ℕ) (x : ℤ) → own p ≡ Some x → IsTaken kind acc x
  own_taken p x e = counted_there kind acc q (with_label (label p) (element p))
      (element_there kind acc (label p) (element p) (taken p)) x e

  own_reduced : (l n : ℕ) → 0 < n
      → grouped_to kind acc q (marked label element (range_with_len l n))
      ≡ reduced_to kind acc (map own (range_with_len l n))
  own_reduced l n h =
      let long : length (marked label element (range_with_len l n))
      ≡ n = length-map-range_with_len (λ p. with_label (label p) (element p)) l n in
      grouped_reduced kind t acc q (marked label element (range_with_len l n)) a
      (enough_of kind (length (marked label element (range_with_len l n))) (omega arith))
      (all_marked kind acc label element l n taken)
      ∙ ap (reduced_to kind acc) (map-map (option_map (counted kind acc q)) (λ p. with_label
      (label p) (element p)) (range_with_len l n))

  -- of one chunk without elements what is made is the unit, which is a number of the type
  unit_of_none : reduced_to kind acc (grouped_to kind acc q [] ∷ []) ≡ grouped_to kind acc q []
  unit_of_none = ap (λ x. Some x) (one_in_range kind t acc (wrapped acc (unit_of kind acc)) a
      (InRange-wrapped acc (unit_of kind acc)))

  nothing : (size n : ℕ) → 0 < size → n ≡ 0
      → reduced_to kind acc (map (λ c. grouped_to kind acc q (marked label element
      (chunk_places size n c))) (range_with_len 0 (chunks_on size n)))
      ≡ grouped_to kind acc q (marked label element (range_with_len 0 n))
  nothing size n h e =
      let many : chunks_on size n ≡ 1 = no_chunks size n h e in
      let none : min n (suc 0 * size) - min n (0 * size) ≡ 0 = omega arith in
      ap (λ m. reduced_to kind acc (map (λ c. grouped_to kind acc q (marked label element
      (chunk_places size n c))) (range_with_len 0 m))) many
      ∙ ap (λ k. reduced_to kind acc (grouped_to kind acc q (marked label element (range_with_len
      (min n (0 * size)) k)) ∷ [])) none
      ∙ unit_of_none
      ∙ ap (λ k. grouped_to kind acc q (marked label element (range_with_len 0 k))) (sym e)

  something : (size n : ℕ) → 0 < size → 0 < n
      → reduced_to kind acc (map (λ c. grouped_to kind acc q (marked label element
      (chunk_places size n c))) (range_with_len 0 (chunks_on size n)))
      ≡ grouped_to kind acc q (marked label element (range_with_len 0 n))
  something size n h g =
      ap (reduced_to kind acc) (map_below (λ c. grouped_to kind acc q (marked label element
      (chunk_places size n c))) (λ c. reduced_to kind acc (map own (chunk_places size n c)))
      (chunks_on size n)
      (λ c b. own_reduced (min n (c * size)) (min n (suc c * size) - min n (c * size))
      (some_in_chunk size n c h g b)))
      ∙ rounds_on kind t acc size n own a h g own_taken
      ∙ sym (own_reduced 0 n g)

  pub groups_merged : (size n : ℕ) → 0 < size
      → reduced_to kind acc (map (λ c. grouped_to kind acc q (marked label element
      (chunk_places size n c))) (range_with_len 0 (chunks_on size n)))
      ≡ grouped_to kind acc q (marked label element (range_with_len 0 n))
  groups_merged size n h = ⊎_elim (λ g. something size n h g) (λ g. nothing size n h
      (omega arith)) (cases_lt 0 n)

  -- the partial results of the chunks, merged in rounds
  pub groups_in_rounds : (size n g : ℕ) → 0 < size → 2 ≤ g
      → after_rounds kind acc g (chunks_on size n) (chunks_on size n) (λ c. grouped_to kind acc q
      (marked label element (chunk_places size n c))) 0
      ≡ grouped_to kind acc q (marked label element (range_with_len 0 n))
  groups_in_rounds size n g h several =
      rounds_end kind t acc a g several (chunks_on size n) (chunks_on size n)
      (λ c. grouped_to kind acc q (marked label element (chunk_places size n c)))
      (omega arith) (omega arith)
      (λ i x s. mapped_in_range acc (λ ys. group_fold kind acc (picked q ys)) (all_some
      (marked label element (chunk_places size n i))) x s)
      ∙ groups_merged size n h

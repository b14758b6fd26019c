-- Groups that are whole axes: the indices of one along an axis or of all, and their places.
use Rattle.std.proofs.Common.{◌≡◌, ℕ, ◌+◌, ◌-◌, ◌*◌, ◌==◌, ◌<◌, zero, suc, min, max, set, true, false, List, [], ◌∷◌, length, get_or, map, take, drop, None, Some, refl, sym, ap, ◌∙◌, subst, arith, inl, inr, if◌then◌else◌, ⊎_elim}
use Rattle.std.specs.Int.{div_ceil}
use Rattle.std.specs.List.{range_with_len, flat_map}
use Rattle.std.proofs.lemmas.Bool.Decides.{eqb_tells}
use Rattle.std.proofs.lemmas.Bool.{cases_lt}
use Rattle.std.proofs.lemmas.Nat.{mul-add-lt}
use Rattle.cu_shape.specs.Index.{product, place_of, indices_of, IsInside}
use Rattle.cu_shape.proofs.Places.{place-below, inside-length}
use Rattle.cu_shape.proofs.Rounded.{before_end}
use Rattle.cu_reduce.specs.Groups.{Groups, groups_from, groups_of, HasElements, group_counts, group_lo, group_hi, group_indices}
use Rattle.cu_reduce.specs.Places.{is_sought}
use Rattle.cu_reduce.specs.Regions.{region_indices}
use Rattle.cu_reduce.proofs.Ranges.{map-map}
use Rattle.cu_reduce.proofs.Regions.{region_front, region_one, region_whole}

-- ---- an axis that is one group

pub one_group : (n : ℕ) → 0 < n → max 1 (div_ceil n n) ≡ 1
one_group n h =
    ⊎_elim (λ more. absurd (let far = before_end n n 1 h more in omega arith)) (λ few. omega arith) (cases_lt 1 (div_ceil n n))

only_group : (n i : ℕ) → 0 < n → i < max 1 (div_ceil n n) → i ≡ 0
only_group n i h b = let one = one_group n h in omega arith

starts_at_none : (n i : ℕ) → i ≡ 0 → i * n ≡ 0
starts_at_none n i e = ap (λ j. j * n) e ∙ (let none : 0 * n ≡ 0 = omega arith in none)

ends_whole : (n i : ℕ) → i ≡ 0 → min n (suc i * n) ≡ n
ends_whole n i e = ap (λ j. min n (suc j * n)) e ∙ (let all : min n (suc 0 * n) ≡ n = omega arith in all)

-- ---- axes behind the one that is sought

not_sought : (axis first : ℕ) → axis < first → (first == axis) ≡ false
not_sought axis first h = elim (eqb_tells first axis) [
  | inl p ↦ absurd (let same = p.1 in omega arith)
  | inr p ↦ p.0
]

pub sought : (axis first : ℕ) → first ≡ axis → (first == axis) ≡ true
sought axis first h = elim (eqb_tells first axis) [
  | inl p ↦ p.0
  | inr p ↦ absurd (p.1 h)
]

abbrev pub groups_along_from : ℕ → ℕ → List ℕ → Groups
groups_along_from axis first ns = groups_from (is_sought (Some axis)) first ns

pub kept_front : (axis first n : ℕ) (ns : List ℕ) → (first == axis) ≡ false → groups_along_from axis first (n ∷ ns) ≡ None ∷ groups_along_from axis (first + 1) ns
kept_front axis first n ns e = ap (λ b. (if b then Some n else None) ∷ groups_along_from axis (first + 1) ns) e

pub sought_front : (axis first n : ℕ) (ns : List ℕ) → (first == axis) ≡ true → groups_along_from axis first (n ∷ ns) ≡ Some n ∷ groups_along_from axis (first + 1) ns
sought_front axis first n ns e = ap (λ b. (if b then Some n else None) ∷ groups_along_from axis (first + 1) ns) e

kept_counts : (axis first : ℕ) (ns : List ℕ) → axis < first → group_counts (groups_along_from axis first ns) ns ≡ ns
kept_counts axis first [] h = refl
kept_counts axis first (n ∷ ns) h =
    ap (λ gs. group_counts gs (n ∷ ns)) (kept_front axis first n ns (not_sought axis first h)) ∙ ap (λ ms. n ∷ ms) (kept_counts axis (first + 1) ns (omega arith))

kept_indices : (axis first : ℕ) (ns idx : List ℕ) → axis < first → length idx ≡ length ns → group_indices (groups_along_from axis first ns) ns idx ≡ idx ∷ []
kept_indices axis first [] [] h e = refl
kept_indices axis first [] (i ∷ is) h e = absurd (omega arith)
kept_indices axis first (n ∷ ns) [] h e = absurd (omega arith)
kept_indices axis first (n ∷ ns) (i ∷ is) h e =
    let gs = groups_along_from axis (first + 1) ns in
    ap (λ all. group_indices all (n ∷ ns) (i ∷ is)) (kept_front axis first n ns (not_sought axis first h))
    ∙ region_one i (suc i) (group_lo gs is) (group_hi gs ns (map suc is)) refl
    ∙ ap (map (λ js. i ∷ js)) (kept_indices axis (first + 1) ns is (omega arith) (omega arith))

-- ---- the indices of a group along an axis

singles : (f : ℕ → List ℕ) (xs : List ℕ) → flat_map (λ i. f i ∷ []) xs ≡ map f xs
singles f [] = refl
singles f (x ∷ xs) = ap (λ ys. f x ∷ ys) (singles f xs)

inside-length_front : (ms ns idx : List ℕ) → ms ≡ ns → IsInside ms idx → length idx ≡ length ns
inside-length_front ms ns idx e h = inside-length ms idx h ∙ ap length e

abbrev IndicesFrom : ℕ → ℕ → List ℕ → ℕ → List ℕ → Type 0
IndicesFrom axis first ns a idx = IsInside (group_counts (groups_along_from axis first ns) ns) idx
    → group_indices (groups_along_from axis first ns) ns idx ≡ map (λ j. set idx a j) (range_with_len 0 (get_or ns a 0))

along_here : (axis first n : ℕ) (ns idx : List ℕ) → axis < first + 1 → 0 < n → IsInside (max 1 (div_ceil n n) ∷ group_counts (groups_along_from axis (first + 1) ns) ns) idx
    → group_indices (Some n ∷ groups_along_from axis (first + 1) ns) (n ∷ ns) idx ≡ map (λ j. set idx 0 j) (range_with_len 0 n)
along_here axis first n ns [] e some h = absurd h
along_here axis first n ns (i ∷ is) e some h =
    let gs = groups_along_from axis (first + 1) ns in
    let none = only_group n i some h.0 in
    let counts = kept_counts axis (first + 1) ns e in
    let rest = kept_indices axis (first + 1) ns is e (inside-length_front (group_counts gs ns) ns is counts h.1) in
    let low : i * n ≡ 0 = starts_at_none n i none in
    let wide : min n (suc i * n) - i * n ≡ n = (λ k. ends_whole n i none k - low k) ∙ (let whole : n - 0 ≡ n = omega arith in whole) in
    region_front (i * n) (min n (suc i * n)) (group_lo gs is) (group_hi gs ns (map suc is))
    ∙ (λ k. flat_map (λ j. map (λ js. j ∷ js) (rest k)) (range_with_len (low k) (wide k)))
    ∙ singles (λ j. j ∷ is) (range_with_len 0 n)

along_behind : (axis first n a : ℕ) (ns idx : List ℕ) → ((is : List ℕ) → IndicesFrom axis (first + 1) ns a is) → IsInside (n ∷ group_counts (groups_along_from axis (first + 1) ns) ns) idx
    → group_indices (None ∷ groups_along_from axis (first + 1) ns) (n ∷ ns) idx ≡ map (λ j. set idx (suc a) j) (range_with_len 0 (get_or ns a 0))
along_behind axis first n a ns [] rest h = absurd h
along_behind axis first n a ns (i ∷ is) rest h =
    let gs = groups_along_from axis (first + 1) ns in
    region_one i (suc i) (group_lo gs is) (group_hi gs ns (map suc is)) refl
    ∙ ap (map (λ js. i ∷ js)) (rest is h.1)
    ∙ map-map (λ js. i ∷ js) (λ j. set is a j) (range_with_len 0 (get_or ns a 0))

pub not_here : (axis first a : ℕ) → axis ≡ first + suc a → (first == axis) ≡ false
not_here axis first a e = elim (eqb_tells first axis) [
  | inl p ↦ absurd (let same = p.1 in omega arith)
  | inr p ↦ p.0
]

indices_from : (axis first : ℕ) (ns : List ℕ) (a : ℕ) (idx : List ℕ) → axis ≡ first + a → a < length ns → 0 < get_or ns a 0 → IndicesFrom axis first ns a idx
indices_from axis first [] a idx e b some h = absurd (omega arith)
indices_from axis first (n ∷ ns) zero idx e b some h =
    let front = sought_front axis first n ns (sought axis first (omega arith)) in
    let inside = subst (λ gs. IsInside (group_counts gs (n ∷ ns)) idx) front h in
    ap (λ gs. group_indices gs (n ∷ ns) idx) front ∙ along_here axis first n ns idx (omega arith) some inside
indices_from axis first (n ∷ ns) (suc a) idx e b some h =
    let front = kept_front axis first n ns (not_here axis first a e) in
    let inside = subst (λ gs. IsInside (group_counts gs (n ∷ ns)) idx) front h in
    let rest : (is : List ℕ) → IndicesFrom axis (first + 1) ns a is = λ is. indices_from axis (first + 1) ns a is (omega arith) (omega arith) some in
    ap (λ gs. group_indices gs (n ∷ ns) idx) front ∙ along_behind axis first n a ns idx rest inside

pub indices_along : (axis : ℕ) (ns idx : List ℕ) → axis < length ns → 0 < get_or ns axis 0 → IsInside (group_counts (groups_of (is_sought (Some axis)) ns) ns) idx
    → group_indices (groups_of (is_sought (Some axis)) ns) ns idx ≡ map (λ j. set idx axis j) (range_with_len 0 (get_or ns axis 0))
indices_along axis ns idx b some h = indices_from axis 0 ns axis idx (omega arith) b some h

-- ---- places

-- where the group of an index begins: in column `number` of block `block`
pub record IsLocated (ns : List ℕ) (axis : ℕ) (counts idx : List ℕ) : Type 0 where
  pub block : ℕ
  pub number : ℕ
  pub blocks : block < product (take axis ns)
  pub columns : number < product (drop (suc axis) ns)
  pub result : place_of counts idx ≡ block * product (drop (suc axis) ns) + number
  pub element : (j : ℕ) → j < get_or ns axis 0 → place_of ns (set idx axis j) ≡ (block * get_or ns axis 0 + j) * product (drop (suc axis) ns) + number

located_here : (axis first n : ℕ) (ns idx : List ℕ) → axis < first + 1 → 0 < n → IsInside (max 1 (div_ceil n n) ∷ group_counts (groups_along_from axis (first + 1) ns) ns) idx
    → IsLocated (n ∷ ns) 0 (max 1 (div_ceil n n) ∷ group_counts (groups_along_from axis (first + 1) ns) ns) idx
located_here axis first n ns [] e some h = absurd h
located_here axis first n ns (i ∷ is) e some h =
    let counts = kept_counts axis (first + 1) ns e in
    let inside = subst (λ ms. IsInside ms is) counts h.1 in
    let none = only_group n i some h.0 in
    record {
      block = 0;
      number = place_of ns is;
      blocks = omega arith;
      columns = place-below ns is inside;
      result = (λ k. none k * product (counts k) + place_of (counts k) is) ∙ omega arith;
      element = λ j b. omega arith;
    }

-- the products of the sizes before an axis, of the axis, and behind it
pub product_split : (ns : List ℕ) (axis : ℕ) → axis < length ns → product ns ≡ product (take axis ns) * get_or ns axis 0 * product (drop (suc axis) ns)
product_split [] axis h = absurd (omega arith)
product_split (n ∷ ns) zero h = omega arith
product_split (n ∷ ns) (suc axis) h = ap (λ p. n * p) (product_split ns axis (omega arith)) ∙ omega arith

counts_from : (axis first : ℕ) (ns : List ℕ) (a : ℕ) → axis ≡ first + a → a < length ns → 0 < get_or ns a 0
    → product (group_counts (groups_along_from axis first ns) ns) ≡ product (take a ns) * product (drop (suc a) ns)
counts_from axis first [] a e b some = absurd (omega arith)
counts_from axis first (n ∷ ns) zero e b some =
    ap (λ gs. product (group_counts gs (n ∷ ns))) (sought_front axis first n ns (sought axis first (omega arith)))
    ∙ (λ k. one_group n some k * product (kept_counts axis (first + 1) ns (let l : axis < first + 1 = omega arith in l) k)) ∙ omega arith
counts_from axis first (n ∷ ns) (suc a) e b some =
    ap (λ gs. product (group_counts gs (n ∷ ns))) (kept_front axis first n ns (not_here axis first a e))
    ∙ ap (λ p. n * p) (counts_from axis (first + 1) ns a (omega arith) (omega arith) some) ∙ omega arith

pub counts_along : (axis : ℕ) (ns : List ℕ) → axis < length ns → 0 < get_or ns axis 0
    → product (group_counts (groups_of (is_sought (Some axis)) ns) ns) ≡ product (take axis ns) * product (drop (suc axis) ns)
counts_along axis ns b some = counts_from axis 0 ns axis (omega arith) b some

located_behind : (axis first n a : ℕ) (ns idx : List ℕ) → axis ≡ first + suc a → a < length ns → 0 < get_or ns a 0
    → ((is : List ℕ) → IsInside (group_counts (groups_along_from axis (first + 1) ns) ns) is → IsLocated ns a (group_counts (groups_along_from axis (first + 1) ns) ns) is)
    → IsInside (n ∷ group_counts (groups_along_from axis (first + 1) ns) ns) idx → IsLocated (n ∷ ns) (suc a) (n ∷ group_counts (groups_along_from axis (first + 1) ns) ns) idx
located_behind axis first n a ns [] e b some rest h = absurd h
located_behind axis first n a ns (i ∷ is) e b some rest h =
    let own = rest is h.1 in
    let before = product (take a ns) in
    let size = get_or ns a 0 in
    let width = product (drop (suc a) ns) in
    let counts = counts_from axis (first + 1) ns a (omega arith) b some in
    let block_below = own.blocks in
    let far : i * before + own.block < before * n = mul-add-lt i before own.block n h.0 block_below in
    record {
      block = i * before + own.block;
      number = own.number;
      blocks = omega arith;
      columns = own.columns;
      result = (λ k. i * counts k + own.result k) ∙ omega arith;
      element = λ j below. (λ k. i * product_split ns a b k + own.element j below k) ∙ omega arith;
    }

located_from : (axis first : ℕ) (ns : List ℕ) (a : ℕ) (idx : List ℕ) → axis ≡ first + a → a < length ns → 0 < get_or ns a 0 → IsInside (group_counts (groups_along_from axis first ns) ns) idx
    → IsLocated ns a (group_counts (groups_along_from axis first ns) ns) idx
located_from axis first [] a idx e b some h = absurd (omega arith)
located_from axis first (n ∷ ns) zero idx e b some h =
    let front = sought_front axis first n ns (sought axis first (omega arith)) in
    subst (λ gs. IsInside (group_counts gs (n ∷ ns)) idx → IsLocated (n ∷ ns) 0 (group_counts gs (n ∷ ns)) idx) (sym front) (located_here axis first n ns idx (omega arith) some) h
located_from axis first (n ∷ ns) (suc a) idx e b some h =
    let front = kept_front axis first n ns (not_here axis first a e) in
    let rest : (is : List ℕ) → IsInside (group_counts (groups_along_from axis (first + 1) ns) ns) is → IsLocated ns a (group_counts (groups_along_from axis (first + 1) ns) ns) is =
    λ is. located_from axis (first + 1) ns a is (omega arith) (omega arith) some in
    subst (λ gs. IsInside (group_counts gs (n ∷ ns)) idx → IsLocated (n ∷ ns) (suc a) (group_counts gs (n ∷ ns)) idx) (sym front) (located_behind axis first n a ns idx e (omega arith) some rest) h

pub located_along : (axis : ℕ) (ns idx : List ℕ) → axis < length ns → 0 < get_or ns axis 0 → IsInside (group_counts (groups_of (is_sought (Some axis)) ns) ns) idx
    → IsLocated ns axis (group_counts (groups_of (is_sought (Some axis)) ns) ns) idx
located_along axis ns idx b some h = located_from axis 0 ns axis idx (omega arith) b some h

-- ---- all axes

pub record IsWhole (ns idx : List ℕ) (gs : Groups) : Type 0 where
  pub lo : group_lo gs idx ≡ map (λ n. 0) ns
  pub hi : group_hi gs ns (map suc idx) ≡ ns
  pub result : place_of (group_counts gs ns) idx ≡ 0

whole_from : (first : ℕ) (ns idx : List ℕ) → HasElements (groups_from (is_sought None) first ns) ns → IsInside (group_counts (groups_from (is_sought None) first ns) ns) idx
    → IsWhole ns idx (groups_from (is_sought None) first ns)
whole_from first [] [] some h = record { lo = refl; hi = refl; result = refl }
whole_from first (n ∷ ns) (i ∷ is) some h =
    let rest = whole_from (first + 1) ns is some.1 h.1 in
    let none = only_group n i some.0 h.0 in
    record {
      lo = (λ k. starts_at_none n i none k ∷ rest.lo k);
      hi = (λ k. ends_whole n i none k ∷ rest.hi k);
      result = (λ k. none k * product (group_counts (groups_from (is_sought None) (first + 1) ns) ns) + rest.result k) ∙ omega arith;
    }
whole_from first ns idx some h = absurd h

pub counts_all : (first : ℕ) (ns : List ℕ) → HasElements (groups_from (is_sought None) first ns) ns → product (group_counts (groups_from (is_sought None) first ns) ns) ≡ 1
counts_all first [] some = refl
counts_all first (n ∷ ns) some = (λ k. one_group n some.0 k * counts_all (first + 1) ns some.1 k)

pub indices_all : (ns idx : List ℕ) → HasElements (groups_of (is_sought None) ns) ns → IsInside (group_counts (groups_of (is_sought None) ns) ns) idx
    → (group_indices (groups_of (is_sought None) ns) ns idx ≡ indices_of ns) × (place_of (group_counts (groups_of (is_sought None) ns) ns) idx ≡ 0)
indices_all ns idx some h =
    let whole = whole_from 0 ns idx some h in
    ((λ k. region_indices (whole.lo k) (whole.hi k)) ∙ region_whole ns, whole.result)

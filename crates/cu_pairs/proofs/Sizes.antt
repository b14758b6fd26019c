-- Sizes before an axis, of it and behind it.
use Rattle.std.proofs.Common.{◌≡◌, ℕ, ◌+◌, ◌*◌, ◌<◌, ◌≤◌, ◌^◌, zero, suc, set, true, false, List, [], ◌∷◌, length, get_or, take, drop, None, Some, refl, sym, ap, ◌∙◌, subst, arith, ◌==◌, inl, inr}
use Rattle.std.proofs.Math.Nat.{mul-le-mul_right, mul-le-mul_left, le-mul_of_pos_right}
use Rattle.std.proofs.lemmas.List.{drop_more}
use Rattle.std.proofs.lemmas.Bool.Decides.{eqb_tells}
use Rattle.std.specs.Prelude.{Bool as Test}
use Rattle.cu_num.specs.Dtype.{size_of}
use Rattle.cu_num.specs.declared.types.Dtype.{Dtype}
use Rattle.cu_shape.specs.Index.{product, IsInside}
use Rattle.cu_shape.proofs.Places.{mul_positive, inside-positive, size_positive}
use Rattle.cu_reduce.specs.Groups.{group_counts, groups_from, groups_of, HasElements}
use Rattle.cu_reduce.specs.Places.{is_sought}
use Rattle.cu_pairs.proofs.Parts.{size_positive as bytes_positive}
use Rattle.cu_pairs.proofs.WholeGroups.{groups_along_from, kept_front, sought_front, sought, not_here, product_split, counts_along}

-- ---- factors

right_factor : (a b : ℕ) → 0 < a * b → 0 < b
right_factor a zero h = absurd (omega arith)
right_factor a (suc b) h = omega arith

left_factor : (a b : ℕ) → 0 < a * b → 0 < a
left_factor zero b h = absurd (omega arith)
left_factor (suc a) b h = omega arith

pub size_below : (ns : List ℕ) (k : ℕ) → k < length ns → 0 < product ns → get_or ns k 0 ≤ product ns
size_below [] k b h = absurd (omega arith)
size_below (n ∷ ns) zero b h = le-mul_of_pos_right n (right_factor n (product ns) h)
size_below (n ∷ ns) (suc k) b h =
    let own = size_below ns k (omega arith) (right_factor n (product ns) h) in
    let one : 1 * product ns ≤ n * product ns = mul-le-mul_right (product ns) (left_factor n (product ns) h) in
    omega arith

pub take_positive : (ns : List ℕ) (k : ℕ) → 0 < product ns → 0 < product (take k ns)
take_positive [] zero h = h
take_positive [] (suc k) h = h
take_positive (n ∷ ns) zero h = omega arith
take_positive (n ∷ ns) (suc k) h = mul_positive n (product (take k ns)) (left_factor n (product ns) h) (take_positive ns k (right_factor n (product ns) h))

pub take_below : (ns : List ℕ) (k : ℕ) → 0 < product ns → product (take k ns) ≤ product ns
take_below [] zero h = omega arith
take_below [] (suc k) h = omega arith
take_below (n ∷ ns) zero h = h
take_below (n ∷ ns) (suc k) h = mul-le-mul_left n (take_below ns k (right_factor n (product ns) h))

pub drop_below : (ns : List ℕ) (k : ℕ) → 0 < product ns → product (drop k ns) ≤ product ns
drop_below [] zero h = omega arith
drop_below [] (suc k) h = omega arith
drop_below (n ∷ ns) zero h = omega arith
drop_below (n ∷ ns) (suc k) h =
    let own = drop_below ns k (right_factor n (product ns) h) in
    let one : 1 * product ns ≤ n * product ns = mul-le-mul_right (product ns) (left_factor n (product ns) h) in
    omega arith

take_next : (ns : List ℕ) (k : ℕ) → k < length ns → product (take (suc k) ns) ≡ product (take k ns) * get_or ns k 0
take_next [] k b = absurd (omega arith)
take_next (n ∷ ns) zero b = omega arith
take_next (n ∷ ns) (suc k) b = ap (λ p. n * p) (take_next ns k (omega arith)) ∙ omega arith

pub take_more : (ns : List ℕ) (k blocks size : ℕ) → k < length ns → 0 < product ns → product ns < 2 ^ 64 → blocks ≡ product (take k ns) → size ≡ get_or ns k 0
    → (blocks * size < 2 ^ 64) × (blocks * size ≡ product (take (k + 1) ns))
take_more ns k blocks size b h small e f =
    let next : suc k ≡ k + 1 = omega arith in
    let is : blocks * size ≡ product (take (k + 1) ns) = (λ i. e i * f i) ∙ sym (take_next ns k b) ∙ ap (λ m. product (take m ns)) next in
    let below = take_below ns (k + 1) h in
    (omega arith, is)

pub drop_more_below : (ns : List ℕ) (k axis width size : ℕ) → k < length ns → 0 < product ns → product ns < 2 ^ 64 → width * product (drop k ns) ≡ product (drop (suc axis) ns) → size ≡ get_or ns k 0
    → (width * size < 2 ^ 64) × (width * size * product (drop (k + 1) ns) ≡ product (drop (suc axis) ns))
drop_more_below ns k axis width size b h small e f =
    let step : width * size * product (drop (k + 1) ns) ≡ product (drop (suc axis) ns) =
    ap (λ s. width * s * product (drop (k + 1) ns)) f ∙ (let assoc : width * get_or ns k 0 * product (drop (k + 1) ns) ≡ width * (get_or ns k 0 * product (drop (k + 1) ns)) = omega arith in assoc)
    ∙ ap (λ d. width * product d) (sym (drop_more ns k 0 b)) ∙ e in
    let below = drop_below ns (suc axis) h in
    let rest = (size_positive ns k h b).1 in
    let less : width * size ≤ width * size * product (drop (k + 1) ns) = le-mul_of_pos_right (width * size) rest in
    (omega arith, step)

-- ---- sizes

-- sizes of which the axis' own is set
pub take_set : (ns : List ℕ) (axis n : ℕ) → take axis (set ns axis n) ≡ take axis ns
take_set [] axis n = ap (λ xs. take axis xs) (none_set axis n)
  where
    none_set : (axis n : ℕ) → set [] axis n ≡ []
    none_set zero n = refl
    none_set (suc axis) n = refl
take_set (m ∷ ns) zero n = refl
take_set (m ∷ ns) (suc axis) n = ap (λ xs. m ∷ xs) (take_set ns axis n)

pub drop_set : (ns : List ℕ) (axis n : ℕ) → drop (suc axis) (set ns axis n) ≡ drop (suc axis) ns
drop_set [] zero n = refl
drop_set [] (suc axis) n = refl
drop_set (m ∷ ns) zero n = refl
drop_set (m ∷ ns) (suc axis) n = drop_set ns axis n

-- ---- an array with elements

pub record IsSplit (ns : List ℕ) (axis : ℕ) : Type 0 where
  pub all : product ns ≡ product (take axis ns) * get_or ns axis 0 * product (drop (suc axis) ns)
  pub before : 0 < product (take axis ns)
  pub size : 0 < get_or ns axis 0
  pub behind : 0 < product (drop (suc axis) ns)

pub splits : (ns : List ℕ) (axis : ℕ) → axis < length ns → 0 < product ns → IsSplit ns axis
splits ns axis b h =
    let own = size_positive ns axis h b in
    record {
      all = product_split ns axis b;
      before = take_positive ns axis h;
      size = own.0;
      behind = subst (λ k. 0 < product (drop k ns)) (let next : axis + 1 ≡ suc axis = omega arith in next) own.1;
    }

elements_from : (axis first : ℕ) (ns : List ℕ) (a : ℕ) → axis ≡ first + a → a < length ns → HasElements (groups_along_from axis first ns) ns → 0 < get_or ns a 0
elements_from axis first [] a e b h = absurd (omega arith)
elements_from axis first (n ∷ ns) zero e b h = (subst (λ gs. HasElements gs (n ∷ ns)) (sought_front axis first n ns (sought axis first (omega arith))) h).0
elements_from axis first (n ∷ ns) (suc a) e b h =
    elements_from axis (first + 1) ns a (omega arith) (omega arith) (subst (λ gs. HasElements gs (n ∷ ns)) (kept_front axis first n ns (not_here axis first a e)) h)

pub elements_along : (axis : ℕ) (ns : List ℕ) → axis < length ns → HasElements (groups_of (is_sought (Some axis)) ns) ns → 0 < get_or ns axis 0
elements_along axis ns b h = elements_from axis 0 ns axis (omega arith) b h

elements_all_from : (first : ℕ) (ns : List ℕ) → HasElements (groups_from (is_sought None) first ns) ns → 0 < product ns
elements_all_from first [] h = omega arith
elements_all_from first (n ∷ ns) h = mul_positive n (product ns) h.0 (elements_all_from (first + 1) ns h.1)

pub elements_all : (ns : List ℕ) → HasElements (groups_of (is_sought None) ns) ns → 0 < product ns
elements_all ns h = elements_all_from 0 ns h

-- where there is a result there is an element
pub some_elements : (axis : ℕ) (ns : List ℕ) (size bytes : ℕ) → axis < length ns → HasElements (groups_of (is_sought (Some axis)) ns) ns
    → bytes ≡ product (group_counts (groups_of (is_sought (Some axis)) ns) ns) * size → 0 < bytes → 0 < product ns
some_elements axis ns size bytes b h e some =
    let own = elements_along axis ns b h in
    let counts = counts_along axis ns b own in
    let before_behind : 0 < product (take axis ns) * product (drop (suc axis) ns) = left_factor (product (take axis ns) * product (drop (suc axis) ns)) size (let all = ap (λ p. p * size) counts in omega arith) in
    let before = left_factor (product (take axis ns)) (product (drop (suc axis) ns)) before_behind in
    let behind = right_factor (product (take axis ns)) (product (drop (suc axis) ns)) before_behind in
    let all = product_split ns axis b in
    let first = mul_positive (product (take axis ns)) (get_or ns axis 0) before own in
    let positive = mul_positive (product (take axis ns) * get_or ns axis 0) (product (drop (suc axis) ns)) first behind in
    omega arith

-- no index lies among no results
pub no_index : (t : Dtype) (counts idx : List ℕ) (bytes : ℕ) → bytes ≡ product counts * size_of t → bytes ≡ 0 → IsInside counts idx → ⊥
no_index t counts idx bytes e none h =
    let some = mul_positive (product counts) (size_of t) (inside-positive counts idx h) (bytes_positive t) in
    omega arith

-- ---- the buffers of a call along an axis

pub record HasSizes (ns : List ℕ) (axis width blocks count : ℕ) : Type 0 where
  pub below : axis < length ns
  pub behind : width ≡ product (drop (suc axis) ns)
  pub before : blocks ≡ product (take axis ns)
  pub own : count ≡ get_or ns axis 0
  pub some : 0 < product ns

pub sizes_positive : (ns : List ℕ) (axis width blocks count : ℕ) → HasSizes ns axis width blocks count → (0 < width) × (0 < count)
sizes_positive ns axis width blocks count h =
    let s = splits ns axis h.below h.some in
    let behind = s.behind in
    let size = s.size in
    let w = h.behind in
    let c = h.own in
    (omega arith, omega arith)

pub sizes_of_rows : (ns : List ℕ) (axis width blocks count size bytes : ℕ) → HasSizes ns axis width blocks count → bytes ≡ product ns * size → blocks * count * width * size ≤ bytes
sizes_of_rows ns axis width blocks count size bytes h e =
    let all : product ns ≡ blocks * count * width = product_split ns axis h.below ∙ (λ i. sym h.before i * sym h.own i * sym h.behind i) in
    let each = ap (λ p. p * size) all in
    omega arith

pub sizes_of_results : (ns : List ℕ) (axis width blocks count size bytes : ℕ) → HasSizes ns axis width blocks count
    → bytes ≡ product (group_counts (groups_of (is_sought (Some axis)) ns) ns) * size → bytes ≡ blocks * width * size
sizes_of_results ns axis width blocks count size bytes h e =
    let positive = (sizes_positive ns axis width blocks count h).1 in
    let own = h.own in
    e ∙ ap (λ p. p * size) (counts_along axis ns h.below (omega arith) ∙ (λ i. sym h.before i * sym h.behind i))

-- ---- whether a buffer is empty

pub none_left : (n : ℕ) (r : Test) → r ≡ (n == 0) → r ≡ true → n ≡ 0
none_left n r e h = elim (eqb_tells n 0) [
  | inl p ↦ p.1
  | inr p ↦ let both : false ≡ true = sym p.0 ∙ sym e ∙ h in cc
]

pub some_left : (n : ℕ) (r : Test) → r ≡ (n == 0) → r ≡ false → 0 < n
some_left n r e h = elim (eqb_tells n 0) [
  | inl p ↦ let both : true ≡ false = sym p.0 ∙ sym e ∙ h in cc
  | inr p ↦ let apart = p.1 in omega arith
]

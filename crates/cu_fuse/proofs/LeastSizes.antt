-- The least region that is whole chunks of two sizes: what it keeps.
use Rattle.std.proofs.Common.{◌≡◌, ◌⊎◌, inl, inr, ℕ, zero, suc, ◌+◌, ◌-◌, ◌<◌, ◌≤◌, ◌*◌, ◌/◌, ◌%◌, ◌==◌, Bool, true, false, List, [], ◌∷◌, length, min, max, All, get_or, refl, ap, sym, ◌∙◌, arith}
use Rattle.std.specs.List.{position_or_len, range_with_len}
use Rattle.std.proofs.Math.Nat.{div-mul-le_self, lt-mul-div-succ, mul_assoc, mul_comm, mul-mod_left}
use Rattle.std.proofs.lemmas.Nat.{mul-le}
use Rattle.std.proofs.lemmas.Bool.{true≢false}
use Rattle.std.proofs.lemmas.Bool.Decides.{eqb_tells, leb_tells}
use Rattle.std.proofs.lemmas.List.{ext_get_or}
use Rattle.std.proofs.lemmas.List.Elements.{All-head, All-tail, All-cons}
use Rattle.std.proofs.lemmas.List.FromFn.{get_or-range_with_len, length-range_with_len}
use Rattle.std.proofs.lemmas.List.Sums.{fails_before_first, passes_at_first, position_or_len_is}
use Rattle.cu_shape.specs.Counts.{at_least_one}
use Rattle.cu_shape.specs.Index.{product}
use Rattle.cu_rechunk.specs.Nested.{IsNestedAlong}
use Rattle.cu_rechunk.specs.Stages.{consolidated, cut}
use Rattle.cu_rechunk.proofs.Copies.{room_of}
use Rattle.cu_rechunk.proofs.Grown.{consolidated_kept}
use Rattle.cu_rechunk.proofs.Sizes.{AreWithin, product_of_within}
use Rattle.cu_fuse.specs.Least.{common_multiple, least_size, least_region}
use Rattle.cu_fuse.specs.LeastRule.{IsLeastCommon}

-- ---- the first common multiple

-- whether multiple number k of the one size, counted from 0, is one of the other
abbrev pub is_common : ℕ → ℕ → ℕ → Bool
is_common s t k = s * suc k % t == 0

abbrev first : ℕ → ℕ → ℕ
first s t = position_or_len (is_common s t) (range_with_len 0 t)

told : (s t k : ℕ) → is_common s t k ≡ true → s * suc k % t ≡ 0
told s t k h = elim (eqb_tells (s * suc k % t) 0) [
  | inl p ↦ p.1
  | inr p ↦ absurd (true≢false (sym h ∙ p.0))
]

tells : (s t k : ℕ) → s * suc k % t ≡ 0 → is_common s t k ≡ true
tells s t k e = elim (eqb_tells (s * suc k % t) 0) [
  | inl p ↦ p.0
  | inr p ↦ absurd (p.1 e)
]

-- each is that has a multiple of the other size
multiple : (s t k j : ℕ) → s * suc k ≡ j * t → is_common s t k ≡ true
multiple s t k j e = tells s t k (ap (λ n. n % t) e ∙ mul-mod_left j t)

last_is : (s t : ℕ) → 0 < t → is_common s t (t - 1) ≡ true
last_is s t h = multiple s t (t - 1) s (let z : suc (t - 1) ≡ t = omega arith in ap (λ n. s * n) z)

before : (s t k : ℕ) → k < t → k < first s t → is_common s t k ≡ false
before s t k b h =
    ap (is_common s t) (sym (get_or-range_with_len 0 t k 0 b ∙ (let z : 0 + k ≡ k = omega arith in z)))
    ∙ fails_before_first (is_common s t) (range_with_len 0 t) k 0 h

below : (s t : ℕ) → 0 < t → first s t < t
below s t h = elim (leb_tells t (first s t)) [
  | inl p ↦ let q = p.1 in absurd (true≢false (sym (last_is s t h) ∙ before s t (t - 1) (omega arith) (omega arith)))
  | inr p ↦ let q = p.1 in omega arith
]

here : (s t : ℕ) → 0 < t → is_common s t (first s t) ≡ true
here s t h =
    let b = below s t h in
    ap (is_common s t) (sym (get_or-range_with_len 0 t (first s t) 0 b ∙ (let z : 0 + first s t ≡ first s t = omega arith in z)))
    ∙ passes_at_first (is_common s t) (range_with_len 0 t) 0 (let l = length-range_with_len 0 t in omega (arith, l, b))

-- it is the first of all
pub no_less : (s t k : ℕ) → 0 < t → k < first s t → is_common s t k ≡ false
no_less s t k h b = let w = below s t h in before s t k (omega (arith, w, b)) b

pub found_at : (s t k : ℕ) → 0 < t → ((j : ℕ) → j < k → is_common s t j ≡ false) → is_common s t k ≡ true → common_multiple s t ≡ s * suc k
found_at s t k h none is =
    let within : k < t = (elim (leb_tells t k) [
      | inl p ↦ let q = p.1 in absurd (true≢false (sym (last_is s t h) ∙ none (t - 1) (omega arith)))
      | inr p ↦ let q = p.1 in omega arith
    ]) in
    let l = length-range_with_len 0 t in
    let at : (j : ℕ) → j < t → get_or (range_with_len 0 t) j 0 ≡ j = λ j b. get_or-range_with_len 0 t j 0 b ∙ (let z : 0 + j ≡ j = omega arith in z) in
    ap (λ n. s * suc n)
    (position_or_len_is (is_common s t) (range_with_len 0 t) k 0 (omega (arith, l, within))
    (λ j b. ap (is_common s t) (at j (omega (arith, b, within))) ∙ none j b)
    (λ b. ap (is_common s t) (at k within) ∙ is))

-- ---- on an axis

-- the first among the multiples that the axis holds, or the axis
pub least_found : (n s t k : ℕ) → 0 < n → 0 < s → 0 < t → k < n / s → ((j : ℕ) → j < k → is_common s t j ≡ false) → s * suc k % t ≡ 0 → least_size n s t ≡ s * suc k
least_found n s t k hn hs ht b none is =
    let c = found_at s t k ht none (tells s t k is) in
    let most : suc k * s ≤ n / s * s = mul-le (suc k) s (n / s) s (omega arith) (omega arith) in
    let whole : n / s * s ≤ n = div-mul-le_self n s in
    let turned : s * suc k ≡ suc k * s = mul_comm s (suc k) in
    omega (arith, c, most, whole, turned)

pub least_whole : (n s t : ℕ) → 0 < n → 0 < s → 0 < t → ((j : ℕ) → j < n / s → is_common s t j ≡ false) → least_size n s t ≡ n
least_whole n s t hn hs ht none =
    let far : n / s ≤ first s t = (elim (leb_tells (n / s) (first s t)) [
      | inl p ↦ let q = p.1 in q
      | inr p ↦ let q = p.1 in absurd (true≢false (sym (here s t ht) ∙ none (first s t) (omega arith)))
    ]) in
    let past : n < s * (n / s + 1) = lt-mul-div-succ n hs in
    let more : s * (n / s + 1) ≤ s * suc (first s t) = mul-le s (n / s + 1) s (suc (first s t)) (omega arith) (omega arith) in
    omega (arith, past, more)

pub first_fits : (n s k : ℕ) → k < n / s → s * (k + 1) ≤ n
first_fits n s k b =
    let most : (k + 1) * s ≤ n / s * s = mul-le (k + 1) s (n / s) s (omega arith) (omega arith) in
    let whole : n / s * s ≤ n = div-mul-le_self n s in
    let turned : s * (k + 1) ≡ (k + 1) * s = mul_comm s (k + 1) in
    omega (arith, most, whole, turned)

-- ---- the least common multiple

pub some_common : (s t : ℕ) → 0 < s → 0 < common_multiple s t
some_common s t h = let p : s * 1 ≤ s * suc (first s t) = mul-le s 1 s (suc (first s t)) (omega arith) (omega arith) in omega (arith, p)

pub common_of_first : (s t : ℕ) → (k : ℕ) × (common_multiple s t ≡ k * s)
common_of_first s t = (suc (first s t), mul_comm s (suc (first s t)))

pub common_of_second : (s t : ℕ) → 0 < t → (k : ℕ) × (common_multiple s t ≡ k * t)
common_of_second s t h =
    let m : ℕ = common_multiple s t in
    let none = told s t (first s t) (here s t h) in
    (m / t, (let turned : t * (m / t) ≡ m / t * t = mul_comm t (m / t) in omega (arith, none, turned)))

pub least_common : (s t : ℕ) → 0 < s → 0 < t → IsLeastCommon s t (common_multiple s t)
least_common s t hs ht = record {
  some = some_common s t hs;
  first = common_of_first s t;
  second = common_of_second s t ht;
  least = λ j k n some e f. least j k n some e f;
}
  where
    least : (j k n : ℕ) → 0 < n → n ≡ j * s → n ≡ k * t → common_multiple s t ≤ n
    least zero k n some e f = absurd (omega (arith, e, some))
    least (suc j) k n some e f =
        let far : first s t ≤ j = (elim (leb_tells (first s t) j) [
          | inl p ↦ p.1
          | inr p ↦ let q = p.1 in absurd (true≢false (sym (multiple s t j k (mul_comm s (suc j) ∙ sym e ∙ f)) ∙ no_less s t j ht (omega arith)))
        ]) in
        let p : suc (first s t) * s ≤ suc j * s = mul-le (suc (first s t)) s (suc j) s (omega arith) (omega arith) in
        let turned : s * suc (first s t) ≡ suc (first s t) * s = mul_comm s (suc (first s t)) in
        omega (arith, p, turned, e)

-- ---- on all axes

-- a size cut to the axis
abbrev pub cut_size : ℕ → ℕ → ℕ
cut_size n c = min c (max n 1)

pub record IsLeastSize (n s t c : ℕ) : Type 0 where
  pub some : 0 < c
  pub within : c ≤ max 1 n
  pub source : (n ≤ c) ⊎ ((m : ℕ) × (c ≡ m * s))
  pub target : (n ≤ c) ⊎ ((m : ℕ) × (c ≡ m * t))

-- a multiple of what is left of a size on the axis
whole_on : (n s c m : ℕ) → 0 < c → c ≡ m * cut_size n s → (n ≤ c) ⊎ ((k : ℕ) × (c ≡ k * s))
whole_on n s c zero h e = absurd (omega (arith, e, h))
whole_on n s c (suc m) h e = elim (leb_tells s (max n 1)) [
  | inl p ↦ let q = p.1 in let same : cut_size n s ≡ s = omega arith in inr (suc m, e ∙ ap (λ x. suc m * x) same)
  | inr p ↦ let q = p.1 in let same : cut_size n s ≡ max n 1 = omega arith in let at : c ≡ suc m * max n 1 = e ∙ ap (λ x. suc m * x) same in inl (omega arith)
]

shared_on : (n s c m b : ℕ) → 0 < c → 0 < b → b ≡ m * cut_size n s → c ≡ min b (max n 1) → (n ≤ c) ⊎ ((k : ℕ) × (c ≡ k * s))
shared_on n s c m b hc hb e is = elim (leb_tells b (max n 1)) [
  | inl p ↦ let q = p.1 in let same : c ≡ b = omega arith in whole_on n s c m hc (same ∙ e)
  | inr p ↦ let q = p.1 in inl (omega arith)
]

least_on : (n s t : ℕ) → 0 < s → 0 < t → IsLeastSize n s t (least_size n (cut_size n s) (cut_size n t))
least_on n s t hs ht =
    let a : 0 < cut_size n s = omega arith in
    let b : 0 < cut_size n t = omega arith in
    let m : ℕ = common_multiple (cut_size n s) (cut_size n t) in
    let some : 0 < m = some_common (cut_size n s) (cut_size n t) a in
    let one = common_of_first (cut_size n s) (cut_size n t) in
    let two = common_of_second (cut_size n s) (cut_size n t) b in
    let positive : 0 < least_size n (cut_size n s) (cut_size n t) = omega (arith, some) in
    record {
      some = positive;
      within = omega arith;
      source = shared_on n s (least_size n (cut_size n s) (cut_size n t)) one.0 m positive some one.1 refl;
      target = shared_on n t (least_size n (cut_size n s) (cut_size n t)) two.0 m positive some two.1 refl;
    }

-- sizes that are whole chunks of both, or reach to the end of the array
pub record AreLeast (ns ss ts cs : List ℕ) : Type 0 where
  pub ranks : length cs ≡ length ns
  pub positive : All (λ c. 0 < c) cs
  pub within : AreWithin cs (at_least_one ns)
  pub source : IsNestedAlong ns ss cs
  pub target : IsNestedAlong ns ts cs

pub least_kept : (ns ss ts : List ℕ) → length ss ≡ length ns → length ts ≡ length ns → All (λ c. 0 < c) ss → All (λ c. 0 < c) ts → AreLeast ns ss ts (least_region ns ss ts)
least_kept [] [] [] e f p q = record { ranks = refl; positive = p; within = tt; source = tt; target = tt }
least_kept [] [] (t ∷ ts) e f p q = absurd (omega arith)
least_kept [] (s ∷ ss) ts e f p q = absurd (omega arith)
least_kept (n ∷ ns) [] ts e f p q = absurd (omega arith)
least_kept (n ∷ ns) (s ∷ ss) [] e f p q = absurd (omega arith)
least_kept (n ∷ ns) (s ∷ ss) (t ∷ ts) e f p q =
    let h = least_kept ns ss ts (omega arith) (omega arith) (All-tail (λ c. 0 < c) s ss p) (All-tail (λ c. 0 < c) t ts q) in
    let x = least_on n s t (All-head (λ c. 0 < c) s ss p) (All-head (λ c. 0 < c) t ts q) in
    record {
      ranks = ap suc h.ranks;
      positive = All-cons (λ c. 0 < c) (least_size n (cut_size n s) (cut_size n t)) (least_region ns ss ts) x.some h.positive;
      within = (x.within, h.within);
      source = (x.source, h.source);
      target = (x.target, h.target);
    }

-- read axis by axis
length_of_least : (ns ss ts : List ℕ) → length ss ≡ length ns → length ts ≡ length ns → length (least_region ns ss ts) ≡ length ns
length_of_least [] [] [] e f = refl
length_of_least [] [] (t ∷ ts) e f = absurd (omega arith)
length_of_least [] (s ∷ ss) ts e f = absurd (omega arith)
length_of_least (n ∷ ns) [] ts e f = absurd (omega arith)
length_of_least (n ∷ ns) (s ∷ ss) [] e f = absurd (omega arith)
length_of_least (n ∷ ns) (s ∷ ss) (t ∷ ts) e f = ap suc (length_of_least ns ss ts (omega arith) (omega arith))

least_at : (ns ss ts : List ℕ) (k : ℕ) → length ss ≡ length ns → length ts ≡ length ns → k < length ns
    → get_or (least_region ns ss ts) k 0 ≡ least_size (get_or ns k 0) (cut_size (get_or ns k 0) (get_or ss k 0)) (cut_size (get_or ns k 0) (get_or ts k 0))
least_at [] ss ts k e f h = absurd (omega arith)
least_at (n ∷ ns) [] ts k e f h = absurd (omega arith)
least_at (n ∷ ns) (s ∷ ss) [] k e f h = absurd (omega arith)
least_at (n ∷ ns) (s ∷ ss) (t ∷ ts) zero e f h = refl
least_at (n ∷ ns) (s ∷ ss) (t ∷ ts) (suc k) e f h = least_at ns ss ts k (omega arith) (omega arith) (omega arith)

pub least_from : (xs ns ss ts : List ℕ) → length xs ≡ length ns → length ss ≡ length ns → length ts ≡ length ns
    → ((k : ℕ) → k < length ns → get_or xs k 0 ≡ least_size (get_or ns k 0) (cut_size (get_or ns k 0) (get_or ss k 0)) (cut_size (get_or ns k 0) (get_or ts k 0)))
    → xs ≡ least_region ns ss ts
least_from xs ns ss ts p e f h =
    ext_get_or 0 xs (least_region ns ss ts) (p ∙ sym (length_of_least ns ss ts e f))
    (λ k b. h k (omega arith) ∙ sym (least_at ns ss ts k e f (omega arith)))

-- ---- a region of such sizes

-- what is cut to the array already
pub cut_same : (ns cs : List ℕ) → AreWithin cs (at_least_one ns) → cut ns cs ≡ cs
cut_same [] [] h = refl
cut_same [] (c ∷ cs) h = absurd h
cut_same (n ∷ ns) [] h = absurd h
cut_same (n ∷ ns) (c ∷ cs) h = cons_same (cut_size n c) c (cut ns cs) cs (let w = h.0 in omega arith) (cut_same ns cs h.1)
  where
    cons_same : (x y : ℕ) (xs ys : List ℕ) → x ≡ y → xs ≡ ys → x ∷ xs ≡ y ∷ ys
    cons_same x y xs ys e f = cc

nested_on : (n t c g : ℕ) → 0 < g → (n ≤ c) ⊎ ((m : ℕ) × (c ≡ m * t)) → (n ≤ g) ⊎ ((m : ℕ) × (g ≡ m * c)) → (n ≤ g) ⊎ ((m : ℕ) × (g ≡ m * t))
nested_on n t c g h inner (inl whole) = inl whole
nested_on n t c g h inner (inr (zero, e)) = absurd (omega (arith, e, h))
nested_on n t c g h (inl whole) (inr (suc m, e)) = inl (omega (arith, e, whole))
nested_on n t c g h (inr (j, f)) (inr (suc m, e)) = inr (suc m * j, e ∙ ap (λ x. suc m * x) f ∙ sym (mul_assoc (suc m) j t))

-- chunks lie whole in a region in which whole chunks do
pub nested_more : (ns ts cs gs : List ℕ) → All (λ c. 0 < c) gs → IsNestedAlong ns ts cs → IsNestedAlong ns cs gs → IsNestedAlong ns ts gs
nested_more [] [] [] [] p h k = tt
nested_more [] [] [] (g ∷ gs) p h k = absurd k
nested_more [] [] (c ∷ cs) gs p h k = absurd h
nested_more [] (t ∷ ts) cs gs p h k = absurd h
nested_more (n ∷ ns) [] cs gs p h k = absurd h
nested_more (n ∷ ns) (t ∷ ts) [] gs p h k = absurd h
nested_more (n ∷ ns) (t ∷ ts) (c ∷ cs) [] p h k = absurd k
nested_more (n ∷ ns) (t ∷ ts) (c ∷ cs) (g ∷ gs) p h k =
    (nested_on n t c g (All-head (λ x. 0 < x) g gs p) h.0 k.0, nested_more ns ts cs gs (All-tail (λ x. 0 < x) g gs p) h.1 k.1)

-- the region of a joint copy: whole chunks of both sizes, as far as the memory holds
pub record IsJointRegion (ns ts rs : List ℕ) : Type 0 where
  pub ranks : length rs ≡ length ns
  pub positive : All (λ c. 0 < c) rs
  pub elements : product rs ≤ product (at_least_one ns)
  pub target : IsNestedAlong ns ts rs

pub joint_kept : (ns ss ts : List ℕ) (item most : ℕ) → length ss ≡ length ns → length ts ≡ length ns → All (λ c. 0 < c) ss → All (λ c. 0 < c) ts → 0 < item
    → product (least_region ns ss ts) * item ≤ most → IsJointRegion ns ts (consolidated (most / item) 1 ns (least_region ns ss ts) ns)
joint_kept ns ss ts item most e f p q some fits =
    let least : List ℕ = least_region ns ss ts in
    let l = least_kept ns ss ts e f p q in
    let held : product least ≤ most / item = room_of (product least) item most some fits in
    let c = consolidated_kept (most / item) 1 ns least ns l.ranks refl (omega arith) l.positive l.within (omega (arith, held)) in
    record {
      ranks = c.ranks;
      positive = c.positive;
      elements = product_of_within (consolidated (most / item) 1 ns least ns) (at_least_one ns) c.shape;
      target = nested_more ns ts least (consolidated (most / item) 1 ns least ns) c.positive l.target c.nested;
    }

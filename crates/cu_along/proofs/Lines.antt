-- Groups along one axis: their elements are those of a line.
use Rattle.std.proofs.Common.{◌≡◌, ℕ, zero, suc, ◌+◌, ◌-◌, ◌*◌, ◌<◌, ◌≤◌, min, set, Bool, true, false, ℤ, List, [], ◌∷◌, length, get_or, map, Option, None, Some, refl, sym, ap, ◌∙◌, arith, if◌then◌else◌}
use Rattle.std.specs.Prelude.{slice_set, slice_index}
use Rattle.std.specs.List.{range_with_len}
use Rattle.cu_num.specs.declared.types.Dtype.{Dtype}
use Rattle.cu_num.specs.declared.folds.FoldKind.TheVariants.{Sum}
use Rattle.cu_shape.specs.Index.{IsInside}
use Rattle.cu_reduce.specs.Folds.{reduced_to}
use Rattle.cu_reduce.specs.Groups.{Groups, groups_from, groups_of, group_counts, group_lo, group_hi, group_indices}
use Rattle.cu_reduce.proofs.Ranges.{map-map}
use Rattle.cu_reduce.proofs.Regions.{region_front, region_one}
use Rattle.cu_reduce.specs.Prefix.{line_through}
use Rattle.cu_reduce.specs.Levels.{group_sum}
use Rattle.cu_reduce.specs.Tiers.{IsOnly}
use Rattle.std.specs.List.{flat_map}

-- ---- behind the axis

abbrev front : Bool → ℕ → Groups → Groups
front b s gs = (if b then Some s else None) ∷ gs

kept_one : (b : Bool) (s n i : ℕ) (gs : Groups) (ns is : List ℕ) → b ≡ false
    → IsInside (group_counts (front b s gs) (n ∷ ns)) (i ∷ is)
    → (IsInside (group_counts gs ns) is)
    × (group_indices (front b s gs) (n ∷ ns) (i ∷ is)
    ≡ map (λ js. i ∷ js) (group_indices gs ns is))
kept_one true s n i gs ns is e h = cc
kept_one false s n i gs ns is e h = (
  h.1,
  region_one i (suc i) (group_lo gs is) (group_hi gs ns
      (map suc is)) refl,
)

no_front : (b : Bool) (s n : ℕ) (gs : Groups) (ns : List ℕ)
    → IsInside (group_counts (front b s gs) (n ∷ ns)) [] → ⊥
no_front true s n gs ns h = h
no_front false s n gs ns h = h

kept_all : (p : ℕ → Bool) (first : ℕ) (ss ns is : List ℕ) → length ss ≡ length ns → ((d : ℕ)
    → first ≤ d → p d ≡ false)
    → IsInside (group_counts (groups_from p first ss) ns) is
    → group_indices (groups_from p first ss) ns is ≡ is ∷ []
kept_all p first [] [] [] e k h = refl
kept_all p first [] [] (i ∷ is) e k h = absurd h
kept_all p first [] (n ∷ ns) is e k h = absurd (omega arith)
kept_all p first (s ∷ ss) [] is e k h = absurd (omega arith)
kept_all p first (s ∷ ss) (n ∷ ns) [] e k h = absurd (no_front (p first) s n (groups_from p
    (first + 1) ss) ns h)
kept_all p first (s ∷ ss) (n ∷ ns) (i ∷ is) e k h =
    let own = kept_one (p first) s n i (groups_from p (first + 1) ss) ns is (k first
    (omega arith)) h in
    own.1 ∙ ap (map (λ js. i ∷ js)) (kept_all p (first + 1) ss ns is (omega arith) (λ d b. k d
    (omega arith)) own.0)

-- ---- the axis

singles : (is : List ℕ) (ks : List ℕ)
    → flat_map (λ k. map (λ js. k ∷ js) (is ∷ [])) ks ≡ map (λ k. k ∷ is) ks
singles is [] = refl
singles is (k ∷ ks) = ap (λ rest. (k ∷ is) ∷ rest) (singles is ks)

own_axis : (b : Bool) (s n i : ℕ) (gs : Groups) (ns is : List ℕ) → b ≡ true
    → (IsInside (group_counts gs ns) is → group_indices gs ns is ≡ is ∷ [])
    → IsInside (group_counts (front b s gs) (n ∷ ns)) (i ∷ is)
    → group_indices (front b s gs) (n ∷ ns) (i ∷ is)
    ≡ map (λ k. k ∷ is) (range_with_len (i * s) (min n (suc i * s) - i * s))
own_axis false s n i gs ns is e rest h = cc
own_axis true s n i gs ns is e rest h =
    region_front (i * s) (min n (suc i * s)) (group_lo gs is) (group_hi gs ns (map suc is))
    ∙ ap (λ js. flat_map (λ k. map (λ ls. k ∷ ls) js) (range_with_len (i * s) (min n
    (suc i * s) - i * s))) (rest h.1)
    ∙ singles is (range_with_len (i * s) (min n (suc i * s) - i * s))

along_from : (p : ℕ → Bool) (axis first a : ℕ) (ss ns idx : List ℕ) → IsOnly p axis
    → axis ≡ first + a → length ss ≡ length ns → a < length ns
    → IsInside (group_counts (groups_from p first ss) ns) idx
    → group_indices (groups_from p first ss) ns idx
    ≡ map (λ k. set idx a k) (range_with_len (get_or idx a 0 * get_or ss a 0) (min
    (get_or ns a 0) (suc (get_or idx a 0) * get_or ss a 0) - get_or idx a 0 * get_or ss a 0))
along_from p axis first a ss [] idx o f e b h = absurd (omega arith)
along_from p axis first a [] (n ∷ ns) idx o f e b h = absurd (omega arith)
along_from p axis first a (s ∷ ss) (n ∷ ns) [] o f e b h = absurd (no_front (p first) s n
    (groups_from p (first + 1) ss) ns h)
along_from p axis first zero (s ∷ ss) (n ∷ ns) (i ∷ is) o f e b h =
    let here : axis ≡ first = omega arith in
    own_axis (p first) s n i (groups_from p (first + 1) ss) ns is (ap p (sym here) ∙ o.own)
    (kept_all p (first + 1) ss ns is (omega arith) (λ d less. o.others d (λ same. omega arith))) h
along_from p axis first (suc a) (s ∷ ss) (n ∷ ns) (i ∷ is) o f e b h =
    let own = kept_one (p first) s n i (groups_from p (first + 1) ss) ns is (o.others first
    (λ same. omega arith)) h in
    own.1 ∙ ap (map (λ js. i ∷ js)) (along_from p axis (first + 1) a ss ns is o (omega arith)
    (omega arith) (omega arith) own.0)
    ∙ map-map (λ js. i ∷ js) (λ k. set is a k) (range_with_len (get_or is a 0 * get_or ss a 0)
    (min (get_or ns a 0) (suc (get_or is a 0) * get_or ss a 0) - get_or is a 0 * get_or ss a 0))

-- ---- a place on the axis is set

pub set_again : (idx : List ℕ) (a q k : ℕ) → set (set idx a q) a k ≡ set idx a k
set_again [] a q k = refl
set_again (i ∷ is) zero q k = refl
set_again (i ∷ is) (suc a) q k = ap (λ rest. i ∷ rest) (set_again is a q k)

pub set_own : (idx : List ℕ) (a q : ℕ) → a < length idx → get_or (set idx a q) a 0 ≡ q
set_own [] a q b = absurd (omega arith)
set_own (i ∷ is) zero q b = refl
set_own (i ∷ is) (suc a) q b = set_own is a q (omega arith)

pub group_on_line : (acc : Dtype) (at : List ℕ → Option ℤ) (p : ℕ
    → Bool) (axis q : ℕ) (ss ns idx : List ℕ) → IsOnly p axis → length ss ≡ length ns
    → axis < length ns → axis < length idx
    → IsInside (group_counts (groups_of p ss) ns) (slice_set idx axis q)
    → reduced_to Sum acc (map at (group_indices (groups_of p ss) ns (slice_set idx axis q)))
    ≡ group_sum acc (slice_index ss axis) (slice_index ns axis) (line_through at axis idx) q
group_on_line acc at p axis q ss ns idx o e b l h =
    let s = get_or ss axis 0 in
    let n = get_or ns axis 0 in
    let lo = q * s in
    let all = along_from p axis 0 axis ss ns (set idx axis q) o (omega arith) e b h in
    let place : get_or (set idx axis q) axis 0 ≡ q = set_own idx axis q l in
    ap (λ is. reduced_to Sum acc (map at is)) all
    ∙ ap (λ j. reduced_to Sum acc (map at (map (λ k. set (set idx axis q) axis k) (range_with_len
    (j * s) (min n (suc j * s) - j * s))))) place
    ∙ (λ i. reduced_to Sum acc (map at (map (λ k. set_again idx axis q k i) (range_with_len
    (q * s) (min n (suc q * s) - q * s)))))
    ∙ ap (reduced_to Sum acc) (map-map at (λ k. set idx axis k) (range_with_len (q * s) (min n
    (suc q * s) - q * s)))

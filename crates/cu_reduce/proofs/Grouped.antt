-- Groups of neighbours: how many axes, where they begin and end, and which indices are in them.
use Rattle.std.proofs.Common.{◌≡◌, ℕ, ◌+◌, ◌-◌, ◌*◌, ◌<◌, ◌≤◌, zero, suc, min, max, Bool, true, false, List, [], ◌∷◌, length, get_or, map, None, Some, refl, sym, ap, ◌∙◌, subst, arith, if◌then◌else◌}
use Rattle.std.specs.Int.{div_ceil}
use Rattle.std.proofs.Math.Nat.{zero-div, zero-mod}
use Rattle.std.proofs.lemmas.Nat.{mul-le}
use Rattle.std.proofs.lemmas.Grind.{div_ceil_times}
use Rattle.cu_num.specs.declared.folds.FoldKind.{FoldKind}
use Rattle.cu_num.specs.declared.folds.FoldKind.TheVariants.{Min, Max}
use Rattle.cu_shape.specs.Index.{product, IsInside, differences}
use Rattle.cu_shape.proofs.Places.{mul_positive}
use Rattle.cu_shape.proofs.Rounded.{before_end}
use Rattle.cu_reduce.specs.Groups.{Groups, groups_from, groups_of, HasElements, group_counts, group_lo, group_hi, group_indices}
use Rattle.cu_reduce.specs.Kinds.{HasEnough}
use Rattle.cu_reduce.specs.Parts.{part_start, Rises, part_indices, IsBetween, group_cuts, HaveMembers}
use Rattle.cu_reduce.specs.Regions.{region_indices}
use Rattle.cu_reduce.specs.Running.{IsEnough}
use Rattle.cu_reduce.proofs.Regions.{length-region_indices}

-- ---- how many axes

pub length-group_counts : (gs : Groups) (ns : List ℕ) → length gs ≡ length ns → length (group_counts gs ns) ≡ length ns
length-group_counts [] [] e = refl
length-group_counts [] (n ∷ ns) e = absurd (omega arith)
length-group_counts (g ∷ gs) [] e = refl
length-group_counts (None ∷ gs) (n ∷ ns) e = ap suc (length-group_counts gs ns (omega arith))
length-group_counts (Some s ∷ gs) (n ∷ ns) e = ap suc (length-group_counts gs ns (omega arith))

pub length-group_lo : (gs : Groups) (is : List ℕ) → length gs ≡ length is → length (group_lo gs is) ≡ length is
length-group_lo [] [] e = refl
length-group_lo [] (i ∷ is) e = absurd (omega arith)
length-group_lo (g ∷ gs) [] e = refl
length-group_lo (None ∷ gs) (i ∷ is) e = ap suc (length-group_lo gs is (omega arith))
length-group_lo (Some s ∷ gs) (i ∷ is) e = ap suc (length-group_lo gs is (omega arith))

pub length-group_hi : (gs : Groups) (ns is : List ℕ) → length gs ≡ length is → length ns ≡ length is → length (group_hi gs ns is) ≡ length is
length-group_hi [] ns [] e f = refl
length-group_hi [] ns (i ∷ is) e f = absurd (omega arith)
length-group_hi (g ∷ gs) [] [] e f = refl
length-group_hi (g ∷ gs) [] (i ∷ is) e f = absurd (omega arith)
length-group_hi (g ∷ gs) (n ∷ ns) [] e f = refl
length-group_hi (None ∷ gs) (n ∷ ns) (i ∷ is) e f = ap suc (length-group_hi gs ns is (omega arith) (omega arith))
length-group_hi (Some s ∷ gs) (n ∷ ns) (i ∷ is) e f = ap suc (length-group_hi gs ns is (omega arith) (omega arith))

pub length-group_cuts : (gs : Groups) (ns : List ℕ) → length gs ≡ length ns → length (group_cuts gs ns) ≡ length ns
length-group_cuts [] [] e = refl
length-group_cuts [] (n ∷ ns) e = absurd (omega arith)
length-group_cuts (g ∷ gs) [] e = refl
length-group_cuts (None ∷ gs) (n ∷ ns) e = ap suc (length-group_cuts gs ns (omega arith))
length-group_cuts (Some s ∷ gs) (n ∷ ns) e = ap suc (length-group_cuts gs ns (omega arith))

pub length-groups_from : (is_reduced : ℕ → Bool) (first : ℕ) (ns : List ℕ) → length (groups_from is_reduced first ns) ≡ length ns
length-groups_from is_reduced first [] = refl
length-groups_from is_reduced first (n ∷ ns) = ap suc (length-groups_from is_reduced (first + 1) ns)

pub length-groups_of : (is_reduced : ℕ → Bool) (ns : List ℕ) → length (groups_of is_reduced ns) ≡ length ns
length-groups_of is_reduced ns = length-groups_from is_reduced 0 ns

pub groups_from_at : (is_reduced : ℕ → Bool) (first : ℕ) (ns : List ℕ) (k : ℕ) → k < length ns
    → get_or (groups_from is_reduced first ns) k None ≡ (if is_reduced (first + k) then Some (get_or ns k 0) else None)
groups_from_at is_reduced first [] k lt = absurd (omega arith)
groups_from_at is_reduced first (n ∷ ns) zero lt =
    let e : first ≡ first + 0 = omega arith in ap (λ d. if is_reduced d then Some n else None) e
groups_from_at is_reduced first (n ∷ ns) (suc k) lt =
    let e : first + 1 + k ≡ first + suc k = omega arith in
    groups_from_at is_reduced (first + 1) ns k (omega arith) ∙ ap (λ d. if is_reduced d then Some (get_or ns k 0) else None) e

pub groups_of_at : (is_reduced : ℕ → Bool) (ns : List ℕ) (k : ℕ) → k < length ns
    → get_or (groups_of is_reduced ns) k None ≡ (if is_reduced k then Some (get_or ns k 0) else None)
groups_of_at is_reduced ns k lt =
    let e : 0 + k ≡ k = omega arith in
    groups_from_at is_reduced 0 ns k lt ∙ ap (λ d. if is_reduced d then Some (get_or ns k 0) else None) e

-- groups that are whole axes have members
pub members_from : (is_reduced : ℕ → Bool) (first : ℕ) (ns : List ℕ) → HaveMembers (groups_from is_reduced first ns) ns
members_from is_reduced first [] = tt
members_from is_reduced first (n ∷ ns) = by_test (is_reduced first) (groups_from is_reduced (first + 1) ns) (members_from is_reduced (first + 1) ns)
  where
    by_test : (b : Bool) (gs : Groups) → HaveMembers gs ns → HaveMembers ((if b then Some n else None) ∷ gs) (n ∷ ns)
    by_test true gs h = (λ p. p, h)
    by_test false gs h = h

-- ---- where the groups begin

none_of_none : (s : ℕ) → div_ceil 0 s ≡ 0
none_of_none s = omega (arith, zero-div s, zero-mod s)

-- a group begins within the axis, and before its end where the axis has elements
begins : (n s i : ℕ) → (0 < n → 0 < s) → i < max 1 (div_ceil n s) → (i * s ≤ n) × (0 < n → i * s < n)
begins zero s i h b =
    let z : div_ceil 0 s ≡ 0 = none_of_none s in
    let e : i ≡ 0 = omega arith in
    let f : i * s ≡ 0 = ap (λ j. j * s) e ∙ (let g : 0 * s ≡ 0 = omega arith in g) in
    (omega arith, λ p. absurd (omega arith))
begins (suc n) s zero h b = let e : zero * s ≡ 0 = omega arith in (omega arith, λ p. omega arith)
begins (suc n) s (suc i) h b =
    let e : suc i * s < suc n = before_end (suc n) s (suc i) (h (omega arith)) (omega arith) in
    (omega arith, λ p. e)

lo_cut : (gs : Groups) (ns is : List ℕ) → HaveMembers gs ns → IsInside (group_counts gs ns) is → group_lo gs is ≡ part_start (group_cuts gs ns) is
lo_cut [] ns is h b = refl
lo_cut (g ∷ gs) [] [] h b = refl
lo_cut (None ∷ gs) (n ∷ ns) (i ∷ is) h b = ap (λ js. i ∷ js) (lo_cut gs ns is h b.1)
lo_cut (Some s ∷ gs) (n ∷ ns) (i ∷ is) h b =
    let w = (begins n s i h.0 b.0).0 in
    let e : i * s ≡ min n (i * s) = omega arith in
    (λ j. e j ∷ lo_cut gs ns is h.1 b.1 j)
lo_cut gs ns is h b = absurd b

hi_cut : (gs : Groups) (ns is : List ℕ) → group_hi gs ns is ≡ part_start (group_cuts gs ns) is
hi_cut [] ns is = refl
hi_cut (g ∷ gs) [] is = refl
hi_cut (None ∷ gs) (n ∷ ns) [] = refl
hi_cut (Some s ∷ gs) (n ∷ ns) [] = refl
hi_cut (None ∷ gs) (n ∷ ns) (i ∷ is) = ap (λ js. i ∷ js) (hi_cut gs ns is)
hi_cut (Some s ∷ gs) (n ∷ ns) (i ∷ is) = ap (λ js. min n (i * s) ∷ js) (hi_cut gs ns is)

-- a group is a part of the array that is cut where its groups begin
pub group_bounds : (gs : Groups) (shape idx : List ℕ) → HaveMembers gs shape → IsInside (group_counts gs shape) idx
    → (group_lo gs idx ≡ part_start (group_cuts gs shape) idx) × (group_hi gs shape (map suc idx) ≡ part_start (group_cuts gs shape) (map suc idx))
group_bounds gs shape idx h b = (lo_cut gs shape idx h b, hi_cut gs shape (map suc idx))

pub group_part : (gs : Groups) (shape idx : List ℕ) → HaveMembers gs shape → IsInside (group_counts gs shape) idx
    → group_indices gs shape idx ≡ part_indices (group_cuts gs shape) idx
group_part gs shape idx h b = let e = group_bounds gs shape idx h b in (λ j. region_indices (e.0 j) (e.1 j))

more_groups : (n s p : ℕ) → min n (p * s) ≤ min n (suc p * s)
more_groups n s p = let e : suc p * s ≡ p * s + s = omega arith in omega arith

pub groups_rise : (gs : Groups) (ns : List ℕ) → Rises (group_cuts gs ns)
groups_rise [] ns = tt
groups_rise (g ∷ gs) [] = tt
groups_rise (None ∷ gs) (n ∷ ns) = (λ p. omega arith, groups_rise gs ns)
groups_rise (Some s ∷ gs) (n ∷ ns) = (more_groups n s, groups_rise gs ns)

-- ---- which indices are in a group

pub group_within : (gs : Groups) (shape idx i : List ℕ) → length gs ≡ length shape → IsInside (group_counts gs shape) idx
    → IsBetween (group_lo gs idx) (group_hi gs shape (map suc idx)) i → IsInside shape i
group_within [] [] [] i e b w = empty i w
  where
    empty : (i : List ℕ) → IsBetween [] [] i → IsInside [] i
    empty [] w = tt
    empty (i ∷ is) w = absurd w
group_within (None ∷ gs) (n ∷ ns) (j ∷ js) (i ∷ is) e b w =
    let p = b.0 in let q = w.1 in (omega arith, group_within gs ns js is (omega arith) b.1 w.2)
group_within (Some s ∷ gs) (n ∷ ns) (j ∷ js) (i ∷ is) e b w =
    let q = w.1 in (omega arith, group_within gs ns js is (omega arith) b.1 w.2)
group_within gs shape idx i e b w = absurd (first_of (assumption, omega arith))

spans : (gs : Groups) (ns is : List ℕ) → HaveMembers gs ns → HasElements gs ns → IsInside (group_counts gs ns) is
    → 0 < product (differences (group_hi gs ns (map suc is)) (group_lo gs is))
spans [] ns is h k b = omega arith
spans (g ∷ gs) [] is h k b = omega arith
spans (None ∷ gs) (n ∷ ns) [] h k b = omega arith
spans (Some s ∷ gs) (n ∷ ns) [] h k b = omega arith
spans (None ∷ gs) (n ∷ ns) (i ∷ is) h k b = mul_positive (suc i - i) _ (omega arith) (spans gs ns is h k b.1)
spans (Some s ∷ gs) (n ∷ ns) (i ∷ is) h k b =
    let some = k.0 in
    let size : 0 < s = h.0 some in
    let w : i * s < n = (begins n s i h.0 b.0).1 some in
    let e : suc i * s ≡ i * s + s = omega arith in
    mul_positive (min n (suc i * s) - i * s) _ (omega arith) (spans gs ns is h.1 k.1 b.1)

pub group_not_empty : (gs : Groups) (shape idx : List ℕ) → HaveMembers gs shape → HasElements gs shape → IsInside (group_counts gs shape) idx
    → 0 < length (group_indices gs shape idx)
group_not_empty gs shape idx h k b =
    let p = spans gs shape idx h k b in
    let e : length (group_indices gs shape idx) ≡ product (differences (group_hi gs shape (map suc idx)) (group_lo gs idx)) =
    length-region_indices (group_lo gs idx) (group_hi gs shape (map suc idx)) in
    subst (λ n. 0 < n) (sym e) p

pub group_enough : (kind : FoldKind) (gs : Groups) (shape idx : List ℕ) → HaveMembers gs shape → HasEnough kind gs shape → IsInside (group_counts gs shape) idx
    → IsEnough kind (length (group_indices gs shape idx))
group_enough Min gs shape idx h k b = group_not_empty gs shape idx h k b
group_enough Max gs shape idx h k b = group_not_empty gs shape idx h k b
group_enough kind gs shape idx h k b = tt

-- ---- all groups are the whole array

pub groups_begin : (gs : Groups) (ns : List ℕ) → length gs ≡ length ns → part_start (group_cuts gs ns) (map (λ n. 0) ns) ≡ map (λ n. 0) ns
groups_begin [] [] e = refl
groups_begin [] (n ∷ ns) e = absurd (omega arith)
groups_begin (g ∷ gs) [] e = refl
groups_begin (None ∷ gs) (n ∷ ns) e = ap (λ js. 0 ∷ js) (groups_begin gs ns (omega arith))
groups_begin (Some s ∷ gs) (n ∷ ns) e =
    let z : min n (0 * s) ≡ 0 = (let f : 0 * s ≡ 0 = omega arith in omega arith) in
    (λ j. z j ∷ groups_begin gs ns (omega arith) j)

pub covers : (n s : ℕ) → (0 < n → 0 < s) → min n (max 1 (div_ceil n s) * s) ≡ n
covers zero s h = omega arith
covers (suc n) s h =
    let t : suc n ≤ div_ceil (suc n) s * s = (div_ceil_times (suc n) s (h (omega arith))).0 in
    let m : div_ceil (suc n) s * s ≤ max 1 (div_ceil (suc n) s) * s = mul-le (div_ceil (suc n) s) s (max 1 (div_ceil (suc n) s)) s (omega arith) (omega arith) in
    omega arith

pub groups_end : (gs : Groups) (ns : List ℕ) → length gs ≡ length ns → HaveMembers gs ns → part_start (group_cuts gs ns) (group_counts gs ns) ≡ ns
groups_end [] [] e h = refl
groups_end [] (n ∷ ns) e h = absurd (omega arith)
groups_end (g ∷ gs) [] e h = refl
groups_end (None ∷ gs) (n ∷ ns) e h = ap (λ js. n ∷ js) (groups_end gs ns (omega arith) h)
groups_end (Some s ∷ gs) (n ∷ ns) e h = let c = covers n s h.0 in (λ j. c j ∷ groups_end gs ns (omega arith) h.1 j)

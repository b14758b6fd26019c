-- Parts that together are a whole array: of its groups, of groups of parts, and in the end, where one part is left on each reduced axis.
use Rattle.std.proofs.Common.{◌≡◌, ℕ, ◌+◌, ◌*◌, ◌<◌, suc, min, Bool, true, false, List, [], ◌∷◌, length, map, None, Some, refl, sym, ap, ◌∙◌, arith, if◌then◌else◌}
use Rattle.cu_shape.specs.Index.{IsInside}
use Rattle.cu_reduce.specs.Groups.{Groups, groups_from, group_counts, group_indices, group_lo, group_hi}
use Rattle.cu_reduce.specs.Parts.{part_start, part_indices, group_cuts, composed, HaveMembers, Covers, KeepsAxes, HasOnes}
use Rattle.cu_reduce.specs.Regions.{region_indices}
use Rattle.cu_reduce.proofs.Grouped.{covers}

first_cut : (n s : ℕ) → min n (0 * s) ≡ 0
first_cut n s = let f : 0 * s ≡ 0 = omega arith in omega arith

differ : (b : Bool) → b ≡ false → b ≡ true → ⊥
differ b e f = let g : false ≡ true = sym e ∙ f in cc

-- the groups of an array
pub groups_cover : (is_reduced : ℕ → Bool) (first : ℕ) (gs : Groups) (ns : List ℕ) → length gs ≡ length ns → KeepsAxes is_reduced first gs → HaveMembers gs ns
    → Covers is_reduced first (group_cuts gs ns) (group_counts gs ns) ns
groups_cover r first [] [] e k h = tt
groups_cover r first (None ∷ gs) (n ∷ ns) e k h = (refl, refl, λ f p. refl, groups_cover r (first + 1) gs ns (omega arith) k.1 h)
groups_cover r first (Some s ∷ gs) (n ∷ ns) e k h =
    (first_cut n s, covers n s h.0, λ f p. let w : Some s ≡ None = k.0 f in cc, groups_cover r (first + 1) gs ns (omega arith) k.1 h.1)
groups_cover r first gs ns e k h = absurd (omega arith)

-- groups of parts
pub composed_cover : (is_reduced : ℕ → Bool) (first : ℕ) (cs : List (ℕ → ℕ)) (gs : Groups) (ms ns : List ℕ) → length gs ≡ length ms → KeepsAxes is_reduced first gs → HaveMembers gs ms
    → Covers is_reduced first cs ms ns → Covers is_reduced first (composed cs (group_cuts gs ms)) (group_counts gs ms) ns
composed_cover r first [] [] [] [] e k h c = tt
composed_cover r first (c ∷ cs) (None ∷ gs) (m ∷ ms) (n ∷ ns) e k h w = (w.0, w.1, w.2, composed_cover r (first + 1) cs gs ms ns (omega arith) k.1 h w.3)
composed_cover r first (c ∷ cs) (Some s ∷ gs) (m ∷ ms) (n ∷ ns) e k h w = (
  ap c (first_cut m s) ∙ w.0,
  ap c (covers m s h.0) ∙ w.1,
  λ f p. let x : Some s ≡ None = k.0 f in cc,
  composed_cover r (first + 1) cs gs ms ns (omega arith) k.1 h.1 w.3,
)
composed_cover r first [] (g ∷ gs) [] [] e k h c = absurd (omega arith)
composed_cover r first (c ∷ cs) [] (m ∷ ms) (n ∷ ns) e k h w = absurd (omega arith)
composed_cover r first cs gs ms ns e k h w = absurd w

-- ---- one part on each reduced axis: it is the whole axis

lo_axis : (t : Bool) (c : ℕ → ℕ) (m n i : ℕ) (gs : Groups) (xs is : List ℕ) → c 0 ≡ 0 → (t ≡ false → (p : ℕ) → c p ≡ p) → (t ≡ true → m ≡ 1) → i < m
    → xs ≡ group_lo gs is → c i ∷ xs ≡ group_lo ((if t then Some n else None) ∷ gs) (i ∷ is)
lo_axis true c m n i gs xs is a k o b e =
    let one : m ≡ 1 = o refl in
    let z : i ≡ 0 = omega arith in
    let none : 0 ≡ 0 * n = omega arith in
    let f : 0 ≡ i * n = none ∙ ap (λ j. j * n) (sym z) in
    let h : c i ≡ i * n = ap c z ∙ a ∙ f in
    (λ j. h j ∷ e j)
lo_axis false c m n i gs xs is a k o b e = λ j. k refl i j ∷ e j

hi_axis : (t : Bool) (c : ℕ → ℕ) (m n i : ℕ) (gs : Groups) (xs ns is : List ℕ) → c m ≡ n → (t ≡ false → (p : ℕ) → c p ≡ p) → (t ≡ true → m ≡ 1) → i < m
    → xs ≡ group_hi gs ns is → c (suc i) ∷ xs ≡ group_hi ((if t then Some n else None) ∷ gs) (n ∷ ns) (suc i ∷ is)
hi_axis true c m n i gs xs ns is a k o b e =
    let one : m ≡ 1 = o refl in
    let z : suc i ≡ m = omega arith in
    let y : 1 ≡ suc i = omega arith in
    let own : 1 * n ≡ n = omega arith in
    let all : n ≡ min n (1 * n) = omega arith in
    let f : n ≡ min n (suc i * n) = all ∙ ap (λ j. min n (j * n)) y in
    let h : c (suc i) ≡ min n (suc i * n) = ap c z ∙ a ∙ f in
    (λ j. h j ∷ e j)
hi_axis false c m n i gs xs ns is a k o b e = λ j. k refl (suc i) j ∷ e j

whole_lo : (is_reduced : ℕ → Bool) (first : ℕ) (cs : List (ℕ → ℕ)) (ms ns is : List ℕ) → Covers is_reduced first cs ms ns → HasOnes is_reduced first ms → IsInside ms is
    → part_start cs is ≡ group_lo (groups_from is_reduced first ns) is
whole_lo r first [] [] [] is c o b = refl
whole_lo r first (c ∷ cs) (m ∷ ms) (n ∷ ns) (i ∷ is) w o b =
    lo_axis (r first) c m n i (groups_from r (first + 1) ns) (part_start cs is) is w.0 w.2 o.0 b.0 (whole_lo r (first + 1) cs ms ns is w.3 o.1 b.1)
whole_lo r first cs ms ns is w o b = absurd assumption

whole_hi : (is_reduced : ℕ → Bool) (first : ℕ) (cs : List (ℕ → ℕ)) (ms ns is : List ℕ) → Covers is_reduced first cs ms ns → HasOnes is_reduced first ms → IsInside ms is
    → part_start cs (map suc is) ≡ group_hi (groups_from is_reduced first ns) ns (map suc is)
whole_hi r first [] [] [] is c o b = refl
whole_hi r first (c ∷ cs) (m ∷ ms) (n ∷ ns) (i ∷ is) w o b =
    hi_axis (r first) c m n i (groups_from r (first + 1) ns) (part_start cs (map suc is)) ns (map suc is) w.1 w.2 o.0 b.0 (whole_hi r (first + 1) cs ms ns is w.3 o.1 b.1)
whole_hi r first cs ms ns is w o b = absurd assumption

pub whole_part : (is_reduced : ℕ → Bool) (first : ℕ) (cuts : List (ℕ → ℕ)) (counts shape idx : List ℕ) → Covers is_reduced first cuts counts shape → HasOnes is_reduced first counts
    → IsInside counts idx → part_indices cuts idx ≡ group_indices (groups_from is_reduced first shape) shape idx
whole_part r first cuts counts shape idx c o b =
    (λ j. region_indices (whole_lo r first cuts counts shape idx c o b j) (whole_hi r first cuts counts shape idx c o b j))

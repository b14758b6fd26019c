-- Groups along one axis.
use Rattle.std.proofs.Common.{◌≡◌, ◌≢◌, ℕ, zero, suc, ◌+◌, ◌<◌, ◌==◌, Bool, true, false, List, [], ◌∷◌, length, map, max, get_or, set, None, Some, if◌then◌else◌, refl, ap, sym, ◌∙◌, subst, arith, inl, inr}
use Rattle.std.specs.Int.{div_ceil}
use Rattle.std.proofs.lemmas.Bool.Decides.{eqb_tells}
use Rattle.cu_num.specs.declared.folds.FoldKind.{FoldKind}
use Rattle.cu_num.specs.declared.folds.FoldKind.TheVariants.{Sum, Prod, Min, Max, Any, All as Every}
use Rattle.cu_reduce.specs.Groups.{Groups, groups_from, group_counts, HasElements}
use Rattle.cu_reduce.specs.Kinds.{HasEnough}
use Rattle.cu_reduce.specs.Parts.{HaveMembers, KeepsAxes}
use Rattle.cu_op.specs.Partial.{partial_chunk}

pub own_test : (d : ℕ) → (d == d) ≡ true
own_test d = elim (eqb_tells d d) [ inl p ↦ p.0 | inr p ↦ absurd (p.1 refl) ]

pub other_test : (d e : ℕ) → d ≢ e → (d == e) ≡ false
other_test d e h = elim (eqb_tells d e) [ inl p ↦ absurd (h p.1) | inr p ↦ p.0 ]

-- on this axis groups of g
group_here : (axis g first : ℕ) (ns : List ℕ) → axis ≡ first
    → groups_from (λ d. d == axis) first (map (λ n. g) (g ∷ ns)) ≡ Some g ∷ groups_from (λ d. d == axis) (first + 1) (map (λ n. g) ns)
group_here axis g first ns e = let t : (first == axis) ≡ true = subst (λ (d : ℕ). (first == d) ≡ true) (sym e) (own_test first) in rw t refl

group_elsewhere : (axis g first : ℕ) (ns : List ℕ) → first ≢ axis
    → groups_from (λ d. d == axis) first (map (λ n. g) (g ∷ ns)) ≡ None ∷ groups_from (λ d. d == axis) (first + 1) (map (λ n. g) ns)
group_elsewhere axis g first ns h = let t = other_test first axis h in rw t refl

-- ---- behind the axis nothing changes

counts_behind : (axis g first : ℕ) (ns : List ℕ) → axis < first → group_counts (groups_from (λ d. d == axis) first (map (λ n. g) ns)) ns ≡ ns
counts_behind axis g first [] h = refl
counts_behind axis g first (n ∷ ns) h = rw (group_elsewhere axis g first ns (λ q. absurd (omega arith))) (ap (λ (ms : List ℕ). n ∷ ms) (counts_behind axis g (first + 1) ns (omega arith)))

chunk_behind : (axis g first : ℕ) (ns cs : List ℕ) → length cs ≡ length ns → axis < first → partial_chunk (groups_from (λ d. d == axis) first (map (λ n. g) ns)) cs ≡ cs
chunk_behind axis g first [] [] e h = refl
chunk_behind axis g first [] (c ∷ cs) e h = absurd (omega arith)
chunk_behind axis g first (n ∷ ns) [] e h = absurd (omega arith)
chunk_behind axis g first (n ∷ ns) (c ∷ cs) e h =
    rw (group_elsewhere axis g first ns (λ q. absurd (omega arith))) (ap (λ (ds : List ℕ). c ∷ ds) (chunk_behind axis g (first + 1) ns cs (omega arith) (omega arith)))

elements_behind : (axis g first : ℕ) (ns : List ℕ) → axis < first → HasElements (groups_from (λ d. d == axis) first (map (λ n. g) ns)) ns
elements_behind axis g first [] h = tt
elements_behind axis g first (n ∷ ns) h = rw (group_elsewhere axis g first ns (λ q. absurd (omega arith))) (elements_behind axis g (first + 1) ns (omega arith))

-- ---- from number `first` on, where the axis is number `first + k`

pub counts_along : (axis g first : ℕ) (ns : List ℕ) (k : ℕ) → axis ≡ first + k → k < length ns
    → group_counts (groups_from (λ d. d == axis) first (map (λ n. g) ns)) ns ≡ set ns k (max 1 (div_ceil (get_or ns k 0) g))
counts_along axis g first [] k e h = absurd (omega arith)
counts_along axis g first (n ∷ ns) zero e h = rw (group_here axis g first ns (omega arith)) (ap (λ (ms : List ℕ). max 1 (div_ceil n g) ∷ ms) (counts_behind axis g (first + 1) ns (omega arith)))
counts_along axis g first (n ∷ ns) (suc k) e h =
    rw (group_elsewhere axis g first ns (λ q. absurd (omega arith))) (ap (λ (ms : List ℕ). n ∷ ms) (counts_along axis g (first + 1) ns k (omega arith) (omega arith)))

pub chunk_along : (axis g first : ℕ) (ns cs : List ℕ) (k : ℕ) → length cs ≡ length ns → axis ≡ first + k → k < length ns
    → partial_chunk (groups_from (λ d. d == axis) first (map (λ n. g) ns)) cs ≡ set cs k 1
chunk_along axis g first [] cs k l e h = absurd (omega arith)
chunk_along axis g first (n ∷ ns) [] k l e h = absurd (omega arith)
chunk_along axis g first (n ∷ ns) (c ∷ cs) zero l e h = rw (group_here axis g first ns (omega arith)) (ap (λ (ds : List ℕ). 1 ∷ ds) (chunk_behind axis g (first + 1) ns cs (omega arith) (omega arith)))
chunk_along axis g first (n ∷ ns) (c ∷ cs) (suc k) l e h =
    rw (group_elsewhere axis g first ns (λ q. absurd (omega arith))) (ap (λ (ds : List ℕ). c ∷ ds) (chunk_along axis g (first + 1) ns cs k (omega arith) (omega arith) (omega arith)))

pub elements_along : (axis g first : ℕ) (ns : List ℕ) (k : ℕ) → axis ≡ first + k → 0 < get_or ns k 0 → HasElements (groups_from (λ d. d == axis) first (map (λ n. g) ns)) ns
elements_along axis g first [] k e h = tt
elements_along axis g first (n ∷ ns) zero e h = rw (group_here axis g first ns (omega arith)) (h, elements_behind axis g (first + 1) ns (omega arith))
elements_along axis g first (n ∷ ns) (suc k) e h = rw (group_elsewhere axis g first ns (λ q. absurd (omega arith))) (elements_along axis g (first + 1) ns k (omega arith) h)

-- groups of at least one have members
pub members_along : (axis g first : ℕ) (ns : List ℕ) → 0 < g → HaveMembers (groups_from (λ d. d == axis) first (map (λ n. g) ns)) ns
members_along axis g first [] h = tt
members_along axis g first (n ∷ ns) h = by_test (first == axis) (groups_from (λ d. d == axis) (first + 1) (map (λ n. g) ns)) (members_along axis g (first + 1) ns h)
  where
    by_test : (b : Bool) (gs : Groups) → HaveMembers gs ns → HaveMembers ((if b then Some g else None) ∷ gs) (n ∷ ns)
    by_test true gs m = (λ p. h, m)
    by_test false gs m = m

-- the axis is a reduced one
pub along_keeps : (p : ℕ → Bool) (axis g first : ℕ) (ns : List ℕ) → p axis ≡ true → KeepsAxes p first (groups_from (λ d. d == axis) first (map (λ n. g) ns))
along_keeps p axis g first [] t = tt
along_keeps p axis g first (n ∷ ns) t = (none, along_keeps p axis g (first + 1) ns t)
  where
    none : p first ≡ false → (if first == axis then Some g else None) ≡ None
    none f = elim (eqb_tells first axis) [
      | inl q ↦ absurd (let w : true ≡ false = sym t ∙ (ap p (sym q.1) ∙ f) in cc w)
      | inr q ↦ let e = q.0 in rw e refl
    ]

pub has_enough : (kind : FoldKind) (gs : Groups) (ns : List ℕ) → HasElements gs ns → HasEnough kind gs ns
has_enough Sum gs ns h = tt
has_enough Prod gs ns h = tt
has_enough Min gs ns h = h
has_enough Max gs ns h = h
has_enough Any gs ns h = tt
has_enough Every gs ns h = tt

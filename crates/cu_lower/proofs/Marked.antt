-- Axes that are marked, and the sizes of what a reduction along them makes.
use Rattle.std.proofs.Common.{◌≡◌, ℕ, zero, suc, ◌<◌, ◌+◌, max, Bool, true, false, List, [], ◌∷◌, length, get_or, refl, sym, ◌∙◌, subst, inl, inr, arith}
use Rattle.std.specs.Prelude.{◌≢◌}
use Rattle.std.specs.Int.{div_ceil}
use Rattle.std.proofs.Math.Nat.{div_self, mod_self}
use Rattle.cu_shape.specs.Index.{product}
use Rattle.cu_op.specs.Partial.{partial_chunk, IsSqueezedAlong}
use Rattle.cu_reduce.specs.Groups.{groups_from, group_counts, HasElements}
use Rattle.cu_typing.specs.Reduction.{kept_sizes, reduced_sizes}
use Rattle.cu_typing.proofs.ReducedSizes.{length-kept_sizes}

-- the axes from number `first` on that are reduced are those that are marked
abbrev pub AreMarked : (ℕ → Bool) → ℕ → List Bool → List ℕ → Type 0
AreMarked reduced first ms ns = (i : ℕ) → i < length ns → reduced (first + i) ≡ get_or ms i false

pub marked_rest : (reduced : ℕ → Bool) (first : ℕ) (m : Bool) (ms : List Bool) (n : ℕ) (ns : List ℕ) → AreMarked reduced first (m ∷ ms) (n ∷ ns) → AreMarked reduced (first + 1) ms ns
marked_rest reduced first m ms n ns h i l = subst (λ (d : ℕ). reduced d ≡ get_or ms i false) (let e : first + suc i ≡ first + 1 + i = omega arith in e) (h (suc i) (omega arith))

pub unmarked_rest : (reduced : ℕ → Bool) (first n : ℕ) (ns : List ℕ) → AreMarked reduced first [] (n ∷ ns) → AreMarked reduced (first + 1) [] ns
unmarked_rest reduced first n ns h i l = subst (λ (d : ℕ). reduced d ≡ false) (let e : first + suc i ≡ first + 1 + i = omega arith in e) (h (suc i) (omega arith))

pub marked_here : (reduced : ℕ → Bool) (first : ℕ) (ms : List Bool) (n : ℕ) (ns : List ℕ) → AreMarked reduced first ms (n ∷ ns) → reduced first ≡ get_or ms 0 false
marked_here reduced first ms n ns h = subst (λ (d : ℕ). reduced d ≡ get_or ms 0 false) (let e : first + 0 ≡ first = omega arith in e) (h 0 (omega arith))

-- ---- the sizes of the result

-- a whole axis is one group
pub one_group : (n : ℕ) → max 1 (div_ceil n n) ≡ 1
one_group zero = refl
one_group (suc n) = let d : div_ceil (suc n) (suc n) ≡ 1 = whole n in rw d refl
  where
    whole : (n : ℕ) → div_ceil (suc n) (suc n) ≡ 1
    whole n = let q = div_self {n = suc n} (omega arith) in let r = mod_self (suc n) in omega (arith, q, r)

pub unkept : (keepdims : Bool) (ns : List ℕ) → kept_sizes keepdims ns [] ≡ ns
unkept keepdims [] = refl
unkept keepdims (n ∷ ns) = refl

skipped : (ns cs ms ds : List ℕ) (n c : ℕ) → length ms ≡ length ds → n ≡ 1 → c ≡ 1 → IsSqueezedAlong ns cs ms ds → IsSqueezedAlong (n ∷ ns) (c ∷ cs) ms ds
skipped ns cs [] [] n c e p q h = (p, q, h)
skipped ns cs (m ∷ ms) (d ∷ ds) n c e p q h = inr (p, q, h)
skipped ns cs [] (d ∷ ds) n c e p q h = absurd (omega arith)
skipped ns cs (m ∷ ms) [] n c e p q h = absurd (omega arith)

pub squeezed : (reduced : ℕ → Bool) (first : ℕ) (keepdims : Bool) (ms : List Bool) (ns cs : List ℕ) → length cs ≡ length ns → AreMarked reduced first ms ns
    → IsSqueezedAlong (group_counts (groups_from reduced first ns) ns) (partial_chunk (groups_from reduced first ns) cs) (kept_sizes keepdims ns ms) (kept_sizes keepdims cs ms)
squeezed reduced first keepdims ms [] [] e h = tt
squeezed reduced first keepdims ms [] (c ∷ cs) e h = absurd (omega arith)
squeezed reduced first keepdims ms (n ∷ ns) [] e h = absurd (omega arith)
squeezed reduced first keepdims [] (n ∷ ns) (c ∷ cs) e h =
    let here : reduced first ≡ false = marked_here reduced first [] n ns h in
    let rest = squeezed reduced (first + 1) keepdims [] ns cs (omega (arith, e)) (unmarked_rest reduced first n ns h) in
    let own = subst (λ (ds : List ℕ). IsSqueezedAlong (group_counts (groups_from reduced (first + 1) ns) ns) (partial_chunk (groups_from reduced (first + 1) ns) cs) ns ds) (unkept keepdims cs)
    (subst (λ (ds : List ℕ). IsSqueezedAlong (group_counts (groups_from reduced (first + 1) ns) ns) (partial_chunk (groups_from reduced (first + 1) ns) cs) ds (kept_sizes keepdims cs [])) (unkept keepdims ns) rest) in
    rw here (inl (refl, refl, own))
squeezed reduced first true (true ∷ ms) (n ∷ ns) (c ∷ cs) e h =
    let here : reduced first ≡ true = marked_here reduced first (true ∷ ms) n ns h in
    let rest = squeezed reduced (first + 1) true ms ns cs (omega (arith, e)) (marked_rest reduced first true ms n ns h) in
    rw here (inl (one_group n, refl, rest))
squeezed reduced first false (true ∷ ms) (n ∷ ns) (c ∷ cs) e h =
    let here : reduced first ≡ true = marked_here reduced first (true ∷ ms) n ns h in
    let rest = squeezed reduced (first + 1) false ms ns cs (omega (arith, e)) (marked_rest reduced first true ms n ns h) in
    rw here (skipped (group_counts (groups_from reduced (first + 1) ns) ns) (partial_chunk (groups_from reduced (first + 1) ns) cs) (kept_sizes false ns ms) (kept_sizes false cs ms) (max 1 (div_ceil n n)) 1
    (length-kept_sizes false ns cs ms (sym (let t : length cs ≡ length ns = omega (arith, e) in t))) (one_group n) refl rest)
squeezed reduced first keepdims (false ∷ ms) (n ∷ ns) (c ∷ cs) e h =
    let here : reduced first ≡ false = marked_here reduced first (false ∷ ms) n ns h in
    let rest = squeezed reduced (first + 1) keepdims ms ns cs (omega (arith, e)) (marked_rest reduced first false ms n ns h) in
    rw here (inl (refl, refl, rest))

-- where the reduced axes have elements, each has one
pub have_elements : (reduced : ℕ → Bool) (first : ℕ) (ms : List Bool) (ns : List ℕ) → AreMarked reduced first ms ns → product (reduced_sizes ns ms) ≢ 0 → HasElements (groups_from reduced first ns) ns
have_elements reduced first ms [] h some = tt
have_elements reduced first [] (n ∷ ns) h some =
    let here : reduced first ≡ false = marked_here reduced first [] n ns h in
    rw here (have_elements reduced (first + 1) [] ns (unmarked_rest reduced first n ns h) (λ none. some (no_sizes ns ∙ none)))
  where
    no_sizes : (ns : List ℕ) → 1 ≡ product (reduced_sizes ns [])
    no_sizes [] = refl
    no_sizes (n ∷ ns) = refl
have_elements reduced first (true ∷ ms) (n ∷ ns) h some =
    let here : reduced first ≡ true = marked_here reduced first (true ∷ ms) n ns h in
    rw here (positive n (λ z. some (rw z (omega arith))), have_elements reduced (first + 1) ms ns (marked_rest reduced first true ms n ns h) (λ none. some (rw none (omega arith))))
  where
    positive : (n : ℕ) → n ≢ 0 → 0 < n
    positive zero h = absurd (h refl)
    positive (suc n) h = omega arith
have_elements reduced first (false ∷ ms) (n ∷ ns) h some =
    let here : reduced first ≡ false = marked_here reduced first (false ∷ ms) n ns h in
    rw here (have_elements reduced (first + 1) ms ns (marked_rest reduced first false ms n ns h) some)

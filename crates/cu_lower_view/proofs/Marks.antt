-- The axes that a list names, each once.
use Rattle.std.proofs.Common.{◌≡◌, ◌∙◌, ℕ, zero, suc, ◌+◌, ◌-◌, ◌<◌, ◌≤◌, ◌⊎◌, nat_lt, not, cond, Bool, true, false, ℤ, pos, negsuc, List, [], ◌∷◌, Contains, length, map, set, get_or, Some, None, refl, ap, sym, arith, inl, inr, if◌then◌else◌}
use Rattle.std.specs.Prelude.{replicate, sum_by, unwrap_or}
use Rattle.std.proofs.lemmas.Bool.{ltb-true}
use Rattle.std.proofs.lemmas.Bool.Decides.{eqb_tells}
use Rattle.std.proofs.lemmas.List.{length-set, get_or-set_other}
use Rattle.std.proofs.lemmas.List.Sums.{sum_by-cons, sum_by-set}
use Rattle.cu_result.proofs.OptionSteps.{step_some, when_some}
use Rattle.cu_node.specs.Axes.{axis_of, marked_after}
use Rattle.cu_lower_view.specs.Axes.{named_axis}

by_test : (t : Bool) → (t ≡ true) ⊎ (t ≡ false)
by_test true = inl refl
by_test false = inr refl

some_when : (b : Bool) (d k : ℕ) → (if b then Some d else None) ≡ Some k → (b ≡ true) × (d ≡ k)
some_when true d k h = (refl, cc)
some_when false d k h = cc

-- a number names an axis below the rank
pub axis_below : (d : ℤ) (rank axis : ℕ) → axis_of d rank ≡ Some axis → axis < rank
axis_below (pos d) rank axis h = let s = some_when (nat_lt d rank) d axis h in let l = ltb-true d rank s.0 in let e = s.1 in omega arith
axis_below (negsuc d) rank axis h = let s = some_when (nat_lt d rank) (rank - 1 - d) axis h in let l = ltb-true d rank s.0 in let e = s.1 in omega arith

pub named_is : (d : ℤ) (rank axis : ℕ) → axis_of d rank ≡ Some axis → named_axis rank d ≡ axis
named_is d rank axis h = ap (λ o. unwrap_or o 0) h

-- one counted from the start is the axis itself
pub named_from_start : (d rank axis : ℕ) → axis_of (pos d) rank ≡ Some axis → named_axis rank (pos d) ≡ d
named_from_start d rank axis h = named_is (pos d) rank axis h ∙ sym (some_when (nat_lt d rank) d axis h).1

-- the first entry names an axis that isn't marked
pub record FirstNamed (rank : ℕ) (marks : List Bool) (d : ℤ) (ds : List ℤ) (last : List Bool) : Type 0 where
  pub axis : ℕ
  pub names : axis_of d rank ≡ Some axis
  pub fresh : get_or marks axis false ≡ false
  pub rest : marked_after rank (set marks axis true) ds ≡ Some last

not_true : (b : Bool) → not b ≡ true → b ≡ false
not_true true h = cc
not_true false h = refl

pub first_named : (rank : ℕ) (marks : List Bool) (d : ℤ) (ds : List ℤ) (last : List Bool) → marked_after rank marks (d ∷ ds) ≡ Some last → FirstNamed rank marks d ds last
first_named rank marks d ds last h =
    let first = step_some (axis_of d rank) _ last h in
    let once = when_some (not (get_or marks first.0 false)) _ last first.2 in
    record { axis = first.0; names = first.1; fresh = not_true (get_or marks first.0 false) once.0; rest = once.1 }

-- ---- how many axes are marked

abbrev pub count_marked : List Bool → ℕ
count_marked marks = sum_by (λ m. cond m 1 0) marks

no_bit : (b : Bool) → b ≡ false → cond b 1 0 ≤ 0
no_bit true h = cc
no_bit false h = omega arith

pub count_named : (rank : ℕ) (marks : List Bool) (ds : List ℤ) (last : List Bool) → rank ≤ length marks → marked_after rank marks ds ≡ Some last → count_marked last ≡ count_marked marks + length ds
count_named rank marks [] last r h = let e : marks ≡ last = cc in rw e (omega arith)
count_named rank marks (d ∷ ds) last r h =
    let f = first_named rank marks d ds last h in
    let below = axis_below d rank f.axis f.names in
    let l = length-set marks f.axis true in
    let rest = count_named rank (set marks f.axis true) ds last (omega arith) f.rest in
    let s = sum_by-set (λ (m : Bool). cond m 1 0) marks f.axis true false (omega arith) in
    let fresh = no_bit (get_or marks f.axis false) f.fresh in
    omega arith

-- no axis from the rank on is marked
abbrev pub MarkedBelow : ℕ → List Bool → Type 0
MarkedBelow rank marks = (k : ℕ) → rank ≤ k → get_or marks k false ≡ false

bit_small : (b : Bool) → cond b 1 0 ≤ 1
bit_small true = omega arith
bit_small false = omega arith

at_most : (marks : List Bool) (rank : ℕ) → MarkedBelow rank marks → count_marked marks ≤ rank
at_most [] rank h = omega arith
at_most (m ∷ ms) zero h =
    let c = sum_by-cons (λ (b : Bool). cond b 1 0) m ms in
    let z = no_bit m (h 0 (omega arith)) in
    let rest = at_most ms 0 (λ k l. h (suc k) (omega arith)) in
    omega arith
at_most (m ∷ ms) (suc rank) h =
    let c = sum_by-cons (λ (b : Bool). cond b 1 0) m ms in
    let b = bit_small m in
    let rest = at_most ms rank (λ k l. h (suc k) (omega arith)) in
    omega arith

one_less : (marks : List Bool) (rank d : ℕ) → MarkedBelow rank marks → d < rank → get_or marks d false ≡ false → count_marked marks < rank
one_less [] rank d h l e = omega arith
one_less (m ∷ ms) zero d h l e = absurd (omega arith)
one_less (m ∷ ms) (suc rank) zero h l e =
    let c = sum_by-cons (λ (b : Bool). cond b 1 0) m ms in
    let z = no_bit m e in
    let rest = at_most ms rank (λ k l. h (suc k) (omega arith)) in
    omega arith
one_less (m ∷ ms) (suc rank) (suc d) h l e =
    let c = sum_by-cons (λ (b : Bool). cond b 1 0) m ms in
    let b = bit_small m in
    let rest = one_less ms rank d (λ k l. h (suc k) (omega arith)) (omega arith) e in
    omega arith

-- where as many are marked as there are axes, each one is
pub all_marked : (marks : List Bool) (rank d : ℕ) → MarkedBelow rank marks → count_marked marks ≡ rank → d < rank → get_or marks d false ≡ true
all_marked marks rank d h e l =
    elim (by_test (get_or marks d false)) [
      | inl p ↦ p
      | inr p ↦ absurd (let less = one_less marks rank d h l p in omega arith)
    ]

-- ---- which axes are marked

head_named : (rank axis d : ℕ) (x : ℤ) (ds : List ℤ) → named_axis rank x ≡ axis → d ≡ axis → Contains (map (named_axis rank) (x ∷ ds)) d
head_named rank axis d x ds n e = (0, omega arith, n ∙ sym e)

tail_named : (xs : List ℕ) (x d : ℕ) → Contains xs d → Contains (x ∷ xs) d
tail_named xs x d c = let l = c.1 in (suc c.0, omega arith, c.2)

-- a marked axis was so before, or is named
pub marked_named : (rank : ℕ) (marks : List Bool) (ds : List ℤ) (last : List Bool) (d : ℕ) → marked_after rank marks ds ≡ Some last → get_or last d false ≡ true
    → (get_or marks d false ≡ true) ⊎ Contains (map (named_axis rank) ds) d
marked_named rank marks [] last d h e = let same : marks ≡ last = cc in inl (ap (λ (ms : List Bool). get_or ms d false) same ∙ e)
marked_named rank marks (x ∷ ds) last d h e =
    let f = first_named rank marks x ds last h in
    elim (marked_named rank (set marks f.axis true) ds last d f.rest e) [
      | inl p ↦ elim (eqb_tells d f.axis) [
        | inl q ↦ inr (head_named rank f.axis d x ds (named_is x rank f.axis f.names) q.1)
        | inr q ↦ inl (sym (get_or-set_other marks f.axis d true false q.1) ∙ p)
      ]
      | inr p ↦ inr (tail_named (map (named_axis rank) ds) (named_axis rank x) d p)
    ]

-- a named axis is one of the array
pub named_below : (rank : ℕ) (marks : List Bool) (ds : List ℤ) (last : List Bool) (d : ℕ) → marked_after rank marks ds ≡ Some last → Contains (map (named_axis rank) ds) d → d < rank
named_below rank marks [] last d h c = absurd (let l = c.1 in omega arith)
named_below rank marks (x ∷ ds) last d h (zero, l, e) =
    let f = first_named rank marks x ds last h in
    let b = axis_below x rank f.axis f.names in
    let n : named_axis rank x ≡ f.axis = named_is x rank f.axis f.names in
    let same : named_axis rank x ≡ d = e in
    omega arith
named_below rank marks (x ∷ ds) last d h (suc k, l, e) =
    let f = first_named rank marks x ds last h in
    named_below rank (set marks f.axis true) ds last d f.rest (k, omega arith, e)

no_mark : (n k : ℕ) → get_or (replicate n false) k false ≡ false
no_mark zero k = refl
no_mark (suc n) zero = refl
no_mark (suc n) (suc k) = no_mark n k

pub marked_below : (rank : ℕ) (ds : List ℤ) (last : List Bool) → marked_after rank (replicate 6 false) ds ≡ Some last → MarkedBelow rank last
marked_below rank ds last h k l =
    elim (by_test (get_or last k false)) [
      | inl p ↦ elim (marked_named rank (replicate 6 false) ds last k h p) [
        | inl q ↦ absurd (let none = no_mark 6 k in cc)
        | inr q ↦ absurd (let b = named_below rank (replicate 6 false) ds last k h q in omega arith)
      ]
      | inr p ↦ p
    ]

-- as many different axes as there are name each of them
pub each_named : (rank : ℕ) (ds : List ℤ) (last : List Bool) (d : ℕ) → rank ≤ 6 → length ds ≡ rank → marked_after rank (replicate 6 false) ds ≡ Some last → d < rank → Contains (map (named_axis rank) ds) d
each_named rank ds last d r n h l =
    let count : count_marked last ≡ 0 + length ds = count_named rank (replicate 6 false) ds last (omega arith) h in
    let marked = all_marked last rank d (marked_below rank ds last h) (omega arith) l in
    elim (marked_named rank (replicate 6 false) ds last d h marked) [
      | inl p ↦ absurd (let none = no_mark 6 d in cc)
      | inr p ↦ p
    ]
